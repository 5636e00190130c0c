use Rattle.std.proofs.Common.{◌≡◌, ◌≢◌, ℕ, zero, suc, ◌<◌, ◌≤◌, ◌+◌, ◌⊎◌, Option, List, [], ◌∷◌, length, take, inl, inr, refl, sym, ap, ◌∙◌, subst, arith}
use Rattle.std.proofs.lemmas.Bool.{cases_eq, cases_lt}
use mathlib.Core.Option.{some, some-injective}
use lib.ListN.{get_elem?}
use Rattle.ell_ops.specs.Contents.{Contents, contents_of}
use Rattle.ell_ops.specs.declared.op.Op.{Op}
use Rattle.ell_ops.specs.declared.reply.Reply.{Reply}
use Rattle.ell_core.specs.statements.Effects.{reply_of_change}
use Rattle.ell_ops.specs.Meaning.{after, replies, final}
use Rattle.ell_runs.specs.declared.call.Call.TheVariants as call
use Rattle.ell_runs.specs.Plans.{TablePlan}
use Rattle.ell_runs.specs.Guards.{KnowsAnswerAtLeaf}
use Rattle.ell_runs.specs.States.{TableState}
use Rattle.ell_runs.specs.Turns.{Turn, Makes, CallIsMade, TableRun}
use Rattle.ell_runs.specs.TurnEffects.{own_words}
use Rattle.ell_runs.specs.Starts.{Starts}
use Rattle.ell_runs.specs.Changing.{HasMap, turn_effect}
use Rattle.ell_runs.specs.Linearizing.{KeepsOnBetween, IsAnswered, ChangesAt, EndsACall, AnswersEndCalls, IsOfACall, Item, ops_of, replies_of, HasItem, IsMade, HasTheCalls, KeepsTheOrder, ChangesAreOfCalls, RunsAreLinearizable}
use Rattle.ell_runs.proofs.lemmas.seats.Seats.{inside}
use Rattle.ell_runs.proofs.lemmas.runs.TurnsOfRuns.{turn_lawful}
use Rattle.ell_runs.proofs.lemmas.runs.AsMap.{change_map, change_says, turn_effects}
use Rattle.ell_runs.proofs.lemmas.runs.LinearizingLists.{Placed, items_of, In, AreApart, Stays, IsRight, AreRight, Arranged, arranged, lower, right_replies, right_leaves, in_at, in_order, once_in, placed_at, item_in}
use Rattle.ell_runs.proofs.lemmas.runs.LinearizingStates.{run_same, at_end, run_to, turn_inside, one_map}
use Rattle.ell_runs.proofs.lemmas.runs.LinearizingTurns.{turn_cases}
use Rattle.ell_runs.proofs.lemmas.runs.LinearizingPoints.{same_begin, one_begin, after_turns, kept, map_after, is_map, first_map, made, begun_of, Changed, changed_of, one_change, called, change_before, no_leaf, one_end, ReadsAt, change_at, one_call, ChangesThere, point_at}

module _ (plan : TablePlan) (opened : TableState) (starts : Starts plan opened) (turns : List Turn) (s' : TableState) (run : TableRun plan opened turns s') where
  abbrev at_turn : ℕ → TableState
  at_turn = after_turns plan opened starts turns s' run

  abbrev map_at : ℕ → Contents
  map_at = map_after plan opened starts turns s' run

  abbrev Changes : ℕ → ℕ → Op → Type 0
  Changes i p op = ChangesAt plan opened turns i p op

  -- an item that is a call which changes the tree, at its turn
  pub record IsChanging (x : Placed) : Type 0 where
    pub changes : Changes x.item.begin x.at x.item.op
    says : x.item.reply ≡ reply_of_change x.item.op

  -- one that is a call which answered at a leaf, at its point
  pub record IsReading (x : Placed) (j : ℕ) : Type 0 where
    pub answered : IsAnswered turns x.item.begin j x.item.op x.item.reply
    pub leaf : KnowsAnswerAtLeaf (called plan opened starts turns s' run x.item.begin j x.item.op x.item.reply answered).answers.view x.item.op x.item.reply
    low : x.item.begin < x.at
    high : x.at ≤ j
    reads : x.past ≡ x.at
    right : IsRight map_at x

  -- the same call changes the tree in one turn
  pub same_change : (i k p q : ℕ) (op o : Op) → Changes i p op → Changes k q o → i ≡ k → p ≡ q
  same_change i k p q op o g h e =
      let h' = subst (λ n. Changes n q o) (sym e) h in
      let seat = (same_begin turns i g.by.work.seat h'.by.work.seat op o g.begins h'.begins).0 in
      one_change plan opened starts turns s' run g.by.work.seat i p q op o (changed_of plan opened starts turns s' run i p op g)
      (subst (λ x. Changed plan opened starts turns s' run x i q o) (sym seat) (changed_of plan opened starts turns s' run i q o h'))

  -- the map after a turn by which the tree does not change
  same_map : (p : ℕ) (t : Turn) → get_elem? turns p ≡ some t → turn_effect (at_turn p) t ≡ [] → map_at (suc p) ≡ map_at p
  same_map p t at none =
      one_map (own_words (at_turn (suc p))) (map_at (suc p)) (map_at p) (is_map plan opened starts turns s' run (suc p))
      (subst (λ ops. HasMap (own_words (at_turn (suc p))) (final (map_at p) ops)) none
      (turn_effects plan (at_turn p) (kept plan opened starts turns s' run p) t (at_turn (suc p)) (made plan opened starts turns s' run p t at)
      (map_at p) (is_map plan opened starts turns s' run p)))

  -- and by a call that changes it
  right_change : (i p : ℕ) (op : Op) → Changes i p op → IsRight map_at (record { item = record { begin = i; op = op; reply = reply_of_change op }; at = p; past = suc p })
  right_change i p op g =
      let h = changed_of plan opened starts turns s' run i p op g in
      let lawful = turn_lawful plan (at_turn p) (kept plan opened starts turns s' run p) h.turn (at_turn (suc p))
      (made plan opened starts turns s' run p h.turn h.at) in
      let makes = h.changes.makes (at_turn (suc p)) lawful.1.tree in
      let map = is_map plan opened starts turns s' run p in record {
        says = change_says op (own_words (at_turn p)) (own_words (at_turn (suc p))) makes (map_at p) map;
        goes = one_map (own_words (at_turn (suc p))) (after op (map_at p)) (map_at (suc p))
            (change_map op (own_words (at_turn p)) (own_words (at_turn (suc p))) makes (map_at p) map) (is_map plan opened starts turns s' run (suc p));
        up = omega arith;
        near = omega arith;
      }

  -- the calls that change the tree from a turn on
  pub record Changing (p : ℕ) : Type 0 where
    list : List Placed
    right : AreRight map_at (length turns) p list
    pub each : (x : Placed) → In x list → (p ≤ x.at) × IsChanging x
    all : (k : ℕ) (t : Turn) (op : Op) → p ≤ k → get_elem? turns k ≡ some t → turn_effect (at_turn k) t ≡ op ∷ [] → (x : Placed) × In x list × (x.at ≡ k)
    apart : AreApart list

  stays_one : (p : ℕ) → map_at (suc p) ≡ map_at p → Stays map_at p (suc p)
  stays_one p same = record {
    up = omega arith;
    same = λ q low high. elim (cases_lt p q) [
      | inl less ↦ (let e : q ≡ suc p = omega arith in ap map_at e ∙ same)
      | inr most ↦ (let e : q ≡ p = omega arith in ap map_at e)
    ];
  }

  stays_here : (p : ℕ) → Stays map_at p p
  stays_here p = record { up = omega arith; same = λ q low high. (let e : q ≡ p = omega arith in ap map_at e) }

  last_changing : (p : ℕ) → p ≡ length turns → Changing p
  last_changing p e = record {
    list = [];
    right = subst (Stays map_at p) e (stays_here p);
    each = λ x i. absurd i;
    all = λ k t op up at effect. (let less = inside turns k t at in absurd (omega arith));
    apart = tt;
  }

  same_turn : (p k : ℕ) (t u : Turn) → get_elem? turns p ≡ some t → get_elem? turns k ≡ some u → k ≡ p → t ≡ u
  same_turn p k t u e f same = some-injective t u (sym e ∙ (ap (get_elem? turns) (sym same) ∙ f))

  -- a turn by which it does not change
  unchanged : (p : ℕ) (t : Turn) → get_elem? turns p ≡ some t → turn_effect (at_turn p) t ≡ [] → Changing (suc p) → Changing p
  unchanged p t at none rest = record {
    list = rest.list;
    right = lower map_at (length turns) p (suc p) rest.list (stays_one p (same_map p t at none)) rest.right;
    each = λ x i. (let h = rest.each x i in let up = h.0 in (omega arith, h.1));
    all = λ k u op up at' effect. elim (cases_lt p k) [
      | inl less ↦ rest.all k u op (omega arith) at' effect
      | inr most ↦
          let same : k ≡ p = omega arith in
          let is = same_turn p k t u at at' same in
          let no : op ∷ [] ≡ [] = sym effect ∙ (ap (λ n. turn_effect (at_turn n) u) same ∙ (ap (turn_effect (at_turn p)) (sym is) ∙ none)) in
          absurd cc
    ];
    apart = rest.apart;
  }

  -- and one by which it does
  changing_here : (p : ℕ) (op : Op) (g : IsOfACall plan opened turns p op) → Changing (suc p) → Changing p
  changing_here p op g rest =
      let x : Placed = record { item = record { begin = g.begin; op = op; reply = reply_of_change op }; at = p; past = suc p } in record {
        list = x ∷ rest.list;
        right = (stays_here p, right_change g.begin p op g.changes, rest.right);
        each = λ y i. elim i [
          | inl e ↦ subst (λ (z : Placed). (p ≤ z.at) × IsChanging z) (sym e) (omega arith, record { changes = g.changes; says = refl })
          | inr j ↦ (let h = rest.each y j in let up = h.0 in (omega arith, h.1))
        ];
        all = λ k u o up at effect. elim (cases_lt p k) [
          | inl less ↦ (let found = rest.all k u o (omega arith) at effect in (found.0, inr found.1, found.2))
          | inr most ↦ (x, inl refl, omega arith)
        ];
        apart = (
          λ y i e. (let h = rest.each y i in let up = h.0 in let same = same_change g.begin y.item.begin p y.at op y.item.op g.changes h.1.changes e in omega arith),
          rest.apart,
        );
      }

  changing : (n p : ℕ) → p + n ≡ length turns → Changing p
  changing zero p e = last_changing p (omega arith)
  changing (suc n) p e =
      let t = turn_inside turns p (omega arith) in
      let rest = changing n (suc p) (omega arith) in
      elim (turn_cases (at_turn p) t.0) [
        | inl none ↦ unchanged p t.0 t.1 none rest
        | inr op ↦ changing_here p op.0 (change_at plan opened starts turns s' run p t.0 op.0 t.1 op.1) rest
      ]

  -- the call that a turn ends is one
  pub record SameAnswer (i k : ℕ) (op o : Op) (said other : Reply) : Type 0 where
    pub begins : i ≡ k
    pub does : op ≡ o
    pub says : said ≡ other

  answer_turn : (seat other : ℕ) (said o : Reply) (took taken : Option ℕ) → Makes seat (call.Answer said took) ≡ Makes other (call.Answer o taken) → (seat ≡ other) × (said ≡ o)
  answer_turn seat other said o took taken e = (cc, cc)

  pub same_answer : (i k j : ℕ) (op o : Op) (said other : Reply) → IsAnswered turns i j op said → IsAnswered turns k j o other → SameAnswer i k op o said other
  same_answer i k j op o said other g h =
      let turn = answer_turn g.seat h.seat said other g.took h.took
      (some-injective (Makes g.seat (call.Answer said g.took)) (Makes h.seat (call.Answer other h.took)) (sym g.answers ∙ h.answers)) in
      let at = subst (λ x. get_elem? turns i ≡ some (Makes x (call.Begin op))) turn.0 g.begins in
      let on = subst (λ x. KeepsOnBetween x turns i j) turn.0 g.on in
      let begin : i ≡ k = one_begin turns h.seat i k j op o at g.later on h.begins h.later h.on in record {
        begins = begin;
        does = (same_begin turns k h.seat h.seat op o (subst (λ n. get_elem? turns n ≡ some (Makes h.seat (call.Begin op))) begin at) h.begins).1;
        says = turn.1;
      }

  abbrev pub item : ℕ → Op → Reply → Item
  item i op said = record { begin = i; op = op; reply = said }

  pub same_item : (i k : ℕ) (op o : Op) (said other : Reply) → i ≡ k → op ≡ o → said ≡ other → item i op said ≡ item k o other
  same_item i k op o said other e f g = λ t. record { begin = e t; op = f t; reply = g t }

  -- where a call that has ended is
  abbrev IsKept : List Placed → ℕ → Op → Reply → Type 0
  IsKept list i op said = ((x : Placed) × In x list × (x.item ≡ item i op said)) ⊎ ((said ≡ reply_of_change op) × ChangesThere plan opened starts turns s' run i op)

  -- the calls that answer at a leaf from a turn on
  pub record Reading (p : ℕ) : Type 0 where
    list : List Placed
    pub each : (x : Placed) → In x list → (j : ℕ) × (p ≤ j) × IsReading x j
    all : (i j : ℕ) (op : Op) (said : Reply) → p ≤ j → IsAnswered turns i j op said → IsKept list i op said
    apart : AreApart list

  no_reading : (p : ℕ) → p ≡ length turns → Reading p
  no_reading p e = record {
    list = [];
    each = λ x i. absurd i;
    all = λ i j op said up h. (let less = inside turns j (Makes h.seat (call.Answer said h.took)) h.answers in absurd (omega arith));
    apart = tt;
  }

  -- where the turn ends no call
  ends_none : (p : ℕ) → ((i : ℕ) (op : Op) (said : Reply) → IsAnswered turns i p op said → ⊥) → Reading (suc p) → Reading p
  ends_none p none rest = record {
    list = rest.list;
    each = λ x i. (let h = rest.each x i in let up = h.1 in (h.0, omega arith, h.2));
    all = λ i j op said up h. elim (cases_lt p j) [
      | inl less ↦ rest.all i j op said (omega arith) h
      | inr most ↦ (let same : j ≡ p = omega arith in absurd (none i op said (subst (λ n. IsAnswered turns i n op said) same h)))
    ];
    apart = rest.apart;
  }

  -- where it ends one by its card
  ends_by_card : (i p : ℕ) (op : Op) (said : Reply) → IsAnswered turns i p op said → said ≡ reply_of_change op → ChangesThere plan opened starts turns s' run i op → Reading (suc p) → Reading p
  ends_by_card i p op said h says there rest = record {
    list = rest.list;
    each = λ x i. (let h = rest.each x i in let up = h.1 in (h.0, omega arith, h.2));
    all = λ k j o other up g. elim (cases_lt p j) [
      | inl less ↦ rest.all k j o other (omega arith) g
      | inr most ↦
          let now : j ≡ p = omega arith in
          let same = same_answer i k p op o said other h (subst (λ n. IsAnswered turns k n o other) now g) in
          inr (
            sym same.says ∙ (says ∙ ap reply_of_change same.does),
            subst (λ n. ChangesThere plan opened starts turns s' run n o) same.begins
                (subst (λ b. ChangesThere plan opened starts turns s' run i b) same.does there),
          )
    ];
    apart = rest.apart;
  }

  -- where it ends one at a leaf
  ends_at_leaf : (i p : ℕ) (op : Op) (said : Reply) (h : IsAnswered turns i p op said)
      → KnowsAnswerAtLeaf (called plan opened starts turns s' run i p op said h).answers.view op said → ReadsAt plan opened starts turns s' run i p op said
      → Reading (suc p) → Reading p
  ends_at_leaf i p op said h leaf reads rest =
      let x : Placed = record { item = item i op said; at = reads.point; past = reads.point } in
      let its : IsReading x p = record {
        answered = h;
        leaf = leaf;
        low = reads.low;
        high = reads.high;
        reads = refl;
        right = record { says = reads.says; goes = reads.leaves; up = omega arith; near = omega arith };
      } in record {
        list = x ∷ rest.list;
        each = λ y k. elim k [
          | inl e ↦ (p, omega arith, subst (λ (z : Placed). IsReading z p) (sym e) its)
          | inr n ↦ (let g = rest.each y n in let up = g.1 in (g.0, omega arith, g.2))
        ];
        all = λ k j o other up g. elim (cases_lt p j) [
          | inl less ↦ elim (rest.all k j o other (omega arith) g) [
            | inl found ↦ inl (found.0, inr found.1, found.2)
            | inr there ↦ inr there
          ]
          | inr most ↦
              let now : j ≡ p = omega arith in
              let same = same_answer i k p op o said other h (subst (λ n. IsAnswered turns k n o other) now g) in
              inl (x, inl refl, same_item i k op o said other same.begins same.does same.says)
        ];
        apart = (
          λ y k e.
              let g = rest.each y k in
              let up = g.1 in
              let end = one_end plan opened starts turns s' run y.item.begin p g.0 op y.item.op said y.item.reply
              (subst (λ n. IsAnswered turns n p op said) e h) g.2.answered in omega arith,
          rest.apart,
        );
      }

  -- a call has ended
  record HasEnded (i : ℕ) : Type 0 where
    end : ℕ
    op : Op
    said : Reply
    ended : IsAnswered turns i end op said

  -- whether a turn is an answer
  pub is_answer : (t : Turn) → ((seat : ℕ) × (said : Reply) × (took : Option ℕ) × (t ≡ Makes seat (call.Answer said took)))
      ⊎ ((seat : ℕ) (said : Reply) (took : Option ℕ) → t ≢ Makes seat (call.Answer said took))
  is_answer (Makes seat (call.Answer said took)) = inl (seat, said, took, refl)
  is_answer _ = inr (λ seat said took e. cc)

  pub answers_end_calls : AnswersEndCalls turns
  answers_end_calls seat p said took at =
      let end : CallIsMade plan (at_turn p) seat (call.Answer said took) (at_turn (suc p)) =
      made plan opened starts turns s' run p (Makes seat (call.Answer said took)) at in
      let short = inside turns p (Makes seat (call.Answer said took)) at in
      let begun = begun_of plan opened starts turns s' run p (omega arith) seat end.may.op (record { view = end.view; there = end.there; does = end.may.busy }) in record {
        begin = begun.begin;
        op = end.may.op;
        ended = record { seat = seat; begins = begun.begins; later = begun.later; on = begun.on; took = took; answers = at };
      }

  ends_here : (p : ℕ) (said : Reply) → EndsACall turns p said → Reading (suc p) → Reading p
  ends_here p said h rest = elim (point_at plan opened starts turns s' run h.begin p h.op said h.ended) [
    | inl leaf ↦ ends_at_leaf h.begin p h.op said h.ended leaf.0 leaf.1 rest
    | inr card ↦ ends_by_card h.begin p h.op said h.ended card.0 card.1 rest
  ]

  reading : (n p : ℕ) → p + n ≡ length turns → Reading p
  reading zero p e = no_reading p (omega arith)
  reading (suc n) p e =
      let t = turn_inside turns p (omega arith) in
      let rest = reading n (suc p) (omega arith) in
      elim (is_answer t.0) [
        | inl is ↦ ends_here p is.1 (answers_end_calls is.0 p is.1 is.2 (t.1 ∙ ap (λ (u : Turn). some u) is.3)) rest
        | inr none ↦ ends_none p (λ i op said h. none h.seat said h.took (some-injective t.0 (Makes h.seat (call.Answer said h.took)) (sym t.1 ∙ h.answers))) rest
      ]

  -- a call that answers at a leaf does not change the tree
  pub crossed : (i k j p : ℕ) (op o : Op) (said : Reply) (h : IsAnswered turns i j op said)
      → KnowsAnswerAtLeaf (called plan opened starts turns s' run i j op said h).answers.view op said → Changes k p o → i ≢ k
  crossed i k j p op o said h leaf g e =
      let g' = subst (λ n. Changes n p o) (sym e) g in
      let seat = (same_begin turns i h.seat g'.by.work.seat op o h.begins g'.begins).0 in
      no_leaf plan opened starts turns s' run i p j op o said h
      (subst (λ x. Changed plan opened starts turns s' run x i p o) (sym seat) (changed_of plan opened starts turns s' run i p o g')) leaf

  -- and one that changes it does so before it ends
  changes_before : (i p j : ℕ) (op o : Op) (said : Reply) → IsAnswered turns i j op said → Changes i p o → p < j
  changes_before i p j op o said h g =
      let seat = (same_begin turns i h.seat g.by.work.seat op o h.begins g.begins).0 in
      change_before plan opened starts turns s' run i p j op o said h
      (subst (λ x. Changed plan opened starts turns s' run x i p o) (sym seat) (changed_of plan opened starts turns s' run i p o g))

  pub every_change : Changing 0
  every_change = changing (length turns) 0 (omega arith)

  pub every_reading : Reading 0
  every_reading = reading (length turns) 0 (omega arith)

  -- all of them, one after the other
  pub all_calls : Arranged map_at (length turns) every_reading.list every_change.list
  all_calls =
      arranged map_at (length turns) every_reading.list every_change.list (λ x i. (let h = (every_reading.each x i).2 in record {
        right = h.right;
        reads = h.reads;
        high = (let less = inside turns (every_reading.each x i).0 (Makes h.answered.seat (call.Answer x.item.reply h.answered.took)) h.answered.answers in let up = h.high in omega arith);
      })) every_reading.apart every_change.right every_change.apart
      (λ x y i j. let h = every_reading.each x i in let g = (every_change.each y j).1 in
      crossed x.item.begin y.item.begin h.0 y.at x.item.op y.item.op x.item.reply h.2.answered h.2.leaf g.changes)

  abbrev pub sequence : List Item
  sequence = items_of all_calls.list

  -- each call that changes the tree is there
  changed_there : (i p : ℕ) (op : Op) → Changes i p op → HasItem sequence (item i op (reply_of_change op))
  changed_there i p op g =
      let h = changed_of plan opened starts turns s' run i p op g in
      let found = every_change.all p h.turn op (omega arith) h.at h.effect in
      let x = found.0 in
      let its = (every_change.each x found.1).1 in
      let here = subst (λ n. Changes x.item.begin n x.item.op) found.2 its.changes in
      let one = one_call plan opened starts turns s' run here.by.work.seat g.by.work.seat x.item.begin i p x.item.op op
      (changed_of plan opened starts turns s' run x.item.begin p x.item.op here) h in
      let there = item_in all_calls.list x (all_calls.changes x found.1) in
      (there.0, there.1 ∙ ap (λ (n : Item). some n) (same_item x.item.begin i x.item.op op x.item.reply (reply_of_change op) one.begins one.does (its.says ∙ ap reply_of_change one.does)))

  -- and each that has ended
  ended_there : (i j : ℕ) (op : Op) (said : Reply) → IsAnswered turns i j op said → HasItem sequence (item i op said)
  ended_there i j op said h = elim (every_reading.all i j op said (omega arith) h) [
    | inl found ↦ (let there = item_in all_calls.list found.0 (all_calls.reads found.0 found.1) in (there.0, there.1 ∙ ap (λ (n : Item). some n) found.2))
    | inr card ↦ subst (λ r. HasItem sequence (item i op r)) (sym card.0) (changed_there i card.1.change op card.1.changes)
  ]

  -- whether a call has ended by one of so many turns
  ended_by : (n i : ℕ) → n ≤ length turns → HasEnded i ⊎ ((j : ℕ) (op : Op) (said : Reply) → j < n → ¬ IsAnswered turns i j op said)
  ended_by zero i up = inr (λ j op said less h. absurd (omega arith))
  ended_by (suc n) i up = elim (ended_by n i (omega arith)) [
    | inl before ↦ inl (record { end = before.end; op = before.op; said = before.said; ended = before.ended })
    | inr none ↦
        let t = turn_inside turns n (omega arith) in
        elim (is_answer t.0) [
          | inl is ↦
              let here = answers_end_calls is.0 n is.1 is.2 (t.1 ∙ ap (λ (u : Turn). some u) is.3) in
              elim (cases_eq here.begin i) [
                | inl same ↦ inl (record { end = n; op = here.op; said = is.1; ended = subst (λ k. IsAnswered turns k n here.op is.1) same here.ended })
                | inr apart ↦ inr (λ j op said less h. elim (cases_lt j n) [
                  | inl low ↦ none j op said low h
                  | inr most ↦
                      let now : j ≡ n = omega arith in
                      apart (same_answer here.begin i n here.op op is.1 said here.ended (subst (λ k. IsAnswered turns i k op said) now h)).begins
                ])
              ]
          | inr other ↦ inr (λ j op said less h. elim (cases_lt j n) [
            | inl low ↦ none j op said low h
            | inr most ↦
                let now : j ≡ n = omega arith in
                other h.seat said h.took (some-injective t.0 (Makes h.seat (call.Answer said h.took)) (sym t.1 ∙ (ap (get_elem? turns) (sym now) ∙ h.answers)))
          ])
        ]
  ]

  -- a call that has changed the tree has ended with yes, or not yet
  pending : (x : Item) (p : ℕ) → Changes x.begin p x.op → x.reply ≡ reply_of_change x.op → IsMade plan opened turns x
  pending x p g says = elim (ended_by (length turns) x.begin (omega arith)) [
    | inl h ↦
        let does = (same_begin turns x.begin h.ended.seat g.by.work.seat h.op x.op h.ended.begins g.begins).1 in
        elim (point_at plan opened starts turns s' run x.begin h.end h.op h.said h.ended) [
          | inl leaf ↦ absurd (crossed x.begin x.begin h.end p h.op x.op h.said h.ended leaf.0 g refl)
          | inr card ↦ inl (
            h.end,
            subst (λ r. IsAnswered turns x.begin h.end x.op r) (card.0 ∙ (ap reply_of_change does ∙ sym says))
                (subst (λ o. IsAnswered turns x.begin h.end o h.said) does h.ended),
          )
        ]
    | inr none ↦ inr (record {
      change = p;
      changes = g;
      unended = λ j op said h. (let less = inside turns j (Makes h.seat (call.Answer said h.took)) h.answers in none j op said less h);
      says = says;
    })
  ]

  -- and no other
  made_of : (x : Placed) → In x all_calls.list → IsMade plan opened turns x.item
  made_of x i = elim (all_calls.all x i) [
    | inl j ↦ (let h = every_reading.each x j in inl (h.0, h.2.answered))
    | inr j ↦ (let h = (every_change.each x j).1 in pending x.item x.at h.changes h.says)
  ]

  pub has_the_calls : HasTheCalls plan opened turns sequence
  has_the_calls = record {
    ended = ended_there;
    changed = changed_there;
    other = λ n there.
        let x = placed_at all_calls.list there.0 n there.1 in
        subst (IsMade plan opened turns) x.is (made_of x.placed (in_at all_calls.list there.0 x.placed x.there));
    once = λ i j m n at at' e.
        let x = placed_at all_calls.list i m at in
        let y = placed_at all_calls.list j n at' in
        once_in all_calls.list all_calls.apart i j x.placed y.placed x.there y.there
        (ap (λ (k : Item). k.begin) x.is ∙ (e ∙ ap (λ (k : Item). k.begin) (sym y.is)));
  }

  -- the point of a call is after its begin
  pub after_begin : (x : Placed) → In x all_calls.list → x.item.begin < x.at
  after_begin x i = elim (all_calls.all x i) [
    | inl j ↦ (every_reading.each x j).2.low
    | inr j ↦ (every_change.each x j).1.changes.later
  ]

  -- and no later than its end
  pub before_end : (x : Placed) → In x all_calls.list → (end : ℕ) → IsAnswered turns x.item.begin end x.item.op x.item.reply → x.at ≤ end
  before_end x i end h = elim (all_calls.all x i) [
    | inl j ↦
        let g = every_reading.each x j in
        let same = one_end plan opened starts turns s' run x.item.begin g.0 end x.item.op x.item.op x.item.reply x.item.reply g.2.answered h in
        let high = g.2.high in omega arith
    | inr j ↦ (let less = changes_before x.item.begin x.at end x.item.op x.item.op x.item.reply h (every_change.each x j).1.changes in omega arith)
  ]

  pub keeps_the_order : KeepsTheOrder turns sequence
  keeps_the_order i j m n at at' end h less = elim (cases_lt i j) [
    | inl low ↦ low
    | inr most ↦
        let x = placed_at all_calls.list i m at in
        let y = placed_at all_calls.list j n at' in
        let up = in_order map_at (length turns) 0 all_calls.list all_calls.right j i y.placed x.placed y.there x.there most in
        let high = before_end x.placed (in_at all_calls.list i x.placed x.there) end
        (subst (λ (k : Item). IsAnswered turns k.begin end k.op k.reply) (sym x.is) h) in
        let low = after_begin y.placed (in_at all_calls.list j y.placed y.there) in
        let begin = ap (λ (k : Item). k.begin) y.is in absurd (omega arith)
  ]

  pub replies_right : replies_of sequence ≡ replies (contents_of plan.start) (ops_of sequence)
  replies_right =
      right_replies map_at (length turns) 0 all_calls.list all_calls.right ∙ ap (λ m. replies m (ops_of sequence)) (first_map plan opened starts turns s' run)

  pub leaves_right : HasMap (own_words s') (final (contents_of plan.start) (ops_of sequence))
  leaves_right =
      let is : final (contents_of plan.start) (ops_of sequence) ≡ map_at (length turns) =
      ap (λ m. final m (ops_of sequence)) (sym (first_map plan opened starts turns s' run)) ∙ right_leaves map_at (length turns) 0 all_calls.list all_calls.right in
      subst (HasMap (own_words s')) (sym is) (subst (λ (s : TableState). HasMap (own_words s) (map_at (length turns))) (sym (at_end plan opened turns s' run))
      (is_map plan opened starts turns s' run (length turns)))

  pub of_calls : ChangesAreOfCalls plan opened turns
  of_calls k state turn op at effect =
      let is : state ≡ at_turn k = run_same plan opened (take k turns) state (at_turn k) at.led (run_to plan opened turns s' run k) in
      change_at plan opened starts turns s' run k turn op at.at (subst (λ (s : TableState). turn_effect s turn ≡ op ∷ []) is effect)

-- each run from a start is linearizable
abbrev pub linearized : RunsAreLinearizable
linearized plan opened starts turns s' run = record {
  order = sequence plan opened starts turns s' run;
  calls = has_the_calls plan opened starts turns s' run;
  keeps = keeps_the_order plan opened starts turns s' run;
  replies = replies_right plan opened starts turns s' run;
  leaves = leaves_right plan opened starts turns s' run;
  answers = answers_end_calls plan opened starts turns s' run;
  changes = of_calls plan opened starts turns s' run;
  single = λ i p q op o g h. same_change plan opened starts turns s' run i i p q op o g h refl;
}

pub runs_are_linearizable : RunsAreLinearizable
runs_are_linearizable = linearized
