use Rattle.std.proofs.Common.{◌≡◌, ℕ, zero, suc, ◌<◌, ◌≤◌, ◌+◌, ◌-◌, ◌⊎◌, if◌then◌else◌, eq-eqb, Some, Option, List, [], ◌∷◌, length, take, drop, inl, inr, refl, sym, ap, ◌∙◌, subst, arith}
use Rattle.std.proofs.lemmas.Bool.{cases_eq, cases_lt}
use Rattle.std.proofs.lemmas.Option.{same_Some}
use mathlib.Core.Option.{some, some-injective}
use lib.ListN.{get_elem?}
use Rattle.ell_ops.specs.Contents.{Contents, contents_of}
use Rattle.ell_ops.specs.declared.op.Op.{Op}
use Rattle.ell_ops.specs.declared.op.Op.TheVariants.{Find, Insert, Delete, Swap}
use Rattle.ell_ops.specs.declared.reply.Reply.{Reply}
use Rattle.ell_ops.specs.Meaning.{key_of, reply_of, after, final}
use Rattle.ell_layout.specs.Words.{Words}
use Rattle.ell_core.specs.state.Machine.{Worker}
use Rattle.ell_core.specs.statements.Effects.{MakesChange, reply_of_change}
use Rattle.ell_core.proofs.lemmas.outcomes.Decide.{some_not_none}
use Rattle.ell_core.proofs.lemmas.stages.Sums.{child_changes, sum_by}
use Rattle.ell_runs.specs.declared.call.Call.TheVariants as call
use Rattle.ell_runs.specs.declared.view.View.{View}
use Rattle.ell_runs.specs.Plans.{TablePlan}
use Rattle.ell_runs.specs.Views.{Does, IsFree}
use Rattle.ell_runs.specs.Changes.{first_of}
use Rattle.ell_runs.specs.States.{TableState}
use Rattle.ell_runs.specs.Machines.{HasMachine}
use Rattle.ell_runs.specs.Turns.{Turn, Makes, Splits, Joins, CallIsMade, TableTurns, TableRun, view_after}
use Rattle.ell_runs.specs.Holding.{HasFlagged}
use Rattle.ell_runs.specs.TurnEffects.{own_words, IsWonFor, turn_wins}
use Rattle.ell_runs.specs.Starts.{Starts}
use Rattle.ell_runs.specs.Meanwhile.{KeepsOn, KeepOn}
use Rattle.ell_runs.specs.Changing.{HasMap, IsCalled, SaysWhatWas, TakesEffect, HoldsAtEnd, change_of, turn_effect, run_effects}
use Rattle.ell_runs.specs.Guards.{KnowsAnswerAtLeaf}
use Rattle.ell_runs.specs.Looking.{HasThere}
use Rattle.ell_runs.specs.Linearizing.{KeepsOnBetween, IsAnswered, ChangesAt, IsOfACall}
use Rattle.ell_runs.proofs.lemmas.lifetimes.Openings.{each_first}
use Rattle.ell_runs.proofs.lemmas.seats.Seats.{inside, set_there, mine_is, mine_sound}
use Rattle.ell_runs.proofs.lemmas.own_words.ChangesOf.{table_changes_are_operations}
use Rattle.ell_runs.proofs.lemmas.runs.Starting.{starts_are_kept}
use Rattle.ell_runs.proofs.lemmas.runs.TurnsOfRuns.{runs_are_lawful}
use Rattle.ell_runs.proofs.lemmas.runs.AsMap.{map_has, leaf_reply, leaf_leaves, trees_are_of_one_thread}
use Rattle.ell_runs.proofs.lemmas.runs.OwnSeat.{turn_seat}
use Rattle.ell_runs.proofs.lemmas.runs.Searched.{first_keeps}
use Rattle.ell_runs.proofs.lemmas.runs.Answering.{turn_begun}
use Rattle.ell_runs.proofs.lemmas.runs.LinearizingStates.{run_same, state_at, turn_at, run_to, run_between, turn_inside, place_between, keep_all}
use Rattle.ell_runs.proofs.lemmas.runs.LinearizingCalls.{free_on, Settled, settled_since, changed_once}
use Rattle.ell_runs.proofs.lemmas.runs.LinearizingTurns.{turn_cases, turn_none, TurnChanges, turn_changes, same_card}
use Rattle.ell_runs.proofs.lemmas.runs.Points.{point_of, calls_have_their_own_cards}

-- the first of some first turns
pub take_fewer : {A : Type 0} (n m : ℕ) (l : List A) → n ≤ m → take n (take m l) ≡ take n l
take_fewer zero m l h = refl
take_fewer (suc n) zero l h = absurd (omega arith)
take_fewer (suc n) (suc m) [] h = refl
take_fewer (suc n) (suc m) (x ∷ xs) h = ap (λ (l : List _). x ∷ l) (take_fewer n m xs (omega arith))

take_more : {A : Type 0} (n m : ℕ) (l : List A) → m ≤ n → take n (take m l) ≡ take m l
take_more zero zero l h = refl
take_more (suc n) zero l h = refl
take_more zero (suc m) l h = absurd (omega arith)
take_more (suc n) (suc m) [] h = refl
take_more (suc n) (suc m) (x ∷ xs) h = ap (λ (l : List _). x ∷ l) (take_more n m xs (omega arith))

-- a turn that begins a call is one call's
begin_turn : (seat other : ℕ) (op o : Op) → Makes seat (call.Begin op) ≡ Makes other (call.Begin o) → (seat ≡ other) × (op ≡ o)
begin_turn seat other op o e = (cc, cc)

pub same_begin : (turns : List Turn) (i seat other : ℕ) (op o : Op) → get_elem? turns i ≡ some (Makes seat (call.Begin op))
    → get_elem? turns i ≡ some (Makes other (call.Begin o)) → (seat ≡ other) × (op ≡ o)
same_begin turns i seat other op o e f =
    begin_turn seat other op o (some-injective (Makes seat (call.Begin op)) (Makes other (call.Begin o)) (sym e ∙ f))

-- the pass in a seat begins no other call before a later turn
not_begun : (turns : List Turn) (seat i k q : ℕ) (op : Op) → KeepsOnBetween seat turns i q → i < k → k < q → get_elem? turns k ≡ some (Makes seat (call.Begin op)) → ⊥
not_begun turns seat i k q op on low high e = (on k (Makes seat (call.Begin op)) low high e).0 refl

-- so its call is one
pub one_begin : (turns : List Turn) (seat i k q : ℕ) (op o : Op) → get_elem? turns i ≡ some (Makes seat (call.Begin op)) → i < q → KeepsOnBetween seat turns i q
    → get_elem? turns k ≡ some (Makes seat (call.Begin o)) → k < q → KeepsOnBetween seat turns k q → i ≡ k
one_begin turns seat i k q op o e less on f less' on' = elim (cases_lt i k) [
  | inl low ↦ absurd (not_begun turns seat i k q o on low less' f)
  | inr most ↦ elim (cases_lt k i) [
    | inl low ↦ absurd (not_begun turns seat k i q op on' low less e)
    | inr same ↦ omega arith
  ]
]

-- the call that a pass has in hand before a turn: it began here
pub record Begun (turns : List Turn) (seat : ℕ) (op : Op) (p : ℕ) : Type 0 where
  pub begin : ℕ
  pub begins : get_elem? turns begin ≡ some (Makes seat (call.Begin op))
  pub later : begin < p
  pub on : KeepsOnBetween seat turns begin p

-- the pass in a seat has an operation in hand
pub record IsBusy (s : TableState) (seat : ℕ) (op : Op) : Type 0 where
  pub view : View
  pub there : get_elem? s.views seat ≡ some view
  pub does : Does view op

-- one turn more in which it goes on
pub more_on : (turns : List Turn) (seat i p : ℕ) (t : Turn) → get_elem? turns p ≡ some t → KeepOn seat (t ∷ []) → KeepsOnBetween seat turns i p → KeepsOnBetween seat turns i (suc p)
more_on turns seat i p t at keeps on k u low high e = elim (cases_lt k p) [
  | inl less ↦ on k u low less e
  | inr most ↦
      let same : k ≡ p = omega arith in
      let is : t ≡ u = some-injective t u (sym at ∙ (ap (get_elem? turns) (sym same) ∙ e)) in
      subst (λ (x : Turn). KeepOn seat (x ∷ [])) is keeps
]

module _ (plan : TablePlan) (opened : TableState) (starts : Starts plan opened) (turns : List Turn) (s' : TableState) (run : TableRun plan opened turns s') where
  -- the state after so many turns
  abbrev pub after_turns : ℕ → TableState
  after_turns p = state_at plan opened turns s' run p

  pub kept : (p : ℕ) → HasMachine plan (after_turns p)
  kept p =
      (runs_are_lawful plan opened (starts_are_kept plan opened starts).kept (take p turns) (after_turns p) (run_to plan opened turns s' run p)).kept

  -- the map that its tree is
  pub map_after : ℕ → Contents
  map_after p = final (contents_of plan.start) (run_effects plan opened (take p turns) (after_turns p) (run_to plan opened turns s' run p))

  pub is_map : (p : ℕ) → HasMap (own_words (after_turns p)) (map_after p)
  unfolding map_after
  is_map p = trees_are_of_one_thread plan opened starts (take p turns) (after_turns p) (run_to plan opened turns s' run p)

  pub first_map : map_after 0 ≡ contents_of plan.start
  unfolding map_after
  first_map = refl

  pub made : (p : ℕ) (t : Turn) → get_elem? turns p ≡ some t → TableTurns plan (after_turns p) t (after_turns (suc p))
  made p t at = turn_at plan opened turns s' run p t at

  -- the turns from one state to a later one
  abbrev pub slice : ℕ → ℕ → List Turn
  slice p q = take (q - p) (drop p turns)

  pub run_slice : (p q : ℕ) → p ≤ q → TableRun plan (after_turns p) (slice p q) (after_turns q)
  run_slice p q up = run_between plan opened turns s' run p (q - p) q (omega arith)

  pub keep_slice : (seat i p q : ℕ) → i < p → p ≤ q → KeepsOnBetween seat turns i q → KeepOn seat (slice p q)
  keep_slice seat i p q low up on = keep_all seat (slice p q)
      (λ k t e. let h = place_between turns p (q - p) k t e in let less = h.0 in on (p + k) t (omega arith) (omega arith) h.1)

  -- a pass that has an operation in hand began it
  nobody_busy : (seat : ℕ) (op : Op) → IsBusy opened seat op → ⊥
  nobody_busy seat op h =
      some_not_none h.does (subst (λ (s : TableState). (j : ℕ) (v : View) → get_elem? s.views j ≡ some v → IsFree v) (sym starts.is) (each_first (first_of plan) IsFree refl)
      seat h.view h.there)

  pub begun_of : (p : ℕ) → p ≤ length turns → (seat : ℕ) (op : Op) → IsBusy (after_turns p) seat op → Begun turns seat op p
  begun_of zero up seat op h = absurd (nobody_busy seat op h)
  begun_of (suc p) up seat op h =
      let t = turn_inside turns p (omega arith) in
      elim (turn_begun plan seat op (after_turns p) t.0 (after_turns (suc p)) (made p t.0 t.1) h.view h.there h.does) [
        | inl is ↦ record {
          begin = p;
          begins = t.1 ∙ ap (λ (x : Turn). some x) is;
          later = omega arith;
          on = λ k u low high e. absurd (omega arith);
        }
        | inr was ↦ (let rest = begun_of p (omega arith) seat op (record { view = was.1.0; there = was.1.1; does = was.1.2 }) in let less = rest.later in record {
          begin = rest.begin;
          begins = rest.begins;
          later = omega arith;
          on = more_on turns seat rest.begin p t.0 t.1 was.0 rest.on;
        })
      ]

  -- a call that has ended leaves its pass with nothing in hand, till it begins another
  pub free_after : (seat i j : ℕ) (said : Reply) (took : Option ℕ) → get_elem? turns j ≡ some (Makes seat (call.Answer said took)) → i < j → (q : ℕ) → j < q → KeepsOnBetween seat turns i q
      → (w : View) → get_elem? (after_turns q).views seat ≡ some w → IsFree w
  free_after seat i j said took at low q less on w there =
      let h : CallIsMade plan (after_turns j) seat (call.Answer said took) (after_turns (suc j)) = made j (Makes seat (call.Answer said took)) at in
      let v = view_after (after_turns j) h.view (call.Answer said took) in
      let now : get_elem? (after_turns (suc j)).views seat ≡ some v =
      ap (λ (t : TableState). get_elem? t.views seat) h.gives ∙ set_there (after_turns j).views seat v h.view h.there in
      free_on plan seat (after_turns (suc j)) v now refl (slice (suc j) q) (after_turns q) (run_slice (suc j) q (omega arith))
      (keep_slice seat i (suc j) q (omega arith) (omega arith) on) w there

  -- a call of the pass in a seat that changes the tree in a turn, by the state before it
  pub record Changed (seat i p : ℕ) (op : Op) : Type 0 where
    pub begins : get_elem? turns i ≡ some (Makes seat (call.Begin op))
    pub later : i < p
    pub on : KeepsOnBetween seat turns i p
    pub view : View
    pub there : get_elem? (after_turns p).views seat ≡ some view
    pub does : Does view op
    pub card : ℕ
    pub held : HasFlagged view card
    pub turn : Turn
    pub at : get_elem? turns p ≡ some turn
    pub effect : turn_effect (after_turns p) turn ≡ op ∷ []
    pub won : sum_by child_changes (turn_wins (after_turns p) turn card) ≡ 1
    pub changes : TurnChanges (after_turns p) turn op
    pub same : card ≡ changes.card

  pub changed_of : (i p : ℕ) (op : Op) (h : ChangesAt plan opened turns i p op) → Changed h.by.work.seat i p op
  changed_of i p op h =
      let g = h.by in
      let is : g.state ≡ after_turns p = run_same plan opened (take p turns) g.state (after_turns p) g.is.led (run_to plan opened turns s' run p) in
      let effect = subst (λ (s : TableState). turn_effect s g.turn ≡ op ∷ []) is g.effect in
      let own = subst (λ (s : TableState). turn_wins s g.turn g.card ≡ change_of op) is g.own in
      let changes = turn_changes (after_turns p) g.turn op effect in
      let won = ap (sum_by child_changes) own ∙ changes.one in record {
        begins = h.begins;
        later = h.later;
        on = h.on;
        view = g.work.view;
        there = subst (λ (s : TableState). get_elem? s.views g.work.seat ≡ some g.work.view) is g.work.there;
        does = g.work.does;
        card = g.card;
        held = record { holds = g.work.holds; flagged = g.work.flagged };
        turn = g.turn;
        at = g.is.at;
        effect = effect;
        won = won;
        changes = changes;
        same = same_card (after_turns p) g.turn op changes g.card (omega arith);
      }

  -- in later states it has that card in hand, or nothing
  pub settled_at : (seat i p : ℕ) (op : Op) (h : Changed seat i p op) (q : ℕ) → p < q → KeepsOnBetween seat turns i q → (w : View)
      → get_elem? (after_turns q).views seat ≡ some w → Settled h.card w
  settled_at seat i p op h q less on w there =
      let low = h.later in
      settled_since plan h.card (after_turns p) (kept p) seat h.view h.there h.held h.turn (after_turns (suc p)) (made p h.turn h.at) h.won
      (h.changes.keeps seat) (slice (suc p) q) (after_turns q) (run_slice (suc p) q (omega arith)) (keep_slice seat i (suc p) q (omega arith) (omega arith) on) w there

  -- so that it changes the tree once
  not_again : (seat i p q : ℕ) (op o : Op) → Changed seat i p op → Changed seat i q o → p < q → ⊥
  not_again seat i p q op o h k less = elim (settled_at seat i p op h q less k.on k.view k.there) [
    | inl free ↦ some_not_none k.does free
    | inr held ↦
        let same : k.card ≡ h.card = same_Some k.card h.card (sym k.held.holds ∙ held.holds) in
        changed_once plan h.card (after_turns p) (kept p) h.turn (after_turns (suc p)) (made p h.turn h.at) h.won (slice (suc p) q) (after_turns q)
        (run_slice (suc p) q (omega arith)) k.turn (after_turns (suc q)) (made q k.turn k.at)
        (subst (λ c. sum_by child_changes (turn_wins (after_turns q) k.turn c) ≡ 1) same k.won)
  ]

  pub one_change : (seat i p q : ℕ) (op o : Op) → Changed seat i p op → Changed seat i q o → p ≡ q
  one_change seat i p q op o h k = elim (cases_lt p q) [
    | inl less ↦ absurd (not_again seat i p q op o h k less)
    | inr most ↦ elim (cases_lt q p) [
      | inl less ↦ absurd (not_again seat i q p o op k h less)
      | inr same ↦ omega arith
    ]
  ]

  -- a call that has ended, by what its turns are
  pub called : (i j : ℕ) (op : Op) (said : Reply) (h : IsAnswered turns i j op said)
      → IsCalled plan (after_turns i) h.seat op (after_turns (suc i)) (slice (suc i) j) (after_turns j) said
  called i j op said h =
      let low = h.later in record {
        ended = after_turns (suc j);
        begins = made i (Makes h.seat (call.Begin op)) h.begins;
        run = run_slice (suc i) j (omega arith);
        on = keep_slice h.seat i (suc i) j (omega arith) (omega arith) h.on;
        took = h.took;
        answers = made j (Makes h.seat (call.Answer said h.took)) h.answers;
      }

  -- with what it took
  pub called_took : (i j : ℕ) (op : Op) (said : Reply) (h : IsAnswered turns i j op said) → (called i j op said h).took ≡ h.took
  unfolding called
  called_took i j op said h = refl

  -- an answer does not change the tree
  no_effect : (s : TableState) (seat : ℕ) (said : Reply) (took : Option ℕ) (t : Turn) → t ≡ Makes seat (call.Answer said took) → (op : Op) → turn_effect s t ≡ op ∷ [] → ⊥
  no_effect s seat said took t is op e =
      let none : [] ≡ op ∷ [] = subst (λ (u : Turn). turn_effect s u ≡ op ∷ []) is e in absurd cc

  -- a call that changes the tree does so before it ends
  pub change_before : (i p j : ℕ) (op o : Op) (said : Reply) (h : IsAnswered turns i j op said) → Changed h.seat i p o → p < j
  change_before i p j op o said h k = elim (cases_lt p j) [
    | inl less ↦ less
    | inr most ↦ elim (cases_lt j p) [
      | inl less ↦ absurd (some_not_none k.does (free_after h.seat i j said h.took h.answers h.later p less k.on k.view k.there))
      | inr least ↦
          let same : p ≡ j = omega arith in
          let is = some-injective k.turn (Makes h.seat (call.Answer said h.took)) (sym k.at ∙ (ap (get_elem? turns) same ∙ h.answers)) in
          absurd (no_effect (after_turns p) h.seat said h.took k.turn is o k.effect)
    ]
  ]

  -- and does not answer at a leaf
  pub no_leaf : (i p j : ℕ) (op o : Op) (said : Reply) (h : IsAnswered turns i j op said) → Changed h.seat i p o
      → KnowsAnswerAtLeaf (called i j op said h).answers.view op said → ⊥
  no_leaf i p j op o said h k leaf =
      let end = (called i j op said h).answers in
      elim (settled_at h.seat i p o k j (change_before i p j op o said h k) h.on end.view end.there) [
        | inl free ↦ some_not_none end.may.busy free
        | inr held ↦ some_not_none leaf.stands
            ((mine_sound plan (after_turns j) (kept j) h.seat end.view end.there).flagged end.may.op k.card end.may.busy held.holds held.flagged).1
      ]

  -- it ends once
  not_twice : (seat i j q : ℕ) (said other : Reply) (took taken : Option ℕ) → i < j → get_elem? turns j ≡ some (Makes seat (call.Answer said took)) → get_elem? turns q ≡ some (Makes seat (call.Answer other taken))
      → KeepsOnBetween seat turns i q → j < q → ⊥
  not_twice seat i j q said other took taken low e f on less =
      let end : CallIsMade plan (after_turns q) seat (call.Answer other taken) (after_turns (suc q)) = made q (Makes seat (call.Answer other taken)) f in
      some_not_none end.may.busy (free_after seat i j said took e low q less on end.view end.there)

  pub one_end : (i j q : ℕ) (op o : Op) (said other : Reply) → IsAnswered turns i j op said → IsAnswered turns i q o other → j ≡ q
  one_end i j q op o said other h k =
      let same = (same_begin turns i h.seat k.seat op o h.begins k.begins).0 in
      let ends = subst (λ x. get_elem? turns q ≡ some (Makes x (call.Answer other k.took))) (sym same) k.answers in
      let on = subst (λ x. KeepsOnBetween x turns i q) (sym same) k.on in
      elim (cases_lt j q) [
        | inl less ↦ absurd (not_twice h.seat i j q said other h.took k.took h.later h.answers ends on less)
        | inr most ↦ elim (cases_lt q j) [
          | inl less ↦ absurd (not_twice h.seat i q j other said k.took h.took k.later ends h.answers h.on less)
          | inr least ↦ omega arith
        ]
      ]

  -- a state among those from one to a later one
  pub record StateBetween (p q : ℕ) (state : TableState) : Type 0 where
    pub place : ℕ
    pub low : p ≤ place
    pub high : place ≤ q
    pub is : state ≡ after_turns place

  pub state_between : (p q n : ℕ) (state : TableState) → p ≤ q → TableRun plan (after_turns p) (take n (slice p q)) state → StateBetween p q state
  state_between p q n state up led = elim (cases_lt n (q - p)) [
    | inl less ↦ record {
      place = p + n;
      low = omega arith;
      high = omega arith;
      is = run_same plan (after_turns p) (take n (drop p turns)) state (after_turns (p + n))
          (subst (λ ts. TableRun plan (after_turns p) ts state) (take_fewer n (q - p) (drop p turns) (omega arith)) led)
          (run_between plan opened turns s' run p n (p + n) refl);
    }
    | inr most ↦ record {
      place = q;
      low = up;
      high = omega arith;
      is = run_same plan (after_turns p) (slice p q) state (after_turns q)
          (subst (λ ts. TableRun plan (after_turns p) ts state) (take_more n (q - p) (drop p turns) most) led) (run_slice p q up);
    }
  ]

  -- the point of a call that answers at a leaf: a state of the call, in which its answer is the map's, and its operation leaves the map
  pub record ReadsAt (i j : ℕ) (op : Op) (said : Reply) : Type 0 where
    pub point : ℕ
    pub low : i < point
    pub high : point ≤ j
    pub says : said ≡ reply_of op (map_after point)
    pub leaves : after op (map_after point) ≡ map_after point

  reads_at : (i j : ℕ) (op : Op) (said : Reply) → i < j → SaysWhatWas plan op (after_turns (suc i)) (slice (suc i) j) (after_turns j) said → ReadsAt i j op said
  reads_at i j op said low was =
      let at = state_between (suc i) j was.so.amid.first was.so.state (omega arith) was.so.amid.before in
      let so = subst (λ (s : TableState). HasThere (key_of op) was.there (own_words s)) at.is was.so.so in
      let there = map_has (own_words (after_turns at.place)) (map_after at.place) (is_map at.place) (key_of op) was.there so in
      let first = at.low in record {
        point = at.place;
        low = omega arith;
        high = at.high;
        says = leaf_reply op was.there said (map_after at.place) there was.says;
        leaves = λ t key. leaf_leaves op was.there said (map_after at.place) there was.says key t;
      }

  -- whose a turn is by which the tree changes
  won_for : (p : ℕ) (t : Turn) → TableTurns plan (after_turns p) t (after_turns (suc p)) → IsWonFor (after_turns p) t
  won_for p (Makes seat y) h = table_changes_are_operations plan (after_turns p) (kept p) seat h.view y h.there h.may
  won_for p (Splits seat left) h = tt
  won_for p (Joins seat other) h = tt

  pub change_at : (p : ℕ) (t : Turn) (op : Op) → get_elem? turns p ≡ some t → turn_effect (after_turns p) t ≡ op ∷ [] → IsOfACall plan opened turns p op
  change_at p t op at e =
      let changes = turn_changes (after_turns p) t op e in
      let work = changes.work (won_for p t (made p t at)) in
      let short = inside turns p t at in
      let begun = begun_of p (omega arith) work.seat op (record { view = work.view; there = work.there; does = work.does }) in record {
        begin = begun.begin;
        changes = record {
          by = record {
            state = after_turns p;
            turn = t;
            is = record { led = run_to plan opened turns s' run p; at = at };
            effect = e;
            card = changes.card;
            own = changes.own changes.card ∙ ap (λ b. if b then change_of op else []) (eq-eqb changes.card changes.card refl);
            work = work;
          };
          begins = begun.begins;
          later = begun.later;
          on = begun.on;
        };
      }

  -- it is one call's
  pub record OneCall (i k : ℕ) (op o : Op) : Type 0 where
    pub begins : i ≡ k
    pub does : op ≡ o

  one_turn : (p : ℕ) (t u : Turn) → get_elem? turns p ≡ some t → get_elem? turns p ≡ some u → t ≡ u
  one_turn p t u e f = some-injective t u (sym e ∙ f)

  first_op : (op o : Op) → op ∷ [] ≡ o ∷ [] → op ≡ o
  first_op op o e = cc

  pub one_call : (seat other i k p : ℕ) (op o : Op) → Changed seat i p op → Changed other k p o → OneCall i k op o
  one_call seat other i k p op o g h =
      let turn = one_turn p g.turn h.turn g.at h.at in
      let won = subst (λ (t : Turn). sum_by child_changes (turn_wins (after_turns p) t g.card) ≡ 1) turn g.won in
      let card : g.card ≡ h.card = same_card (after_turns p) h.turn o h.changes g.card (omega arith) ∙ sym h.same in
      let hand = ap (λ (w : Worker). w.card) (mine_is plan (after_turns p) (kept p) seat g.view g.there) ∙ g.held.holds in
      let hand' = ap (λ (w : Worker). w.card) (mine_is plan (after_turns p) (kept p) other h.view h.there) ∙ h.held.holds in
      let same : seat ≡ other = (kept p).invariant.workers.one_hand seat other h.card (hand ∙ ap (λ c. Some c) card) hand' in record {
        begins = one_begin turns other i k p op o (subst (λ x. get_elem? turns i ≡ some (Makes x (call.Begin op))) same g.begins) g.later
            (subst (λ x. KeepsOnBetween x turns i p) same g.on) h.begins h.later h.on;
        does = first_op op o (sym g.effect ∙ (ap (turn_effect (after_turns p)) turn ∙ h.effect));
      }

  -- a seat that goes on is there
  seat_on : (seat : ℕ) (s : TableState) (v : View) → get_elem? s.views seat ≡ some v → (ts : List Turn) (last : TableState) → TableRun plan s ts last → KeepOn seat ts
      → (w : View) × (get_elem? last.views seat ≡ some w)
  seat_on seat s v there [] last led on = (v, ap (λ (t : TableState). get_elem? t.views seat) led ∙ there)
  seat_on seat s v there (t ∷ ts) last led on =
      let keeps = first_keeps seat t ts on in
      let goes = turn_seat KeepsOn plan s seat v there t led.0 led.1 keeps.0 in
      seat_on seat led.0 goes.view goes.there ts last led.2 keeps.1

  -- a call that answers by its card has changed the tree
  change_sum : (op : Op) (old new : Words) → MakesChange op old new → sum_by child_changes (change_of op) ≡ 1
  change_sum (Find key) old new h = absurd h
  change_sum (Insert key value) old new h = refl
  change_sum (Delete key) old new h = refl
  change_sum (Swap key was value) old new h = refl

  -- it has that card in hand there
  own_seat : (seat i j p c : ℕ) (op : Op) (h : Changed seat i p op) (other k : ℕ) → KeepsOnBetween other turns k j → k < p → p < j → c ≡ h.card
      → HoldsAtEnd (after_turns j) other c → (v : View) → get_elem? (after_turns (suc k)).views other ≡ some v → other ≡ seat
  own_seat seat i j p c op h other k on low less same holds v there = elim (cases_eq other seat) [
    | inl e ↦ e
    | inr apart ↦
        let here = seat_on other (after_turns (suc k)) v there (slice (suc k) p) (after_turns p) (run_slice (suc k) p (omega arith))
        (keep_slice other k (suc k) p (omega arith) (omega arith) (λ n t a b. on n t a (omega arith))) in
        let keeps = keep_slice other k p j low (omega arith) on in
        let end = seat_on other (after_turns p) here.0 here.1 (slice p j) (after_turns j) (run_slice p j (omega arith)) keeps in
        absurd ((calls_have_their_own_cards plan (after_turns p) (kept p) seat h.view h.there h.card h.held.holds).beside other apart (slice p j) (after_turns j)
        (run_slice p j (omega arith)) keeps here.0 here.1 end.0 end.1 ((holds.holds end.0 end.1).0 ∙ ap (λ n. Some n) same))
  ]

  -- the turn of a call that answers by its card
  pub record ChangesThere (i : ℕ) (op : Op) : Type 0 where
    pub change : ℕ
    pub changes : ChangesAt plan opened turns i change op

  -- the turn in which a card's child exchange was won, within a call
  record CardTurn (i j c : ℕ) : Type 0 where
    place : ℕ
    low : i < place
    high : place < j
    turn : Turn
    at : get_elem? turns place ≡ some turn
    own : sum_by child_changes (turn_wins (after_turns place) turn c) ≡ 1

  first_there : (l : List Turn) (n : ℕ) (t : Turn) (rest : List Turn) → drop n l ≡ t ∷ rest → get_elem? l n ≡ some t
  first_there l zero t rest e = ap (λ (l : List Turn). get_elem? l 0) e
  first_there [] (suc n) t rest e = absurd cc
  first_there (x ∷ xs) (suc n) t rest e = first_there xs n t rest e

  card_turn : (i j : ℕ) (op : Op) (c : ℕ) → i < j → TakesEffect plan op c (after_turns (suc i)) (slice (suc i) j) (after_turns j) → CardTurn i j c
  card_turn i j op c less t =
      let first = place_between turns (suc i) (j - suc i) t.first t.turn (first_there (slice (suc i) j) t.first t.turn (drop (suc t.first) (slice (suc i) j)) t.at) in
      let few = first.0 in
      let p = suc i + t.first in
      let is : t.state ≡ after_turns p = run_same plan (after_turns (suc i)) (take t.first (drop (suc i) turns)) t.state (after_turns p)
      (subst (λ ts. TableRun plan (after_turns (suc i)) ts t.state) (take_fewer t.first (j - suc i) (drop (suc i) turns) (omega arith)) t.before)
      (run_between plan opened turns s' run (suc i) t.first p refl) in record {
        place = p;
        low = omega arith;
        high = omega arith;
        turn = t.turn;
        at = first.1;
        own = ap (λ (s : TableState). sum_by child_changes (turn_wins s t.turn c)) (sym is)
            ∙ (ap (sum_by child_changes) t.own ∙ change_sum op (own_words t.state) (own_words t.next) t.changes);
      }

  -- the turn is of the call that has the card in hand at its end
  changes_by : (i j : ℕ) (op : Op) (said : Reply) (h : IsAnswered turns i j op said) (c : ℕ) → HoldsAtEnd (after_turns j) h.seat c → (t : CardTurn i j c) (o : Op)
      → turn_effect (after_turns t.place) t.turn ≡ o ∷ [] → ChangesThere i op
  changes_by i j op said h c holds t o effect =
      let p = t.place in
      let low = t.low in
      let high = t.high in
      let by = change_at p t.turn o t.at effect in
      let seat = by.changes.by.work.seat in
      let changed = changed_of by.begin p o by.changes in
      let won = subst (λ (u : Turn). sum_by child_changes (turn_wins (after_turns p) u c) ≡ 1) (one_turn p t.turn changed.turn t.at changed.at) t.own in
      let card : c ≡ changed.card = same_card (after_turns p) changed.turn o changed.changes c (omega arith) ∙ sym changed.same in
      let begins = (called i j op said h).begins in
      let view = view_after (after_turns i) begins.view (call.Begin op) in
      let now : get_elem? (after_turns (suc i)).views h.seat ≡ some view =
      ap (λ (s : TableState). get_elem? s.views h.seat) begins.gives ∙ set_there (after_turns i).views h.seat view begins.view begins.there in
      let own : h.seat ≡ seat = own_seat seat by.begin j p c o changed h.seat i h.on low high card holds view now in
      let at_first = subst (λ x. get_elem? turns i ≡ some (Makes x (call.Begin op))) own h.begins in
      let on = subst (λ x. KeepsOnBetween x turns i j) own h.on in
      let same : by.begin ≡ i = one_begin turns seat by.begin i p o op by.changes.begins by.changes.later by.changes.on at_first low (λ n u a b. on n u a (omega arith)) in
      let does : o ≡ op =
      (same_begin turns i seat seat o op (subst (λ n. get_elem? turns n ≡ some (Makes seat (call.Begin o))) same by.changes.begins) at_first).1 in record {
        change = p;
        changes = subst (λ x. ChangesAt plan opened turns i p x) does (subst (λ n. ChangesAt plan opened turns n p o) same by.changes);
      }

  changes_there : (i j : ℕ) (op : Op) (said : Reply) (h : IsAnswered turns i j op said) (c : ℕ) → HoldsAtEnd (after_turns j) h.seat c
      → TakesEffect plan op c (after_turns (suc i)) (slice (suc i) j) (after_turns j) → ChangesThere i op
  changes_there i j op said h c holds effect =
      let t = card_turn i j op c h.later effect in
      elim (turn_cases (after_turns t.place) t.turn) [
        | inl none ↦ absurd (let no = turn_none (after_turns t.place) t.turn c none in let own = t.own in omega arith)
        | inr other ↦ changes_by i j op said h c holds t other.0 other.1
      ]

  -- a call that has ended answered at a leaf, of one state; or by its card, and has changed the tree
  pub point_at : (i j : ℕ) (op : Op) (said : Reply) (h : IsAnswered turns i j op said)
      → (KnowsAnswerAtLeaf (called i j op said h).answers.view op said × ReadsAt i j op said) ⊎ ((said ≡ reply_of_change op) × ChangesThere i op)
  point_at i j op said h =
      elim (point_of plan (after_turns i) (kept i) h.seat op (after_turns (suc i)) (slice (suc i) j) (after_turns j) said (called i j op said h)) [
        | inl leaf ↦ inl (leaf.0, reads_at i j op said h.later leaf.1)
        | inr card ↦ inr (card.0, changes_there i j op said h card.1.0 card.1.1 card.1.2)
      ]
