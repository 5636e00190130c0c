-- What passes have seen of the history stays a beginning of it.
use Rattle.std.proofs.Common.{◌≡◌, ◌≢◌, ℕ, zero, suc, ◌+◌, ◌<◌, ne_eqb, eq-eqb, option_map, ◌≤◌, Bool, true, false, Some, None, Option, List, [], ◌∷◌, ◌++◌, length, set, take, if◌then◌else◌, nat_le, inl, inr, ◌⊎◌, refl, sym, ap, ◌∙◌, subst, arith, append-nil, ◌==◌}
use Rattle.std.proofs.lemmas.List.{append_assoc}
use Rattle.std.proofs.lemmas.Bool.{cases_eq, cases_lt}
use Rattle.std.proofs.lemmas.Option.{same_Some}
use mathlib.Core.Option.{some, some-injective, some-ne-none}
use lib.ListN.{get_elem?}
use Rattle.atomic_table.proofs.Lists.{at_set, at_snoc, at_map, set_else}
use Rattle.ell_ops.specs.declared.op.Op.{Op}
use Rattle.ell_ops.specs.declared.reply.Reply.{Reply}
use Rattle.ell_core.proofs.lemmas.outcomes.Decide.{some_not_none}
use Rattle.ell_runs.specs.declared.call.Call.{Call}
use Rattle.ell_runs.specs.declared.call.Call.TheVariants as call
use Rattle.ell_runs.specs.declared.view.Act.{Act}
use Rattle.ell_runs.specs.declared.view.Event.{Event}
use Rattle.ell_runs.specs.declared.view.Event.TheVariants.{Begins, Ends, Looks, Quiet}
use Rattle.ell_cards.specs.declared.view.Known.{Known}
use Rattle.ell_runs.specs.declared.view.Sight.{Sight}
use Rattle.ell_runs.specs.declared.view.View.{View}
use Rattle.ell_ops.specs.Contents.{contents_of}
use Rattle.ell_runs.specs.Histories.{IsCall, IsLinearizable, event_of, history_of}
use Rattle.ell_runs.specs.Linearizing.{IsAnswered, KeepsOnBetween}
use Rattle.ell_runs.specs.Plans.{TablePlan}
use Rattle.ell_runs.specs.Views.{Does, Has, IsFree, latest, earlier}
use Rattle.ell_runs.specs.Calls.{May, after}
use Rattle.ell_runs.specs.Changing.{HasMap}
use Rattle.ell_runs.specs.Linearizing.{ops_of}
use Rattle.ell_runs.specs.TurnEffects.{own_words}
use Rattle.ell_ops.specs.Meaning.{final}
use Rattle.ell_cards.specs.Whole.{trees_of}
use Rattle.ell_runs.proofs.lemmas.runs.Spent.{IsAllThere, all_there}
use Rattle.ell_runs.proofs.lemmas.seats.Staying.{owned_stays}
use Rattle.ell_runs.proofs.lemmas.seats.Seats.{set_there}
use Rattle.std.specs.Option.{option_or}
use Rattle.ell_runs.specs.Seeing.{BeganAt, HasSeen, IsSpentIn, HasSeenAll, SeesEnd, Marks, IsCalm}
use Rattle.ell_cards.specs.AllSeen.{AllHaveSeen, IsMadeBy, AreMade, AreAllApart, AreSilent}
use Rattle.ell_cards.specs.Shown.{shown, shown_call}
use Rattle.ell_runs.specs.Sights.{IsPart, longer}
use Rattle.ell_runs.specs.Starts.{IsReached}
use Rattle.ell_runs.specs.States.{TableState}
use Rattle.ell_runs.specs.Turns.{Turn, Makes}
use Rattle.ell_runs.proofs.lemmas.runs.Histories.{ended_only, lin, linear_of, call_of, begin_at, histories_are_linearizable}
use Rattle.ell_runs.proofs.lemmas.runs.LinearizingAnswers.{behind}
use Rattle.ell_runs.proofs.lemmas.runs.LinearizingPoints.{begun_of}
use Rattle.ell_runs.proofs.lemmas.runs.LinearizingStates.{at_end, state_at, run_to}

-- the operation that an event begins, if the pass in the seat begins one there
abbrev pub begin_in : ℕ → Event → Option (ℕ × Op)
begin_in seat (Begins s op) = if s == seat then Some (0, op) else None
begin_in seat _ = None

-- where the pass in a seat began an operation last, and which
abbrev pub last_begin : ℕ → List Event → Option (ℕ × Op)
last_begin seat [] = None
last_begin seat (e ∷ es) = option_or (option_map (λ x. (x.0 + 1, x.1)) (last_begin seat es)) (begin_in seat e)

-- the calls with one more, which ends here
abbrev pub with_act : Option (ℕ × Op) → ℕ → Reply → Option ℕ → List Act → List Act
with_act None end said took mine = mine
with_act (Some b) end said took mine =
    record { begin = b.0; end = end; op = b.1; said = said; took = took } ∷ mine

-- what a pass notes of the history, which is this up to its step: where it begins an operation or a look, or answers an
-- operation, it has seen all of it
abbrev pub marked : Call → ℕ → List Event → Sight → Sight
marked (call.Begin op) seat history g =
    record g { seen = history ++ Begins seat op ∷ []; begun = Some (length history) }
marked (call.Answer said took) seat history g =
    record g {
      seen = history ++ Ends seat said took ∷ [];
      mine = with_act (last_begin seat history) (length history) said took g.mine;
    }
marked call.Look seat history g =
    record g { seen = history ++ Looks seat ∷ []; looked = Some (length history) }
marked _ seat history g = g

-- the history of one turn more
pub history_snoc : (ts : List Turn) (t : Turn) → history_of (ts ++ t ∷ []) ≡ history_of ts ++ event_of t ∷ []
history_snoc [] t = refl
history_snoc (u ∷ us) t = ap (λ l. event_of u ∷ l) (history_snoc us t)

pub history_long : (ts : List Turn) → length (history_of ts) ≡ length ts
history_long [] = refl
history_long (u ∷ us) = ap suc (history_long us)

-- what stands in a list stands in a longer one
pub at_more : {A : Type 0} (a b : List A) (n : ℕ) (x : A) → get_elem? a n ≡ some x → get_elem? (a ++ b) n ≡ some x
at_more [] b n x e = absurd (some-ne-none x (sym e))
at_more (y ∷ ys) b zero x e = e
at_more (y ∷ ys) b (suc n) x e = at_more ys b n x e

pub at_inside : {A : Type 0} (a : List A) (n : ℕ) (x : A) → get_elem? a n ≡ some x → n < length a
at_inside [] n x e = absurd (some-ne-none x (sym e))
at_inside (y ∷ ys) zero x e = omega arith
at_inside (y ∷ ys) (suc n) x e = (let less = at_inside ys n x e in omega arith)

ahead_of : {A : Type 0} (a b : List A) (n : ℕ) → n < length a → get_elem? (a ++ b) n ≡ get_elem? a n
ahead_of [] b n less = absurd (omega arith)
ahead_of (x ∷ xs) b zero less = refl
ahead_of (x ∷ xs) b (suc n) less = ahead_of xs b n (omega arith)

-- a call stays one, and was one if it had ended
pub call_more : (h more : List Event) (begin end : ℕ) (op : Op) (said : Reply) (took : Option ℕ) → IsCall h begin end op said took → IsCall (h ++ more) begin end op said took
call_more h more begin end op said took c = record {
  seat = c.seat;
  begins = at_more h more begin (Begins c.seat op) c.begins;
  later = c.later;
  none = λ k o low high e. c.none k o low high (sym (ahead_of h more k (let less = at_inside h end (Ends c.seat said took) c.ends in omega arith)) ∙ e);
  ends = at_more h more end (Ends c.seat said took) c.ends;
}

call_less : (h more : List Event) (begin end : ℕ) (op : Op) (said : Reply) (took : Option ℕ) → end < length h → IsCall (h ++ more) begin end op said took → IsCall h begin end op said took
call_less h more begin end op said took less c = record {
  seat = c.seat;
  begins = sym (ahead_of h more begin (let later = c.later in omega arith)) ∙ c.begins;
  later = c.later;
  none = λ k o low high e. c.none k o low high (at_more h more k (Begins c.seat o) e);
  ends = sym (ahead_of h more end less) ∙ c.ends;
}

pub part_on : (seen h more : List Event) → IsPart seen h → IsPart seen (h ++ more)
part_on seen h more p = (p.0 ++ more, ap (λ l. l ++ more) p.1 ∙ append_assoc seen p.0 more)

pub seen_on : (h more : List Event) (seat : ℕ) (g : Sight) → HasSeen h seat g → HasSeen (h ++ more) seat g
seen_on h more seat g is = record {
  part = part_on g.seen h more is.part;
  began = λ b at. (let was = is.began b at in (was.0, at_more h more b (Begins seat was.0) was.1));
  looks = λ n at. at_more h more n (Looks seat) (is.looks n at);
  mine = λ a has. call_more h more a.begin a.end a.op a.said a.took (is.mine a has);
}

pub all_on : (h more : List Event) (views : List Known) → AllHaveSeen h views → AllHaveSeen (h ++ more) views
all_on h more views all seat k at = seen_on h more seat k.sight (all seat k at)

pub all_set : (h : List Event) (views : List Known) (id : ℕ) (k : Known) → AllHaveSeen h views → HasSeen h id k.sight → AllHaveSeen h (set views id k)
all_set h views id k all mine seat u at = elim (at_set views id seat k u at) [
  | inl e ↦ subst (λ i. HasSeen h i u.sight) (sym e.0) (subst (λ (x : Known). HasSeen h id x.sight) e.1 mine)
  | inr e ↦ all seat u e.1
]

pub all_snoc : (h : List Event) (views : List Known) (k : Known) → AllHaveSeen h views → ((seat : ℕ) → HasSeen h seat k.sight) → AllHaveSeen h (views ++ k ∷ [])
all_snoc h views k all mine seat u at = elim (at_snoc views k u seat at) [
  | inl there ↦ all seat u there
  | inr e ↦ subst (λ (x : Known). HasSeen h seat x.sight) e (mine seat)
]

-- the longer of two beginnings is one
pub longer_part : (h a b : List Event) → IsPart a h → IsPart b h → IsPart (longer a b) h
longer_part h a b one other = by (nat_le (length a) (length b))
  where
    by : (c : Bool) → IsPart (if c then b else a) h
    by true = other
    by false = one

pub whole_part : (h : List Event) → IsPart h h
whole_part h = ([], sym (append-nil h))

-- what a pass has seen after a step call goes by what is shown
pub marks_shown : (c : Call) (v : View) (old new : Sight) → Marks c v old new → Marks (shown_call c) (shown v) old new
marks_shown (call.Begin op) v old new m = m
marks_shown (call.Answer said took) v old new m = λ op does. m op does
marks_shown _ v old new m = m

-- a call that neither begins nor answers leaves it
pub calm_marks : (c : Call) → IsCalm c → (v : View) (old new : Sight) → Marks c v old new → new ≡ old
calm_marks (call.Begin op) calm v old new m = absurd calm
calm_marks (call.Answer said took) calm v old new m = absurd calm
calm_marks call.Look calm v old new m = absurd calm
calm_marks _ calm v old new m = m

-- lists of calls
pub has_none : (a : Act) → Has [] a → ⊥
has_none a h = elim h [ ]

pub has_first : (x : Act) (xs : List Act) (a : Act) → Has (x ∷ xs) a → (x ≡ a) ⊎ Has xs a
has_first x xs a (latest _ _) = inl refl
has_first x xs a (earlier _ _ _ h) = inr h

pub has_left : (xs ys : List Act) (a : Act) → Has xs a → Has (xs ++ ys) a
has_left [] ys a h = absurd (has_none a h)
has_left (x ∷ xs) ys a (latest _ _) = latest x (xs ++ ys)
has_left (x ∷ xs) ys a (earlier _ _ _ h) = earlier a x (xs ++ ys) (has_left xs ys a h)

pub has_right : (xs ys : List Act) (a : Act) → Has ys a → Has (xs ++ ys) a
has_right [] ys a h = h
has_right (x ∷ xs) ys a h = earlier a x (xs ++ ys) (has_right xs ys a h)

pub has_either : (xs ys : List Act) (a : Act) → Has (xs ++ ys) a → Has xs a ⊎ Has ys a
has_either [] ys a h = inr h
has_either (x ∷ xs) ys a (latest _ _) = inl (latest x xs)
has_either (x ∷ xs) ys a (earlier _ _ _ h) = elim (has_either xs ys a h) [
  | inl one ↦ inl (earlier a x xs one)
  | inr one ↦ inr one
]

-- where a pass began last
no_begin : (seat : ℕ) (e : Event) → ((o : Op) → e ≢ Begins seat o) → begin_in seat e ≡ None
no_begin seat (Begins s op) none = ap (λ b. if b then Some (0, op) else None) (ne_eqb s seat (λ same. none op (ap (λ x. Begins x op) same)))
no_begin seat (Ends s said took) none = refl
no_begin seat (Looks s) none = refl
no_begin seat Quiet none = refl

none_begins : (seat : ℕ) (h : List Event) → ((k : ℕ) (o : Op) → get_elem? h k ≡ some (Begins seat o) → ⊥) → last_begin seat h ≡ None
none_begins seat [] none = refl
none_begins seat (e ∷ es) none =
    ap (λ l. option_or (option_map (λ (x : ℕ × Op). (x.0 + 1, x.1)) l) (begin_in seat e)) (none_begins seat es (λ k. none (suc k)))
    ∙ no_begin seat e (λ o is. none 0 o (ap (λ (x : Event). some x) is))

pub last_is : (seat : ℕ) (h : List Event) (b : ℕ) (op : Op) → get_elem? h b ≡ some (Begins seat op) → ((k : ℕ) (o : Op) → b < k → get_elem? h k ≡ some (Begins seat o) → ⊥) → last_begin seat h ≡ Some (b, op)
last_is seat [] b op at none = absurd (some-ne-none (Begins seat op) (sym at))
last_is seat (e ∷ es) zero op at none =
    ap (λ l. option_or (option_map (λ (x : ℕ × Op). (x.0 + 1, x.1)) l) (begin_in seat e)) (none_begins seat es (λ k o. none (suc k) o (omega arith)))
    ∙ (ap (begin_in seat) (some-injective e (Begins seat op) at) ∙ ap (λ b. if b then Some (0, op) else None) (eq-eqb seat seat refl))
last_is seat (e ∷ es) (suc b) op at none =
    ap (λ l. option_or (option_map (λ (x : ℕ × Op). (x.0 + 1, x.1)) l) (begin_in seat e)) (last_is seat es b op at (λ k o less. none (suc k) o (omega arith)))
    ∙ (let same : b + 1 ≡ suc b = omega arith in ap (λ n. Some (n, op)) same)

-- calls that were answered by passes
pub made_set : (h : List Event) (views : List Known) (id : ℕ) (k now : Known) → get_elem? views id ≡ some k → ((a : Act) → Has k.sight.mine a → Has now.sight.mine a) → AreMade h views → AreMade h (set views id now)
made_set h views id k now here more all a c =
    let m = all a c in
    elim (cases_eq m.seat id) [
      | inl same ↦ record {
        seat = id;
        knows = now;
        there = set_there views id now k here;
        has = more a (subst (λ (x : Known). Has x.sight.mine a) (some-injective m.knows k (sym m.there ∙ (ap (get_elem? views) same ∙ here))) m.has);
      }
      | inr other ↦ record { seat = m.seat; knows = m.knows; there = set_else views id m.seat now other ∙ m.there; has = m.has }
    ]

pub made_snoc : (h : List Event) (views : List Known) (k : Known) → AreMade h views → AreMade h (views ++ k ∷ [])
made_snoc h views k all a c =
    let m = all a c in record { seat = m.seat; knows = m.knows; there = at_more views (k ∷ []) m.seat m.knows m.there; has = m.has }

pub made_joined : (h : List Event) (views : List Known) (id other : ℕ) (k l both spent : Known) → get_elem? views id ≡ some k → get_elem? views other ≡ some l → other ≢ id
    → ((a : Act) → Has k.sight.mine a → Has both.sight.mine a) → ((a : Act) → Has l.sight.mine a → Has both.sight.mine a) → AreMade h views → AreMade h (set (set views id both) other spent)
made_joined h views id other k l both spent here there discarded left right all a c =
    let m = all a c in
    let now : get_elem? (set (set views id both) other spent) id ≡ some both = set_else (set views id both) other id spent (λ e. discarded (sym e)) ∙ set_there views id both k here in
    elim (cases_eq m.seat id) [
      | inl same ↦ record {
        seat = id;
        knows = both;
        there = now;
        has = left a (subst (λ (x : Known). Has x.sight.mine a) (some-injective m.knows k (sym m.there ∙ (ap (get_elem? views) same ∙ here))) m.has);
      }
      | inr apart ↦ elim (cases_eq m.seat other) [
        | inl same ↦ record {
          seat = id;
          knows = both;
          there = now;
          has = right a (subst (λ (x : Known). Has x.sight.mine a) (some-injective m.knows l (sym m.there ∙ (ap (get_elem? views) same ∙ there))) m.has);
        }
        | inr far ↦ record { seat = m.seat; knows = m.knows; there = set_else (set views id both) other m.seat spent far ∙ (set_else views id m.seat both apart ∙ m.there); has = m.has }
      ]
    ]

-- one event more: what ends there was answered
made_more : (h : List Event) (e : Event) (views : List Known) → AreMade h views
    → ((a : Act) → a.end ≡ length h → IsCall (h ++ e ∷ []) a.begin a.end a.op a.said a.took → IsMadeBy views a)
    → AreMade (h ++ e ∷ []) views
made_more h e views all last a c = elim (cases_lt a.end (length h)) [
  | inl less ↦ all a (call_less h (e ∷ []) a.begin a.end a.op a.said a.took less c)
  | inr most ↦
      let inside = at_inside (h ++ e ∷ []) a.end (Ends c.seat a.said a.took) c.ends in
      let long = one_longer h e in
      last a (omega arith) c
]
  where
    one_longer : (h : List Event) (e : Event) → length (h ++ e ∷ []) ≡ length h + 1
    one_longer [] e = refl
    one_longer (x ∷ xs) e = (let rest = one_longer xs e in omega arith)

no_end : (h : List Event) (e : Event) → ((seat : ℕ) (said : Reply) (took : Option ℕ) → e ≢ Ends seat said took) → (a : Act) → a.end ≡ length h → IsCall (h ++ e ∷ []) a.begin a.end a.op a.said a.took → ⊥
no_end h e none a at c = none c.seat a.said a.took (some-injective e (Ends c.seat a.said a.took) (sym (behind h (e ∷ []) 0 a.end (omega arith)) ∙ c.ends))

pub made_quiet : (h : List Event) (views : List Known) → AreMade h views → AreMade (h ++ Quiet ∷ []) views
made_quiet h views all = made_more h Quiet views all (λ a at c. absurd (no_end h Quiet (λ seat said took e. cc) a at c))

-- two calls that end together are one
one_call : (h : List Event) (a b : Act) → IsCall h a.begin a.end a.op a.said a.took → IsCall h b.begin b.end b.op b.said b.took → a.end ≡ b.end → a ≡ b
one_call h a b c d at =
    let both = ends_same c.seat d.seat a.said b.said a.took b.took
    (some-injective (Ends c.seat a.said a.took) (Ends d.seat b.said b.took) (sym c.ends ∙ (ap (get_elem? h) at ∙ d.ends))) in
    let its = subst (λ n. get_elem? h b.begin ≡ some (Begins n b.op)) (sym both.0) d.begins in
    let later = c.later in
    let later' = d.later in
    let place : a.begin ≡ b.begin = elim (cases_lt a.begin b.begin) [
      | inl low ↦ absurd (c.none b.begin b.op low (omega arith) its)
      | inr most ↦ elim (cases_lt b.begin a.begin) [
        | inl low ↦ absurd (d.none a.begin a.op low (omega arith) (subst (λ n. get_elem? h a.begin ≡ some (Begins n a.op)) both.0 c.begins))
        | inr least ↦ omega arith
      ]
    ] in
    let op = begins_same c.seat a.op b.op (some-injective (Begins c.seat a.op) (Begins c.seat b.op) (sym c.begins ∙ (ap (get_elem? h) place ∙ its))) in
    λ i. record { begin = place i; end = at i; op = op i; said = both.1 i; took = both.2 i }
  where
    ends_same : (a b : ℕ) (x y : Reply) (m n : Option ℕ) → Ends a x m ≡ Ends b y n → (a ≡ b) × (x ≡ y) × (m ≡ n)
    ends_same a b x y m n e = (cc, cc, cc)

    begins_same : (a : ℕ) (x y : Op) → Begins a x ≡ Begins a y → x ≡ y
    begins_same a x y e = cc

-- who has nothing left has no calls
pub silent_set : (plan : TablePlan) (views : List Known) (id : ℕ) (k : Known) → AreSilent plan views → (IsSpentIn plan k.tree → k.sight.mine ≡ []) → AreSilent plan (set views id k)
silent_set plan views id k all mine seat u at = elim (at_set views id seat k u at) [
  | inl e ↦ subst (λ (x : Known). IsSpentIn plan x.tree → x.sight.mine ≡ []) e.1 mine
  | inr e ↦ all seat u e.1
]

pub silent_snoc : (plan : TablePlan) (views : List Known) (k : Known) → AreSilent plan views → (IsSpentIn plan k.tree → k.sight.mine ≡ []) → AreSilent plan (views ++ k ∷ [])
silent_snoc plan views k all mine seat u at = elim (at_snoc views k u seat at) [
  | inl there ↦ all seat u there
  | inr e ↦ subst (λ (x : Known). IsSpentIn plan x.tree → x.sight.mine ≡ []) e mine
]

-- and answers nothing, as it has nothing in hand
pub spent_before : (plan : TablePlan) (c : Call) (n : ℕ) (v : View) → IsSpentIn plan (after c n v) → IsSpentIn plan v
spent_before plan c n v spent = (spent.0, sym (owned_stays c n v) ∙ spent.1)

pub silent_call : (plan : TablePlan) (c : Call) (n : ℕ) (v : View) (seat : ℕ) (h : List Event) (g : Sight) → May plan c v → (IsSpentIn plan v → IsFree v) → (IsSpentIn plan v → g.mine ≡ [])
    → IsSpentIn plan (after c n v) → (marked c seat h g).mine ≡ []
silent_call plan (call.Answer said took) n v seat h g may free was spent = absurd (some_not_none may.busy (free (spent_before plan (call.Answer said took) n v spent)))
silent_call plan (call.Begin op) n v seat h g may free was spent = was (spent_before plan (call.Begin op) n v spent)
silent_call plan c n v seat h g may free was spent = was (spent_before plan c n v spent)

-- the call that a pass answers is one of the history up to its answer, which it began no earlier than it began last
module _ (plan : TablePlan) (s : TableState) (h : IsReached plan s) (id : ℕ) (v : View) (here : get_elem? s.views id ≡ some v) where
  abbrev past : List Event
  past = history_of h.turns

  abbrev pub ends_call : (said : Reply) (took : Option ℕ) (op : Op) → Does v op → (g : Sight) → HasSeen past id g → SeesEnd op said took g (marked (call.Answer said took) id past g)
  ends_call said took op does g is =
      let turns = h.turns ++ Makes id (call.Answer said took) ∷ [] in
      let b = begun_of plan h.first h.starts h.turns s h.run (length h.turns) (omega arith) id op
      (record { view = v; there = subst (λ (x : TableState). get_elem? x.views id ≡ some v) (at_end plan h.first h.turns s h.run) here; does = does }) in
      let ended : IsAnswered turns b.begin (length h.turns) op said = record {
        seat = id;
        begins = at_more h.turns (Makes id (call.Answer said took) ∷ []) b.begin (Makes id (call.Begin op)) b.begins;
        later = b.later;
        on = λ k t low high e. b.on k t low high (before k t high e);
        took = took;
        answers = behind h.turns (Makes id (call.Answer said took) ∷ []) 0 (length h.turns) (omega arith);
      } in
      let its : IsCall (past ++ Ends id said took ∷ []) b.begin (length past) op said took =
      subst (λ l. IsCall l b.begin (length past) op said took) (history_snoc h.turns (Makes id (call.Answer said took)))
      (subst (λ n. IsCall (history_of turns) b.begin n op said took) (sym (history_long h.turns)) (call_of turns b.begin (length h.turns) op said ended)) in
      record {
        seat = id;
        before = past;
        more = is.part;
        seen = refl;
        begin = b.begin;
        call = its;
        last = λ n at. no_later n (is.began n at) b.begin b.on;
        begun = refl;
        mine = ap (λ o. with_act o (length past) said took g.mine) (last_is id past b.begin op (begins_it b.begin b.begins) (λ k o late at. none_later k o b.begin b.on late at));
      }
    where
      before : (k : ℕ) (t : Turn) → k < length h.turns → get_elem? (h.turns ++ Makes id (call.Answer said took) ∷ []) k ≡ some t → get_elem? h.turns k ≡ some t
      before k t less e = sym (inside_of h.turns (Makes id (call.Answer said took) ∷ []) k less) ∙ e
        where
          inside_of : {A : Type 0} (a b : List A) (n : ℕ) → n < length a → get_elem? (a ++ b) n ≡ get_elem? a n
          inside_of [] b n less = absurd (omega arith)
          inside_of (x ∷ xs) b zero less = refl
          inside_of (x ∷ xs) b (suc n) less = inside_of xs b n (omega arith)

      begins_it : (n : ℕ) → get_elem? h.turns n ≡ some (Makes id (call.Begin op)) → get_elem? past n ≡ some (Begins id op)
      begins_it n at = at_map event_of h.turns n (Makes id (call.Begin op)) at

      none_later : (k : ℕ) (o : Op) (begin : ℕ) → KeepsOnBetween id h.turns begin (length h.turns) → begin < k → get_elem? past k ≡ some (Begins id o) → ⊥
      none_later k o begin on late at =
          let inside = at_inside past k (Begins id o) at in
          let long = history_long h.turns in
          (on k (Makes id (call.Begin o)) late (omega arith) (begin_at h.turns k id o at)).0 refl

      no_later : (n : ℕ) → BeganAt past id n → (begin : ℕ) → KeepsOnBetween id h.turns begin (length h.turns) → n ≤ begin
      no_later n began begin on = elim (cases_lt begin n) [
        | inl late ↦
            let inside = at_inside past n (Begins id began.0) began.1 in
            let long = history_long h.turns in
            absurd ((on n (Makes id (call.Begin began.0)) late (omega arith) (begin_there n began.0 began.1)).0 refl)
        | inr most ↦ most
      ]
        where
          begin_there : (n : ℕ) (op : Op) → get_elem? past n ≡ some (Begins id op) → get_elem? h.turns n ≡ some (Makes id (call.Begin op))
          begin_there n op at = begin_at h.turns n id op at

  -- the call that is answered now
  abbrev pub act_of : Reply → Option ℕ → Op → ℕ → Act
  act_of said took op begin = record { begin = begin; end = length past; op = op; said = said; took = took }

  -- what the call leaves has seen a beginning of the history, and its calls are some of it
  pub marked_seen : (c : Call) → May plan c v → (g : Sight) → HasSeen past id g → HasSeen (past ++ event_of (Makes id c) ∷ []) id (marked c id past g)
  marked_seen (call.Begin op) may g is = record {
    part = whole_part (past ++ Begins id op ∷ []);
    began = λ b at. (let same : length past ≡ b = same_Some (length past) b at in
        (op, ap (get_elem? (past ++ Begins id op ∷ [])) (sym same) ∙ behind past (Begins id op ∷ []) 0 (length past) (omega arith)));
    looks = (seen_on past (Begins id op ∷ []) id g is).looks;
    mine = λ a has. call_more past (Begins id op ∷ []) a.begin a.end a.op a.said a.took (is.mine a has);
  }
  marked_seen call.Look may g is = record {
    part = whole_part (past ++ Looks id ∷ []);
    began = (seen_on past (Looks id ∷ []) id g is).began;
    looks = λ n at. (let same : length past ≡ n = same_Some (length past) n at in
        ap (get_elem? (past ++ Looks id ∷ [])) (sym same) ∙ behind past (Looks id ∷ []) 0 (length past) (omega arith));
    mine = λ a has. call_more past (Looks id ∷ []) a.begin a.end a.op a.said a.took (is.mine a has);
  }
  marked_seen (call.Answer said took) may g is =
      let e = ends_call said took may.op may.busy g is in record {
        part = whole_part (past ++ Ends id said took ∷ []);
        began = (seen_on past (Ends id said took ∷ []) id g is).began;
        looks = (seen_on past (Ends id said took ∷ []) id g is).looks;
        mine = λ a has. elim (has_first (act_of said took may.op e.begin) g.mine a (subst (λ l. Has l a) e.mine has)) [
          | inl same ↦ subst (λ (x : Act). IsCall (past ++ Ends id said took ∷ []) x.begin x.end x.op x.said x.took) same e.call
          | inr was ↦ call_more past (Ends id said took ∷ []) a.begin a.end a.op a.said a.took (is.mine a was)
        ];
      }
  marked_seen _ may g is = seen_on past (Quiet ∷ []) id g is

  -- and each call of the history was answered by a pass
  pub made_by : (c : Call) → May plan c v → (views : List Known) (k : Known) → get_elem? views id ≡ some k → (now : Known) → now.sight ≡ marked c id past k.sight → HasSeen past id k.sight
      → AreMade past views → AreMade (past ++ event_of (Makes id c) ∷ []) (set views id now)
  made_by (call.Begin op) may views k at now is seen all =
      made_more past (Begins id op) (set views id now)
      (made_set past views id k now at (λ a has. subst (λ l. Has l a) (sym (ap (λ (g : Sight). g.mine) is)) has) all)
      (λ a at c. absurd (no_end past (Begins id op) (λ seat r took e. cc) a at c))
  made_by (call.Answer said took) may views k at now is seen all =
      let e = ends_call said took may.op may.busy k.sight seen in
      let new = act_of said took may.op e.begin in
      let its : now.sight.mine ≡ new ∷ k.sight.mine = ap (λ (g : Sight). g.mine) is ∙ e.mine in
      made_more past (Ends id said took) (set views id now)
      (made_set past views id k now at (λ a has. subst (λ l. Has l a) (sym its) (earlier a new k.sight.mine has)) all)
      (λ a last c. record {
        seat = id;
        knows = now;
        there = set_there views id now k at;
        has = subst (λ l. Has l a) (sym its)
            (subst (λ (x : Act). Has (new ∷ k.sight.mine) x) (one_call (past ++ Ends id said took ∷ []) new a e.call c (sym last)) (latest new k.sight.mine));
      })
  made_by call.Look may views k at now is seen all =
      made_more past (Looks id) (set views id now)
      (made_set past views id k now at (λ a has. subst (λ l. Has l a) (sym (ap (λ (g : Sight). g.mine) is)) has) all)
      (λ a at c. absurd (no_end past (Looks id) (λ seat r took e. cc) a at c))
  made_by _ may views k at now is seen all =
      made_quiet past (set views id now)
      (made_set past views id k now at (λ a has. subst (λ l. Has l a) (sym (ap (λ (g : Sight). g.mine) is)) has) all)

  -- what a step call lets a pass see
  pub marks_now : (c : Call) (g : Sight) → HasSeen past id g → Marks c v g (marked c id past g)
  marks_now (call.Begin op) g is = record { seat = id; before = past; more = is.part; seen = refl; begun = refl; mine = refl }
  marks_now (call.Answer said took) g is = λ op does. ends_call said took op does g is
  marks_now call.Look g is =
      record { seat = id; before = past; more = is.part; seen = refl; looked = refl; begun = refl; mine = refl }
  marks_now _ g is = refl

-- a beginning of a history is that of the first turns of the run
first_turns : (turns : List Turn) (seen rest : List Event) → history_of turns ≡ seen ++ rest → history_of (take (length seen) turns) ≡ seen
first_turns turns [] rest is = refl
first_turns [] (e ∷ es) rest is = absurd (cc)
first_turns (t ∷ ts) (e ∷ es) rest is =
    let head : event_of t ≡ e = cc in
    let tail : history_of ts ≡ es ++ rest = cc in
    (λ i. head i ∷ first_turns ts es rest tail i)

-- what a pass has seen is linearizable
pub seen_linear : (plan : TablePlan) (s : TableState) (h : IsReached plan s) (seat : ℕ) (g : Sight) → HasSeen (history_of h.turns) seat g → IsLinearizable (contents_of plan.start) g.seen
seen_linear plan s h seat g is =
    let n = length g.seen in
    subst (IsLinearizable (contents_of plan.start)) (first_turns h.turns g.seen is.part.0 is.part.1)
    (histories_are_linearizable plan h.first h.starts (take n h.turns) (state_at plan h.first h.turns s h.run n) (run_to plan h.first h.turns s h.run n)).linear

-- of what two passes have seen one is a beginning of the other
pub seen_in_line : (h : List Event) (a b : List Event) → IsPart a h → IsPart b h → IsPart a b ⊎ IsPart b a
seen_in_line h [] b one other = inl (b, refl)
seen_in_line h (x ∷ xs) [] one other = inr (x ∷ xs, refl)
seen_in_line [] (x ∷ xs) (y ∷ ys) one other = absurd (cc)
seen_in_line (z ∷ zs) (x ∷ xs) (y ∷ ys) one other =
    let same : x ≡ y = (let a : z ≡ x = cc in let b : z ≡ y = cc in sym a ∙ b) in
    elim (seen_in_line zs xs ys (one.0, cc) (other.0, cc)) [
      | inl p ↦ inl (p.0, (λ i. sym same i ∷ p.1 i))
      | inr p ↦ inr (p.0, (λ i. same i ∷ p.1 i))
    ]

-- what a pass knows that has seen all of it, and what its calls leave
pub record HasSeenTo (plan : TablePlan) (s : TableState) (v : View) (g : Sight) : Type 0 where
  pub all : HasSeenAll plan v g
  pub leaves : HasMap (own_words s) (final (contents_of plan.start) (ops_of all.linear.order))

pub seen_all : (plan : TablePlan) (s : TableState) (h : IsReached plan s) (views : List Known) → trees_of views ≡ s.views
    → AllHaveSeen (history_of h.turns) views → AreMade (history_of h.turns) views → AreSilent plan views → AreAllApart views
    → (seat : ℕ) (k : Known) → get_elem? views seat ≡ some k → HasSeenTo plan s k.tree (record k.sight { seen = history_of h.turns })
seen_all plan s h views same seen made silent apart seat k here = record {
  leaves = (lin plan h.first h.starts h.turns s h.run).leaves;
  all = record {
    linear = linear_of plan h.first h.starts h.turns s h.run;
    calls = (seen seat k here).mine;
    apart = apart.each seat k here;
    all = λ mode whole free item at.
        let there : IsAllThere s seat = all_there plan s mode h seat k.tree (ap (λ v. get_elem? v seat) (sym same) ∙ at_map (λ (x : Known). x.tree) views seat k here) whole free in
        let e = ended_only plan h.first h.starts h.turns s h.run there.free item at in
        let a : Act = record { begin = item.begin; end = e.0; op = item.op; said = item.reply; took = e.1.took } in
        let m = made a (call_of h.turns item.begin e.0 item.op item.reply e.1) in (
          e.0,
          e.1.took,
          elim (there.alone m.seat m.knows.tree (tree_of views same m.seat m.knows m.there)) [
            | inl is ↦ subst (λ (x : Known). Has x.sight.mine a) (some-injective m.knows k (sym m.there ∙ (ap (get_elem? views) is ∙ here))) m.has
            | inr none ↦ absurd (has_none _ (subst (λ l. Has l a) (silent m.seat m.knows m.there (mode, none)) m.has))
          ],
        );
  };
}
  where
    tree_of : (l : List Known) → trees_of l ≡ s.views → (j : ℕ) (u : Known) → get_elem? l j ≡ some u → get_elem? s.views j ≡ some u.tree
    tree_of l same j u at = ap (λ v. get_elem? v j) (sym same) ∙ at_map (λ (x : Known). x.tree) l j u at
