-- Who wins a child exchange of a card knows it, and some pass knows it from there on.
use Rattle.std.proofs.Common.{◌≡◌, ℕ, ◌+◌, ◌<◌, ◌==◌, if◌then◌else◌, inl, inr, Bool, true, false, List, [], ◌∷◌, ◌++◌, set, refl, sym, ap, ◌∙◌, subst, arith}
use Rattle.std.proofs.lemmas.Bool.{cases_eq, ne_eqb, false≢true, or_left, or_right, or_cases}
use mathlib.Core.Option.{some, some-injective}
use lib.ListN.{get_elem?}
use Rattle.atomic_table.proofs.Lists.{set_else, at_longer}
use Rattle.ell_word.specs.Link.{linked}
use Rattle.ell_word.specs.Word.{packed, unpacked}
use Rattle.ell_word.specs.declared.update.Update.{Update}
use Rattle.ell_layout.specs.Cards.{iflag, dflag}
use Rattle.ell_core.specs.declared.exchange.Exchange.{Exchange}
use Rattle.ell_core.specs.declared.exchange.Exchange.TheVariants as exchange
use Rattle.ell_core.specs.declared.fact.Fact.{Fact}
use Rattle.ell_core.specs.declared.fact.Fact.TheVariants as fact
use Rattle.ell_core.specs.state.Facts.{known_of, same_fact}
use Rattle.ell_runs.specs.declared.call.Call.{Call}
use Rattle.ell_runs.specs.declared.call.Call.TheVariants as call
use Rattle.ell_runs.specs.declared.call.NewNode.{NewNode}
use Rattle.ell_runs.specs.declared.view.View.{View}
use Rattle.ell_runs.specs.Calls.{after}
use Rattle.ell_runs.specs.Changes.{after_claim, after_flag, after_mark, is_mark_of, with_fact, unmarking, if_won, left_view, right_view, joined_view, spent_view}
use Rattle.ell_runs.specs.Plans.{TablePlan}
use Rattle.ell_runs.specs.Views.{Knows}
use Rattle.ell_runs.specs.States.{TableState}
use Rattle.ell_runs.specs.TurnEffects.{turn_wins, run_wins}
use Rattle.ell_runs.specs.Turns.{Turn, Makes, Splits, Joins, TableTurns, TableRun, found_by}
use Rattle.ell_runs.proofs.lemmas.runs.Won.{number, one, count, times, won_by, other_kind, turn_counts, count_append}
use Rattle.ell_runs.proofs.lemmas.seats.Seats.{set_there}
use Rattle.ell_runs.proofs.lemmas.views.Facts.{knows_new, knows_more, facts_by_more}

-- what a claim, a flag and a mark, won or lost, leave of what was known
claim_knows : (b : Bool) (c : ℕ) (q : NewNode) (v : View) (f : Fact) → Knows v f → Knows (after_claim b c q v) f
claim_knows true c q v f h = h
claim_knows false c q v f h = h

flag_knows : (b : Bool) (new : Fact) (x : ℕ) (u : Update) (v : View) (f : Fact) → Knows v f → Knows (after_flag b new x u v) f
flag_knows true new x u v f h = knows_more new f v.worker.knows h
flag_knows false new x u v f h = facts_by_more u.state u.card v.worker.knows f h

mark_knows : (b : Bool) (c x : ℕ) (u : Update) (v : View) (f : Fact) → Knows v f → Knows (after_mark b c x u v) f
mark_knows true c x u v f h = knows_more (fact.Marked c) f v.worker.knows h
mark_knows false c x u v f h = by (is_mark_of c u.state u.card)
  where
    by : (b : Bool) → Knows (if b then with_fact (fact.Marked c) v else unmarking c x u v) f
    by true = knows_more (fact.Marked c) f v.worker.knows h
    by false = facts_by_more u.state u.card (fact.Unmarkable c ∷ v.worker.knows) f (knows_more (fact.Unmarkable c) f v.worker.knows h)

-- what a pass knows it knows after each call
after_knows : (c : Call) (n : ℕ) (v : View) (f : Fact) → Knows v f → Knows (after c n v) f
after_knows (call.Upd x) n v f h = facts_by_more (unpacked n).state (unpacked n).card v.worker.knows f h
after_knows (call.Claim c q) n v f h = claim_knows (n == c) c q v f h
after_knows (call.IFlag c p from) n v f h = flag_knows (n == packed from) (fact.IFlagged c) p (unpacked n) v f h
after_knows (call.IChild c p l replaces right) n v f h = knows_more (fact.IChanged c) f v.worker.knows h
after_knows (call.IUnflag c p) n v f h = knows_more (fact.IOver c) f v.worker.knows h
after_knows (call.DFlag c gp from) n v f h = flag_knows (n == packed from) (fact.DFlagged c) gp (unpacked n) v f h
after_knows (call.Mark c p was) n v f h = mark_knows (n == was) c p (unpacked n) v f h
after_knows (call.DChild c gp p y right) n v f h = knows_more (fact.Cut c) f v.worker.knows h
after_knows (call.DUnflag c gp) n v f h = knows_more (fact.DOver c) f v.worker.knows h
after_knows (call.Backtrack c gp) n v f h = knows_more (fact.Backed c) f v.worker.knows h
after_knows _ n v f h = h

-- what one list of facts has two have
known_left : (a b : List Fact) (f : Fact) → known_of a f ≡ true → known_of (a ++ b) f ≡ true
known_left [] b f h = absurd (false≢true h)
known_left (x ∷ a) b f h = elim (or_cases (same_fact f x) (known_of a f) h) [
  | inl e ↦ or_left (same_fact f x) (known_of (a ++ b) f) e
  | inr e ↦ or_right (same_fact f x) (known_of (a ++ b) f) (known_left a b f e)
]

known_right : (a b : List Fact) (f : Fact) → known_of b f ≡ true → known_of (a ++ b) f ≡ true
known_right [] b f h = h
known_right (x ∷ a) b f h = or_right (same_fact f x) (known_of (a ++ b) f) (known_right a b f h)

-- some pass of a table knows a fact
pub record IsKnown (s : TableState) (f : Fact) : Type 0 where
  pub seat : ℕ
  pub view : View
  pub there : get_elem? s.views seat ≡ some view
  pub knows : Knows view f

-- so it does where another view is in a seat that knows no less
known_on : (s : TableState) (words : List ℕ) (id : ℕ) (v w : View) → get_elem? s.views id ≡ some v → (f : Fact) → (Knows v f → Knows w f)
    → IsKnown s f → IsKnown (record { words = words; views = set s.views id w }) f
known_on s words id v w here f more h = elim (cases_eq h.seat id) [
  | inl e ↦ record {
    seat = id;
    view = w;
    there = set_there s.views id w v here;
    knows = more (subst (λ (u : View). Knows u f) (some-injective h.view v (sym h.there ∙ (ap (get_elem? s.views) e ∙ here))) h.knows);
  }
  | inr n ↦ record { seat = h.seat; view = h.view; there = set_else s.views id h.seat w n ∙ h.there; knows = h.knows }
]

module _ (plan : TablePlan) (f : Fact) where
  turn_knows : (s : TableState) (t : Turn) (s' : TableState) → TableTurns plan s t s' → IsKnown s f → IsKnown s' f
  turn_knows s (Makes id c) s' turn h =
      subst (λ (x : TableState). IsKnown x f) (sym turn.gives) (known_on s _ id turn.view (after c (found_by s c) turn.view) turn.there f
      (after_knows c (found_by s c) turn.view f) h)
  turn_knows s (Splits id chosen) s' turn h =
      let left = left_view chosen turn.view in
      let on = known_on s s.words id turn.view left turn.there f (λ x. x) h in
      subst (λ (x : TableState). IsKnown x f) (sym turn.gives) (record {
        seat = on.seat;
        view = on.view;
        there = at_longer (set s.views id left) (right_view chosen turn.view ∷ []) on.seat on.view on.there;
        knows = on.knows;
      })
  turn_knows s (Joins id other) s' turn h =
      subst (λ (x : TableState). IsKnown x f) (sym turn.gives) (joined (known_on s s.words id v both turn.there f (known_left v.worker.knows w.worker.knows f) h))
    where
      v : View
      v = turn.view

      w : View
      w = turn.view'

      both : View
      both = joined_view v w

      joined : IsKnown (record { words = s.words; views = set s.views id both }) f
          → IsKnown (record { words = s.words; views = set (set s.views id both) other spent_view }) f
      joined on = elim (cases_eq on.seat other) [
        | inl e ↦ record {
          seat = id;
          view = both;
          there = set_else (set s.views id both) other id spent_view turn.apart ∙ set_there s.views id both v turn.there;
          knows = known_right v.worker.knows w.worker.knows f (subst (λ (u : View). Knows u f)
              (some-injective on.view w (sym on.there ∙ (ap (get_elem? (set s.views id both)) e
              ∙ (set_else s.views id other both (λ same. turn.apart (sym same)) ∙ turn.there')))) on.knows);
        }
        | inr n ↦ record { seat = on.seat; view = on.view; there = set_else (set s.views id both) other on.seat spent_view n ∙ on.there; knows = on.knows }
      ]

  run_knows : (s : TableState) (turns : List Turn) (s' : TableState) → TableRun plan s turns s' → IsKnown s f → IsKnown s' f
  run_knows s [] s' run h = subst (λ (x : TableState). IsKnown x f) (sym run) h
  run_knows s (t ∷ ts) s' run h = run_knows run.0 ts s' run.2 (turn_knows s t run.0 run.1 h)

-- what is won for a card is for no other
own_kind : (b : Bool) (k : Exchange) (c d : ℕ) → 0 < times k d (if_won b k c) → d ≡ c
own_kind false k c d more = absurd (omega arith)
own_kind true k c d more = elim (cases_eq d c) [
  | inl e ↦ e
  | inr n ↦ (let none = ap (λ (b : Bool). (if b then one (number k == number k) else 0) + 0) (ne_eqb d c n) in absurd (omega arith))
]

-- a call that wins a child exchange tells of it
tells_change : (c : Call) (n : ℕ) (v : View) (d : ℕ) → 0 < times exchange.IChild d (won_by c n) → Knows (after c n v) (fact.IChanged d)
tells_change (call.IChild c p l replaces right) n v d more =
    let own = own_kind (n == linked l) exchange.IChild c d more in
    subst (λ e. Knows (after (call.IChild c p l replaces right) n v) (fact.IChanged e)) (sym own) (knows_new (fact.IChanged c) v.worker.knows)
tells_change (call.Claim c q) n v d more = let none = other_kind (n == c) exchange.Claim exchange.IChild c d refl in absurd (omega arith)
tells_change (call.IFlag c p from) n v d more = let none = other_kind (n == packed from) exchange.IFlag exchange.IChild c d refl in absurd (omega arith)
tells_change (call.IUnflag c p) n v d more = let none = other_kind (n == iflag c) exchange.IUnflag exchange.IChild c d refl in absurd (omega arith)
tells_change (call.DFlag c gp from) n v d more = let none = other_kind (n == packed from) exchange.DFlag exchange.IChild c d refl in absurd (omega arith)
tells_change (call.Mark c p was) n v d more = let none = other_kind (n == was) exchange.Mark exchange.IChild c d refl in absurd (omega arith)
tells_change (call.DChild c gp p y right) n v d more = let none = other_kind (n == linked p) exchange.DChild exchange.IChild c d refl in absurd (omega arith)
tells_change (call.DUnflag c gp) n v d more = let none = other_kind (n == dflag c) exchange.DUnflag exchange.IChild c d refl in absurd (omega arith)
tells_change (call.Backtrack c gp) n v d more = let none = other_kind (n == dflag c) exchange.Backtrack exchange.IChild c d refl in absurd (omega arith)
tells_change _ n v d more = absurd (omega arith)

tells_cut : (c : Call) (n : ℕ) (v : View) (d : ℕ) → 0 < times exchange.DChild d (won_by c n) → Knows (after c n v) (fact.Cut d)
tells_cut (call.DChild c gp p y right) n v d more =
    let own = own_kind (n == linked p) exchange.DChild c d more in
    subst (λ e. Knows (after (call.DChild c gp p y right) n v) (fact.Cut e)) (sym own) (knows_new (fact.Cut c) v.worker.knows)
tells_cut (call.Claim c q) n v d more = let none = other_kind (n == c) exchange.Claim exchange.DChild c d refl in absurd (omega arith)
tells_cut (call.IFlag c p from) n v d more = let none = other_kind (n == packed from) exchange.IFlag exchange.DChild c d refl in absurd (omega arith)
tells_cut (call.IChild c p l replaces right) n v d more = let none = other_kind (n == linked l) exchange.IChild exchange.DChild c d refl in absurd (omega arith)
tells_cut (call.IUnflag c p) n v d more = let none = other_kind (n == iflag c) exchange.IUnflag exchange.DChild c d refl in absurd (omega arith)
tells_cut (call.DFlag c gp from) n v d more = let none = other_kind (n == packed from) exchange.DFlag exchange.DChild c d refl in absurd (omega arith)
tells_cut (call.Mark c p was) n v d more = let none = other_kind (n == was) exchange.Mark exchange.DChild c d refl in absurd (omega arith)
tells_cut (call.DUnflag c gp) n v d more = let none = other_kind (n == dflag c) exchange.DUnflag exchange.DChild c d refl in absurd (omega arith)
tells_cut (call.Backtrack c gp) n v d more = let none = other_kind (n == dflag c) exchange.Backtrack exchange.DChild c d refl in absurd (omega arith)
tells_cut _ n v d more = absurd (omega arith)

-- of a kind of exchange that tells a fact of its card
module _ (k : Exchange) (kind : 0 < number k) (told : ℕ → Fact)
    (tells : (c : Call) (n : ℕ) (v : View) (d : ℕ) → 0 < times k d (won_by c n) → Knows (after c n v) (told d)) (plan : TablePlan) (d : ℕ) where
  turn_tells : (s : TableState) (t : Turn) (s' : TableState) → TableTurns plan s t s' → 0 < count k (turn_wins s t d) → IsKnown s' (told d)
  turn_tells s (Makes id c) s' turn more =
      let same = turn_counts k kind s (Makes id c) d in
      subst (λ (x : TableState). IsKnown x (told d)) (sym turn.gives) (record {
        seat = id;
        view = after c (found_by s c) turn.view;
        there = set_there s.views id (after c (found_by s c) turn.view) turn.view turn.there;
        knows = tells c (found_by s c) turn.view d (omega arith);
      })
  turn_tells s (Splits id chosen) s' turn more = absurd (omega arith)
  turn_tells s (Joins id other) s' turn more = absurd (omega arith)

  pub run_tells : (s : TableState) (turns : List Turn) (s' : TableState) (run : TableRun plan s turns s') → 0 < count k (run_wins plan s turns s' run d)
      → IsKnown s' (told d)
  run_tells s [] s' run more = absurd (omega arith)
  run_tells s (t ∷ ts) s' run more = elim (cases_eq (count k (turn_wins s t d)) 0) [
    | inl none ↦
        let parts = count_append k (turn_wins s t d) (run_wins plan run.0 ts s' run.2 d) in
        run_tells run.0 ts s' run.2 (omega arith)
    | inr other ↦ run_knows plan (told d) run.0 ts s' run.2 (turn_tells s t run.0 run.1 (omega (arith, other)))
  ]

-- so where a run has won a child exchange of a card
pub changes_are_known : (plan : TablePlan) (d : ℕ) (s : TableState) (turns : List Turn) (s' : TableState) (run : TableRun plan s turns s')
    → 0 < count exchange.IChild (run_wins plan s turns s' run d) → IsKnown s' (fact.IChanged d)
changes_are_known plan d = run_tells exchange.IChild (omega arith) (λ c. fact.IChanged c) tells_change plan d

pub cuts_are_known : (plan : TablePlan) (d : ℕ) (s : TableState) (turns : List Turn) (s' : TableState) (run : TableRun plan s turns s')
    → 0 < count exchange.DChild (run_wins plan s turns s' run d) → IsKnown s' (fact.Cut d)
cuts_are_known plan d = run_tells exchange.DChild (omega arith) (λ c. fact.Cut c) tells_cut plan d
