use Rattle.std.proofs.Common.{◌≡◌, ℕ, ◌<◌, ◌≤◌, ◌⊎◌, ◌==◌, if◌then◌else◌, Bool, true, false, List, [], ◌∷◌, ◌++◌, inl, inr, refl, sym, ap, ◌∙◌, subst, arith}
use Rattle.std.proofs.lemmas.Bool.{false≢true}
use Rattle.std.proofs.lemmas.List.{append-nil}
use mathlib.Core.Option.{some, some-injective}
use lib.ListN.{get_elem?}
use Rattle.ell_word.specs.Word.{unpacked}
use Rattle.ell_word.specs.declared.update.Update.{Update}
use Rattle.ell_core.specs.declared.exchange.Exchange.{Exchange}
use Rattle.ell_core.specs.declared.fact.Fact.TheVariants as fact
use Rattle.ell_core.specs.state.Machine.{Worker}
use Rattle.ell_core.specs.history.Stages.{Stage, Stages, is_backed}
use Rattle.ell_core.specs.history.Invariant.{Invariant}
use Rattle.ell_core.specs.history.Later.{wins_of}
use Rattle.ell_core.proofs.lemmas.keeping.claim.Taking.{hand_discarded}
use Rattle.ell_core.proofs.lemmas.stages.Sums.{backs, child_changes, sum_by, sum_append, backed-sum, sum-backed}
use Rattle.ell_runs.specs.Plans.{TablePlan, flat_from}
use Rattle.ell_runs.specs.declared.call.Call.{Call}
use Rattle.ell_runs.specs.declared.call.Call.TheVariants as call
use Rattle.ell_runs.specs.declared.view.View.{View}
use Rattle.ell_runs.specs.Views.{IsFree, Knows}
use Rattle.ell_runs.specs.Changes.{after_mark, is_mark_of, with_fact, unmarking}
use Rattle.ell_runs.specs.Calls.{after, May}
use Rattle.ell_runs.specs.States.{TableState}
use Rattle.ell_runs.specs.Machines.{HasMachine}
use Rattle.ell_runs.specs.Laws.{machine_of_table}
use Rattle.ell_runs.specs.Turns.{Turn, Makes, Splits, Joins, TableTurns, TableRun, found_by}
use Rattle.ell_runs.specs.Holding.{HasFlagged}
use Rattle.ell_runs.specs.TurnEffects.{turn_wins, run_wins}
use Rattle.ell_runs.specs.Meanwhile.{KeepsOn, KeepOn}
use Rattle.ell_runs.proofs.lemmas.seats.Seats.{mine_is}
use Rattle.ell_runs.proofs.lemmas.runs.GoingOn.{turn_turns, run_goes}
use Rattle.ell_runs.proofs.lemmas.runs.OwnSeat.{turn_seat, call_free}
use Rattle.ell_runs.proofs.lemmas.runs.Searched.{first_keeps}

-- a pass with nothing in hand has nothing in hand after a call that takes no operation in hand
keeps_free : (plan : TablePlan) (c : Call) (n : ℕ) (v : View) → KeepsOn c → May plan c v → IsFree v → IsFree (after c n v)
keeps_free plan (call.Begin op) n v keeps may free = absurd keeps
keeps_free plan call.Look n v keeps may free = free
keeps_free plan call.Rest n v keeps may free = refl
keeps_free plan c n v keeps may free = (call_free plan c n v keeps may free).free

-- nor after a run in which it takes none
pub free_on : (plan : TablePlan) (seat : ℕ) (s : TableState) (v : View) → get_elem? s.views seat ≡ some v → IsFree v → (turns : List Turn) (s' : TableState)
    → TableRun plan s turns s' → KeepOn seat turns → (w : View) → get_elem? s'.views seat ≡ some w → IsFree w
free_on plan seat s v there free [] s' run on w there' =
    subst IsFree (some-injective v w (sym there ∙ (ap (λ (t : TableState). get_elem? t.views seat) (sym run) ∙ there'))) free
free_on plan seat s v there free (t ∷ ts) s' run on w there' =
    let keeps = first_keeps seat t ts on in
    let goes = turn_seat KeepsOn plan s seat v there t run.0 run.1 keeps.0 in
    free_on plan seat run.0 goes.view goes.there (elim goes.made [
      | inl same ↦ subst IsFree (sym same) free
      | inr c ↦ subst IsFree (sym c.3) (keeps_free plan c.0 (found_by s c.0) v c.1 c.2 free)
    ]) ts s' run.2 keeps.1 w there'

-- a pass has a card in hand, flagged, or nothing at all
abbrev pub Settled : ℕ → View → Type 0
Settled c v = IsFree v ⊎ HasFlagged v c

mark_held : (b : Bool) (d x : ℕ) (u : Update) (v w : View) → w.worker ≡ (after_mark b d x u v).worker → (c : ℕ) → HasFlagged v c → HasFlagged w c
mark_held true d x u v w same c h = record { holds = ap (λ k. k.card) same ∙ h.holds; flagged = ap (λ k. k.flagged) same ∙ h.flagged }
mark_held false d x u v w same c h = by (is_mark_of d u.state u.card) same
  where
    by : (b : Bool) → w.worker ≡ (if b then with_fact (fact.Marked d) v else unmarking d x u v).worker → HasFlagged w c
    by true same = record { holds = ap (λ k. k.card) same ∙ h.holds; flagged = ap (λ k. k.flagged) same ∙ h.flagged }
    by false same = record { holds = ap (λ k. k.card) same ∙ h.holds; flagged = ap (λ k. k.flagged) same ∙ h.flagged }

-- a card in hand that was flagged, and is not known backed, stays there till the pass has nothing in hand
held_by : (plan : TablePlan) (c : ℕ) (y : Call) (n : ℕ) (v : View) → KeepsOn y → May plan y v → ¬ Knows v (fact.Backed c) → HasFlagged v c → Settled c (after y n v)
held_by plan c (call.Begin op) n v keeps may fresh h = absurd keeps
held_by plan c call.Again n v keeps may fresh h = absurd (fresh (may.backed c h.holds h.flagged))
held_by plan c call.Leave n v keeps may fresh h = absurd (fresh (may.backed c h.holds h.flagged))
held_by plan c (call.Answer said took) n v keeps may fresh h = inl refl
held_by plan c call.Rest n v keeps may fresh h = inl refl
held_by plan c (call.Claim d q) n v keeps may fresh h = absurd (false≢true (sym (hand_discarded (flat_from plan) v.worker c may.0.ready h.holds).1 ∙ h.flagged))
held_by plan c (call.IFlag d p from) n v keeps may fresh h = absurd (false≢true (sym may.may.unflagged ∙ h.flagged))
held_by plan c (call.DFlag d gp from) n v keeps may fresh h = absurd (false≢true (sym may.may.unflagged ∙ h.flagged))
held_by plan c (call.Mark d p was) n v keeps may fresh h = inr (mark_held (n == was) d p (unpacked n) v (after (call.Mark d p was) n v) refl c h)
held_by plan c _ n v keeps may fresh h = inr (record { holds = h.holds; flagged = h.flagged })

settled_by : (plan : TablePlan) (c : ℕ) (y : Call) (n : ℕ) (v : View) → KeepsOn y → May plan y v → ¬ Knows v (fact.Backed c) → Settled c v → Settled c (after y n v)
settled_by plan c y n v keeps may fresh h = elim h [
  | inl free ↦ inl (keeps_free plan y n v keeps may free)
  | inr held ↦ held_by plan c y n v keeps may fresh held
]

-- what a card has won of exchanges of a child, by its stage: one at most, and none if it is backed
changes_by : Stage → ℕ
changes_by s = sum_by child_changes (wins_of s)

one_change : (s : Stage) → changes_by s ≤ 1
unfolding changes_by
one_change s = grind arith

backed_none : (s : Stage) → is_backed s ≡ true → changes_by s ≡ 0
unfolding changes_by
backed_none s h = grind arith

-- a card is not backed before it has won one
not_backed : (s later : Stage) (won : List Exchange) → wins_of later ≡ wins_of s ++ won → 0 < changes_by later → ¬ (is_backed s ≡ true)
unfolding changes_by
not_backed s later won e changed back =
    let more = sum_append backs (wins_of s) won in
    let had = backed-sum s back in
    let same = ap (sum_by backs) e in
    let is = sum-backed later (omega arith) in
    let none = backed_none later is in omega arith

grows : (s later : Stage) (won : List Exchange) → wins_of later ≡ wins_of s ++ won → 0 < changes_by s → 0 < changes_by later
unfolding changes_by
grows s later won e changed =
    let more = sum_append child_changes (wins_of s) won in
    let same = ap (sum_by child_changes) e in omega arith

new_change : (s later : Stage) (won : List Exchange) → wins_of later ≡ wins_of s ++ won → sum_by child_changes won ≡ 1 → 0 < changes_by later
unfolding changes_by
new_change s later won e one =
    let more = sum_append child_changes (wins_of s) won in
    let same = ap (sum_by child_changes) e in omega arith

won_since : (s later : Stage) (a b : List Exchange) → wins_of later ≡ wins_of s ++ (a ++ b) → sum_by child_changes a ≡ 1 → 0 < changes_by later
unfolding changes_by
won_since s later a b e one =
    let first = sum_append child_changes (wins_of s) (a ++ b) in
    let both = sum_append child_changes a b in
    let same = ap (sum_by child_changes) e in omega arith

two : (s mid later : Stage) (a b d : List Exchange) → wins_of mid ≡ wins_of s ++ (a ++ b) → wins_of later ≡ wins_of mid ++ d → sum_by child_changes a ≡ 1
    → sum_by child_changes d ≡ 1 → ⊥
unfolding changes_by
two s mid later a b d e f one again =
    let first = sum_append child_changes (wins_of s) (a ++ b) in
    let both = sum_append child_changes a b in
    let last = sum_append child_changes (wins_of mid) d in
    let same = ap (sum_by child_changes) e in
    let same' = ap (sum_by child_changes) f in
    let most : sum_by child_changes (wins_of later) ≤ 1 = one_change later in omega arith

-- the first of turns in which a pass goes on
pub first_alone : (seat : ℕ) (t : Turn) (ts : List Turn) → KeepOn seat (t ∷ ts) → KeepOn seat (t ∷ [])
first_alone seat (Makes other c) ts h = (h.0, tt)
first_alone seat (Splits other left) ts h = (h.0, tt)
first_alone seat (Joins one other) ts h = (h.0, h.1, tt)

module _ (plan : TablePlan) (c : ℕ) where
  -- what a pass knows is so by the stages
  not_known : (s : TableState) (r : HasMachine plan s) (stage : Stages) → Invariant (machine_of_table plan s r) stage → (seat : ℕ) (v : View)
      → get_elem? s.views seat ≡ some v → ¬ (is_backed (stage c) ≡ true) → ¬ Knows v (fact.Backed c)
  not_known s r stage holds seat v there fresh knows =
      fresh ((holds.workers.each seat).facts (fact.Backed c) (ap (λ (u : Worker). u.knows (fact.Backed c)) (mine_is plan s r seat v there) ∙ knows))

  -- what a turn leaves of it
  settled_turn : (s : TableState) (r : HasMachine plan s) (stage : Stages) → Invariant (machine_of_table plan s r) stage → (seat : ℕ) (v : View)
      → get_elem? s.views seat ≡ some v → ¬ (is_backed (stage c) ≡ true) → Settled c v → (t : Turn) (s' : TableState) → TableTurns plan s t s' → KeepOn seat (t ∷ [])
      → (w : View) × (get_elem? s'.views seat ≡ some w) × Settled c w
  settled_turn s r stage holds seat v there fresh h t s' turn on =
      let goes = turn_seat KeepsOn plan s seat v there t s' turn (first_keeps seat t [] on).0 in (
        goes.view,
        goes.there,
        elim goes.made [
          | inl same ↦ subst (Settled c) (sym same) h
          | inr y ↦ subst (Settled c) (sym y.3) (settled_by plan c y.0 (found_by s y.0) v y.1 y.2 (not_known s r stage holds seat v there fresh) h)
        ],
      )

  -- once a card has won its exchange of a child, the pass that has it in hand keeps it till it has nothing in hand
  settled_on : (s : TableState) (r : HasMachine plan s) (stage : Stages) → Invariant (machine_of_table plan s r) stage → 0 < changes_by (stage c)
      → (seat : ℕ) (v : View) → get_elem? s.views seat ≡ some v → Settled c v → (turns : List Turn) (s' : TableState) → TableRun plan s turns s' → KeepOn seat turns
      → (w : View) → get_elem? s'.views seat ≡ some w → Settled c w
  settled_on s r stage holds changed seat v there h [] s' run on w there' =
      subst (Settled c) (some-injective v w (sym there ∙ (ap (λ (t : TableState). get_elem? t.views seat) (sym run) ∙ there'))) h
  settled_on s r stage holds changed seat v there h (t ∷ ts) s' run on w there' =
      let next = turn_turns plan s r stage holds t run.0 run.1 in
      let wins = next.1.went.wins c in
      let fresh = not_backed (stage c) (stage c) [] (sym (append-nil (wins_of (stage c)))) changed in
      let one = settled_turn s r stage holds seat v there fresh h t run.0 run.1 (first_alone seat t ts on) in
      settled_on run.0 next.0 next.1.went.stages next.1.went.invariant (grows (stage c) (next.1.went.stages c) (turn_wins s t c) wins changed)
      seat one.0 one.1 one.2 ts s' run.2 (first_keeps seat t ts on).1 w there'

  -- from the turn on in which it wins it
  pub settled_since : (s : TableState) → HasMachine plan s → (seat : ℕ) (v : View) → get_elem? s.views seat ≡ some v → HasFlagged v c
      → (t : Turn) (s1 : TableState) → TableTurns plan s t s1 → sum_by child_changes (turn_wins s t c) ≡ 1 → KeepOn seat (t ∷ [])
      → (turns : List Turn) (s' : TableState) → TableRun plan s1 turns s' → KeepOn seat turns → (w : View) → get_elem? s'.views seat ≡ some w → Settled c w
  settled_since s r seat v there h t s1 turn won keeps turns s' run on w there' =
      let next = turn_turns plan s r r.stages r.invariant t s1 turn in
      let changed = new_change (r.stages c) (next.1.went.stages c) (turn_wins s t c) (next.1.went.wins c) won in
      let one = settled_turn s r r.stages r.invariant seat v there
      (not_backed (r.stages c) (next.1.went.stages c) (turn_wins s t c) (next.1.went.wins c) changed) (inr h) t s1 turn keeps in
      settled_on s1 next.0 next.1.went.stages next.1.went.invariant changed seat one.0 one.1 one.2 turns s' run on w there'

  -- nor does any pass know it backed then
  pub not_backed_since : (s : TableState) → HasMachine plan s → (t : Turn) (s1 : TableState) → TableTurns plan s t s1
      → sum_by child_changes (turn_wins s t c) ≡ 1 → (turns : List Turn) (s' : TableState) → TableRun plan s1 turns s' → (seat : ℕ) (w : View)
      → get_elem? s'.views seat ≡ some w → ¬ Knows w (fact.Backed c)
  not_backed_since s r t s1 turn won turns s' run seat w there =
      let goes = run_goes plan s r r.stages r.invariant (t ∷ turns) s' (s1, turn, run) in
      let changed = won_since (r.stages c) (goes.1.stages c) (turn_wins s t c) (run_wins plan s1 turns s' run c) (goes.1.wins c) won in
      not_known s' goes.0 goes.1.stages goes.1.invariant seat w there (not_backed (goes.1.stages c) (goes.1.stages c) [] (sym (append-nil (wins_of (goes.1.stages c)))) changed)

  -- and no later turn wins another
  pub changed_once : (s : TableState) → HasMachine plan s → (t : Turn) (s1 : TableState) → TableTurns plan s t s1 → sum_by child_changes (turn_wins s t c) ≡ 1
      → (turns : List Turn) (s' : TableState) → TableRun plan s1 turns s' → (u : Turn) (s2 : TableState) → TableTurns plan s' u s2
      → sum_by child_changes (turn_wins s' u c) ≡ 1 → ⊥
  changed_once s r t s1 turn won turns s' run u s2 again twice =
      let goes = run_goes plan s r r.stages r.invariant (t ∷ turns) s' (s1, turn, run) in
      let more = turn_turns plan s' goes.0 goes.1.stages goes.1.invariant u s2 again in
      two (r.stages c) (goes.1.stages c) (more.1.went.stages c) (turn_wins s t c) (run_wins plan s1 turns s' run c) (turn_wins s' u c) (goes.1.wins c) (more.1.went.wins c) won twice
