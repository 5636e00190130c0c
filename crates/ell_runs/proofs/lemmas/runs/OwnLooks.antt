use Rattle.std.proofs.Common.{◌≡◌, ◌≢◌, ℕ, suc, zero, Option, Some, None, List, [], ◌∷◌, take, drop, refl, sym, ap, ◌∙◌, subst}
use mathlib.Core.Option.{some, some-injective}
use lib.ListN.{get_elem?}
use Rattle.ell_core.specs.declared.view.Entry.{Entry}
use Rattle.ell_core.specs.declared.view.Entry.TheVariants.{Present, Absent}
use Rattle.ell_core.specs.state.Machine.{ledger_of}
use Rattle.ell_core.specs.statements.Effects.{value_in, contents_in}
use Rattle.ell_runs.specs.Plans.{TablePlan}
use Rattle.ell_runs.specs.declared.call.Call.TheVariants as call
use Rattle.ell_runs.specs.declared.view.View.{View}
use Rattle.ell_runs.specs.States.{TableState}
use Rattle.ell_runs.specs.Machines.{HasMachine}
use Rattle.ell_runs.specs.TurnEffects.{own_words}
use Rattle.ell_runs.specs.Turns.{Turn, Makes, Splits, Joins, view_after}
use Rattle.ell_runs.specs.Looking.{HasThere, LooksOn, FoundInRun, LooksReadTheirOwn}
use Rattle.ell_runs.proofs.lemmas.seats.Seats.{set_there}
use Rattle.ell_runs.proofs.lemmas.own_words.OwnLedgers.{ledgers_tell_the_tree}
use Rattle.ell_runs.proofs.lemmas.runs.Starting.{starts_are_kept}
use Rattle.ell_runs.specs.Starts.{IsReached}
use Rattle.ell_runs.proofs.lemmas.runs.Beginnings.{look_there, missing_in_one_state}
use Rattle.ell_runs.proofs.lemmas.runs.OwnSeat.{run_free}
use Rattle.ell_runs.proofs.lemmas.runs.TurnsOfRuns.{runs_are_lawful}

-- the first turns of those
looks_first : (seat : ℕ) (n : ℕ) (turns : List Turn) → LooksOn seat turns → LooksOn seat (take n turns)
looks_first seat zero turns on = tt
looks_first seat (suc n) [] on = tt
looks_first seat (suc n) (Makes other c ∷ ts) on = (on.0, looks_first seat n ts on.1)
looks_first seat (suc n) (Splits other left ∷ ts) on = (on.0, looks_first seat n ts on.1)
looks_first seat (suc n) (Joins one other ∷ ts) on = (on.0, on.1, looks_first seat n ts on.2)

-- what the tree has of a key of a pass with nothing in hand is what its ledger has
by_ledger : (plan : TablePlan) (s : TableState) → HasMachine plan s → (seat : ℕ) (v : View) → get_elem? s.views seat ≡ some v
    → v.worker.operation ≡ None → (key : ℕ) (there : Option ℕ) → ledger_of v.worker.ledger key ≢ None → HasThere key there (own_words s)
    → there ≡ contents_in (ledger_of v.worker.ledger) key
unfolding HasThere
by_ledger plan s r seat v at free key (Some value) owns so =
    sym (ap value_in ((ledgers_tell_the_tree plan s r seat v at free key value owns).0 so))
by_ledger plan s r seat v at free key None owns so = by (ledger_of v.worker.ledger key) refl
  where
    by : (o : Option Entry) → ledger_of v.worker.ledger key ≡ o → None ≡ value_in o
    by None e = refl
    by (Some Absent) e = refl
    by (Some (Present value)) e =
        absurd (so (value, (ledgers_tell_the_tree plan s r seat v at free key value owns).1 e))

-- so what a look has found of a key of the pass's own is what the pass has: from the beginning of its look on it has its ledger, and
-- in the state that the look is of it has the tree's part of it
own_found : (plan : TablePlan) (s : TableState) (h : IsReached plan s) (seat : ℕ) (v : View) → get_elem? s.views seat ≡ some v
    → (key : ℕ) (there : Option ℕ) → FoundInRun plan h.first h.turns s seat (HasThere key there) → ledger_of v.worker.ledger key ≢ None
    → there ≡ contents_in (ledger_of v.worker.ledger) key
own_found plan s h seat v at key there f owns =
    let first = (starts_are_kept plan h.first h.starts).kept in
    let b = f.began in
    let so = f.so in
    let begun = view_after b.from b.call.view call.Look in
    let begun_there : get_elem? b.to.views seat ≡ some begun =
    ap (λ (t : TableState). get_elem? t.views seat) b.call.gives ∙ set_there b.from.views seat begun b.call.view b.call.there in
    let turns = drop (suc b.first) h.turns in
    let mid = run_free plan b.to seat begun begun_there b.call.may (take so.amid.first turns) so.state so.amid.before (looks_first seat so.amid.first turns b.on) in
    let end = run_free plan b.to seat begun begun_there b.call.may turns s b.after b.on in
    let same = ap (λ (u : View). u.worker.ledger) (some-injective end.view v (sym end.there ∙ at)) in
    let ledger : mid.view.worker.ledger ≡ v.worker.ledger = mid.still.ledger ∙ (sym end.still.ledger ∙ same) in
    let from = (runs_are_lawful plan h.first first (take b.first h.turns) b.from b.before).kept in
    let kept = (runs_are_lawful plan b.from from (Makes seat call.Look ∷ take so.amid.first turns) so.state (b.to, b.call, so.amid.before)).kept in
    by_ledger plan so.state kept seat mid.view mid.there mid.still.free key there
    (subst (λ l. ledger_of l key ≢ None) (sym ledger) owns) so.so
    ∙ ap (λ l. contents_in (ledger_of l) key) ledger

-- a pass reads its own changes
pub looks_read_their_own : LooksReadTheirOwn
looks_read_their_own plan s h seat v at = (
  λ key there found owns. own_found plan s h seat v at key there (look_there plan v key there found h.first h.starts h.turns s h.run seat at) owns,
  λ key missed owns. own_found plan s h seat v at key None (missing_in_one_state plan v key missed h.first h.starts h.turns s h.run seat at) owns,
)
