use Rattle.std.proofs.Common.{◌≡◌, ℕ, ◌==◌, refl, sym, ap, ◌∙◌, subst}
use mathlib.Core.Option.{Option, some, none}
use lib.ListN.{get_elem?}
use Rattle.ell_word.specs.Word.{packed, unpacked}
use Rattle.ell_core.specs.declared.fact.Fact.TheVariants.{IFlagged, DFlagged}
use Rattle.ell_core.specs.state.Machine.{Worker, worker_of, ledger_of}
use Rattle.ell_core.specs.soundness.Holds.{effective_of, effective}
use Rattle.ell_core.specs.soundness.Sound.{WorkerOwns}
use Rattle.ell_runs.specs.declared.call.Call.TheVariants as call
use Rattle.ell_runs.specs.declared.view.View.{View}
use Rattle.ell_runs.specs.Views.{IsFree}
use Rattle.ell_runs.specs.States.{TableState, seat_worker}
use Rattle.ell_runs.specs.Turns.{found_by}
use Rattle.ell_runs.specs.TurnEffects.{own_words}
use Rattle.ell_runs.specs.OwnWords.{IsOwnedKey}
use Rattle.ell_runs.proofs.lemmas.seats.Statements.{AnswersByMachine, LedgersByMachine, OwnedByMachine}
use Rattle.ell_runs.proofs.lemmas.stepping.AllCalls.{steps_are_events}
use Rattle.ell_runs.proofs.lemmas.seats.LedgersStay.{claim_ledger, flag_ledger, mark_ledger}
use Rattle.ell_runs.proofs.lemmas.own_words.OwnWords.{own_words_are_sound}

pub table_answers_are_the_maps : AnswersByMachine
table_answers_are_the_maps plan s r id v (call.Answer said took) here may = (steps_are_events plan s r id v (call.Answer said took) here may).tells.0
table_answers_are_the_maps plan s r id v (call.Claim c q) here may = claim_ledger (found_by s (call.Claim c q) == c) c q v
table_answers_are_the_maps plan s r id v (call.IFlag c p from) here may =
    let n = found_by s (call.IFlag c p from) in flag_ledger (n == packed from) (IFlagged c) p (unpacked n) v
table_answers_are_the_maps plan s r id v (call.DFlag c gp from) here may =
    let n = found_by s (call.DFlag c gp from) in flag_ledger (n == packed from) (DFlagged c) gp (unpacked n) v
table_answers_are_the_maps plan s r id v (call.Mark c p was) here may =
    let n = found_by s (call.Mark c p was) in mark_ledger (n == was) c p (unpacked n) v
table_answers_are_the_maps plan s r id v _ here may = refl

-- a worker with nothing in hand has its ledger for its effective one
free_effective : (s : TableState) (v : View) → IsFree v → effective (own_words s) (worker_of v.worker) ≡ ledger_of v.worker.ledger
free_effective s v free = ap (λ o. effective_of (own_words s) (ledger_of v.worker.ledger) o v.worker.card v.worker.flagged) free

pub ledgers_tell_the_tree : LedgersByMachine
ledgers_tell_the_tree plan s r id v here free key value owns =
    let mine = ap seat_worker here in
    let present = (own_words_are_sound plan s r).ledgers.present id key value (subst (λ (u : Worker). WorkerOwns u key) (sym mine) owns) in
    let same = ap (λ (u : Worker). effective (own_words s) u key) mine ∙ ap (λ l. l key) (free_effective s v free) in
    (λ there. sym same ∙ present.0 there, λ is. present.1 (same ∙ is))

pub tree_keys_are_owned : OwnedByMachine
tree_keys_are_owned plan s r key unshared there =
    let owned = (own_words_are_sound plan s r).ledgers.owned key there unshared in by owned.worker (get_elem? s.views owned.worker) refl owned.owns
  where
    by : (i : ℕ) (o : Option View) → get_elem? s.views i ≡ o → WorkerOwns (seat_worker o) key → IsOwnedKey s key
    by i none e owns = absurd (owns refl)
    by i (some v) e owns = record { seat = i; view = v; there = e; owns = owns }
