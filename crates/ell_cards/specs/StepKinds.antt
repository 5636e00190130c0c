use Rattle.std.specs.Prelude.{◌≡◌, ℕ, true, ◌∷◌}
use Rattle.ell_core.specs.declared.exchange.Exchange.{Exchange}
use Rattle.ell_runs.specs.declared.call.Call.{Call}
use Rattle.ell_runs.specs.declared.call.Call.TheVariants as call
use Rattle.ell_runs.specs.declared.view.View.{View}
use Rattle.ell_runs.specs.Calls.{after, atomic_of, is_won}
use Rattle.ell_runs.specs.Calls as atomic
use Rattle.ell_cards.specs.declared.gate.StepKind.{StepKind}
use Rattle.ell_cards.specs.declared.gate.StepKind.TheVariants as step

-- a step call that takes an operation in hand, starts its search anew, gives it up or answers it
abbrev pub NotesOperation : Call → Type 0
NotesOperation (call.Begin op) = Unit {0}
NotesOperation call.Again = Unit {0}
NotesOperation call.Leave = Unit {0}
NotesOperation (call.Answer said took) = Unit {0}
NotesOperation _ = ⊥

-- a step call is this exchange for a card: where it is won, this is what the pass won last
pub record IsExchange (c : Call) (k : Exchange) : Type 0 where
  pub expected : ℕ
  pub value : ℕ
  pub does : atomic_of c ≡ atomic.Exchange expected value
  pub card : ℕ
  pub wins : (n : ℕ) (v : View) → is_won (atomic_of c) n ≡ true → (after c n v).won ≡ (k, card) ∷ v.won

-- A step call is of this kind by what it does to its word: a look reads it, a fill stores there, and an exchange puts
-- another word in place of the expected one. A call that notes something of the operation is a note; none is `Begin`.
abbrev pub IsOfKind : Call → StepKind → Type 0
IsOfKind c step.Begin = ⊥
IsOfKind c step.Note = NotesOperation c
IsOfKind c step.Look = (atomic_of c ≡ atomic.Load) × ¬ NotesOperation c
IsOfKind c step.Fill = (value : ℕ) × (atomic_of c ≡ atomic.Store value)
IsOfKind c (step.Exchange k) = IsExchange c k
