use Rattle.std.proofs.Common.{◌≡◌, ◌≢◌, ℕ, true, inl, inr, sym, ap, ◌∙◌, subst}
use Rattle.std.proofs.lemmas.Bool.{cases_eq}
use Rattle.ell_core.specs.declared.event.Event.{Event}
use Rattle.ell_core.specs.declared.event.Stepped.{Stepped}
use Rattle.ell_core.specs.declared.event.Stepped.TheVariants.{Moved, Won, Lost, Answered}
use Rattle.ell_core.specs.declared.fact.Fact.{Fact}
use Rattle.ell_layout.specs.Words.{put}
use Rattle.ell_core.specs.state.Machine.{Worker, Machine, Scene, scene, with_scene}
use Rattle.ell_core.specs.acts.Searching.{Answer}
use Rattle.ell_core.specs.acts.Events.{Steps}
use Rattle.ell_core.specs.statements.Effects.{AnswersAsMap, LedgersChange, KnowledgeLasts}
use Rattle.ell_layout.proofs.lemmas.Writes.{put_same, put_other}
use Rattle.ell_core.proofs.lemmas.following.RowLedgers.{LedgerChanges, row_knows, row_ledger}

-- no worker knows less where one changes that knows no less
one_knows : (m : Machine) (i : ℕ) (s : Scene) → ((fact : Fact) → (m.worker i).knows fact ≡ true → s.worker.knows fact ≡ true)
    → KnowledgeLasts m (with_scene m i s)
one_knows m i s h j fact known = elim (cases_eq j i) [
  | inl e ↦ ap (λ (v : Worker). v.knows fact) (ap (put m.worker i s.worker) e ∙ put_same m.worker i s.worker)
      ∙ h fact (subst (λ n. (m.worker n).knows fact ≡ true) e known)
  | inr n ↦ ap (λ (v : Worker). v.knows fact) (put_other m.worker i s.worker j n) ∙ known
]

-- no event makes a worker know less
pub steps_know : (m : Machine) (e : Event) (said : Stepped) (m' : Machine) → Steps m e said m' → KnowledgeLasts m m'
steps_know m e said m' h = subst (KnowledgeLasts m) (sym h.gives)
    (one_knows m e.worker h.becomes (row_knows e.act (scene m e.worker) said h.becomes h.happens.row))

-- the ledger of the worker whose scene it was
ledger_here : (m : Machine) (i : ℕ) (s : Scene) → ((with_scene m i s).worker i).ledger ≡ s.worker.ledger
ledger_here m i s = ap (λ (v : Worker). v.ledger) (put_same m.worker i s.worker)

-- the ledger of any other worker
ledger_there : (m : Machine) (i : ℕ) (s : Scene) (j : ℕ) → j ≢ i → ((with_scene m i s).worker j).ledger ≡ (m.worker j).ledger
ledger_there m i s j n = ap (λ (v : Worker). v.ledger) (put_other m.worker i s.worker j n)

-- every ledger stays where that of the worker does
ledgers_stay : (m : Machine) (i : ℕ) (s : Scene) → s.worker.ledger ≡ (m.worker i).ledger → (j : ℕ)
    → ((with_scene m i s).worker j).ledger ≡ (m.worker j).ledger
ledgers_stay m i s h j = elim (cases_eq j i) [
  | inl e ↦ ap (λ n. ((with_scene m i s).worker n).ledger) e ∙ (ledger_here m i s ∙ (h ∙ ap (λ n. (m.worker n).ledger) (sym e)))
  | inr n ↦ ledger_there m i s j n
]

-- the ledgers change as that of the worker does
ledgers_change : (m : Machine) (i : ℕ) (said : Stepped) (s : Scene) → LedgerChanges (scene m i) said s → LedgersChange m i said (with_scene m i s)
ledgers_change m i Moved s h = ledgers_stay m i s h
ledgers_change m i Won s h = ledgers_stay m i s h
ledgers_change m i Lost s h = ledgers_stay m i s h
ledgers_change m i (Answered reply) s h = (
  subst (λ ledger. AnswersAsMap (m.worker i) ledger reply) (sym (ledger_here m i s)) h,
  ledger_there m i s,
)

-- an event changes the ledgers by its answer
pub steps_ledgers : (m : Machine) (e : Event) (said : Stepped) (m' : Machine)
    → ((s : Stepped) (after : Scene) → Answer (scene m e.worker) s after → LedgerChanges (scene m e.worker) s after)
    → Steps m e said m' → LedgersChange m e.worker said m'
steps_ledgers m e said m' answers h = subst (LedgersChange m e.worker said) (sym h.gives)
    (ledgers_change m e.worker said h.becomes (row_ledger e.act (scene m e.worker) said h.becomes answers h.happens.row))
