use Rattle.std.specs.Prelude.{◌≡◌, ℕ, ◌≤◌, ◌<◌, List, length, slice_get}
use Rattle.ell_word.specs.Node.{greatest_card}
use Rattle.ell_core.specs.state.Machine.{WorkerView}
use Rattle.ell_core.specs.declared.event.Event.{Event}
use Rattle.ell_core.specs.declared.event.CoreFault.{CoreFault}
use Rattle.ell_core.specs.declared.event.CoreFault.TheVariants.{NoSuchWorker}
use Rattle.ell_layout.specs.Layout.{table_size}
use Rattle.ell_layout.specs.Words.{words_of}
use Rattle.ell_core.specs.state.Machine.{Machine, scene, worker_or_nobody}
use Rattle.ell_core.specs.acts.Events.{TurnRefused}
use Rattle.ell_core.specs.history.Invariant.{HasInvariant}

-- the list of all words, the workers, and the number of the last card
pub record WorldValue : Type 0 where
  pub words : List ℕ
  pub workers : List WorkerView
  pub last_card : ℕ

-- the machine that a world is
unfoldable pub machine_of : WorldValue → Machine
machine_of w = record {
  words = words_of w.words;
  count = length w.workers;
  last_card = w.last_card;
  worker = λ i. worker_or_nobody (slice_get w.workers i);
}

-- what is so of every world: also that its tree is not flat, and that the invariant of the machine holds of it
pub record WorldFits (w : WorldValue) : Type 0 where
  pub size : length w.words ≡ table_size w.last_card
  pub limit : w.last_card ≤ greatest_card
  pub plain : (words_of w.words).flat_from ≡ 0
  pub lawful : HasInvariant (machine_of w)

-- a step is refused as the event is, or for want of memory
abbrev pub StepRefused : Machine → Event → CoreFault → Type 0
StepRefused m e NoSuchWorker = m.count ≤ e.worker
StepRefused m e fault = (e.worker < m.count) × TurnRefused m.last_card e.act (scene m e.worker) fault
