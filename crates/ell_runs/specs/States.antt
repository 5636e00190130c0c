use Rattle.std.specs.Prelude.{ℕ, List, length}
use mathlib.Core.Option.{Option, some, none}
use lib.ListN.{get_elem?}
use Rattle.ell_layout.specs.Words.{Words}
use Rattle.ell_core.specs.state.Machine.{Worker, Machine, nobody, worker_of}
use Rattle.ell_runs.specs.declared.view.View.{View}

-- the state of a table: its words, and what each pass knows
pub record TableState : Type 0 where
  pub words : List ℕ
  pub views : List View

-- the worker that a seat is, or nobody
abbrev pub seat_worker : Option View → Worker
seat_worker none = nobody
seat_worker (some v) = worker_of v.worker

-- the machine of these words and views
abbrev pub seated : Words → List View → ℕ → Machine
seated w views last =
    record { words = w; worker = λ i. seat_worker (get_elem? views i); count = length views; last_card = last }
