use Rattle.std.specs.Prelude.{◌≡◌, ℕ, ◌≤◌, ◌⊎◌, false, Option, Some, None, Result, IfOk, IfErr, OnErr, List, length, map, slice_get}
use Rattle.ell_word.specs.Node.{greatest_card}
use Rattle.ell_world.specs.declared.memory.Memory.{Memory}
use Rattle.ell_world.specs.declared.worker.Worker.{Worker}
use Rattle.ell_core.specs.state.Machine.{WorkerView}
use Rattle.ell_core.specs.declared.fact.Fact.{Fact}
use Rattle.ell_core.specs.declared.event.Act.{Act}
use Rattle.ell_core.specs.declared.event.Stepped.{Stepped}
use Rattle.ell_core.specs.declared.event.CoreFault.{CoreFault}
use Rattle.ell_core.specs.state.Facts.{Knowledge}
use Rattle.ell_layout.specs.Layout.{table_size}
use Rattle.ell_layout.specs.Words.{Words, words_of}
use Rattle.ell_core.specs.state.Machine as machine
use Rattle.ell_core.specs.state.Machine.{Scene, worker_of, worker_or_nobody}
use Rattle.ell_world.specs.Fits.{SceneFits}
use Rattle.ell_core.specs.acts.Events.{Happens, TurnRefused}

-- the machine's words
abbrev pub words_in : {A : Type 0} → Memory A → Words
words_in memory = words_of memory.words.items

-- the list has as many words as its cards need
pub record IsSized {A : Type 0} (memory : Memory A) : Type 0 where
  pub size : length memory.words.items ≡ table_size memory.last_card
  pub limit : memory.last_card ≤ greatest_card

-- as many words and cards as before
pub record SameSize {A : Type 0} (old new : Memory A) : Type 0 where
  pub size : length new.words.items ≡ length old.words.items
  pub cards : new.last_card ≡ old.last_card

-- a worker as contracts see it
abbrev pub view_of : {A : Type 0} → Worker A → WorkerView
view_of v = record {
  ledger = v.ledger.entries;
  shared = None;
  operation = v.operation;
  search = v.search;
  card = v.card;
  flagged = v.flagged;
  knows = v.facts.keys;
}

-- the machine's worker
abbrev pub worker_in : {A : Type 0} → Worker A → machine.Worker
worker_in v = worker_of (view_of v)

-- the machine's worker at a number, or nobody
abbrev pub worker_at : {A : Type 0} → List (Worker A) → ℕ → machine.Worker
worker_at workers i = worker_or_nobody (slice_get (map view_of workers) i)

-- what an event sees and may change
abbrev pub scene_in : {A : Type 0} → Memory A → Worker A → Scene
scene_in memory worker = record { words = words_in memory; worker = worker_in worker }

-- an event can look at these words, whose tree is not flat, and this worker
pub record IsReady {A : Type 0} (memory : Memory A) (worker : Worker A) : Type 0 where
  pub sized : IsSized memory
  pub plain : (words_in memory).flat_from ≡ 0
  pub fits : SceneFits memory.last_card (scene_in memory worker)

-- a fact that the knowledge lacks
abbrev pub LacksAny : Knowledge → Option Fact → Type 0
LacksAny known None = ⊥
LacksAny known (Some fact) = known fact ≡ false

-- one of two facts that the knowledge lacks
abbrev pub LacksEither : Knowledge → Fact → Option Fact → Type 0
LacksEither known fact other = (known fact ≡ false) ⊎ LacksAny known other

-- an act is answered, of the words and worker before and after
abbrev pub Answered : {A : Type 0} → Act → Memory A → Worker A → Memory A → Worker A → Stepped → Type 0
Answered a memory worker memory' worker' said =
    Happens memory.last_card a (scene_in memory worker) said (scene_in memory' worker')

-- an act is refused, of the words and worker before
abbrev pub RefusedAt : {A : Type 0} → Act → Memory A → Worker A → CoreFault → Type 0
RefusedAt a memory worker fault = TurnRefused memory.last_card a (scene_in memory worker) fault

-- a worker takes the turn of an act, of the words and worker before and after: the act is answered, or it is refused
-- and the worker and the words are as they were
pub record TakesTurn {A : Type 0} (a : Act) (memory : Memory A) (worker : Worker A) (memory' : Memory A)
    (worker' : Worker A) (result : Result Stepped CoreFault) : Type 0 where
  pub done : IfOk result (Answered a memory worker memory' worker')
  pub refused : IfErr result (RefusedAt a memory worker)
  pub unchanged : OnErr result (view_of worker' ≡ view_of worker)
  pub words : OnErr result (memory' ≡ memory)
  pub same : SameSize memory memory'
