use Rattle.std.specs.Prelude.{ℕ, ◌==◌, Bool, false, Option, Some, None, List, nat_le, ◌&&◌, not}
use Rattle.std.specs.Map.{lookup}
use Rattle.ell_core.specs.declared.view.Search.{Search}
use Rattle.ell_core.specs.declared.view.WorkerOf.{WorkerOf}
use Rattle.ell_core.specs.declared.fact.Fact.{Fact}
use Rattle.ell_layout.specs.Words.{Words, put}
use Rattle.ell_core.specs.state.Facts.{Knowledge, known_of}
use Rattle.ell_core.specs.declared.view.Entry.{Entry}
use Rattle.ell_core.specs.declared.view.Entry.TheVariants.{Present, Absent}
use Rattle.ell_ops.specs.KeySet.{set_of}
use Rattle.ell_ops.specs.Meaning.{greatest_key}

-- which keys a worker owns: none says not owned, and else whether it is absent, or present with which value
abbrev pub Ledger : Type 0
Ledger = ℕ → Option Entry

-- present with a value, if there is one
abbrev pub entry_of : Option ℕ → Entry
entry_of (Some value) = Present value
entry_of None = Absent

-- a worker of the machine, whose ledger, shared keys and knowledge are functions
abbrev pub Worker : Type 0
Worker = WorkerOf Ledger (ℕ → Bool) Knowledge

-- a worker of a view, where they are lists
abbrev pub WorkerView : Type 0
WorkerView = WorkerOf (List (ℕ × Entry)) (Option (List ℕ)) (List Fact)

-- the words, the workers by their numbers and how many they are, and the number of the last card
pub record Machine : Type 0 where
  pub words : Words
  pub worker : ℕ → Worker
  pub count : ℕ
  pub last_card : ℕ

-- what one event sees and may change: the words, and its own worker
pub record Scene : Type 0 where
  pub words : Words
  pub worker : Worker

abbrev pub scene : Machine → ℕ → Scene
scene m i = record { words = m.words; worker = m.worker i }

-- the machine after an event of worker i
abbrev pub with_scene : Machine → ℕ → Scene → Machine
with_scene m i s = record m { words = s.words; worker = put m.worker i s.worker }

-- a search that stands nowhere and has seen nothing
abbrev pub no_search : Search
no_search = record { node = None; read = None; parent = None; grandparent = None }

-- a worker that has nothing in hand, of this ledger, these shared keys and this knowledge
abbrev pub idle : {L S K : Type 0} → L → S → K → WorkerOf L S K
idle l s k =
    record { ledger = l; shared = s; operation = None; search = no_search; card = None; flagged = false; knows = k }

-- the worker at a number where there is none: no key, nothing in hand, no knowledge
abbrev pub nobody : Worker
nobody = idle (λ _. None) (λ _. false) (λ _. false)

-- the ledger that a list of keys is
abbrev pub ledger_of : List (ℕ × Entry) → Ledger
ledger_of entries = λ key. lookup (λ k. key == k) entries

-- the shared keys: where these keys may have an owner, each other real one
abbrev pub shared_of : Option (List ℕ) → ℕ → Bool
shared_of None key = false
shared_of (Some keys) key = nat_le key greatest_key && not (set_of keys key)

-- the worker that a view is
abbrev pub worker_of : WorkerView → Worker
worker_of v = record (idle (ledger_of v.ledger) (shared_of v.shared) (known_of v.knows)) {
  operation = v.operation;
  search = v.search;
  card = v.card;
  flagged = v.flagged;
}

abbrev pub worker_or_nobody : Option WorkerView → Worker
worker_or_nobody None = nobody
worker_or_nobody (Some v) = worker_of v
