use Rattle.std.specs.Prelude.{◌≡◌, ◌≢◌, ℕ, ◌+◌, ◌<◌, ◌⊎◌, ◌||◌, true, None}
use Rattle.ell_core.specs.declared.fact.Fact.{Fact}
use Rattle.ell_layout.specs.Words.{put}
use Rattle.ell_core.specs.state.Machine.{Ledger, Worker, Machine, idle, nobody}

-- nothing is in hand
abbrev pub WorkerIsIdle : Worker → Type 0
WorkerIsIdle v = v ≡ idle v.ledger v.shared v.knows

-- two ledgers are disjoint, and together this one: each of its entries stands in one of them
abbrev pub AreParted : Ledger → Ledger → Ledger → Type 0
AreParted whole left right = (key : ℕ) →
    ((left key ≡ whole key) × (right key ≡ None)) ⊎ ((left key ≡ None) × (right key ≡ whole key))

-- a worker knows nothing that another did not
abbrev pub KnowsNoMore : Worker → Worker → Type 0
KnowsNoMore new old = (fact : Fact) → new.knows fact ≡ true → old.knows fact ≡ true

-- a split of worker i: the left part takes its place, the right one comes to the end
pub record Split (m : Machine) (i : ℕ) (after : Machine) : Type 0 where
  pub there : i < m.count
  pub free : WorkerIsIdle (m.worker i)
  pub left : Worker
  pub right : Worker
  pub left_free : WorkerIsIdle left
  pub right_free : WorkerIsIdle right
  pub ledgers : AreParted (m.worker i).ledger left.ledger right.ledger
  pub left_shares : left.shared ≡ (m.worker i).shared
  pub right_shares : right.shared ≡ (m.worker i).shared
  pub left_knows : KnowsNoMore left (m.worker i)
  pub right_knows : KnowsNoMore right (m.worker i)
  pub gives : after ≡ record m { worker = put (put m.worker i left) m.count right; count = m.count + 1 }

-- a join of workers i and j: both parts take the place of i, and nobody is left at that of j
pub record Join (m : Machine) (i j : ℕ) (after : Machine) : Type 0 where
  pub left_there : i < m.count
  pub right_there : j < m.count
  pub apart : i ≢ j
  pub left_free : WorkerIsIdle (m.worker i)
  pub right_free : WorkerIsIdle (m.worker j)
  pub both : Worker
  pub both_free : WorkerIsIdle both
  pub ledgers : AreParted both.ledger (m.worker i).ledger (m.worker j).ledger
  pub shares : (key : ℕ) → both.shared key ≡ ((m.worker i).shared key || (m.worker j).shared key)
  pub knows : (fact : Fact) → both.knows fact ≡ true → ((m.worker i).knows fact ≡ true)
      ⊎ ((m.worker j).knows fact ≡ true)
  pub gives : after ≡ record m { worker = put (put m.worker i both) j nobody }
