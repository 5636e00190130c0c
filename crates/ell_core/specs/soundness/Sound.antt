use Rattle.std.specs.Prelude.{◌≡◌, ◌≢◌, ℕ, ◌<◌, ◌≤◌, ◌↔◌, ◌⊎◌, true, false, Some, None}
use Rattle.ell_ops.specs.declared.op.Op.{Op}
use Rattle.ell_ops.specs.Meaning.{key_of}
use Rattle.ell_word.specs.Node.{IsInternal, IsNode, card}
use Rattle.ell_word.specs.Word.{unpacked}
use Rattle.ell_word.specs.declared.update.State.{State}
use Rattle.ell_word.specs.declared.update.State.TheVariants as state
use Rattle.ell_core.specs.declared.fact.Fact.{Fact}
use Rattle.ell_layout.specs.Words.{Words}
use Rattle.ell_core.specs.acts.Searching.{IsClean}
use Rattle.ell_core.specs.state.Machine.{Worker, Machine, nobody}
use Rattle.ell_core.specs.tree.Tree.{OnWalk, Finds, Reached, IsTreeKey, IsTreePair, IsLawful}
use Rattle.ell_core.specs.tree.Flat.{IsInBlock}
use Rattle.ell_core.specs.soundness.Holds.{Holds, effective}
use Rattle.ell_core.specs.declared.view.Entry.TheVariants.{Present}

-- a worker owns a key
abbrev pub WorkerOwns : Worker → ℕ → Type 0
WorkerOwns v key = v.ledger key ≢ None

-- a worker may change a key: it owns it, or the key is shared
abbrev pub MayChange : Worker → ℕ → Type 0
MayChange v key = WorkerOwns v key ⊎ (v.shared key ≡ true)

-- a key is not shared
abbrev pub IsNotShared : Machine → ℕ → Type 0
IsNotShared m key = (i : ℕ) → (m.worker i).shared key ≡ false

-- some worker owns a key
pub record IsOwned (m : Machine) (key : ℕ) : Type 0 where
  pub worker : ℕ
  pub owns : WorkerOwns (m.worker worker) key

-- no key has two owners, a shared key none, each other tree key one; own keys are there as the effective ledger says
pub record LedgersAreSound (m : Machine) : Type 0 where
  pub one_owner : (i j key : ℕ) → WorkerOwns (m.worker i) key → WorkerOwns (m.worker j) key → i ≡ j
  pub apart : (i j key : ℕ) → (m.worker i).shared key ≡ true → ¬ WorkerOwns (m.worker j) key
  pub owned : (key : ℕ) → IsTreeKey m.words key → IsNotShared m key → IsOwned m key
  pub present : (i key value : ℕ) → WorkerOwns (m.worker i) key
      → IsTreePair m.words key value ↔ (effective m.words (m.worker i) key ≡ Some (Present value))

-- where a worker stands, the walk for an own key finds what the ledger has, and what is reached of it is on the root's; in a
-- flat tree, if the key is in the block of what is reached
pub record WalkIsSound (w : Words) (v : Worker) (key x : ℕ) : Type 0 where
  pub finds : WorkerOwns v key → (value : ℕ) → Finds w key value x ↔ (v.ledger key ≡ Some (Present value))
  pub joins : (y : ℕ) → OnWalk w key x y → Reached w y → IsInBlock w y key → OnWalk w key 0 y

abbrev pub WalksAreSound : Machine → Type 0
WalksAreSound m = (i : ℕ) (op : Op) (x : ℕ) → (m.worker i).operation ≡ Some op → (m.worker i).search.node ≡ Some x
    → WalkIsSound m.words (m.worker i) (key_of op) x

-- every fact that any worker knows holds of the words
abbrev pub FactsAreSound : Machine → Type 0
FactsAreSound m = (i : ℕ) (fact : Fact) → (m.worker i).knows fact ≡ true → Holds m.words fact

-- no reached node is on a card at or past the claim word, and no update word of one names such a card
pub record NamesAreSound (w : Words) : Type 0 where
  pub nodes : (x : ℕ) → Reached w x → card x < w.next
  pub numbers : (x : ℕ) → Reached w x → IsNode x
  pub updates : (x : ℕ) → Reached w x → IsInternal x → (unpacked (w.update x)).card < w.next

-- the node that a card flags or marks in a state
abbrev pub flags_at : Words → State → ℕ → ℕ
flags_at w state.DFlag c = w.gp c
flags_at w state.IFlag c = w.p c
flags_at w state.Mark c = w.p c
flags_at w state.Clean c = w.p c

-- some worker has the card in hand, flagged
pub record IsInHand (m : Machine) (c : ℕ) : Type 0 where
  pub worker : ℕ
  pub holds : (m.worker worker).card ≡ Some c
  pub flagged : (m.worker worker).flagged ≡ true

-- an update word that is not clean names a card that flags or marks just that node, and that is in hand, flagged
pub record FlagIsSound (m : Machine) (x : ℕ) : Type 0 where
  pub in_hand : IsInHand m (unpacked (m.words.update x)).card
  pub place : flags_at m.words (unpacked (m.words.update x)).state (unpacked (m.words.update x)).card ≡ x

abbrev pub FlagsAreSound : Machine → Type 0
FlagsAreSound m = (x : ℕ) → Reached m.words x → IsInternal x → ¬ IsClean (m.words.update x) → FlagIsSound m x

-- whoever is at or past the count is no worker: it owns no key, has nothing in hand and knows nothing
abbrev pub StrangersAreNobody : Machine → Type 0
StrangersAreNobody m = (i : ℕ) → m.count ≤ i → m.worker i ≡ nobody

-- a sound state
pub record IsSound (m : Machine) : Type 0 where
  pub tree : IsLawful m.words
  pub ledgers : LedgersAreSound m
  pub walks : WalksAreSound m
  pub facts : FactsAreSound m
  pub names : NamesAreSound m.words
  pub flags : FlagsAreSound m
  pub strangers : StrangersAreNobody m
