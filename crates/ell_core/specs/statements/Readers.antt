use Rattle.std.specs.Prelude.{◌≡◌, ◌≢◌, ℕ, ◌+◌, ◌<◌, ◌≤◌, Bool, true, false, List, ◌++◌, min, max}
use Rattle.ell_ops.specs.Meaning.{greatest_key}
use Rattle.ell_word.specs.Node.{IsInternal, card}
use Rattle.ell_core.specs.declared.event.Event.{Event}
use Rattle.ell_core.specs.declared.event.Shown.{Shown}
use Rattle.ell_block.specs.Blocks.{Block, middle_of, half_from, half_end}
use Rattle.ell_layout.specs.Words.{Words, IsLeaf, has_block}
use Rattle.ell_core.specs.state.Machine.{Machine}
use Rattle.ell_core.specs.acts.Runs.{Run}
use Rattle.ell_core.specs.tree.Tree.{OnWalk, IsTreeKey, IsTreePair}
use Rattle.ell_core.specs.tree.Flat.{IsInBlock}
use Rattle.ell_core.specs.statements.RunLaws.{IsPassed}
use Rattle.ell_core.specs.statements.Looks.{IsAmid}

-- the walks from node 0 for all keys from low on and below high come by a node
abbrev pub AllCome : Words → ℕ → ℕ → ℕ → Type 0
AllCome w x low high = (key : ℕ) → low ≤ key → key < high → OnWalk w key 0 x

-- from where on keys go to a child, true is the right one, of those from low on that come to a node with this key
abbrev pub from_of : Bool → ℕ → ℕ → ℕ
from_of true low key = max low key
from_of false low key = low

-- and below what keys they do, of those below high
abbrev pub upto_of : Bool → ℕ → ℕ → ℕ
upto_of true high key = high
upto_of false high key = min high key

-- the keys from `from` on and below `upto` are those of a stretch that are in a half of the block whose middle a number is
pub record NarrowsToHalf (number : ℕ) (right : Bool) (low high from upto : ℕ) : Type 0 where
  pub block : Block
  pub middle : number ≡ middle_of block
  pub first : from ≡ max low (half_from block right)
  pub last : upto ≡ min high (half_end block right)

-- they are those of a stretch that go to a child of a node, true is the right one: of a node that has a block those in that
-- half of it
pub record Narrows (w : Words) (x : ℕ) (right : Bool) (low high from upto : ℕ) : Type 0 where
  pub plain : has_block w.flat_from x ≡ false → (from ≡ from_of right low (w.key x)) × (upto ≡ upto_of right high (w.key x))
  pub flat : has_block w.flat_from x ≡ true → NarrowsToHalf (w.key x) right low high from upto

-- in a run a reader, who only loads, has come to a node by all keys of a stretch: to node 0 by all real keys; and from
-- a node to which he had come, now or earlier, to the child on a side, as it is when he loads it, by those of the keys
-- that go to that side. He may keep a node, and go on from it later, whatever came between
pub data Comes (m : Machine) : List Event → List Shown → Machine → ℕ → ℕ → ℕ → Type 0 where
  begins : {events : List Event} {answers : List Shown} {m' : Machine} {x low high : ℕ} → Run m events answers m'
      → x ≡ 0 → low ≡ 0 → high ≡ greatest_key + 1 → Comes m events answers m' x low high
  stays : {events both : List Event} {answers all : List Shown} {between m' : Machine} {x low high : ℕ}
      (more : List Event) (others : List Shown) → Comes m events answers between x low high
      → Run between more others m' → both ≡ events ++ more → all ≡ answers ++ others
      → Comes m both all m' x low high
  goes : {events : List Event} {answers : List Shown} {m' : Machine} {x low high y from upto : ℕ} (right : Bool)
      → Comes m events answers m' x low high → IsInternal x → y ≡ m'.words.child x right
      → Narrows m'.words x right low high from upto
      → Comes m events answers m' y from upto

-- a leaf is the end of the walks for all keys of a stretch in ONE state of a run; so by the leaf's key and value, as
-- the run's end has them, the tree had of these keys in that state the leaf's with that value, if it is one of them,
-- and no other
pub record StretchIsOfOneState (m : Machine) (events : List Event) (answers : List Shown) (m' : Machine)
    (leaf low high : ℕ) : Type 0 where
  pub state : Machine
  pub amid : IsAmid m events answers m' state
  pub on : AllCome state.words leaf low high
  pub present : low ≤ m'.words.key leaf → m'.words.key leaf < high
      → IsTreePair state.words (m'.words.key leaf) (m'.words.value leaf)
  pub absent : (key : ℕ) → low ≤ key → key < high → m'.words.key leaf ≢ key → ¬ IsTreeKey state.words key
  pub real : high ≤ greatest_key + 1
  pub claimed : low < high → card leaf < m'.words.next

-- of the keys of a stretch that the block of a node lacks the tree had none in one state of a run
pub record EdgeIsOfOneState (m : Machine) (events : List Event) (answers : List Shown) (m' : Machine) (x low high : ℕ) : Type 0 where
  pub state : Machine
  pub amid : IsAmid m events answers m' state
  pub absent : (key : ℕ) → low ≤ key → key < high → ¬ IsInBlock m'.words x key → ¬ IsTreeKey state.words key

-- so it is with each internal node to which a reader has come
abbrev pub EdgesAreOfOneState : Type 0
EdgesAreOfOneState = (m : Machine) (events : List Event) (answers : List Shown) (m' : Machine) (x low high : ℕ)
    → IsPassed m → Comes m events answers m' x low high → IsInternal x → EdgeIsOfOneState m events answers m' x low high

-- so it is with each leaf to which a reader has come, whatever the events were, whoever owns the keys
abbrev pub StretchesAreOfOneState : Type 0
StretchesAreOfOneState = (m : Machine) (events : List Event) (answers : List Shown) (m' : Machine) (leaf low high : ℕ)
    → IsPassed m → Comes m events answers m' leaf low high → IsLeaf leaf
    → StretchIsOfOneState m events answers m' leaf low high
