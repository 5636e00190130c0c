use Rattle.std.specs.Prelude.{◌≡◌, ◌≢◌, ℕ, ◌<◌, ◌≤◌, ◌⊎◌, List, [], ◌∷◌, take, drop}
use Rattle.ell_ops.specs.Meaning.{greatest_key}
use Rattle.ell_word.specs.Node.{IsInternal, card}
use Rattle.ell_core.specs.declared.event.Event.{Event}
use Rattle.ell_core.specs.declared.event.Shown.{Shown}
use Rattle.ell_core.specs.declared.event.Stepped.{Stepped}
use Rattle.ell_core.specs.state.Machine.{Machine}
use Rattle.ell_layout.specs.Cards.{child_for}
use Rattle.ell_layout.specs.Words.{IsLeaf}
use Rattle.ell_core.specs.acts.Events.{Steps}
use Rattle.ell_core.specs.acts.Runs.{Shows, Run}
use Rattle.ell_core.specs.tree.Tree.{OnWalk, IsTreeKey, IsTreePair}
use Rattle.ell_core.specs.history.Stages.{Stages, Born}
use Rattle.ell_core.specs.history.Invariant.{IsOnCourse, Invariant}
use Rattle.ell_core.specs.tree.Flat.{IsInBlock}
use Rattle.ell_core.specs.statements.RunLaws.{IsPassed}

-- a reader for a key goes along a run from x to y, and only loads: through an event it stays where it is, and at any
-- time it loads the child of its node on the key's side, and goes there
pub data Looks (key : ℕ) : Machine → List Event → List Shown → Machine → ℕ → ℕ → Type 0 where
  ends : {m m' : Machine} {x y : ℕ} → m' ≡ m → y ≡ x → Looks key m [] [] m' x y
  loads : {m m' : Machine} {events : List Event} {answers : List Shown} {x y : ℕ} → IsInternal x
      → Looks key m events answers m' (child_for m.words key x) y → Looks key m events answers m' x y
  stays : {m between m' : Machine} {e : Event} {said : Shown} {events : List Event} {answers : List Shown} {x y : ℕ}
      → Shows m e said between
      → Looks key between events answers m' x y → Looks key m (e ∷ events) (said ∷ answers) m' x y

-- a state of a run, its first and its last among them: some first events lead to it, and the others from it to the end
pub record IsAmid (m : Machine) (events : List Event) (answers : List Shown) (m' state : Machine) : Type 0 where
  pub first : ℕ
  pub before : Run m (take first events) (take first answers) state
  pub after : Run state (drop first events) (drop first answers) m'

-- a leaf is the end of the walk for a key in one state of a run, in a flat tree if it is a leaf of that key or of the opening
-- tree; and by the leaf's key and value, as the run's end has them, the tree had the key in that state, with that value, or
-- it had it not
pub record IsOfOneState (key : ℕ) (m : Machine) (events : List Event) (answers : List Shown) (m' : Machine)
    (leaf : ℕ) : Type 0 where
  pub state : Machine
  pub amid : IsAmid m events answers m' state
  pub on : IsInBlock m'.words leaf key → OnWalk state.words key 0 leaf
  pub present : m'.words.key leaf ≡ key → IsTreePair state.words key (m'.words.value leaf)
  pub absent : m'.words.key leaf ≢ key → ¬ IsTreeKey state.words key
  pub claimed : card leaf < m'.words.next

-- so it is with the leaf at which a look from node 0 ends, whatever the events were, whoever owns the key
abbrev pub LooksAreOfOneState : Type 0
LooksAreOfOneState =
    (key : ℕ) (m : Machine) (events : List Event) (answers : List Shown) (m' : Machine) (leaf : ℕ) → IsPassed m
    → key ≤ greatest_key → Looks key m events answers m' 0 leaf → IsLeaf leaf
    → IsOfOneState key m events answers m' leaf

-- after an event a node that was on course for a key still is, and its child on the key's side is as it was, or it is
-- on the walk for the key from node 0, in a flat tree if the key is in its block
abbrev pub CoursesGoOn : Type 0
CoursesGoOn =
    (m : Machine) (stage : Stages) (e : Event) (said : Stepped) (m' : Machine) → Invariant m stage → Steps m e said m'
    → (key x : ℕ) → Born stage x → IsOnCourse m.words key x
    → IsOnCourse m'.words key x
    × (IsInternal x → IsInBlock m.words x key → (child_for m'.words key x ≡ child_for m.words key x) ⊎ OnWalk m'.words key 0 x)
