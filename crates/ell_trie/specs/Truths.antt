use Rattle.std.specs.Prelude.{◌≡◌, ℕ, ◌⊎◌, ◌↔◌, Bool, true}
use Rattle.ell_trie.specs.Ranges.{IsSpanned, FindsLeaf}
use Rattle.ell_trie.specs.Tries.{In, Opening, IsTrie}
use Rattle.ell_trie.specs.Courses.{IsInOrder, OnTrieCourse}
use Rattle.ell_trie.specs.Links.{Links}
use Rattle.ell_trie.specs.Swaps.{LeafSwap}
use Rattle.ell_trie.specs.Cuts.{CutsOut}

-- What the walk for a key from a node finds after an event is what it found before, or what the tree has of the key after
-- the event.
abbrev pub StaysTrue : (ℕ → ℕ) → (ℕ → Bool → ℕ) → (ℕ → Bool → ℕ) → (ℕ → Type 0) → ℕ → ℕ → Type 0
StaysTrue key child after Holds k x =
    (FindsLeaf key child Holds k x ↔ FindsLeaf key after Holds k x) ⊎
    (FindsLeaf key after Holds k x ↔ FindsLeaf key after Holds k 0)

-- so it is at links, from each node that is on course for the key
abbrev pub LinksStayTrue : Type 0
LinksStayTrue = (born holds : ℕ → Bool) (opening : Opening) (key : ℕ → ℕ) (child after : ℕ → Bool → ℕ)
    (top parent : ℕ) (side : Bool) (old new : ℕ) (half : Bool) (leaf added : ℕ) →
    IsTrie (In born) opening key child → IsInOrder key child top →
    Links (In born) opening key child after top parent side old new half leaf added →
    (k x : ℕ) → born x ≡ true → OnTrieCourse opening key child top k x → StaysTrue key child after (In holds) k x

-- and at swaps
abbrev pub SwapsStayTrue : Type 0
SwapsStayTrue = (born holds : ℕ → Bool) (opening : Opening) (key : ℕ → ℕ) (child after : ℕ → Bool → ℕ)
    (top parent : ℕ) (side : Bool) (old new : ℕ) →
    IsTrie (In born) opening key child → IsInOrder key child top →
    LeafSwap (In born) opening key child after top parent side old new →
    (k x : ℕ) → born x ≡ true → OnTrieCourse opening key child top k x → StaysTrue key child after (In holds) k x

-- and at cuts
abbrev pub CutsStayTrue : Type 0
CutsStayTrue = (born holds : ℕ → Bool) (opening : Opening) (key : ℕ → ℕ) (child after : ℕ → Bool → ℕ)
    (top grandparent : ℕ) (side : Bool) (parent : ℕ) (half : Bool) (leaf sibling : ℕ) →
    IsTrie (In born) opening key child → IsInOrder key child top →
    CutsOut child after grandparent side parent half leaf sibling → IsSpanned key child top grandparent →
    (k x : ℕ) → born x ≡ true → OnTrieCourse opening key child top k x → StaysTrue key child after (In holds) k x
