use Rattle.std.specs.Prelude.{◌+◌, true, false}
use Rattle.ell_word.specs.Node.{internal, left_leaf, right_leaf, infinity1, infinity2}
use Rattle.ell_layout.specs.Words.{with_child, with_key, with_value}
use Rattle.ell_core.specs.state.Machine.{Machine}
use Rattle.ell_layout.specs.Start.{opening_words}
use Rattle.ell_core.specs.tree.Tree.{IsLawful}
use Rattle.ell_core.specs.soundness.Sound.{IsSound}
use Rattle.ell_core.specs.soundness.SmallTrees.{five, five_seven}
use Rattle.ell_core.specs.soundness.Unsound.{owner, owner_of_two, with_one}
use Rattle.ell_core.specs.declared.view.Entry.TheVariants.{Present, Absent}

-- a state is unsound by its tree
abbrev pub BreaksTree : Machine → Type 0
BreaksTree m = (¬ IsLawful m.words) × (¬ IsSound m)

-- rises: the old leaf is under the new node in place of its copy
abbrev pub child_of_less_number : Machine
child_of_less_number = with_one (with_child five (internal 1) true (left_leaf 0)) (owner 5 (Present 50))

-- one path: both links of a node lead to one leaf (with two paths to a node, ranks or keys are out of order too)
abbrev pub leaf_linked_twice : Machine
leaf_linked_twice = with_one (with_child five (internal 1) false (right_leaf 1)) (owner 5 Absent)

-- left less: the new node has the lesser key of its leaves, so that the left one has its own
abbrev pub node_with_lesser_key : Machine
node_with_lesser_key = with_one (with_key five (internal 1) 5) (owner 5 (Present 50))

-- right more: a node's key is above that of its right leaf
abbrev pub node_with_key_too_great : Machine
node_with_key_too_great = with_one (with_key five_seven (internal 2) 9) (owner_of_two 5 7)

-- the root's key: it is the lesser infinity (it lies between the lesser infinity, on its left, and the greater one, its
-- right leaf's, so that keys are out of order too)
abbrev pub root_of_lesser_infinity : Machine
root_of_lesser_infinity = with_one (with_key opening_words 0 infinity1) (owner 5 Absent)

-- the root's right child: another leaf of the greater infinity
abbrev pub root_with_other_leaf : Machine
root_with_other_leaf = with_one
    (record (with_child (with_key opening_words (right_leaf 1) infinity2) 0 true (right_leaf 1)) { next = 2 })
    (owner 5 Absent)

-- the right leaf's key: one above the greater infinity
abbrev pub leaf_past_infinity : Machine
leaf_past_infinity = with_one (with_key opening_words (right_leaf 0) (infinity2 + 1)) (owner 5 Absent)

-- the left side, there and last key: no leaf has the lesser infinity, the keys are 5 and 7
abbrev pub lesser_infinity_lost : Machine
lesser_infinity_lost = with_one
    (with_value (with_key (with_key five (internal 1) 7) (right_leaf 1) 7) (right_leaf 1) 70) (owner_of_two 5 7)

-- the left side, outer: only the internal node has the lesser infinity, and its right leaf has 7 (where keys are in
-- order, such a node has a leaf of its own key)
abbrev pub lesser_infinity_of_no_leaf : Machine
lesser_infinity_of_no_leaf = with_one (with_value (with_key five (right_leaf 1) 7) (right_leaf 1) 70) (owner_of_two 5 7)

-- the left side, real: another leaf has the greater infinity (where keys are in order, the lesser infinity stands once,
-- and the greater one not on the left)
abbrev pub infinity_on_the_left : Machine
infinity_on_the_left = with_one (with_key five (left_leaf 1) infinity2) (owner 5 Absent)

-- the left side, deep: a leaf of a real key right below the root (then it is the only leaf there, and the lesser
-- infinity is lost)
abbrev pub leaf_below_the_root : Machine
leaf_below_the_root = with_one (with_key opening_words (left_leaf 0) 5) (owner 5 (Present 0))
