use Rattle.std.proofs.Common.{◌≡◌, ◌≢◌, ℕ, ◌%◌, ◌+◌, ◌<◌, ◌≤◌, Bool, true, false, List, [], ◌∷◌, refl, sym, ap, ◌∙◌, subst, arith}
use Rattle.ell_ops.specs.Meaning.{greatest_key}
use Rattle.ell_layout.specs.Words.{Words, IsLeaf}
use Rattle.ell_core.specs.state.Machine.{Machine}
use Rattle.ell_core.specs.tree.Tree.{Leads, Reached, IsLawful}
use Rattle.ell_word.specs.Node.{infinity1, infinity2}
use Rattle.ell_core.specs.soundness.UnsoundTrees.{BreaksTree, child_of_less_number, leaf_linked_twice, node_with_lesser_key, node_with_key_too_great, root_of_lesser_infinity, root_with_other_leaf, leaf_past_infinity, lesser_infinity_lost, lesser_infinity_of_no_leaf, infinity_on_the_left, leaf_below_the_root}
use Rattle.ell_core.proofs.lemmas.tree.Paths.{Below-refl, Below-child, Leads-from_leaf}
use Rattle.ell_core.specs.tree.Rank.{rank}
use Rattle.ell_core.proofs.lemmas.tree.Ranks.{rank_plain}

-- a state whose tree is not lawful is not sound
breaks : (m : Machine) → ¬ IsLawful m.words → BreaksTree m
breaks m broken = (broken, λ sound. broken sound.tree)

-- node 4 is reached where it is the root's left child
pub four_reached : (w : Words) → 4 ≡ w.child 0 false → Reached w 4
four_reached w e = record { path = false ∷ []; leads = (refl, e) }

-- 4 < 1
pub rises_broken : BreaksTree child_of_less_number
rises_broken = breaks child_of_less_number (λ lawful.
    let w = child_of_less_number.words in
    let h : rank w 4 < rank w 1 = lawful.rises 4 true (four_reached w refl) refl in
    let four = rank_plain w refl 4 in
    let one = rank_plain w refl 1 in
    omega arith)

-- two paths to leaf 6
pub path_broken : BreaksTree leaf_linked_twice
path_broken = breaks leaf_linked_twice (λ lawful.
    let h : false ∷ false ∷ [] ≡ false ∷ true ∷ [] =
    lawful.one_path 6 (false ∷ false ∷ []) (false ∷ true ∷ []) (refl, (refl, refl)) (refl, (refl, refl)) in cc)

-- 5 < 5
pub left_broken : BreaksTree node_with_lesser_key
left_broken = breaks node_with_lesser_key (λ lawful.
    let w = node_with_lesser_key.words in
    let h : 5 < 5 = lawful.left_less 4 5 (four_reached w refl) refl (Below-refl w 5) in omega arith)

-- 9 ≤ 7
pub right_broken : BreaksTree node_with_key_too_great
right_broken = breaks node_with_key_too_great (λ lawful.
    let w = node_with_key_too_great.words in
    let there : Reached w 8 = record { path = false ∷ false ∷ []; leads = (refl, (refl, refl)) } in
    let h : 9 ≤ 7 = lawful.right_more 8 10 there refl (Below-refl w 10) in omega arith)

-- one infinity is not the other
pub root_key_broken : BreaksTree root_of_lesser_infinity
root_key_broken = breaks root_of_lesser_infinity (λ lawful. let h : infinity1 ≡ infinity2 = lawful.root_key in omega arith)

-- node 6 is not node 2
pub root_right_broken : BreaksTree root_with_other_leaf
root_right_broken = breaks root_with_other_leaf (λ lawful. let h : ◌≡◌ {A = ℕ} 6 2 = lawful.root_right in omega arith)

-- a number is not its successor
pub right_key_broken : BreaksTree leaf_past_infinity
right_key_broken = breaks leaf_past_infinity (λ lawful. let h : infinity2 + 1 ≡ infinity2 = lawful.right_key in omega arith)

-- where node 4 has two leaves, a leaf below it is one of them
leaf_of_four : (w : Words) (leaf : ℕ) (path : List Bool) → ((right : Bool) → IsLeaf (w.child 4 right)) → IsLeaf leaf → Leads w 4 path leaf
    → (right : Bool) × (leaf ≡ w.child 4 right)
leaf_of_four w leaf [] outer is_leaf leads = absurd (is_leaf (ap (λ n. n % 4) leads))
leaf_of_four w leaf (right ∷ path) outer is_leaf leads =
    let e = Leads-from_leaf w (w.child 4 right) leaf path (outer right) leads.1 in
    (right, subst (λ p. Leads w (w.child 4 right) p leaf) e leads.1)

-- both children of node 4 are leaves
five_leaves : (right : Bool) → IsLeaf (lesser_infinity_lost.words.child 4 right)
five_leaves true = λ e. let h : ◌≡◌ {A = ℕ} 2 0 = e in omega arith
five_leaves false = λ e. let h : ◌≡◌ {A = ℕ} 1 0 = e in omega arith

-- neither leaf has the lesser infinity
lost_keys : (right : Bool) → lesser_infinity_lost.words.key (lesser_infinity_lost.words.child 4 right) ≡ infinity1 → ⊥
lost_keys true = λ e. let h : 7 ≡ infinity1 = e in omega arith
lost_keys false = λ e. let h : 5 ≡ infinity1 = e in omega arith

-- no leaf on the left has the lesser infinity
pub last_broken : BreaksTree lesser_infinity_lost
last_broken = breaks lesser_infinity_lost (λ lawful.
    let w = lesser_infinity_lost.words in
    let it = lawful.left in
    let leaf = leaf_of_four w it.last it.there.path five_leaves it.outer it.there.leads in
    lost_keys leaf.0 (sym (ap w.key leaf.1) ∙ it.last_key))

-- neither leaf has the lesser infinity, and both are leaves
outer_leaves : (right : Bool) → IsLeaf (lesser_infinity_of_no_leaf.words.child 4 right)
outer_leaves true = λ e. let h : ◌≡◌ {A = ℕ} 2 0 = e in omega arith
outer_leaves false = λ e. let h : ◌≡◌ {A = ℕ} 1 0 = e in omega arith

outer_keys : (right : Bool) → lesser_infinity_of_no_leaf.words.key (lesser_infinity_of_no_leaf.words.child 4 right) ≡ infinity1 → ⊥
outer_keys true = λ e. let h : 7 ≡ infinity1 = e in omega arith
outer_keys false = λ e. let h : 5 ≡ infinity1 = e in omega arith

-- only an internal node on the left has the lesser infinity
pub outer_broken : BreaksTree lesser_infinity_of_no_leaf
outer_broken = breaks lesser_infinity_of_no_leaf (λ lawful.
    let w = lesser_infinity_of_no_leaf.words in
    let it = lawful.left in
    let leaf = leaf_of_four w it.last it.there.path outer_leaves it.outer it.there.leads in
    outer_keys leaf.0 (sym (ap w.key leaf.1) ∙ it.last_key))

-- leaf 5 has the greater infinity, so it is not the one of the lesser
pub real_broken : BreaksTree infinity_on_the_left
real_broken = breaks infinity_on_the_left (λ lawful.
    let w = infinity_on_the_left.words in
    let it = lawful.left in
    let other : ◌≢◌ {A = ℕ} 5 it.last = λ e. let h : infinity2 ≡ infinity1 = ap w.key e ∙ it.last_key in omega arith in
    let leaf : IsLeaf 5 = λ e. let h : ◌≡◌ {A = ℕ} 1 0 = e in omega arith in
    let h : infinity2 ≤ greatest_key = it.real 5 (Below-child w 4 false refl) leaf other in omega arith)

-- the root's children are leaves
root_leaves : (right : Bool) → IsLeaf (leaf_below_the_root.words.child 0 right)
root_leaves true = λ e. let h : ◌≡◌ {A = ℕ} 2 0 = e in omega arith
root_leaves false = λ e. let h : ◌≡◌ {A = ℕ} 1 0 = e in omega arith

-- the root has no grandchildren
no_grandchild : (x : ℕ) (path : List Bool) (first second : Bool) (y : ℕ) → Leads leaf_below_the_root.words 0 path x
    → Leads leaf_below_the_root.words x (first ∷ second ∷ []) y → ⊥
no_grandchild x [] first second y e leads =
    root_leaves first (sym (ap (λ n. leaf_below_the_root.words.child n first % 4) e) ∙ leads.1.0)
no_grandchild x (right ∷ path) first second y above leads =
    let w = leaf_below_the_root.words in
    let e = Leads-from_leaf w (w.child 0 right) x path (root_leaves right) above.1 in
    let same : x ≡ w.child 0 right = subst (λ p. Leads w (w.child 0 right) p x) e above.1 in
    root_leaves right (sym (ap (λ n. n % 4) same) ∙ leads.0)

-- leaf 1 has a real key, and no grandparent
pub deep_broken : BreaksTree leaf_below_the_root
deep_broken = breaks leaf_below_the_root (λ lawful.
    let w = leaf_below_the_root.words in
    let it = lawful.left in
    let other : ◌≢◌ {A = ℕ} 1 it.last = λ e. let h : 5 ≡ infinity1 = ap w.key e ∙ it.last_key in omega arith in
    let up = it.deep 1 (Below-refl w 1) (root_leaves false) other in
    no_grandchild up.grandparent up.reached.path up.first up.second 1 up.reached.leads up.leads)
