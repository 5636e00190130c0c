use Rattle.std.proofs.Common.{◌≡◌, ◌≢◌, ℕ, ◌<◌, ◌≤◌, Bool, false, nat_le, inl, inr, sym, ap, ◌∙◌, subst, arith}
use Rattle.std.proofs.lemmas.Bool.{cases_eq}
use Rattle.ell_word.specs.Node.{IsInternal}
use Rattle.ell_trie.specs.Ranges.{next_node, Spans, IsCutOut, IsSpanned, FindsLeaf, at_leaf, below, IsOrdered, OnCourse, here, off, dead}
use Rattle.ell_trie.proofs.lemmas.order.Removes.{Removes, same_or_not, stays, was_p, was_l, Spans-left, Meets-removed, Meets-kept, IsOrdered-remove}
use Rattle.ell_trie.proofs.lemmas.order.Bounds.{Meets-up, Meets-down}
use Rattle.ell_block.specs.Blocks.{InBlockOf}
use Rattle.ell_trie.specs.Tries.{Opening, IsTrie}
use Rattle.ell_trie.specs.Courses.{OnTrieCourse, ordinary, passes, missed, strange}
use Rattle.ell_trie.specs.Links.{Links}
use Rattle.ell_trie.proofs.lemmas.order.Replaces.{Spans-still}
use Rattle.ell_trie.specs.Swaps.{LeafSwap}
use Rattle.ell_trie.proofs.lemmas.Swaps.{shape, trie_swap, order_swap}
use Rattle.ell_trie.specs.Truths.{StaysTrue, LinksStayTrue, SwapsStayTrue, CutsStayTrue}
use Rattle.ell_trie.proofs.lemmas.Paths.{Under, here, next, spans_born}
use Rattle.ell_trie.proofs.lemmas.Courses.{found_in_block}
use Rattle.ell_trie.proofs.lemmas.Cuts.{removes, trie_cut}
use Rattle.ell_trie.proofs.lemmas.links.Sides.{no_cycle, met_side, side_apart}
use Rattle.ell_trie.proofs.lemmas.links.Ranges.{out, in_, spans_stay, low_there, high_there}
use Rattle.ell_trie.proofs.lemmas.links.Finds.{met_after, met_before}
use Rattle.ell_trie.proofs.lemmas.links.Tries.{trie_after}
use Rattle.ell_trie.proofs.lemmas.links.Courses.{not_p}
use Rattle.ell_trie.proofs.lemmas.links.Laws.{order_after}

-- any two trees with these keys
module _ (key : ℕ → ℕ) (child after : ℕ → Bool → ℕ) {Holds : ℕ → Type 0} where
  -- a leaf is met whatever the children of other nodes are
  leaf_met : (old new : ℕ → Bool → ℕ) (k x : ℕ) → ¬ IsInternal x → FindsLeaf key old Holds k x → FindsLeaf key new Holds k x
  leaf_met old new k x outer (at_leaf h e that) = at_leaf h e that
  leaf_met old new k x outer (below i e f) = absurd (outer i)

  pub leaf_true : (k x : ℕ) → ¬ IsInternal x → StaysTrue key child after Holds k x
  leaf_true k x outer = inl (leaf_met child after k x outer, leaf_met after child k x outer)

  step_down : (tree : ℕ → Bool → ℕ) (k x y : ℕ) → IsInternal x → y ≡ next_node key tree k x → FindsLeaf key tree Holds k x → FindsLeaf key tree Holds k y
  step_down tree k x y i e (at_leaf h _ _) = absurd (h i)
  step_down tree k x y i e (below _ d f) = subst (FindsLeaf key tree Holds k) (d ∙ sym e) f

  -- where both trees have the same next node, it decides
  pub through : (k x y : ℕ) → IsInternal x → y ≡ next_node key child k x → y ≡ next_node key after k x → StaysTrue key child after Holds k y
      → StaysTrue key child after Holds k x
  through k x y i e f (inl same) = inl (λ g. below i f (same.0 (step_down child k x y i e g)), λ g. below i e (same.1 (step_down after k x y i f g)))
  through k x y i e f (inr there) = inr (λ g. there.0 (step_down after k x y i f g), λ g. below i f (there.1 g))

  -- what is found from a reached node is what the tree has, of a key in its range
  pub reached_true : {top : ℕ} {rank : ℕ → ℕ} → IsOrdered key after top rank → {k x low high : ℕ} → Spans key after top x low high → low ≤ k → k < high
      → StaysTrue key child after Holds k x
  reached_true {top = top} ordered r first last = inr (Meets-up key after top ordered r first last, Meets-down key after top ordered r first last)

-- nothing is found below a node whose block lacks the key
pub missed_true : {Born BornAfter Holds : ℕ → Type 0} {o : Opening} {key : ℕ → ℕ} {child after : ℕ → Bool → ℕ} → IsTrie Born o key child → IsTrie BornAfter o key after
    → (k x : ℕ) → Born x → BornAfter x → IsInternal x → o.holds x ≡ false → ¬ InBlockOf (key x) k → StaysTrue key child after Holds k x
missed_true trie now k x born born_after i plain lacks = inl (
  λ f. absurd (lacks (found_in_block trie k x born plain i f)),
  λ f. absurd (lacks (found_in_block now k x born_after plain i f)),
)

module _ {Born : ℕ → Type 0} {o : Opening} {key : ℕ → ℕ} {child after : ℕ → Bool → ℕ} {top p : ℕ} {s : Bool} {x q : ℕ} {t : Bool} {n k : ℕ}
    (trie : IsTrie Born o key child) {rank : ℕ → ℕ} (ordered : IsOrdered key child top rank)
    (link : Links Born o key child after top p s x q t n k) {Holds : ℕ → Type 0} where
  -- below the old node the tree is as it was
  under_before : (j : ℕ) {z : ℕ} → Under child x z → FindsLeaf key after Holds j z → FindsLeaf key child Holds j z
  under_before j v (at_leaf h e that) = at_leaf h e that
  under_before j v (below {x = y} i e f) = elim (link.shape.relinks.others y (nat_le (key y) j)) [
    | inl w ↦ absurd (no_cycle trie link (subst (Under child x) w.0 v))
    | inr w ↦ below i (e ∙ w) (under_before j (next (nat_le (key y) j) v i (e ∙ w)) f)
  ]

  -- a key on the new leaf's side is found there neither before nor afterwards
  lost_under : (j : ℕ) {z : ℕ} → Under child x z → nat_le (key q) j ≡ t → StaysTrue key child after Holds j z
  lost_under j v lost = inl (
    λ f. absurd (side_apart t (sym (met_side trie link j v f) ∙ lost)),
    λ f. absurd (side_apart t (sym (met_side trie link j v (under_before j v f)) ∙ lost)),
  )

  -- the walk for the added key from a reached node
  reached_link : (j : ℕ) {z a b : ℕ} → Spans key child top z a b → a ≤ j → j < b → StaysTrue key child after Holds j z
  reached_link j r first last = elim (spans_stay trie link r) [
    | out r2 ↦ reached_true key child after (order_after trie link ordered) r2 first last
    | in_ v r2 l h ↦ elim (same_or_not (nat_le (key q) j) t) [
      | inl lost ↦ lost_under j v lost
      | inr back ↦ reached_true key child after (order_after trie link ordered) r2 (low_there back l first) (high_there back h last)
    ]
  ]

  next_link : (j z y : ℕ) → IsInternal z → IsCutOut key child top z → y ≡ next_node key child j z → StaysTrue key child after Holds j y
      → StaysTrue key child after Holds j z
  next_link j z y i h e found = through key child after j z y i e (e ∙ sym (not_p trie link z j h)) found

  tree_link : (j : ℕ) {z : ℕ} → OnCourse key child top j z → StaysTrue key child after Holds j z
  tree_link j {z} (here r first last) = elim (cases_eq j k) [
    | inr ne ↦ inl (met_after trie link j ne, met_before trie link j ne)
    | inl is ↦ reached_link j r first last
  ]
  tree_link j (off {x = z} {y = y} i h e rest) = next_link j z y i h e (tree_link j rest)
  tree_link j (dead {x = z} i h) = leaf_true key child after j z i

  pub link_true : (j : ℕ) {z : ℕ} → Born z → OnTrieCourse o key child top j z → StaysTrue key child after Holds j z
  link_true j b (ordinary c) = tree_link j c
  link_true j b (passes {x = z} {y = y} i h e rest) = next_link j z y i h e (link_true j (subst Born (sym e) (trie.closed z (nat_le (key z) j) i b)) rest)
  link_true j b (strange {x = z} i plain ne) = leaf_true key child after j z i
  link_true j b (missed {x = z} i plain lacks) = missed_true trie (trie_after trie link) j z b (inl b) i plain lacks

pub links_stay_true : LinksStayTrue
links_stay_true born holds o key child after top p s x q t n k trie ordered link j z b course = link_true trie ordered.1 link j b course

module _ {Born : ℕ → Type 0} {o : Opening} {key : ℕ → ℕ} {child after : ℕ → Bool → ℕ} {top g : ℕ} {s : Bool} {p : ℕ} {t : Bool} {l w : ℕ}
    (trie : IsTrie Born o key child) {rank : ℕ → ℕ} (ordered : IsOrdered key child top rank)
    (shape : Removes key child after top g s p t l w) (in_tree : IsSpanned key child top g) where
  now_cut : IsOrdered key after top rank
  now_cut = IsOrdered-remove key child after top g s p t l w shape ordered

  p_not_g : p ≢ g
  p_not_g e = let up = ordered.rising g in_tree.low in_tree.high s in_tree.spans shape.node in let same = ap rank (shape.parent ∙ e) in omega arith

  module _ {Holds : ℕ → Type 0} where
    -- the walk from the parent, whose children stay as they were
    from_p : (j : ℕ) → StaysTrue key child after Holds j w → StaysTrue key child after Holds j p
    from_p j at_w = elim (shape.relinks.others p (nat_le (key p) j)) [
      | inl f ↦ absurd (p_not_g f.0)
      | inr f ↦ elim (same_or_not (nat_le (key p) j) t) [
        | inl e ↦ (let was : w ≡ next_node key child j p = sym shape.other ∙ ap (child p) (sym e) in through key child after j p w shape.inner was (was ∙ sym f) at_w)
        | inr e ↦ (let was : l ≡ next_node key child j p = sym shape.leaf_there ∙ ap (child p) (sym e) in
            through key child after j p l shape.inner was (was ∙ sym f) (leaf_true key child after j l shape.leaf))
      ]
    ]

    reached_cut : (j : ℕ) {z a b : ℕ} → Spans key child top z a b → a ≤ j → j < b → StaysTrue key child after Holds j z
    reached_cut j {z} r first last = elim (Spans-left key child after top g s p t l w shape ordered r) [
      | stays u ↦ reached_true key child after now_cut u.reached (omega arith) (omega arith)
      | was_p e u ↦ subst (StaysTrue key child after Holds j) (sym e) (from_p j (reached_true key child after now_cut u.reached (omega arith) (omega arith)))
      | was_l e ↦ leaf_true key child after j z (λ i. shape.leaf (subst IsInternal e i))
    ]

    next_cut : (j z y : ℕ) → IsInternal z → IsCutOut key child top z → y ≡ next_node key child j z → StaysTrue key child after Holds j y
        → StaysTrue key child after Holds j z
    next_cut j z y i h e found = elim (shape.relinks.others z (nat_le (key z) j)) [
      | inl d ↦ absurd (h in_tree.low in_tree.high (subst (λ v. Spans key child top v in_tree.low in_tree.high) (sym d.0) in_tree.spans))
      | inr d ↦ through key child after j z y i e (e ∙ sym d) found
    ]

    tree_cut : (j : ℕ) {z : ℕ} → OnCourse key child top j z → StaysTrue key child after Holds j z
    tree_cut j (here r first last) = elim (cases_eq j (key l)) [
      | inr ne ↦ inl (
        Meets-removed key child after top g s p t l w shape ordered j ne,
        Meets-kept key child after top g s p t l w shape ordered in_tree.low in_tree.high in_tree.spans j ne,
      )
      | inl is ↦ reached_cut j r first last
    ]
    tree_cut j (off {x = z} {y = y} i h e rest) = next_cut j z y i h e (tree_cut j rest)
    tree_cut j (dead {x = z} i h) = leaf_true key child after j z i

    pub cut_true : IsTrie Born o key after → (j : ℕ) {z : ℕ} → Born z → OnTrieCourse o key child top j z → StaysTrue key child after Holds j z
    cut_true now j b (ordinary c) = tree_cut j c
    cut_true now j b (passes {x = z} {y = y} i h e rest) = next_cut j z y i h e (cut_true now j (subst Born (sym e) (trie.closed z (nat_le (key z) j) i b)) rest)
    cut_true now j b (strange {x = z} i plain ne) = leaf_true key child after j z i
    cut_true now j b (missed {x = z} i plain lacks) = missed_true trie now j z b b i plain lacks

pub cuts_stay_true : CutsStayTrue
cuts_stay_true born holds o key child after top g s p t l w trie ordered cut in_tree j z b course =
    cut_true trie ordered.1 (removes cut) in_tree (trie_cut trie cut (spans_born trie in_tree.spans)) j b course

-- a swap leaves it true
module _ {Born : ℕ → Type 0} {o : Opening} {key : ℕ → ℕ} {child after : ℕ → Bool → ℕ} {top p : ℕ} {s : Bool} {l c : ℕ}
    (trie : IsTrie Born o key child) {rank : ℕ → ℕ} (ordered : IsOrdered key child top rank)
    (swap : LeafSwap Born o key child after top p s l c) {Holds : ℕ → Type 0} where
  next_swap : (j z y : ℕ) → IsInternal z → IsCutOut key child top z → y ≡ next_node key child j z → StaysTrue key child after Holds j y
      → StaysTrue key child after Holds j z
  next_swap j z y i h e found = elim (swap.relinks.others z (nat_le (key z) j)) [
    | inl d ↦ absurd (h swap.there.low swap.there.high (subst (λ v. Spans key child top v swap.there.low swap.there.high) (sym d.0) swap.there.spans))
    | inr d ↦ through key child after j z y i e (e ∙ sym d) found
  ]

  tree_swap : (j : ℕ) {z : ℕ} → OnCourse key child top j z → StaysTrue key child after Holds j z
  tree_swap j {z} (here r first last) = elim (Spans-still key child after top p s l c (shape trie swap) r) [
    | inl e ↦ leaf_true key child after j z (λ i. swap.leaf (subst IsInternal e i))
    | inr r2 ↦ reached_true key child after (order_swap trie swap ordered) r2 first last
  ]
  tree_swap j (off {x = z} {y = y} i h e rest) = next_swap j z y i h e (tree_swap j rest)
  tree_swap j (dead {x = z} i h) = leaf_true key child after j z i

  swap_true : (j : ℕ) {z : ℕ} → Born z → OnTrieCourse o key child top j z → StaysTrue key child after Holds j z
  swap_true j b (ordinary c) = tree_swap j c
  swap_true j b (passes {x = z} {y = y} i h e rest) = next_swap j z y i h e (swap_true j (subst Born (sym e) (trie.closed z (nat_le (key z) j) i b)) rest)
  swap_true j b (strange {x = z} i plain ne) = leaf_true key child after j z i
  swap_true j b (missed {x = z} i plain lacks) = missed_true trie (trie_swap trie swap) j z b (inl b) i plain lacks

pub swaps_stay_true : SwapsStayTrue
swaps_stay_true born holds o key child after top p s l c trie ordered swap j z b course = swap_true trie ordered.1 swap j b course
