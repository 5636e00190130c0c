use Rattle.std.proofs.Common.{◌≡◌, ℕ, ◌<◌, ◌≤◌, Bool, true, false, nat_le, refl, sym, ◌∙◌, subst, arith}
use Rattle.std.proofs.lemmas.Bool.Decides.{nat_tests}
use Rattle.ell_word.specs.Node.{IsInternal}
use Rattle.ell_trie.specs.Ranges.{next_node, low_of, high_of, Spans, root, goes, FindsLeaf, at_leaf, below, IsOrdered}

-- a walk that ends at the leaf where it starts has the leaf's key
pub leaf_key : (key : ℕ → ℕ) (child : ℕ → Bool → ℕ) {holds : ℕ → Type 0} (k x : ℕ) → ¬ IsInternal x → FindsLeaf key child holds k x → key x ≡ k
leaf_key key child k x outer (at_leaf _ has _) = has
leaf_key key child k x outer (below inner _ _) = absurd (outer inner)

-- and what holds of it holds of the leaf
pub leaf_holds : (key : ℕ → ℕ) (child : ℕ → Bool → ℕ) {holds : ℕ → Type 0} (k x : ℕ) → ¬ IsInternal x → FindsLeaf key child holds k x → holds x
leaf_holds key child k x outer (at_leaf _ _ that) = that
leaf_holds key child k x outer (below inner _ _) = absurd (outer inner)

-- where one thing holds of the leaves of which another does, it holds at the end of the same walks
pub Meets-map : (key : ℕ → ℕ) (child : ℕ → Bool → ℕ) {holds also : ℕ → Type 0} (k : ℕ) → ((x : ℕ) → holds x → also x) → {x : ℕ}
    → FindsLeaf key child holds k x → FindsLeaf key child also k x
Meets-map key child k more (at_leaf {x = x} outer has that) = at_leaf outer has (more x that)
Meets-map key child k more (below inner e rest) = below inner e (Meets-map key child k more rest)

module _ (key : ℕ → ℕ) (child : ℕ → Bool → ℕ) (top : ℕ) {rank : ℕ → ℕ}
    (ordered : IsOrdered key child top rank) where
  -- the range of a child lies in that of its parent
  pub child_within : (x low high : ℕ) (t : Bool) → Spans key child top x low high
      → (low ≤ low_of t low (key x)) × (high_of t high (key x) ≤ high)
  child_within x low high true r = let w = ordered.within x low high r in (omega arith, omega arith)
  child_within x low high false r = let w = ordered.within x low high r in (omega arith, omega arith)

  -- a key in the range of a child goes to that child
  pub side_of : (m k low high : ℕ) (t : Bool) → low_of t low m ≤ k → k < high_of t high m → nat_le m k ≡ t
  side_of m k low high true a b = grind (arith, nat_tests)
  side_of m k low high false a b = grind (arith, nat_tests)

  -- a key in the parent's range lies in that of the child that it goes to
  pub side_within : (m k low high : ℕ) (t : Bool) → nat_le m k ≡ t → low ≤ k → k < high
      → (low_of t low m ≤ k) × (k < high_of t high m)
  side_within m k low high true e a b = (grind (arith, nat_tests), b)
  side_within m k low high false e a b = (a, grind (arith, nat_tests))

  -- a key in the range of x that is met from x is met from node 0
  pub Meets-up : {holds : ℕ → Type 0} {k x low high : ℕ} → Spans key child top x low high → low ≤ k → k < high → FindsLeaf key child holds k x
      → FindsLeaf key child holds k 0
  Meets-up {holds = holds} {k = k} (root e _ _) a b f = subst (FindsLeaf key child holds k) e f
  Meets-up {k = k} (goes {x = x} {low = low} {high = high} t r i e g h) a b f =
      let w = child_within x low high t r in
      let a2 : low_of t low (key x) ≤ k = omega arith in
      let b2 : k < high_of t high (key x) = omega arith in
      let d = side_of (key x) k low high t a2 b2 in
      Meets-up r (omega arith) (omega arith) (below i (cc) f)

  -- a key that is met from a node is met from the next one on its walk
  pub below_of : {holds : ℕ → Type 0} {k x y : ℕ} → IsInternal x → y ≡ next_node key child k x → FindsLeaf key child holds k x → FindsLeaf key child holds k y
  below_of i e (at_leaf h _ _) = absurd (h i)
  below_of {holds = holds} {k = k} i e (below _ d f) = subst (FindsLeaf key child holds k) (d ∙ sym e) f

  -- a key in the range of x that is met from node 0 is met from x
  pub Meets-down : {holds : ℕ → Type 0} {k x low high : ℕ} → Spans key child top x low high → low ≤ k → k < high → FindsLeaf key child holds k 0
      → FindsLeaf key child holds k x
  Meets-down {holds = holds} {k = k} (root e _ _) a b f = subst (FindsLeaf key child holds k) (sym e) f
  Meets-down {k = k} (goes {x = x} {low = low} {high = high} t r i e g h) a b f =
      let w = child_within x low high t r in
      let a2 : low_of t low (key x) ≤ k = omega arith in
      let b2 : k < high_of t high (key x) = omega arith in
      let d = side_of (key x) k low high t a2 b2 in
      below_of i (cc) (Meets-down r (omega arith) (omega arith) f)

  -- a key that is met from x lies in the range of x
  pub Meets-within : {holds : ℕ → Type 0} {k x low high : ℕ} → FindsLeaf key child holds k x → Spans key child top x low high → (low ≤ k) × (k < high)
  Meets-within {low = low} {high = high} (at_leaf {x = x} h e _) r =
      let w = ordered.within x low high r in (omega arith, omega arith)
  Meets-within {k = k} {low = low} {high = high} (below {x = x} i e f) r =
      let w = child_within x low high (nat_le (key x) k) r in
      let v = Meets-within f (goes (nat_le (key x) k) r i e refl refl) in
      (omega arith, omega arith)

  -- the key of a leaf that is reached is met from node 0
  pub leaf_is_met : {holds : ℕ → Type 0} {x low high : ℕ} → Spans key child top x low high → ¬ IsInternal x → holds x → FindsLeaf key child holds (key x) 0
  leaf_is_met {x = x} {low = low} {high = high} r h that =
      let w = ordered.within x low high r in Meets-up r w.0 w.1 (at_leaf h refl that)
