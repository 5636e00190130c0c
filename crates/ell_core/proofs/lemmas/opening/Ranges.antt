use Rattle.std.proofs.Common.{◌≡◌, ℕ, ◌%◌, ◌<◌, ◌≤◌, ◌⊎◌, inl, inr, Bool, true, false, nat_le, refl, sym, ap, ◌∙◌, subst, arith}
use Rattle.ell_ops.specs.Meaning.{greatest_key}
use Rattle.ell_word.specs.Node.{IsInternal, infinity2}
use Rattle.ell_layout.specs.Start.{opening_words}
use Rattle.ell_trie.specs.Ranges.{low_of, high_of, next_node, Spans, root, goes, at_leaf, below, IsOrdered}
use Rattle.ell_core.specs.history.Invariant.{top, LeadsTo}
use Rattle.ell_core.proofs.lemmas.tree.Ranks.{rank_plain}
use Rattle.ell_core.specs.tree.Rank.{rank}

-- a node of the opening tree, with its keys: the root, or one of its leaves
Place : ℕ → ℕ → ℕ → Type 0
Place x low high =
    (x ≡ 0 × low ≡ 0 × high ≡ top)
    ⊎ ((x ≡ 1 × low ≡ 0 × high ≡ infinity2) ⊎ (x ≡ 2 × low ≡ infinity2 × high ≡ top))

-- the child of a place is a place
place_below : (x low high y a b : ℕ) (right : Bool) → Place x low high → IsInternal x → y ≡ opening_words.child x right
    → a ≡ low_of right low (opening_words.key x) → b ≡ high_of right high (opening_words.key x) → Place y a b
unfolding Place
place_below x low high y a b true (inl h) inner e f g =
    inr (inr (e ∙ ap (λ n. opening_words.child n true) h.0, f ∙ ap opening_words.key h.0, g ∙ h.2))
place_below x low high y a b false (inl h) inner e f g =
    inr (inl (e ∙ ap (λ n. opening_words.child n false) h.0, f ∙ h.1, g ∙ ap opening_words.key h.0))
place_below x low high y a b right (inr (inl h)) inner e f g = absurd (omega arith)
place_below x low high y a b right (inr (inr h)) inner e f g = absurd (omega arith)

-- each reached node is a place
places : {x low high : ℕ} → Spans opening_words.key opening_words.child top x low high → Place x low high
unfolding Place
places (root e f g) = inl (e, f, g)
places (goes right spans inner e f g) = place_below _ _ _ _ _ _ right (places spans) inner e f g

-- a place has its key among its keys
within_place : (x low high : ℕ) → Place x low high → (low ≤ opening_words.key x) × (opening_words.key x < high)
unfolding Place
within_place x low high (inl h) = (let e = ap opening_words.key h.0 in (omega arith, omega arith))
within_place x low high (inr (inl h)) = (let e = ap opening_words.key h.0 in (omega arith, omega arith))
within_place x low high (inr (inr h)) = (let e = ap opening_words.key h.0 in (omega arith, omega arith))

-- the root's key is not the first of its keys
proper_place : (x low high : ℕ) → Place x low high → IsInternal x → low < opening_words.key x
unfolding Place
proper_place x low high (inl h) inner = (let e = ap opening_words.key h.0 in omega arith)
proper_place x low high (inr (inl h)) inner = absurd (omega arith)
proper_place x low high (inr (inr h)) inner = absurd (omega arith)

-- the root's children have greater numbers
rising_place : (x low high : ℕ) (right : Bool) → Place x low high → IsInternal x → x < opening_words.child x right
unfolding Place
rising_place x low high true (inl h) inner = (let e = ap (λ n. opening_words.child n true) h.0 in omega arith)
rising_place x low high false (inl h) inner = (let e = ap (λ n. opening_words.child n false) h.0 in omega arith)
rising_place x low high right (inr (inl h)) inner = absurd (omega arith)
rising_place x low high right (inr (inr h)) inner = absurd (omega arith)

-- so they have greater ranks
rank_rising : (x low high : ℕ) (right : Bool) → Place x low high → IsInternal x → rank opening_words x < rank opening_words (opening_words.child x right)
rank_rising x low high right place inner =
    let up = rising_place x low high right place inner in
    let first = rank_plain opening_words refl x in
    let second = rank_plain opening_words refl (opening_words.child x right) in
    omega arith

-- the opening tree is in order
pub opening_ordered : IsOrdered opening_words.key opening_words.child top (rank opening_words)
opening_ordered = record {
  within = λ x low high spans. within_place x low high (places spans);
  proper = λ x low high spans inner. proper_place x low high (places spans) inner;
  rising = λ x low high right spans inner. rank_rising x low high right (places spans) inner;
}

-- the root's child on a side is one of the leaves
root_leaf : (right : Bool) → (opening_words.child 0 right ≡ 1) ⊎ (opening_words.child 0 right ≡ 2)
root_leaf true = inr refl
root_leaf false = inl refl

-- no leaf of the opening tree has a real key
no_leaf : (k x : ℕ) → k ≤ greatest_key → (x ≡ 1) ⊎ (x ≡ 2) → LeadsTo opening_words k x → ⊥
no_leaf k x real (inl h) (at_leaf outer e _) = let a = ap opening_words.key h in omega arith
no_leaf k x real (inr h) (at_leaf outer e _) = let a = ap opening_words.key h in omega arith
no_leaf k x real (inl h) (below inner e rest) = omega arith
no_leaf k x real (inr h) (below inner e rest) = omega arith

-- the next node on a walk from the root is one of the leaves
next_leaf : (k x y : ℕ) → x ≡ 0 → y ≡ next_node opening_words.key opening_words.child k x → (y ≡ 1) ⊎ (y ≡ 2)
next_leaf k x y h e =
    let right : Bool = nat_le (opening_words.key x) k in
    let to : y ≡ opening_words.child 0 right = e ∙ ap (λ n. opening_words.child n right) h in
    subst (λ n. (n ≡ 1) ⊎ (n ≡ 2)) (sym to) (root_leaf right)

-- no walk from the root finds a real key
finds_none : (k x : ℕ) → k ≤ greatest_key → x ≡ 0 → LeadsTo opening_words k x → ⊥
finds_none k x real h (at_leaf outer e _) = outer (ap (λ n. n % 4) h)
finds_none k x real h (below inner e rest) = no_leaf k _ real (next_leaf k x _ h e) rest

-- the opening tree has no real key
pub opening_empty : (k : ℕ) → k ≤ greatest_key → LeadsTo opening_words k 0 → ⊥
opening_empty k real found = finds_none k 0 real refl found
