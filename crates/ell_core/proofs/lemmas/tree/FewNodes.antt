use Rattle.std.proofs.Common.{◌≡◌, ◌≢◌, ℕ, zero, suc, ◌+◌, ◌*◌, ◌%◌, ◌<◌, ◌≤◌, ◌==◌, if◌then◌else◌, ◌⊎◌, inl, inr, ⊎_elim, nat_le, Bool, true, false, List, [], ◌∷◌, ◌++◌, Contains, AllPairs, length, length-append, arith, refl, ap, sym, subst, ◌∙◌}
use Rattle.std.proofs.lemmas.Bool.{cases_eq, cond-true, cond-false, eq-eqb, ne_eqb, le-leb, lt-leb}
use Rattle.std.proofs.lemmas.Bool.Decides.{Decides-eqb}
use Rattle.std.proofs.lemmas.Map.Entries.{length-keys_of}
use Rattle.std.proofs.lemmas.Map.Made.{IsDistinct-from_AllPairs, length-le_from_is_member}
use Rattle.std.proofs.lemmas.Map.Views.{list_any-from_Contains}
use Rattle.std.specs.Cmp.{nat_eq_equiv}
use Rattle.std.specs.Map.{keys_of}
use Rattle.ell_ops.specs.Meaning.{greatest_key}
use Rattle.ell_word.specs.Node.{IsInternal, right_leaf}
use Rattle.ell_layout.specs.Words.{Words, IsLeaf}
use Rattle.ell_core.specs.tree.Tree.{Below, Reached, IsLawful, ListsTreePairs}
use Rattle.ell_core.specs.tree.Room.{HasRoom}
use Rattle.ell_core.specs.tree.Rank.{rank}
use Rattle.ell_core.proofs.lemmas.tree.FewKeys.{inner_cards, inner_cards-none, inner_cards-inner, inner_cards-leaf, inner_cards-length, first_apart, no_longer}
use Rattle.ell_core.proofs.lemmas.tree.Nodes.{nodes_below, nodes_below-leaf, nodes_below-inner, nodes_below-only, nodes_below-all, nodes_below-apart, fuel_for, ranks_inside}
use Rattle.ell_core.proofs.lemmas.tree.Pairs.{Contains-none, Contains-first, Contains-later, Contains-cons_cases, Contains-from_list_any, AllPairs-none, AllPairs-cons}
use Rattle.ell_core.proofs.lemmas.tree.Paths.{internal_or_leaf, Below-refl, Below-cases, Below-leaf, Reached-child}
use Rattle.ell_core.proofs.lemmas.tree.RealPairs.{inner, real, infinite, kind_of, real_pairs, real_pairs-none, real_pairs-inner, real_pairs-real, real_pairs-infinite, ListsTreePairs-all, ListsKeys-of_pairs}

-- the leaves of infinite keys among nodes
unfoldable tops : Words → List ℕ → List ℕ
tops w [] = []
tops w (x ∷ xs) = if x % 4 == 0 then tops w xs else (if nat_le (w.key x) greatest_key then tops w xs else x ∷ tops w xs)

tops-none : (w : Words) → tops w [] ≡ []
unfolding tops
tops-none w = refl

tops-inner : (w : Words) (x : ℕ) (xs : List ℕ) → IsInternal x → tops w (x ∷ xs) ≡ tops w xs
unfolding tops
tops-inner w x xs h = cond-true (x % 4 == 0) (tops w xs) (if nat_le (w.key x) greatest_key then tops w xs else x ∷ tops w xs) (eq-eqb (x % 4) 0 h)

tops-real : (w : Words) (x : ℕ) (xs : List ℕ) → IsLeaf x → w.key x ≤ greatest_key → tops w (x ∷ xs) ≡ tops w xs
unfolding tops
tops-real w x xs outer low =
    cond-false (x % 4 == 0) (tops w xs) (if nat_le (w.key x) greatest_key then tops w xs else x ∷ tops w xs) (ne_eqb (x % 4) 0 outer)
    ∙ cond-true (nat_le (w.key x) greatest_key) (tops w xs) (x ∷ tops w xs) (le-leb (w.key x) greatest_key low)

tops-infinite : (w : Words) (x : ℕ) (xs : List ℕ) → IsLeaf x → greatest_key < w.key x → tops w (x ∷ xs) ≡ x ∷ tops w xs
unfolding tops
tops-infinite w x xs outer above =
    cond-false (x % 4 == 0) (tops w xs) (if nat_le (w.key x) greatest_key then tops w xs else x ∷ tops w xs) (ne_eqb (x % 4) 0 outer)
    ∙ cond-false (nat_le (w.key x) greatest_key) (tops w xs) (x ∷ tops w xs) (lt-leb (w.key x) greatest_key above)

-- each node is internal, or a leaf of a real key, or one of an infinite one
parts : (w : Words) (xs : List ℕ) → length xs ≡ length (inner_cards xs) + length (real_pairs w xs) + length (tops w xs)
parts w [] =
    let cards = ap length inner_cards-none in
    let pairs = ap length (real_pairs-none w) in
    let top = ap length (tops-none w) in
    omega arith
parts w (x ∷ xs) =
    let rest = parts w xs in elim (kind_of w x) [
      | inner h ↦
          let cards = ap length (inner_cards-inner x xs h) in
          let pairs = ap length (real_pairs-inner w x xs h) in
          let top = ap length (tops-inner w x xs h) in
          omega arith
      | real outer low ↦
          let cards = ap length (inner_cards-leaf x xs outer) in
          let pairs = ap length (real_pairs-real w x xs outer low) in
          let top = ap length (tops-real w x xs outer low) in
          omega arith
      | infinite outer above ↦
          let cards = ap length (inner_cards-leaf x xs outer) in
          let pairs = ap length (real_pairs-infinite w x xs outer above) in
          let top = ap length (tops-infinite w x xs outer above) in
          omega arith
    ]

-- the leaves of infinite keys are such leaves among the nodes
record IsTop (w : Words) (xs : List ℕ) (x : ℕ) : Type 0 where
  pub listed : Contains xs x
  pub outer : IsLeaf x
  pub above : greatest_key < w.key x

tops-only : (w : Words) (xs : List ℕ) (y : ℕ) → Contains (tops w xs) y → IsTop w xs y
tops-only w [] y h = absurd (Contains-none y (subst (λ ys. Contains ys y) (tops-none w) h))
tops-only w (x ∷ xs) y h = elim (kind_of w x) [
  | inner e ↦ later (tops-only w xs y (subst (λ ys. Contains ys y) (tops-inner w x xs e) h))
  | real outer low ↦ later (tops-only w xs y (subst (λ ys. Contains ys y) (tops-real w x xs outer low) h))
  | infinite outer above ↦ ⊎_elim
      (λ e. subst (IsTop w (x ∷ xs)) e (record { listed = Contains-first x xs; outer = outer; above = above }))
      (λ more. later (tops-only w xs y more))
      (Contains-cons_cases x (tops w xs) y (subst (λ ys. Contains ys y) (tops-infinite w x xs outer above) h))
]
  where
    later : IsTop w xs y → IsTop w (x ∷ xs) y
    later t = record { listed = Contains-later x xs y t.listed; outer = t.outer; above = t.above }

tops-apart : (w : Words) (xs : List ℕ) → AllPairs (λ a b. a ≢ b) xs → AllPairs (λ a b. a ≢ b) (tops w xs)
tops-apart w [] apart = subst (AllPairs (λ a b. a ≢ b)) (sym (tops-none w)) (AllPairs-none (λ a b. a ≢ b))
tops-apart w (x ∷ xs) apart =
    let rest = tops-apart w xs (λ i j d before below. apart (suc i) (suc j) d (omega arith) (omega arith)) in
    elim (kind_of w x) [
      | inner e ↦ subst (AllPairs (λ a b. a ≢ b)) (sym (tops-inner w x xs e)) rest
      | real outer low ↦ subst (AllPairs (λ a b. a ≢ b)) (sym (tops-real w x xs outer low)) rest
      | infinite outer above ↦ subst (AllPairs (λ a b. a ≢ b)) (sym (tops-infinite w x xs outer above))
          (AllPairs-cons (λ a b. a ≢ b) x (tops w xs) (λ y h. first_apart x xs y apart (tops-only w xs y h).listed) rest)
    ]

-- there are two at most
module _ (w : Words) (lawful : IsLawful w) where
  top_is : (x : ℕ) → Reached w x → IsLeaf x → greatest_key < w.key x → (x ≡ lawful.left.last) ⊎ (x ≡ right_leaf 0)
  top_is x reached outer above = ⊎_elim
      (λ here. absurd (outer (subst IsInternal (sym here) (omega arith))))
      (λ later. by later.right later.below)
      (Below-cases w 0 x reached)
    where
      by : (right : Bool) → Below w (w.child 0 right) x → (x ≡ lawful.left.last) ⊎ (x ≡ right_leaf 0)
      by true below = inr (Below-leaf w (right_leaf 0) x (λ h. omega arith) (subst (λ y. Below w y x) lawful.root_right below))
      by false below = elim (cases_eq x lawful.left.last) [
        | inl e ↦ inl e
        | inr other ↦ absurd (let low = lawful.left.real x below outer other in omega arith)
      ]

  two_tops : (xs : List ℕ) → AllPairs (λ a b. a ≢ b) xs → ((x : ℕ) → Contains xs x → Reached w x) → length (tops w xs) ≤ 2
  two_tops xs apart reached =
      length-le_from_is_member nat_eq_equiv (tops w xs) (lawful.left.last ∷ right_leaf 0 ∷ [])
      (IsDistinct-from_AllPairs Decides-eqb (tops w xs) (tops-apart w xs apart))
      (λ x h. list_any-from_Contains nat_eq_equiv x (lawful.left.last ∷ right_leaf 0 ∷ []) (member x (tops-only w xs x (Contains-from_list_any (tops w xs) x h))))
    where
      member : (x : ℕ) → IsTop w xs x → Contains (lawful.left.last ∷ right_leaf 0 ∷ []) x
      member x t = ⊎_elim
          (λ e. subst (Contains (lawful.left.last ∷ right_leaf 0 ∷ [])) (sym e) (Contains-first lawful.left.last (right_leaf 0 ∷ [])))
          (λ e. Contains-later lawful.left.last (right_leaf 0 ∷ []) x (subst (Contains (right_leaf 0 ∷ [])) (sym e) (Contains-first (right_leaf 0) [])))
          (top_is x (reached x t.listed) t.outer t.above)

-- with fuel enough there are more leaves than internal nodes
module _ (w : Words) (n : ℕ) (lawful : IsLawful w) (inside : (x : ℕ) → Reached w x → rank w x < n) where
  many_leaves : (fuel x : ℕ) → Reached w x → n ≤ fuel + rank w x → 2 * length (inner_cards (nodes_below w fuel x)) + 1 ≤ length (nodes_below w fuel x)
  many_leaves zero x reached enough = let within = inside x reached in absurd (omega arith)
  many_leaves (suc fuel) x reached enough = ⊎_elim
      (λ e.
      let lefts = nodes_below w fuel (w.child x false) in
      let rights = nodes_below w fuel (w.child x true) in
      let left_up = lawful.rises x false reached e in
      let right_up = lawful.rises x true reached e in
      let on_left = many_leaves fuel (w.child x false) (Reached-child w x false reached e) (omega arith) in
      let on_right = many_leaves fuel (w.child x true) (Reached-child w x true reached e) (omega arith) in
      let all = ap length (nodes_below-inner w fuel x e) in
      let both = length-append lefts rights in
      let cards = ap (λ nodes. length (inner_cards nodes)) (nodes_below-inner w fuel x e) in
      let one = ap length (inner_cards-inner x (lefts ++ rights) e) in
      let both_cards = inner_cards-length lefts rights in
      omega arith)
      (λ outer.
      let all = ap length (nodes_below-leaf w fuel x outer) in
      let cards = ap (λ nodes. length (inner_cards nodes)) (nodes_below-leaf w fuel x outer) in
      let one = ap length (inner_cards-leaf x [] outer) in
      let none = ap length inner_cards-none in
      omega arith)
      (internal_or_leaf x)

-- a tree with so many keys has at most two nodes for each, and three more
module _ (w : Words) (places : ℕ) (lawful : IsLawful w) (room : HasRoom w places) where
  abbrev pub tree_nodes : List ℕ
  tree_nodes = nodes_below w (fuel_for w places) 0

  pub few_nodes : (pairs : List (ℕ × ℕ)) → ListsTreePairs w pairs → length tree_nodes ≤ 2 * length pairs + 3
  few_nodes pairs listed =
      let inside = ranks_inside w places room in
      let fuel = fuel_for w places in
      let here = Below-refl w 0 in
      let sum = parts w tree_nodes in
      let many = many_leaves w fuel lawful inside fuel 0 here (omega arith) in
      let two = two_tops w lawful tree_nodes (nodes_below-apart w fuel lawful inside fuel 0 here) (λ x h. nodes_below-only w fuel 0 x h) in
      let found = real_pairs w tree_nodes in
      let all = no_longer w (keys_of found) (keys_of pairs) (ListsKeys-of_pairs w found (ListsTreePairs-all w fuel lawful inside)) (ListsKeys-of_pairs w pairs listed) in
      let same_found = length-keys_of found in
      let same_pairs = length-keys_of pairs in
      omega arith

  pub has_node : (x : ℕ) → Reached w x → Contains tree_nodes x
  has_node x reached = nodes_below-all w (fuel_for w places) lawful (ranks_inside w places room) (fuel_for w places) 0 x (Below-refl w 0) (omega arith) reached
