use Rattle.std.proofs.Common.{◌≡◌, ◌≢◌, ℕ, zero, suc, ◌+◌, ◌-◌, ◌%◌, ◌<◌, ◌≤◌, ◌==◌, if◌then◌else◌, ⊎_elim, Bool, true, false, List, [], ◌∷◌, ◌++◌, Contains, AllPairs, arith, refl, ap, ap₂, sym, subst, ◌∙◌}
use Rattle.std.proofs.lemmas.Bool.{cond-true, cond-false, eq-eqb, ne_eqb}
use Rattle.std.proofs.lemmas.List.Elements.{Contains-append_left, Contains-append_right, Contains-append_cases}
use Rattle.ell_word.specs.Node.{IsInternal}
use Rattle.ell_layout.specs.Words.{Words, IsLeaf}
use Rattle.ell_core.specs.tree.Tree.{Below, Reached, IsLawful}
use Rattle.ell_core.specs.tree.Room.{HasRoom}
use Rattle.ell_core.proofs.lemmas.tree.Pairs.{Contains-none, Contains-first, Contains-later, Contains-cons_cases, AllPairs-none, AllPairs-append, AllPairs-cons, AllPairs-single}
use Rattle.ell_core.proofs.lemmas.tree.Paths.{internal_or_leaf, Below-refl, Below-from_child, Below-cases, Below-leaf, Reached-child, Below-child-lt, sides_apart}
use Rattle.ell_core.specs.tree.Rank.{rank}
use Rattle.ell_core.proofs.lemmas.tree.Ranks.{ranked_apart, rank_bound, rank_most}

-- the nodes below a node, left before right, down to as many levels as the fuel says
unfoldable pub nodes_below : Words → ℕ → ℕ → List ℕ
nodes_below w zero x = []
nodes_below w (suc fuel) x =
    x ∷ (if x % 4 == 0 then nodes_below w fuel (w.child x false) ++ nodes_below w fuel (w.child x true) else [])

-- below a leaf there is only the leaf
pub nodes_below-leaf : (w : Words) (fuel x : ℕ) → IsLeaf x → nodes_below w (suc fuel) x ≡ x ∷ []
unfolding nodes_below
nodes_below-leaf w fuel x outer =
    ap (λ rest. x ∷ rest) (cond-false (x % 4 == 0) (nodes_below w fuel (w.child x false) ++ nodes_below w fuel (w.child x true)) [] (ne_eqb (x % 4) 0 outer))

-- below an internal node there are the node and the nodes below its children
pub nodes_below-inner : (w : Words) (fuel x : ℕ) → IsInternal x →
    nodes_below w (suc fuel) x ≡ x ∷ (nodes_below w fuel (w.child x false) ++ nodes_below w fuel (w.child x true))
unfolding nodes_below
nodes_below-inner w fuel x inner =
    ap (λ rest. x ∷ rest) (cond-true (x % 4 == 0) (nodes_below w fuel (w.child x false) ++ nodes_below w fuel (w.child x true)) [] (eq-eqb (x % 4) 0 inner))

-- with no fuel there is no node
pub nodes_below-none : (w : Words) (x : ℕ) → nodes_below w zero x ≡ []
unfolding nodes_below
nodes_below-none w x = refl

-- each node of the list is below the node
pub nodes_below-only : (w : Words) (fuel x y : ℕ) → Contains (nodes_below w fuel x) y → Below w x y
nodes_below-only w zero x y h = absurd (Contains-none y (subst (λ xs. Contains xs y) (nodes_below-none w x) h))
nodes_below-only w (suc fuel) x y h = ⊎_elim
    (λ inner. ⊎_elim
    (λ here. subst (Below w x) here (Below-refl w x))
    (λ later. ⊎_elim
    (λ on_left. Below-from_child w x y false inner (nodes_below-only w fuel (w.child x false) y on_left))
    (λ on_right. Below-from_child w x y true inner (nodes_below-only w fuel (w.child x true) y on_right))
    (Contains-append_cases (nodes_below w fuel (w.child x false)) (nodes_below w fuel (w.child x true)) y later))
    (Contains-cons_cases x (nodes_below w fuel (w.child x false) ++ nodes_below w fuel (w.child x true)) y
    (subst (λ xs. Contains xs y) (nodes_below-inner w fuel x inner) h)))
    (λ outer. ⊎_elim
    (λ here. subst (Below w x) here (Below-refl w x))
    (λ none. absurd (Contains-none y none))
    (Contains-cons_cases x [] y (subst (λ xs. Contains xs y) (nodes_below-leaf w fuel x outer) h)))
    (internal_or_leaf x)

-- what one of two lists contains, the joined ones contain
Contains-either : (lists : Bool → List ℕ) (right : Bool) (y : ℕ) → Contains (lists right) y → Contains (lists false ++ lists true) y
Contains-either lists false y h = Contains-append_left (lists false) (lists true) y h
Contains-either lists true y h = Contains-append_right (lists false) (lists true) y h

-- a lawful tree whose reached nodes have ranks less than n
module _ (w : Words) (n : ℕ) (lawful : IsLawful w) (inside : (x : ℕ) → Reached w x → rank w x < n) where
  -- the nodes below children of x, with fuel enough, are the nodes below x after x itself: with one fuel more the list is the same
  pub nodes_below-more : (fuel x : ℕ) → Reached w x → n ≤ fuel + rank w x → nodes_below w fuel x ≡ nodes_below w (suc fuel) x
  nodes_below-more zero x reached enough = let within = inside x reached in absurd (omega arith)
  nodes_below-more (suc fuel) x reached enough = ⊎_elim
      (λ inner.
      let left_up = lawful.rises x false reached inner in
      let right_up = lawful.rises x true reached inner in
      nodes_below-inner w fuel x inner
      ∙ ap₂ (λ xs ys. x ∷ (xs ++ ys))
      (nodes_below-more fuel (w.child x false) (Reached-child w x false reached inner) (omega arith))
      (nodes_below-more fuel (w.child x true) (Reached-child w x true reached inner) (omega arith))
      ∙ sym (nodes_below-inner w (suc fuel) x inner))
      (λ outer. nodes_below-leaf w fuel x outer ∙ sym (nodes_below-leaf w (suc fuel) x outer))
      (internal_or_leaf x)

  -- with fuel enough each node below x is in the list
  pub nodes_below-all : (fuel x y : ℕ) → Reached w x → n ≤ fuel + rank w x → Below w x y → Contains (nodes_below w fuel x) y
  nodes_below-all zero x y reached enough below = let within = inside x reached in absurd (omega arith)
  nodes_below-all (suc fuel) x y reached enough below = ⊎_elim
      (λ inner.
      let lefts = nodes_below w fuel (w.child x false) in
      let rights = nodes_below w fuel (w.child x true) in
      subst (λ xs. Contains xs y) (sym (nodes_below-inner w fuel x inner))
      (⊎_elim
      (λ here. subst (Contains (x ∷ (lefts ++ rights))) (sym here) (Contains-first x (lefts ++ rights)))
      (λ later.
      let up = lawful.rises x later.right reached inner in
      Contains-later x (lefts ++ rights) y
      (Contains-either (λ side. nodes_below w fuel (w.child x side)) later.right y
      (nodes_below-all fuel (w.child x later.right) y (Reached-child w x later.right reached inner) (omega arith) later.below)))
      (Below-cases w x y below)))
      (λ outer. subst (λ xs. Contains xs y) (sym (nodes_below-leaf w fuel x outer))
      (subst (Contains (x ∷ [])) (sym (Below-leaf w x y outer below)) (Contains-first x [])))
      (internal_or_leaf x)

  -- no node is twice in the list
  pub nodes_below-apart : (fuel x : ℕ) → Reached w x → AllPairs (λ y z. y ≢ z) (nodes_below w fuel x)
  nodes_below-apart zero x reached = subst (AllPairs (λ y z. y ≢ z)) (sym (nodes_below-none w x)) (AllPairs-none (λ y z. y ≢ z))
  nodes_below-apart (suc fuel) x reached = ⊎_elim
      (λ inner.
      let lefts = nodes_below w fuel (w.child x false) in
      let rights = nodes_below w fuel (w.child x true) in
      subst (AllPairs (λ y z. y ≢ z)) (sym (nodes_below-inner w fuel x inner))
      (AllPairs-cons (λ y z. y ≢ z) x (lefts ++ rights)
      (λ y h. ⊎_elim
      (λ on_left. let up = Below-child-lt w lawful x y false reached inner (nodes_below-only w fuel (w.child x false) y on_left) in ranked_apart w x y up)
      (λ on_right. let up = Below-child-lt w lawful x y true reached inner (nodes_below-only w fuel (w.child x true) y on_right) in ranked_apart w x y up)
      (Contains-append_cases lefts rights y h))
      (AllPairs-append (λ y z. y ≢ z) lefts rights
      (nodes_below-apart fuel (w.child x false) (Reached-child w x false reached inner))
      (nodes_below-apart fuel (w.child x true) (Reached-child w x true reached inner))
      (λ y z on_left on_right same. sides_apart w lawful x y reached inner
      (nodes_below-only w fuel (w.child x false) y on_left)
      (nodes_below-only w fuel (w.child x true) y (subst (Contains rights) (sym same) on_right))))))
      (λ outer. subst (AllPairs (λ y z. y ≢ z)) (sym (nodes_below-leaf w fuel x outer)) (AllPairs-single (λ y z. y ≢ z) x))
      (internal_or_leaf x)

-- fuel enough for a tree that so many places have room for
abbrev pub fuel_for : Words → ℕ → ℕ
fuel_for w places = rank_bound w (places - 2)

-- the rank of each of its reached nodes is less
pub ranks_inside : (w : Words) (places : ℕ) → HasRoom w places → (x : ℕ) → Reached w x → rank w x < fuel_for w places
ranks_inside w places room x reached = let h = room x reached in rank_most w x (places - 2) (omega arith)
