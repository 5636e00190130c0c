use Rattle.std.proofs.Common.{◌≡◌, ℕ, zero, suc, ◌%◌, ◌<◌, ◌≤◌, ◌==◌, if◌then◌else◌, ⊎_elim, nat_le, true, false, List, [], ◌∷◌, ◌++◌, Contains, AllPairs, arith, refl, ap, sym, subst, ◌∙◌}
use Rattle.std.proofs.lemmas.Bool.{cond-true, cond-false, eq-eqb, ne_eqb, le-leb, lt-leb, cases_lt}
use Rattle.std.specs.Map.{keys_of}
use Rattle.ell_ops.specs.Meaning.{greatest_key}
use Rattle.ell_word.specs.Node.{IsInternal}
use Rattle.ell_layout.specs.Words.{Words, IsLeaf}
use Rattle.ell_core.specs.tree.Tree.{Reached, IsLawful, ListsTreePairs, ListsKeys}
use Rattle.ell_core.proofs.lemmas.tree.Pairs.{Contains-none, Contains-first, Contains-later, Contains-cons_cases, Contains-keys_of, Contains-from_keys_of, IsStrictlyIncreasing-keys_of, AllPairs-none, AllPairs-append, AllPairs-single}
use Rattle.ell_core.proofs.lemmas.tree.Paths.{internal_or_leaf, Below-refl, Reached-child}
use Rattle.ell_core.proofs.lemmas.tree.Nodes.{nodes_below, nodes_below-none, nodes_below-leaf, nodes_below-inner, nodes_below-only, nodes_below-all}
use Rattle.ell_core.specs.tree.Rank.{rank}

-- a node's key with its value
abbrev pub pair_at : Words → ℕ → ℕ × ℕ
pair_at w x = (w.key x, w.value x)

-- the real keys of the leaves among nodes with their values, in the nodes' order
unfoldable pub real_pairs : Words → List ℕ → List (ℕ × ℕ)
real_pairs w [] = []
real_pairs w (x ∷ xs) =
    if x % 4 == 0 then real_pairs w xs
    else (if nat_le (w.key x) greatest_key then pair_at w x ∷ real_pairs w xs else real_pairs w xs)

-- no node has no pair
pub real_pairs-none : (w : Words) → real_pairs w [] ≡ []
unfolding real_pairs
real_pairs-none w = refl

-- an internal node adds no pair
pub real_pairs-inner : (w : Words) (x : ℕ) (xs : List ℕ) → IsInternal x → real_pairs w (x ∷ xs) ≡ real_pairs w xs
unfolding real_pairs
real_pairs-inner w x xs inner =
    cond-true (x % 4 == 0) (real_pairs w xs) (if nat_le (w.key x) greatest_key then pair_at w x ∷ real_pairs w xs else real_pairs w xs) (eq-eqb (x % 4) 0 inner)

-- a leaf adds its key with its value, if the key is real
pub real_pairs-real : (w : Words) (x : ℕ) (xs : List ℕ) → IsLeaf x → w.key x ≤ greatest_key → real_pairs w (x ∷ xs) ≡ pair_at w x ∷ real_pairs w xs
unfolding real_pairs
real_pairs-real w x xs outer real =
    cond-false (x % 4 == 0) (real_pairs w xs) (if nat_le (w.key x) greatest_key then pair_at w x ∷ real_pairs w xs else real_pairs w xs) (ne_eqb (x % 4) 0 outer)
    ∙ cond-true (nat_le (w.key x) greatest_key) (pair_at w x ∷ real_pairs w xs) (real_pairs w xs) (le-leb (w.key x) greatest_key real)

-- a leaf of an infinite key adds none
pub real_pairs-infinite : (w : Words) (x : ℕ) (xs : List ℕ) → IsLeaf x → greatest_key < w.key x → real_pairs w (x ∷ xs) ≡ real_pairs w xs
unfolding real_pairs
real_pairs-infinite w x xs outer infinite =
    cond-false (x % 4 == 0) (real_pairs w xs) (if nat_le (w.key x) greatest_key then pair_at w x ∷ real_pairs w xs else real_pairs w xs) (ne_eqb (x % 4) 0 outer)
    ∙ cond-false (nat_le (w.key x) greatest_key) (pair_at w x ∷ real_pairs w xs) (real_pairs w xs) (lt-leb (w.key x) greatest_key infinite)

-- the kinds of node: internal, a leaf of a real key, and a leaf of an infinite one
pub data NodeKind (w : Words) (x : ℕ) : Type 0 where
  inner : IsInternal x → NodeKind w x
  real : IsLeaf x → w.key x ≤ greatest_key → NodeKind w x
  infinite : IsLeaf x → greatest_key < w.key x → NodeKind w x

-- each node is of a kind
pub kind_of : (w : Words) (x : ℕ) → NodeKind w x
kind_of w x = ⊎_elim (λ h. inner h)
    (λ outer. ⊎_elim (λ above. infinite outer above) (λ low. real outer low) (cases_lt greatest_key (w.key x)))
    (internal_or_leaf x)

-- the pairs of two joined lists of nodes
pub real_pairs-append : (w : Words) (xs ys : List ℕ) → real_pairs w (xs ++ ys) ≡ real_pairs w xs ++ real_pairs w ys
real_pairs-append w [] ys = ap (λ pairs. pairs ++ real_pairs w ys) (sym (real_pairs-none w))
real_pairs-append w (x ∷ xs) ys = elim (kind_of w x) [
  | inner h ↦ real_pairs-inner w x (xs ++ ys) h ∙ real_pairs-append w xs ys ∙ ap (λ pairs. pairs ++ real_pairs w ys) (sym (real_pairs-inner w x xs h))
  | real outer low ↦ real_pairs-real w x (xs ++ ys) outer low ∙ ap (λ pairs. pair_at w x ∷ pairs) (real_pairs-append w xs ys)
      ∙ ap (λ pairs. pairs ++ real_pairs w ys) (sym (real_pairs-real w x xs outer low))
  | infinite outer above ↦ real_pairs-infinite w x (xs ++ ys) outer above ∙ real_pairs-append w xs ys
      ∙ ap (λ pairs. pairs ++ real_pairs w ys) (sym (real_pairs-infinite w x xs outer above))
]

-- a leaf of a list of nodes that has a real key, with its value
pub record IsRealPair (w : Words) (nodes : List ℕ) (key value : ℕ) : Type 0 where
  pub leaf : ℕ
  pub listed : Contains nodes leaf
  pub outer : IsLeaf leaf
  pub has : w.key leaf ≡ key
  pub says : w.value leaf ≡ value
  pub real : key ≤ greatest_key

-- a real pair of some nodes is one of more nodes
IsRealPair-later : (w : Words) (x : ℕ) (xs : List ℕ) (key value : ℕ) → IsRealPair w xs key value → IsRealPair w (x ∷ xs) key value
IsRealPair-later w x xs key value h = record {
  leaf = h.leaf;
  listed = Contains-later x xs h.leaf h.listed;
  outer = h.outer;
  has = h.has;
  says = h.says;
  real = h.real;
}

-- each of the pairs is a real one of a leaf
pub real_pairs-only : (w : Words) (nodes : List ℕ) (key value : ℕ) → Contains (real_pairs w nodes) (key, value) → IsRealPair w nodes key value
real_pairs-only w [] key value h = absurd (Contains-none (key, value) (subst (λ pairs. Contains pairs (key, value)) (real_pairs-none w) h))
real_pairs-only w (x ∷ xs) key value h = elim (kind_of w x) [
  | inner e ↦ IsRealPair-later w x xs key value (real_pairs-only w xs key value (subst (λ pairs. Contains pairs (key, value)) (real_pairs-inner w x xs e) h))
  | real outer low ↦ ⊎_elim
      (λ here. record {
        leaf = x;
        listed = Contains-first x xs;
        outer = outer;
        has = ap (λ pair. pair.0) here;
        says = ap (λ pair. pair.1) here;
        real = subst (λ pair. pair.0 ≤ greatest_key) here low;
      })
      (λ later. IsRealPair-later w x xs key value (real_pairs-only w xs key value later))
      (Contains-cons_cases (pair_at w x) (real_pairs w xs) (key, value) (subst (λ pairs. Contains pairs (key, value)) (real_pairs-real w x xs outer low) h))
  | infinite outer above ↦
      IsRealPair-later w x xs key value (real_pairs-only w xs key value (subst (λ pairs. Contains pairs (key, value)) (real_pairs-infinite w x xs outer above) h))
]

-- the real key of a leaf is one of the pairs, with the leaf's value
pub real_pairs-all : (w : Words) (nodes : List ℕ) (x : ℕ) → Contains nodes x → IsLeaf x → w.key x ≤ greatest_key → Contains (real_pairs w nodes) (pair_at w x)
real_pairs-all w [] x h outer low = absurd (Contains-none x h)
real_pairs-all w (y ∷ xs) x h outer low = ⊎_elim
    (λ here. subst (λ z. Contains (real_pairs w (z ∷ xs)) (pair_at w x)) (sym here)
    (subst (λ pairs. Contains pairs (pair_at w x)) (sym (real_pairs-real w x xs outer low)) (Contains-first (pair_at w x) (real_pairs w xs))))
    (λ later.
    let rest = real_pairs-all w xs x later outer low in
    elim (kind_of w y) [
      | inner e ↦ subst (λ pairs. Contains pairs (pair_at w x)) (sym (real_pairs-inner w y xs e)) rest
      | real y_outer y_low ↦ subst (λ pairs. Contains pairs (pair_at w x)) (sym (real_pairs-real w y xs y_outer y_low))
          (Contains-later (pair_at w y) (real_pairs w xs) (pair_at w x) rest)
      | infinite y_outer y_above ↦ subst (λ pairs. Contains pairs (pair_at w x)) (sym (real_pairs-infinite w y xs y_outer y_above)) rest
    ])
    (Contains-cons_cases y xs x h)

-- the key of one pair is less than that of another
abbrev pub KeyLess : ℕ × ℕ → ℕ × ℕ → Type 0
KeyLess a b = a.0 < b.0

-- the keys of nodes below a reached node of a lawful tree ascend
pub real_pairs-ascend : (w : Words) → IsLawful w → (fuel x : ℕ) → Reached w x → AllPairs KeyLess (real_pairs w (nodes_below w fuel x))
real_pairs-ascend w lawful zero x reached =
    subst (λ nodes. AllPairs KeyLess (real_pairs w nodes)) (sym (nodes_below-none w x))
    (subst (AllPairs KeyLess) (sym (real_pairs-none w)) (AllPairs-none KeyLess))
real_pairs-ascend w lawful (suc fuel) x reached = elim (kind_of w x) [
  | inner e ↦
      let lefts = nodes_below w fuel (w.child x false) in
      let rights = nodes_below w fuel (w.child x true) in
      subst (λ nodes. AllPairs KeyLess (real_pairs w nodes)) (sym (nodes_below-inner w fuel x e))
      (subst (AllPairs KeyLess) (sym (real_pairs-inner w x (lefts ++ rights) e ∙ real_pairs-append w lefts rights))
      (AllPairs-append KeyLess (real_pairs w lefts) (real_pairs w rights)
      (real_pairs-ascend w lawful fuel (w.child x false) (Reached-child w x false reached e))
      (real_pairs-ascend w lawful fuel (w.child x true) (Reached-child w x true reached e))
      (λ a b in_left in_right.
      let low = real_pairs-only w lefts a.0 a.1 in_left in
      let high = real_pairs-only w rights b.0 b.1 in_right in
      let less = lawful.left_less x low.leaf reached e (nodes_below-only w fuel (w.child x false) low.leaf low.listed) in
      let more = lawful.right_more x high.leaf reached e (nodes_below-only w fuel (w.child x true) high.leaf high.listed) in
      let low_key : w.key low.leaf ≡ a.0 = low.has in
      let high_key : w.key high.leaf ≡ b.0 = high.has in
      omega arith)))
  | real outer low ↦
      subst (λ nodes. AllPairs KeyLess (real_pairs w nodes)) (sym (nodes_below-leaf w fuel x outer))
      (subst (AllPairs KeyLess) (sym (real_pairs-real w x [] outer low ∙ ap (λ pairs. pair_at w x ∷ pairs) (real_pairs-none w)))
      (AllPairs-single KeyLess (pair_at w x)))
  | infinite outer above ↦
      subst (λ nodes. AllPairs KeyLess (real_pairs w nodes)) (sym (nodes_below-leaf w fuel x outer))
      (subst (AllPairs KeyLess) (sym (real_pairs-infinite w x [] outer above ∙ real_pairs-none w)) (AllPairs-none KeyLess))
]

-- the pairs of all nodes of a lawful tree whose reached nodes have ranks less than n are the keys of the tree with their values
pub ListsTreePairs-all : (w : Words) (n : ℕ) → IsLawful w → ((x : ℕ) → Reached w x → rank w x < n) → ListsTreePairs w (real_pairs w (nodes_below w n 0))
ListsTreePairs-all w n lawful inside = record {
  ascending = IsStrictlyIncreasing-keys_of (real_pairs w (nodes_below w n 0)) (real_pairs-ascend w lawful n 0 (Below-refl w 0));
  each = λ key value. (
    λ h. let found = real_pairs-only w (nodes_below w n 0) key value h in
        record {
          leaf = found.leaf;
          reached = nodes_below-only w n 0 found.leaf found.listed;
          outer = found.outer;
          has = found.has;
          says = found.says;
          real = found.real;
        },
    λ h. subst (λ k. Contains (real_pairs w (nodes_below w n 0)) (k, value)) h.has
        (subst (λ v. Contains (real_pairs w (nodes_below w n 0)) (w.key h.leaf, v)) h.says
        (real_pairs-all w (nodes_below w n 0) h.leaf (nodes_below-all w n lawful inside n 0 h.leaf (Below-refl w 0) (omega arith) h.reached)
        h.outer (subst (λ k. k ≤ greatest_key) (sym h.has) h.real))),
  );
}

-- the keys of a list of the tree's pairs are a list of its keys
pub ListsKeys-of_pairs : (w : Words) (pairs : List (ℕ × ℕ)) → ListsTreePairs w pairs → ListsKeys w (keys_of pairs)
ListsKeys-of_pairs w pairs listed = record {
  ascending = listed.ascending;
  each = λ key. (
    λ h. let pair = Contains-from_keys_of pairs key h in (pair.0, (listed.each key pair.0).0 pair.1),
    λ h. Contains-keys_of pairs key h.0 ((listed.each key h.0).1 h.1),
  );
}
