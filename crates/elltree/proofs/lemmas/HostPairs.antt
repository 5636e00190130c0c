use Rattle.std.proofs.Common.{◌↔◌, ◌<◌, ◌≤◌, ℕ, List, All, length, map, sym, subst}
use Rattle.std.proofs.lemmas.List.{get_or-map, length-map}
use Rattle.std.proofs.lemmas.Simd.{map-map}
use Rattle.std.specs.List.Sorted.{IsStrictlyIncreasing}
use Rattle.std.specs.Map.{keys_of}
use Rattle.ell_ops.specs.Meaning.{greatest_key}
use Rattle.ell_tree.specs.declared.scanning.Pair.{Pair}
use Rattle.elltree.specs.Handles.{as_pairs}

abbrev none : Pair
none = record { key = 0; value = 0 }

-- the keys of a host's pairs are real if those of the tree's are
pub real_pairs : (pairs : List Pair) → All (λ (p : Pair). p.key ≤ greatest_key) pairs ↔ All (λ (e : ℕ × ℕ). e.0 ≤ greatest_key) (as_pairs pairs)
real_pairs pairs = (
  λ real i d low.
      let inside : i < length pairs = subst (λ n. i < n) (length-map pairs (λ (p : Pair). (p.key, p.value))) low in
      subst (λ (e : ℕ × ℕ). e.0 ≤ greatest_key) (sym (get_or-map (λ (p : Pair). (p.key, p.value)) pairs i none d inside)) (real i none inside),
  λ real i d low.
      subst (λ (e : ℕ × ℕ). e.0 ≤ greatest_key) (get_or-map (λ (p : Pair). (p.key, p.value)) pairs i d (0, 0) low)
      (real i (0, 0) (subst (λ n. i < n) (sym (length-map pairs (λ (p : Pair). (p.key, p.value)))) low)),
)

-- and they ascend if those do
pub host_ascends : (pairs : List Pair) → IsStrictlyIncreasing (map (λ (p : Pair). p.key) pairs) ↔ IsStrictlyIncreasing (keys_of (as_pairs pairs))
host_ascends pairs =
    let same = map-map (λ (e : ℕ × ℕ). e.0) (λ (p : Pair). (p.key, p.value)) pairs in
    (λ rises. subst IsStrictlyIncreasing (sym same) rises, λ rises. subst IsStrictlyIncreasing same rises)

-- the keys of pairs are real if the pairs are
pub real_keys : (start : List (ℕ × ℕ)) → All (λ (e : ℕ × ℕ). e.0 ≤ greatest_key) start → All (λ k. k ≤ greatest_key) (keys_of start)
real_keys start are i d low =
    let inside : i < length start = subst (λ n. i < n) (length-map start (λ e. e.0)) low in
    subst (λ k. k ≤ greatest_key) (sym (get_or-map (λ e. e.0) start i (0, 0) d inside)) (are i (0, 0) inside)
