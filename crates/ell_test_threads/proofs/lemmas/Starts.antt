use Rattle.std.proofs.Common.{ℕ, ◌≤◌, List, map, subst}
use Rattle.std.specs.List.{All}
use Rattle.std.specs.List.Sorted.{IsStrictlyIncreasing}
use Rattle.std.specs.Map.{keys_of}
use Rattle.std.proofs.lemmas.List.{map-id}
use Rattle.std.proofs.lemmas.List.Elements.{All-map}
use Rattle.ell_ops.specs.Meaning.{greatest_key}

-- pairs with real keys are of real keys
pub start_real : (start : List (ℕ × ℕ)) → All (λ pair. pair.0 ≤ greatest_key) start → All (λ k. k ≤ greatest_key) (keys_of start)
start_real start fit = All-map (λ k. k ≤ greatest_key) (λ pair. pair.0) start fit

-- a list of keys ascends if the keys of its items do, which are these themselves
pub themselves_ascend : (keys : List ℕ) → IsStrictlyIncreasing (map (λ (k : ℕ). k) keys) → IsStrictlyIncreasing keys
themselves_ascend keys up = subst IsStrictlyIncreasing (map-id keys) up
