use Rattle.std.proofs.Common.{◌≡◌, ℕ, List, length, nat_cmp, ap}
use Rattle.std.specs.Prelude.{is_some, is_ok}
use Rattle.std.specs.declared.result.Result.{Result}
use Rattle.std.specs.declared.result.Result.TheVariants.{Ok, Err}
use Rattle.std.specs.List.Sorted.{IsBinarySearchResult, IsSearchInRange, IsStrictlyIncreasing}
use Rattle.std.specs.Map.{keys_of}
use Rattle.ell_core.proofs.lemmas.opening.KeyLists.{found_by_search, missed_by_search, search_order}
use Rattle.ell_ops.specs.Contents.{contents_of, keys_in}

-- a binary search among pairs whose keys ascend finds the keys that are there
pub is_ok-search : (pairs : List (ℕ × ℕ)) (key : ℕ) (r : Result ℕ ℕ) → IsStrictlyIncreasing (keys_of pairs) → IsSearchInRange r (length pairs) →
    IsBinarySearchResult (λ (pair : ℕ × ℕ). nat_cmp pair.0 key) pairs r → is_ok r ≡ keys_in (contents_of pairs) key
is_ok-search pairs key (Ok i) rising within found = ap is_some (found_by_search pairs key i rising within found)
is_ok-search pairs key (Err i) rising within splits =
    let split = splits (search_order pairs key rising) in
    ap is_some (missed_by_search pairs key i split.0 split.1)
