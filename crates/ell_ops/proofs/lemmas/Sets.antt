use Rattle.std.proofs.Common.{◌≡◌, ℕ, List, [], ◌∷◌, ◌||◌, eqb, arith, refl, ap, sym, ◌∙◌}
use Rattle.std.proofs.lemmas.Bool.Decides.{nat_tests}
use Rattle.std.proofs.lemmas.Cmp.{nat_cmp_total}
use Rattle.std.proofs.lemmas.Map.Keys.{sorted_from_strictly_increasing}
use Rattle.std.proofs.lemmas.Map.Lookups.{btree_set_from_contains, exact_unsigned}
use Rattle.std.specs.BTreeMap.{is_at}
use Rattle.std.specs.List.{list_any}
use Rattle.std.specs.Ordering.{nat_cmp}
use Rattle.ell_ops.specs.KeySet.{KeySet, set_of, Lists}

-- std's test for a key is equality
pub is_at-nat : (q key : ℕ) → is_at (nat_cmp q) key ≡ eqb q key
is_at-nat q key = grind (arith, nat_tests)

-- so a set of std has the keys of its list
pub contains-set_of : (keys : List ℕ) (q : ℕ) → list_any (is_at (nat_cmp q)) keys ≡ set_of keys q
contains-set_of [] q = refl
contains-set_of (key ∷ keys) q = ap (λ b. b || list_any (is_at (nat_cmp q)) keys) (is_at-nat q key) ∙ ap (λ b. eqb q key || b) (contains-set_of keys q)

-- an equality test is the same from both sides
pub eqb-swap : (a b : ℕ) → eqb a b ≡ eqb b a
eqb-swap a b = grind (arith, nat_tests)

-- a set has one ascending list of its keys
pub one_list : (set : KeySet) (xs ys : List ℕ) → Lists set xs → Lists set ys → xs ≡ ys
one_list set xs ys first second =
    btree_set_from_contains nat_cmp_total (record { keys = xs }) (record { keys = ys })
    (sorted_from_strictly_increasing xs first.ascending) (sorted_from_strictly_increasing ys second.ascending)
    (λ q. contains-set_of xs q ∙ ap (λ f. f q) (first.each ∙ sym second.each) ∙ sym (contains-set_of ys q))
    exact_unsigned
