use Rattle.std.proofs.Common.{◌≡◌, ◌↔◌, ℕ, zero, suc, ◌<◌, ◌≤◌, ◌==◌, ◌||◌, eqb-true, eq-eqb, Bool, true, false, IsTrue, Option, Some, None, List, [], ◌∷◌, length, get_or, refl, sym, ap, ◌∙◌, subst, inl, inr, arith, Less, Equal, Greater, true≢false}
use Rattle.std.specs.Prelude.{MatchResult}
use Rattle.std.specs.Result.{is_ok}
use Rattle.std.specs.declared.result.Result.{Result}
use Rattle.std.specs.declared.result.Result.TheVariants.{Ok, Err}
use Rattle.std.specs.Ordering.{nat_cmp, ordering_index}
use Rattle.std.specs.List.Sorted.{IsStrictlyIncreasing, IsNonDecreasingBy, IsBinarySearchResult}
use Rattle.std.specs.Map.{keys_of, values_of}
use Rattle.std.proofs.lemmas.Cmp.{ranked}
use Rattle.ell_ops.specs.Contents.{contents_of}
use Rattle.ell_ops.proofs.lemmas.Pairs.{contents_at, place_in}
use Rattle.std.proofs.lemmas.List.Kept.{AllPairs-from_increasing}
use Rattle.std.proofs.lemmas.List.Sorted.{searched}
use Rattle.std.proofs.lemmas.Bool.{cases_eq, cases_lt}
use Rattle.std.proofs.lemmas.Bool.Decides.{nat_tests}
use Rattle.std.proofs.lemmas.List.{length-map}
use Rattle.std.proofs.lemmas.List.Sorted.{IsNonDecreasingBy-from_default}
use Rattle.ell_ops.specs.KeySet.{set_of}
use Rattle.ell_core.specs.declared.view.Entry.TheVariants.{Present}
use Rattle.ell_core.specs.state.Machine.{entry_of}

-- what is said to be present is there
pub holds_present : (there : Option ℕ) (value : ℕ) → entry_of there ≡ Present value → there ≡ Some value
holds_present (Some v) value h = let same : v ≡ value = cc in ap Some same
holds_present None value h = absurd cc

-- a key at a place is among the keys
pub at_place : (keys : List ℕ) (i d : ℕ) → i < length keys → set_of keys (get_or keys i d) ≡ true
at_place [] i d low = absurd (omega arith)
at_place (k ∷ ks) zero d low = ap (λ t. t || set_of ks k) (eq-eqb k k refl)
at_place (k ∷ ks) (suc i) d low = by (get_or ks i d == k) (at_place ks i d (omega arith))
  where
    by : (t : Bool) → set_of ks (get_or ks i d) ≡ true → (t || set_of ks (get_or ks i d)) ≡ true
    by true e = refl
    by false e = e

-- a key that is among the keys has a place
pub place_of : (keys : List ℕ) (k d : ℕ) → set_of keys k ≡ true → (i : ℕ) × (i < length keys) × (get_or keys i d ≡ k)
place_of [] k d among = absurd (true≢false (sym among))
place_of (x ∷ xs) k d among = by (k == x) refl among (place_of xs k d)
  where
    by : (t : Bool) → (k == x) ≡ t → (t || set_of xs k) ≡ true → (set_of xs k ≡ true → (i : ℕ) × (i < length xs) × (get_or xs i d ≡ k))
        → (i : ℕ) × (i < length (x ∷ xs)) × (get_or (x ∷ xs) i d ≡ k)
    by true e h rest = (0, omega arith, sym (eqb-true k x e))
    by false e h rest = let there = rest h in let low = there.1 in (suc there.0, omega arith, there.2)

-- a binary search finds just the keys that are there
pub search_finds : (keys : List ℕ) (k : ℕ) (found : Result ℕ ℕ) → IsStrictlyIncreasing keys → IsBinarySearchResult (λ y. nat_cmp y k) keys found
    → IsTrue (is_ok found) ↔ (set_of keys k ≡ true)
search_finds keys k found rising says = by found (searched keys k found says apart)
  where
    apart : (i j : ℕ) → i ≤ j → j < length keys → get_or keys i 0 ≤ get_or keys j 0
    apart i j le low = elim (cases_eq i j) [
      | inl e ↦ let same = ap (λ n. get_or keys n 0) e in omega arith
      | inr n ↦ let less : get_or keys i 0 < get_or keys j 0 = AllPairs-from_increasing keys rising i j 0 (omega arith) low in omega arith
    ]

    by : (r : Result ℕ ℕ) → MatchResult r (λ i. (i < length keys) × (get_or keys i 0 ≡ k))
        (λ i. (i ≤ length keys) × ((n : ℕ) → n < i → get_or keys n 0 < k) × ((n : ℕ) → i ≤ n → n < length keys → k < get_or keys n 0))
        → IsTrue (is_ok r) ↔ (set_of keys k ≡ true)
    by (Ok i) at = ((λ yes. subst (λ x. set_of keys x ≡ true) at.1 (at_place keys i 0 at.0)), (λ among. refl))
    by (Err i) at = ((λ no. absurd (true≢false (sym no))), (λ among. let place = place_of keys k 0 among in absurd (nowhere i at.1 at.2 place.0 place.1 place.2)))
      where
        nowhere : (i : ℕ) → ((n : ℕ) → n < i → get_or keys n 0 < k) → ((n : ℕ) → i ≤ n → n < length keys → k < get_or keys n 0)
            → (n : ℕ) → n < length keys → get_or keys n 0 ≡ k → ⊥
        nowhere i less more n low is = elim (cases_lt n i) [
          | inl below ↦ let h = less n below in omega arith
          | inr past ↦ let h = more n past low in omega arith
        ]

-- a key and a value at a place are those of the pair there
pair_at : (pairs : List (ℕ × ℕ)) (i : ℕ) → i < length pairs
    → (get_or (keys_of pairs) i 0 ≡ (get_or pairs i (0, 0)).0) × (get_or (values_of pairs) i 0 ≡ (get_or pairs i (0, 0)).1)
pair_at [] i low = absurd (omega arith)
pair_at (p ∷ pairs) zero low = (refl, refl)
pair_at (p ∷ pairs) (suc i) low = pair_at pairs i (omega arith)

-- what a binary search finds among ascending pairs is the value of the key
pub found_by_search : (pairs : List (ℕ × ℕ)) (k i : ℕ) → IsStrictlyIncreasing (keys_of pairs) → i < length pairs
    → ((d : ℕ × ℕ) → nat_cmp (get_or pairs i d).0 k ≡ Equal) → Some (get_or pairs i (0, 0)).1 ≡ contents_of pairs k
found_by_search pairs k i rising low found =
    let at = pair_at pairs i low in
    let key : (get_or pairs i (0, 0)).0 ≡ k = ranked _ _ Equal (sym (found (0, 0))) in
    sym (ap (contents_of pairs) (sym (at.0 ∙ key)) ∙ (contents_at pairs i rising low ∙ ap Some at.1))

-- where it finds none, there is none
pub missed_by_search : (pairs : List (ℕ × ℕ)) (k i : ℕ)
    → ((n : ℕ) (d : ℕ × ℕ) → 0 ≤ n → n < i → nat_cmp (get_or pairs n d).0 k ≡ Less)
    → ((n : ℕ) (d : ℕ × ℕ) → i ≤ n → n < length pairs → nat_cmp (get_or pairs n d).0 k ≡ Greater) → None ≡ contents_of pairs k
missed_by_search pairs k i less more = by (contents_of pairs k) refl
  where
    nowhere : (value : ℕ) → contents_of pairs k ≡ Some value → ⊥
    nowhere value is =
        let place = place_in pairs k value is in
        let at = pair_at pairs place.at place.below in
        let same : (get_or pairs place.at (0, 0)).0 ≡ k = sym at.0 ∙ place.key_is in
        elim (cases_lt place.at i) [
          | inl before ↦ (let h : (get_or pairs place.at (0, 0)).0 < k = ranked _ _ Less (sym (less place.at (0, 0) (omega arith) before)) in omega arith)
          | inr past ↦ (let h : k < (get_or pairs place.at (0, 0)).0 = ranked _ _ Greater (sym (more place.at (0, 0) past place.below)) in omega arith)
        ]

    by : (o : Option ℕ) → contents_of pairs k ≡ o → None ≡ o
    by None e = refl
    by (Some value) e = absurd (nowhere value e)

-- a comparison with a greater number is no less
cmp_more : (a b k : ℕ) → a ≤ b → ordering_index (nat_cmp a k) ≤ ordering_index (nat_cmp b k)
cmp_more a b k le = grind (arith, nat_tests)

-- ascending pairs are in the order of that search
pub search_order : (pairs : List (ℕ × ℕ)) (k : ℕ) → IsStrictlyIncreasing (keys_of pairs)
    → IsNonDecreasingBy (λ (p : ℕ × ℕ). ordering_index (nat_cmp p.0 k)) pairs
search_order pairs k rising = IsNonDecreasingBy-from_default (λ (p : ℕ × ℕ). ordering_index (nat_cmp p.0 k)) pairs (0, 0)
    (λ i j le low. cmp_more (get_or pairs i (0, 0)).0 (get_or pairs j (0, 0)).0 k (at i j le low))
  where
    at : (i j : ℕ) → i ≤ j → j < length pairs → (get_or pairs i (0, 0)).0 ≤ (get_or pairs j (0, 0)).0
    at i j le low =
        let n = length-map pairs (λ p. p.0) in
        let first = (pair_at pairs i (omega arith)).0 in
        let second = (pair_at pairs j low).0 in
        elim (cases_eq i j) [
          | inl e ↦ (let same = ap (λ m. (get_or pairs m (0, 0)).0) e in omega arith)
          | inr apart ↦ (let less : get_or (keys_of pairs) i 0 < get_or (keys_of pairs) j 0 =
              AllPairs-from_increasing (keys_of pairs) rising i j 0 (omega arith) (omega arith) in omega arith)
        ]
