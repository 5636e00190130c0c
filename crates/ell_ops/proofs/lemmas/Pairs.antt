use Rattle.std.proofs.Common.{◌≡◌, ◌≢◌, ℕ, zero, suc, ◌<◌, length, get_or, Bool, true, false, cond, List, [], ◌∷◌, ◌++◌, ◌==◌, if◌then◌else◌, eqb, eqb-true, Option, Some, None, unwrap_or, arith, inl, inr, ⊎_elim, refl, ap, sym, ◌∙◌}
use Rattle.std.proofs.lemmas.List.{length-map}
use Rattle.std.proofs.lemmas.Bool.{cases_eq, cases_lt, eq-eqb, ne_eqb}
use Rattle.std.specs.BTreeMap.{is_at}
use Rattle.std.specs.Map.{lookup, keys_of, values_of}
use Rattle.std.specs.List.Sorted.{IsStrictlyIncreasing}
use Rattle.std.specs.Ordering.{nat_cmp}
use Rattle.ell_ops.specs.Contents.{Contents, contents_of, with_pair, with_swap, swapped, without, ListsPairs}
use Rattle.ell_ops.proofs.lemmas.Rising.{Over, Rises, over_less, rises}
use Rattle.ell_ops.proofs.lemmas.Sets.{is_at-nat, eqb-swap}
use Rattle.ell_ops.proofs.lemmas.Swaps.{swapped_same, swapped_other}

-- a map of std has the contents of its list
pub get-contents_of : (pairs : List (ℕ × ℕ)) (q : ℕ) → lookup (is_at (nat_cmp q)) pairs ≡ contents_of pairs q
get-contents_of [] q = refl
get-contents_of (e ∷ es) q =
    ap (λ b. cond b (Some e.1) (lookup (is_at (nat_cmp q)) es)) (is_at-nat q e.0) ∙ ap (cond (eqb q e.0) (Some e.1)) (get-contents_of es q)

-- what an insert, a delete or a swap does to std's map, key by key, it does to its contents
changed : (old new : List (ℕ × ℕ)) (key : ℕ) (w : Option ℕ)
    → ((q : ℕ) → lookup (is_at (nat_cmp q)) new ≡ cond (is_at (nat_cmp key) q) w (lookup (is_at (nat_cmp q)) old))
    → (q : ℕ) → contents_of new q ≡ cond (eqb q key) w (contents_of old q)
changed old new key w h q =
    sym (get-contents_of new q) ∙ h q ∙ ap (λ t. cond t w (lookup (is_at (nat_cmp q)) old)) (is_at-nat key q ∙ eqb-swap key q)
    ∙ ap (cond (eqb q key) w) (get-contents_of old q)

-- a key that was not there gets the value
pub contents_of-insert : (old new : List (ℕ × ℕ)) (key value : ℕ) → contents_of old key ≡ None
    → ((q : ℕ) → lookup (is_at (nat_cmp q)) new ≡ cond (is_at (nat_cmp key) q) (Some value) (lookup (is_at (nat_cmp q)) old))
    → contents_of new ≡ with_pair (contents_of old) key value
contents_of-insert old new key value absent h = λ t q. (changed old new key (Some value) h q ∙ by q (q == key) refl) t
  where
    by : (q : ℕ) (b : Bool) → (q == key) ≡ b
        → cond b (Some value) (contents_of old q) ≡ (if b then Some (unwrap_or (contents_of old q) value) else contents_of old q)
    by q true same = ap (λ o. Some (unwrap_or o value)) (sym (ap (contents_of old) (eqb-true q key same) ∙ absent))
    by q false other = refl

-- one that had the first value of a swap gets the second
pub contents_of-swapped : (old new : List (ℕ × ℕ)) (key was value : ℕ) → contents_of old key ≡ Some was
    → ((q : ℕ) → lookup (is_at (nat_cmp q)) new ≡ cond (is_at (nat_cmp key) q) (Some value) (lookup (is_at (nat_cmp q)) old))
    → contents_of new ≡ with_swap (contents_of old) key was value
contents_of-swapped old new key was value had h = λ t q. (changed old new key (Some value) h q ∙ by q (q == key) refl) t
  where
    by : (q : ℕ) (b : Bool) → (q == key) ≡ b
        → cond b (Some value) (contents_of old q) ≡ (if b then swapped (contents_of old q) was value else contents_of old q)
    by q true same = sym (ap (λ o. swapped o was value) (ap (contents_of old) (eqb-true q key same) ∙ had) ∙ swapped_same was value)
    by q false other = refl

-- any other keeps its value
pub contents_of-unswapped : (old : List (ℕ × ℕ)) (key was value : ℕ) → contents_of old key ≢ Some was → contents_of old ≡ with_swap (contents_of old) key was value
contents_of-unswapped old key was value other = λ t q. by q (q == key) refl t
  where
    by : (q : ℕ) (b : Bool) → (q == key) ≡ b → contents_of old q ≡ (if b then swapped (contents_of old q) was value else contents_of old q)
    by q true same = sym (swapped_other (contents_of old q) was value (λ e. other (ap (contents_of old) (sym (eqb-true q key same)) ∙ e)))
    by q false different = refl

pub contents_of-remove : (old new : List (ℕ × ℕ)) (key : ℕ)
    → ((q : ℕ) → lookup (is_at (nat_cmp q)) new ≡ cond (is_at (nat_cmp key) q) None (lookup (is_at (nat_cmp q)) old))
    → contents_of new ≡ without (contents_of old) key
contents_of-remove old new key h = λ t q. changed old new key None h q t

-- one more pair at the end of a list, at one key
push_at : (pairs : List (ℕ × ℕ)) (key value q : ℕ) → contents_of (pairs ++ (key, value) ∷ []) q ≡ with_pair (contents_of pairs) key value q
push_at [] key value q = refl
push_at (e ∷ es) key value q = by (q == e.0) (q == key) (push_at es key value q)
  where
    by : (here same : Bool) → contents_of (es ++ (key, value) ∷ []) q ≡ (if same then Some (unwrap_or (contents_of es q) value) else contents_of es q)
        → cond here (Some e.1) (contents_of (es ++ (key, value) ∷ []) q)
        ≡ (if same then Some (unwrap_or (cond here (Some e.1) (contents_of es q)) value) else cond here (Some e.1) (contents_of es q))
    by true true h = refl
    by true false h = refl
    by false true h = h
    by false false h = h

-- so it is of its contents
pub contents_of-push : (pairs : List (ℕ × ℕ)) (e : ℕ × ℕ) → contents_of (pairs ++ e ∷ []) ≡ with_pair (contents_of pairs) e.0 e.1
contents_of-push pairs e = λ t q. push_at pairs e.0 e.1 q t

-- a key that is less than all keys of a list is not in it
absent_over : (k : ℕ) (pairs : List (ℕ × ℕ)) → Over k (keys_of pairs) → contents_of pairs k ≡ None
absent_over k [] over = refl
absent_over k (e ∷ es) over = let less = over.0 in
    ap (λ t. cond t (Some e.1) (contents_of es k)) (ne_eqb k e.0 (λ same. omega arith)) ∙ absent_over k es over.1

-- the key of the first pair has its value
first_there : (e : ℕ × ℕ) (es : List (ℕ × ℕ)) → contents_of (e ∷ es) e.0 ≡ Some e.1
first_there e es = ap (λ t. cond t (Some e.1) (contents_of es e.0)) (eq-eqb e.0 e.0 refl)

-- a key that is none of a list's is not its first
not_first : (e : ℕ × ℕ) (es ys : List (ℕ × ℕ)) → Over e.0 (keys_of ys) → contents_of (e ∷ es) e.0 ≡ contents_of ys e.0 → ⊥
not_first e es ys over same = let clash : Some e.1 ≡ None = sym (first_there e es) ∙ (same ∙ absent_over e.0 ys over) in absurd cc

-- a key at a place of ascending ones has the value there
over_at : (k : ℕ) (xs : List ℕ) (i : ℕ) → Over k xs → i < length xs → k < get_or xs i 0
over_at k [] i over low = absurd (omega arith)
over_at k (x ∷ xs) zero over low = over.0
over_at k (x ∷ xs) (suc i) over low = over_at k xs i over.1 (omega arith)

at_place : (pairs : List (ℕ × ℕ)) (i : ℕ) → Rises (keys_of pairs) → i < length pairs
    → contents_of pairs (get_or (keys_of pairs) i 0) ≡ Some (get_or (values_of pairs) i 0)
at_place [] i rise low = absurd (omega arith)
at_place (e ∷ es) zero rise low = first_there e es
at_place (e ∷ es) (suc i) rise low =
    let n = length-map es (λ d. d.0) in
    let more = over_at e.0 (keys_of es) i rise.0 (omega arith) in
    ap (λ t. cond t (Some e.1) (contents_of es (get_or (keys_of es) i 0))) (ne_eqb (get_or (keys_of es) i 0) e.0 (λ same. omega arith))
    ∙ at_place es i rise.1 (omega arith)

pub contents_at : (pairs : List (ℕ × ℕ)) (i : ℕ) → IsStrictlyIncreasing (keys_of pairs) → i < length pairs
    → contents_of pairs (get_or (keys_of pairs) i 0) ≡ Some (get_or (values_of pairs) i 0)
contents_at pairs i ascending low = at_place pairs i (rises (keys_of pairs) ascending) low

-- a key that is there has a place
pub record HasPlace (pairs : List (ℕ × ℕ)) (key value : ℕ) : Type 0 where
  pub at : ℕ
  pub below : at < length pairs
  pub key_is : get_or (keys_of pairs) at 0 ≡ key
  pub value_is : get_or (values_of pairs) at 0 ≡ value

pub place_in : (pairs : List (ℕ × ℕ)) (key value : ℕ) → contents_of pairs key ≡ Some value → HasPlace pairs key value
place_in [] key value has = absurd cc
place_in (e ∷ es) key value has = by (key == e.0) refl has (place_in es key value)
  where
    by : (b : Bool) → (key == e.0) ≡ b → cond b (Some e.1) (contents_of es key) ≡ Some value
        → (contents_of es key ≡ Some value → HasPlace es key value) → HasPlace (e ∷ es) key value
    by true same is behind = let v : e.1 ≡ value = cc in record { at = 0; below = omega arith; key_is = sym (eqb-true key e.0 same); value_is = v }
    by false other is behind = let rest = behind is in
        record { at = suc rest.at; below = let low = rest.below in omega arith; key_is = rest.key_is; value_is = rest.value_is }

-- behind two first pairs of one key there is the same
rest_same : (d e : ℕ × ℕ) (xs ys : List (ℕ × ℕ)) → d.0 ≡ e.0 → Over d.0 (keys_of xs) → Over e.0 (keys_of ys)
    → ((q : ℕ) → contents_of (d ∷ xs) q ≡ contents_of (e ∷ ys) q) → (q : ℕ) → contents_of xs q ≡ contents_of ys q
rest_same d e xs ys one over_x over_y same q = ⊎_elim
    (λ is. let in_x = ap (contents_of xs) is ∙ absent_over d.0 xs over_x in
    let in_y = ap (contents_of ys) (is ∙ one) ∙ absent_over e.0 ys over_y in
    in_x ∙ sym in_y)
    (λ other.
    sym (ap (λ t. cond t (Some d.1) (contents_of xs q)) (ne_eqb q d.0 other)) ∙ (same q
    ∙ ap (λ t. cond t (Some e.1) (contents_of ys q)) (ne_eqb q e.0 (λ f. other (f ∙ sym one)))))
    (cases_eq q d.0)

same_pairs : (xs ys : List (ℕ × ℕ)) → Rises (keys_of xs) → Rises (keys_of ys) → ((q : ℕ) → contents_of xs q ≡ contents_of ys q) → xs ≡ ys
same_pairs [] [] rise rise' same = refl
same_pairs [] (e ∷ ys) rise rise' same = let clash : None ≡ Some e.1 = same e.0 ∙ first_there e ys in absurd cc
same_pairs (d ∷ xs) [] rise rise' same = let clash : Some d.1 ≡ None = sym (first_there d xs) ∙ same d.0 in absurd cc
same_pairs (d ∷ xs) (e ∷ ys) rise rise' same = elim (cases_lt d.0 e.0) [
  | inl less ↦ absurd (not_first d xs (e ∷ ys) (less, over_less d.0 e.0 (keys_of ys) less rise'.0) (same d.0))
  | inr past ↦ elim (cases_lt e.0 d.0) [
    | inl less ↦ absurd (not_first e ys (d ∷ xs) (less, over_less e.0 d.0 (keys_of xs) less rise.0) (sym (same e.0)))
    | inr back ↦
        let one : d.0 ≡ e.0 = omega arith in
        let value : Some d.1 ≡ Some e.1 = sym (first_there d xs) ∙ (same d.0 ∙ (ap (contents_of (e ∷ ys)) one ∙ first_there e ys)) in
        let second : d.1 ≡ e.1 = cc in
        let first : d ≡ e = λ t. (one t, second t) in
        let rest = same_pairs xs ys rise.1 rise'.1 (rest_same d e xs ys one rise.0 rise'.0 same) in
        λ t. first t ∷ rest t
  ]
]

-- a map has one ascending list of its pairs
pub one_list_of_pairs : (there : Contents) (xs ys : List (ℕ × ℕ)) → ListsPairs there xs → ListsPairs there ys → xs ≡ ys
one_list_of_pairs there xs ys first second =
    same_pairs xs ys (rises (keys_of xs) first.ascending) (rises (keys_of ys) second.ascending) (λ q. ap (λ f. f q) (first.each ∙ sym second.each))
