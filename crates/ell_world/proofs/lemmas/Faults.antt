use Rattle.std.proofs.Common.{◌≡◌, ℕ, zero, suc, ◌+◌, ◌<◌, ◌≤◌, ◌==◌, ◌||◌, Bool, true, false, cond, Some, List, [], ◌∷◌, length, slice_get, get_or, take, arith, refl, ap, sym, ◌∙◌, ⊎_elim, below_more}
use Rattle.std.proofs.lemmas.Bool.{false≢true, cases_lt, eqb-true, eq-eqb, or_parts}
use Rattle.std.proofs.lemmas.Option.{same_Some, slice_get_within, slice_get-get_or}
use Rattle.std.proofs.lemmas.List.Folds.{list_any_more}
use Rattle.std.specs.BTreeMap.{is_at}
use Rattle.std.specs.List.{list_any}
use Rattle.std.specs.Ordering.{nat_cmp}
use Rattle.ell_core.specs.state.Opening.{IsStranger, IsRepeat, FaultlessBefore, Faultless, StrangerFirst, RepeatFirst}
use Rattle.ell_ops.proofs.lemmas.Sets.{is_at-nat}

-- whether an entry names a key
abbrev pub names : ℕ → ℕ × ℕ → Bool
names key entry = entry.1 == key

-- a set has exactly the keys that these entries name
abbrev pub HasKeys : List ℕ → List (ℕ × ℕ) → Type 0
HasKeys taken entries = (q : ℕ) → list_any (is_at (nat_cmp q)) taken ≡ list_any (names q) entries

-- a new key joins the others, whichever way round it is tested
joins : (old any this that : Bool) → old ≡ any → this ≡ that → cond this true old ≡ (any || that)
joins old any true false e f = absurd (false≢true (sym f))
joins old any false true e f = absurd (false≢true f)
joins old true true true e f = refl
joins old false true true e f = refl
joins old true false false e f = e
joins old false false false e f = e

-- the set with the key of the next entry of a list
pub HasKeys-more : (old new : List ℕ) (owned : List (ℕ × ℕ)) (n : ℕ) → n < length owned → HasKeys old (take n owned) →
    ((q : ℕ) → list_any (is_at (nat_cmp q)) new ≡ cond (is_at (nat_cmp (get_or owned n (0, 0)).1) q) true (list_any (is_at (nat_cmp q)) old)) →
    HasKeys new (take (n + 1) owned)
HasKeys-more old new owned n within has updates q =
    let key = (get_or owned n (0, 0)).1 in
    updates q
    ∙ joins (list_any (is_at (nat_cmp q)) old) (list_any (names q) (take n owned)) (is_at (nat_cmp key) q) (key == q) (has q) (is_at-nat key q)
    ∙ sym (list_any_more (names q) owned n (0, 0) within)

-- an entry at a place before n that passes a test
record Passes (test : ℕ × ℕ → Bool) (entries : List (ℕ × ℕ)) (n : ℕ) : Type 0 where
  place : ℕ
  entry : ℕ × ℕ
  before : place < n
  stands : slice_get entries place ≡ Some entry
  passes : test entry ≡ true

-- where one of the first n entries passes a test, an entry at a place before n does
passes_at : (test : ℕ × ℕ → Bool) (entries : List (ℕ × ℕ)) (n : ℕ) → list_any test (take n entries) ≡ true → Passes test entries n
passes_at test entries zero h = absurd (false≢true h)
passes_at test [] (suc n) h = absurd (false≢true h)
passes_at test (e ∷ es) (suc n) h =
    elim (test e) as (λ b. test e ≡ b → (b || list_any test (take n es)) ≡ true → Passes test (e ∷ es) (suc n)) [
      | true ↦ λ is _. record { place = zero; entry = e; before = omega arith; stands = refl; passes = is }
      | false ↦ λ _ rest. later (passes_at test es n rest)
    ] refl h where
      later : Passes test es n → Passes test (e ∷ es) (suc n)
      later found = let below = found.before in record { place = suc found.place; entry = found.entry; before = omega arith; stands = found.stands; passes = found.passes }

-- where none of the first n entries passes a test, no entry at a place before n does
fails_at : (test : ℕ × ℕ → Bool) (entries : List (ℕ × ℕ)) (n i : ℕ) (entry : ℕ × ℕ) → list_any test (take n entries) ≡ false → i < n →
    slice_get entries i ≡ Some entry → test entry ≡ false
fails_at test entries zero i entry h below stands = absurd (omega arith)
fails_at test [] (suc n) i entry h below stands = absurd (cc)
fails_at test (e ∷ es) (suc n) zero entry h below stands =
    ap test (sym (same_Some e entry stands)) ∙ (or_parts (test e) (list_any test (take n es)) h).0
fails_at test (e ∷ es) (suc n) (suc i) entry h below stands =
    fails_at test es n i entry (or_parts (test e) (list_any test (take n es)) h).1 (omega arith) stands

-- an entry whose worker is there is no stranger
no_stranger : (count : ℕ) (owned : List (ℕ × ℕ)) (n : ℕ) (entry : ℕ × ℕ) → slice_get owned n ≡ Some entry → entry.0 < count → IsStranger count owned n → ⊥
no_stranger count owned n entry stands below stranger =
    let one : stranger.entry ≡ entry = same_Some stranger.entry entry (sym stranger.stands ∙ stands) in
    let worker : stranger.entry.0 ≡ entry.0 = ap (λ (e : ℕ × ℕ). e.0) one in
    let strange = stranger.strange in
    omega arith

-- an entry whose key none of the earlier ones names is no repeat
no_repeat : (owned : List (ℕ × ℕ)) (n : ℕ) (entry : ℕ × ℕ) → slice_get owned n ≡ Some entry → list_any (names entry.1) (take n owned) ≡ false →
    IsRepeat owned n → ⊥
no_repeat owned n entry stands fresh repeat =
    let one : repeat.entry ≡ entry = same_Some repeat.entry entry (sym repeat.stands ∙ stands) in
    let key : repeat.other.1 ≡ entry.1 = repeat.same ∙ ap (λ (e : ℕ × ℕ). e.1) one in
    let fails = fails_at (names entry.1) owned n repeat.earlier repeat.other fresh repeat.before repeat.stood in
    false≢true (sym fails ∙ eq-eqb repeat.other.1 entry.1 key)

-- one more entry without a fault
pub FaultlessBefore-more : (count : ℕ) (owned : List (ℕ × ℕ)) (taken : List ℕ) (n : ℕ) → FaultlessBefore count owned n → HasKeys taken (take n owned) →
    n < length owned → (get_or owned n (0, 0)).0 < count → list_any (is_at (nat_cmp (get_or owned n (0, 0)).1)) taken ≡ false →
    FaultlessBefore count owned (n + 1)
FaultlessBefore-more count owned taken n before has within there fresh =
    let entry = get_or owned n (0, 0) in
    let stands = slice_get-get_or owned n (0, 0) within in
    below_more (λ i. (IsStranger count owned i → ⊥) × (IsRepeat owned i → ⊥)) n before
    (no_stranger count owned n entry stands there, no_repeat owned n entry stands (sym (has entry.1) ∙ fresh))

-- where no place of the list has a fault, no place has
pub Faultless-all : (count : ℕ) (owned : List (ℕ × ℕ)) (n : ℕ) → length owned ≤ n → FaultlessBefore count owned n → Faultless count owned
Faultless-all count owned n past before i =
    ⊎_elim (before i)
    (λ late. (
      λ stranger. let within = slice_get_within owned i stranger.entry stranger.stands in omega arith,
      λ repeat. let within = slice_get_within owned i repeat.entry repeat.stands in omega arith,
    ))
    (cases_lt i n)

-- the first entry with a fault, whose worker is not there
pub stranger_first : (count : ℕ) (owned : List (ℕ × ℕ)) (n : ℕ) → FaultlessBefore count owned n → n < length owned →
    count ≤ (get_or owned n (0, 0)).0 → StrangerFirst count owned
stranger_first count owned n before within strange = record {
  at = n;
  before = before;
  here = record { entry = get_or owned n (0, 0); stands = slice_get-get_or owned n (0, 0) within; strange = strange };
}

-- the first entry with a fault, whose worker is there and whose key an earlier one names
pub repeat_first : (count : ℕ) (owned : List (ℕ × ℕ)) (taken : List ℕ) (n : ℕ) → FaultlessBefore count owned n → HasKeys taken (take n owned) →
    n < length owned → (get_or owned n (0, 0)).0 < count → list_any (is_at (nat_cmp (get_or owned n (0, 0)).1)) taken ≡ true → RepeatFirst count owned
repeat_first count owned taken n before has within there known =
    let entry = get_or owned n (0, 0) in
    let stands = slice_get-get_or owned n (0, 0) within in
    let found = passes_at (names entry.1) owned n (sym (has entry.1) ∙ known) in
    record {
      at = n;
      before = before;
      no_stranger = no_stranger count owned n entry stands there;
      here = record {
        entry = entry;
        stands = stands;
        earlier = found.place;
        other = found.entry;
        before = found.before;
        stood = found.stands;
        same = eqb-true found.entry.1 entry.1 found.passes;
      };
    }
