use Rattle.std.proofs.Common.{◌≡◌, ℕ, zero, suc, ◌+◌, ◌*◌, ◌/◌, ◌^◌, ◌<◌, ◌≤◌, true, false, List, [], ◌∷◌, ◌++◌, ◌||◌, leb, length, get_or, arith, ap, sym, subst, ◌∙◌, ⊎_elim}
use Rattle.std.proofs.Math.Nat.{div-lt_iff_lt-mul, le-div_iff_mul-le, mul-le-mul_right, mul_comm}
use Rattle.std.proofs.Math.Seq.{get_or-append_seam}
use Rattle.std.proofs.lemmas.Grind.{div_ceil_times, get_or_default_zero}
use Rattle.std.proofs.lemmas.List.{get_or_append_left, length-append}
use Rattle.std.specs.Int.{div_ceil}
use Rattle.std.proofs.lemmas.Bool.{cases_eq, cases_lt, lt-ltb, le-ltb, leb-true, leb-false, ne_eqb}
use Rattle.std.proofs.lemmas.Map.Keys.{below_from_sorted, sorted_from_strictly_increasing}
use Rattle.std.specs.List.{AllWithin}
use Rattle.std.specs.List.Sorted.{IsPartitionedBy, IsStrictlyIncreasing}
use Rattle.std.proofs.lemmas.List.Sorted.{IsPartitionedBy-leb}
use Rattle.ell_ops.specs.KeySet.{set_of}
use Rattle.ell_order.specs.Rounds.{rank}
use Rattle.ell_parts.specs.Ranges.{AreStarts}
use Rattle.ell_parts.proofs.lemmas.Ranks.{rank_at_point}

-- a key of a list stands somewhere in it
place_of : (keys : List ℕ) (key : ℕ) → set_of keys key ≡ true → (i : ℕ) × (i < length keys) × ((d : ℕ) → get_or keys i d ≡ key)
place_of [] key h = let no : ⊥ = cc in absurd no
place_of (other ∷ keys) key h =
    ⊎_elim
    (λ e. (0, omega arith, λ d. sym e))
    (λ ne.
    let rest = place_of keys key (ap (λ b. b || set_of keys key) (sym (ne_eqb key other ne)) ∙ h) in
    let below = rest.1 in
    (suc rest.0, omega arith, rest.2))
    (cases_eq key other)

-- keys that ascend are as their places are
module _ (keys : List ℕ) (rising : IsStrictlyIncreasing keys) where
  earlier_less : (i j d : ℕ) → i < j → j < length keys → get_or keys i d < get_or keys j d
  earlier_less i j d before within = below_from_sorted keys i j d (sorted_from_strictly_increasing keys rising) before within

  not_later : (i j : ℕ) → i < length keys → j < length keys → get_or keys i 0 ≤ get_or keys j 0 → i ≤ j
  not_later i j within_i within_j le =
      ⊎_elim
      (λ after. let less = earlier_less j i 0 after within_i in absurd (omega arith))
      (λ fine. fine)
      (cases_lt j i)

  not_less : (i j : ℕ) → i ≤ j → j < length keys → get_or keys i 0 ≤ get_or keys j 0
  not_less i j le within =
      ⊎_elim
      (λ same. let e = ap (λ k. get_or keys k 0) same in omega arith)
      (λ other. let less = earlier_less i j 0 (omega arith) within in omega arith)
      (cases_eq i j)

-- the place of a key among keys that ascend is its rank
rank_is_place : (keys : List ℕ) (key i : ℕ) → IsStrictlyIncreasing keys → i < length keys → ((d : ℕ) → get_or keys i d ≡ key) → rank keys key ≡ i
rank_is_place keys key i rising within at =
    rank_at_point keys key i (omega arith)
    (λ k d from to. let less = earlier_less keys rising k i d to within in let here = at d in lt-ltb (get_or keys k d) key (omega arith))
    (λ k d from to. le-ltb (get_or keys k d) key
    (⊎_elim
    (λ same. let here = at d in let e = ap (λ j. get_or keys j d) same in omega arith)
    (λ other. let less = earlier_less keys rising i k d (omega arith) to in let here = at d in omega arith)
    (cases_eq i k)))

-- a quotient, by where its multiples stand
quotient_is : (i share p : ℕ) → 0 < share → ((m : ℕ) → m < p → (m + 1) * share ≤ i) → ((p + 1) * share ≤ i → ⊥) → i / share ≡ p
quotient_is i share p some reached passed =
    let high : i < (p + 1) * share = ⊎_elim (λ low. low) (λ far. absurd (passed far)) (cases_lt i ((p + 1) * share)) in
    let less = (div-lt_iff_lt-mul {k = share} {x = i} {y = p + 1} some).1 high in
    let more = (le-div_iff_mul-le {k = share} {x = p} {y = i} some).1 (low p reached) in
    omega arith where
      low : (q : ℕ) → ((m : ℕ) → m < q → (m + 1) * share ≤ i) → q * share ≤ i
      low zero h = omega arith
      low (suc m) h = let at = h m (omega arith) in let same : suc m * share ≡ (m + 1) * share = ap (λ n. n * share) (omega arith) in omega arith

-- what the first keys of ranges say of the worker that p of them are not above
pub range_of : (keys starts : List ℕ) (share key p : ℕ) → IsStrictlyIncreasing keys → set_of keys key ≡ true → 0 < share → AreStarts keys share starts →
    p ≤ length starts → AllWithin (λ start. leb start key ≡ true) starts 0 p → AllWithin (λ start. leb start key ≡ false) starts p (length starts) →
    rank keys key / share ≡ p
range_of keys starts share key p rising member some are_starts fits below above =
    let place = place_of keys key member in
    let i = place.0 in
    let within = place.1 in
    let at = place.2 0 in
    ap (λ r. r / share) (rank_is_place keys key i rising within place.2)
    ∙ quotient_is i share p some
    (λ m before.
    let inside : m < length starts = omega arith in
    let low = leb-true (get_or starts m 0) key (below m 0 (omega arith) before) in
    let same = are_starts.each m inside in
    not_later keys rising ((m + 1) * share) i (are_starts.within m inside) within (omega arith))
    (λ far.
    let inside = are_starts.all p (omega arith) in
    let high = leb-false (get_or starts p 0) key (above p 0 (omega arith) inside) in
    let same = are_starts.each p inside in
    let le = not_less keys rising ((p + 1) * share) i far within in
    omega arith)

-- one first key more
pub starts_more : (keys starts : List ℕ) (share worker : ℕ) →
    ((m : ℕ) → m < length starts → (m + 1) * share < length keys) → ((m : ℕ) → m < length starts → get_or starts m 0 ≡ get_or keys ((m + 1) * share) 0) →
    length starts + 1 ≡ worker → worker * share < length keys → (m : ℕ) → m < length (starts ++ get_or keys (worker * share) 0 ∷ []) →
    ((m + 1) * share < length keys) × (get_or (starts ++ get_or keys (worker * share) 0 ∷ []) m 0 ≡ get_or keys ((m + 1) * share) 0)
starts_more keys starts share worker within each count below m inside =
    ⊎_elim
    (λ early. (within m early, get_or_append_left starts (get_or keys (worker * share) 0 ∷ []) 0 m early ∙ each m early))
    (λ late.
    let longer = length-append starts (get_or keys (worker * share) 0 ∷ []) in
    let last : m ≡ length starts = omega arith in
    let here : m + 1 ≡ worker = omega arith in
    let place : (m + 1) * share ≡ worker * share = ap (λ n. n * share) here in (
      omega arith,
      ap (λ n. get_or (starts ++ get_or keys (worker * share) 0 ∷ []) n 0) last
          ∙ get_or-append_seam starts (get_or keys (worker * share) 0) [] 0 ∙ ap (λ n. get_or keys n 0) (sym place),
    ))
    (cases_lt m (length starts))

-- the first keys of all ranges, where the next range would begin past the keys
pub starts_all : (keys starts : List ℕ) (share worker : ℕ) →
    ((m : ℕ) → m < length starts → (m + 1) * share < length keys) → ((m : ℕ) → m < length starts → get_or starts m 0 ≡ get_or keys ((m + 1) * share) 0) →
    length starts + 1 ≡ worker → length keys ≤ worker * share → AreStarts keys share starts
starts_all keys starts share worker within each count past = record {
  within = within;
  each = each;
  all = λ m below. ⊎_elim
      (λ early. early)
      (λ late.
      let far : worker ≤ m + 1 = omega arith in
      let more = mul-le-mul_right share far in
      absurd (omega arith))
      (cases_lt m (length starts));
}

-- a place that a worker's range may begin at is a number of 64 bits
pub start_fits : (n workers worker share : ℕ) → 1 ≤ workers → workers ≤ 64 → n < 2 ^ 63 → share ≡ div_ceil n workers → worker < workers → worker * share < 2 ^ 64
start_fits n workers worker share some few short is below =
    let enough : share * workers < n + workers = subst (λ s. s * workers < n + workers) (sym is) (div_ceil_times n workers some).1 in
    let le : worker ≤ workers = omega arith in
    let less = mul-le-mul_right share le in
    let swap = mul_comm share workers in
    omega arith

-- all the ranges hold all the keys
pub ranges_hold : (n workers share : ℕ) → 1 ≤ workers → share ≡ div_ceil n workers → n ≤ workers * share
ranges_hold n workers share some is =
    let enough : n ≤ share * workers = subst (λ s. n ≤ s * workers) (sym is) (div_ceil_times n workers some).0 in
    let swap = mul_comm share workers in
    omega arith

-- first keys ascend, so those that are not above a key stand before the others
pub starts_parted : (keys starts : List ℕ) (share key : ℕ) → IsStrictlyIncreasing keys → AreStarts keys share starts → IsPartitionedBy (λ start. leb start key) starts
starts_parted keys starts share key rising are_starts = IsPartitionedBy-leb (λ start. start) starts key (λ i j d le within.
    let before : i < length starts = omega arith in
    let here = get_or_default_zero starts i d before ∙ are_starts.each i before in
    let there = get_or_default_zero starts j d within ∙ are_starts.each j within in
    let later : i + 1 ≤ j + 1 = omega arith in
    let ascend = not_less keys rising ((i + 1) * share) ((j + 1) * share) (mul-le-mul_right share later) (are_starts.within j within) in
    omega arith)
