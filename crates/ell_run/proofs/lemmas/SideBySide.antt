use mir.Val.{bool_byte}
use Rattle.std.proofs.Common.{◌≡◌, ◌≢◌, ℕ, zero, suc, ◌+◌, ◌-◌, ◌<◌, ◌≤◌, ◌&&◌, ◌||◌, Bool, true, false, cond, not, Option, Some, None, All, eqb, List, [], ◌∷◌, get_or, length, map, take, take_all, filter, count_by, min, arith, refl, ap, sym, subst, ◌∙◌, ⊎_elim}
use Rattle.std.specs.Prelude.{slice_get, is_some, unwrap_or, ◌==◌}
use Rattle.std.specs.List.{enumerate_from, range_with_len}
use Rattle.std.specs.Option.{option_eq}
use Rattle.std.proofs.lemmas.Bool.{cases_lt, cond-true, eq-eqb, eqb-false, eqb-true, ne_eqb}
use Rattle.std.proofs.lemmas.List.{get_or_default, get_or-map, get_or-take, length-map, length-take-le, map-append, take_more}
use Rattle.std.proofs.lemmas.List.FromFn.{get_or-enumerate_from, get_or-range_with_len, length-enumerate_from, length-range_with_len}
use Rattle.std.proofs.lemmas.List.Kept.{IsStrictlyIncreasing-filter}
use Rattle.std.proofs.lemmas.List.Sums.{count_by-le-length, sum_by_more}
use Rattle.std.proofs.lemmas.Map.Keys.{any_passes_from_place}
use Rattle.std.proofs.lemmas.Map.Views.{any-filter_same}
use Rattle.std.proofs.lemmas.Option.{get_or_from_slice_get, slice_get-get_or, slice_get_within}
use Rattle.ell_ops.specs.declared.op.Op.{Op}
use Rattle.ell_ops.specs.declared.op.Op.TheVariants.{Find, Insert, Delete, Swap}
use Rattle.ell_ops.specs.Contents.{Contents, keys_in, nothing, swapped}
use Rattle.ell_ops.specs.KeySet.{Lists, set_of}
use Rattle.ell_ops.specs.Meaning.{after, final, key_of}
use Rattle.ell_order.specs.Orders.{is_reordered, on_key, ops_in}
use Rattle.ell_order.specs.Rounds.{AreInRounds, keys_left, round}
use Rattle.ell_order.proofs.lemmas.Kept.{on_key_in}
use Rattle.ell_order.proofs.lemmas.Numbered.{fewer_before, filter_at}
use Rattle.ell_order.proofs.lemmas.OnKey.{final-append, final_alike, none_on_key}
use Rattle.ell_parts.specs.PartedOps.{IsPartedToRun, PartedOps, dealt, keys_of_part, part}
use Rattle.ell_run.specs.Reservation.{HasRounds, changes_in, key_count, may_change, may_change_behind, there_after}
use Rattle.ell_run.proofs.lemmas.Busy.{counted_ascend}
use Rattle.ell_run.proofs.lemmas.Leftovers.{filter_fail}

-- more than any key of a list
abbrev above : List Op → ℕ
above [] = 0
above (op ∷ ops) = key_of op + 1 + above ops

others_above : (ops : List Op) (key : ℕ) → above ops ≤ key → All (λ op. key_of op ≢ key) ops
others_above [] key high i d below = absurd (omega arith)
others_above (op ∷ ops) key high zero d below = λ same. let own : key_of op ≡ key = same in absurd (omega arith)
others_above (op ∷ ops) key high (suc i) d below = others_above ops key (omega arith) i d (omega arith)

none_left_above : (ops : List Op) (key : ℕ) → above ops ≤ key → keys_left ops key ≡ false
none_left_above ops key high =
    ap is_some (final_alike ops [] nothing nothing key refl (none_on_key ops key (others_above ops key high)))

number_counted : (n key : ℕ) → key < n → set_of (range_with_len 0 n) key ≡ true
number_counted n key below =
    let long : key < length (range_with_len 0 n) = omega (arith, length-range_with_len 0 n) in
    let here = get_or-range_with_len 0 n key 0 below in
    let same : get_or (range_with_len 0 n) key 0 ≡ key = omega arith in
    any_passes_from_place (eqb key) (range_with_len 0 n) key key
    (slice_get-get_or (range_with_len 0 n) key 0 long ∙ ap Some same) (eq-eqb key key refl)

-- the keys that a list leaves can be listed
pub left_of : (ops : List Op) → (left : List ℕ) × Lists (keys_left ops) left
left_of ops = (filter (keys_left ops) numbers, record { ascending = IsStrictlyIncreasing-filter (keys_left ops) numbers (counted_ascend (above ops)); each = λ i q. each q i }) where
  numbers : List ℕ
  numbers = range_with_len 0 (above ops)

  kept : (q : ℕ) → set_of (filter (keys_left ops) numbers) q ≡ (keys_left ops q && set_of numbers q)
  kept q = any-filter_same (eqb q) (keys_left ops) (keys_left ops q) (λ k same. ap (keys_left ops) (sym (eqb-true q k same))) numbers

  with_all : (b : Bool) → (b && true) ≡ b
  with_all true = refl
  with_all false = refl

  each : (q : ℕ) → set_of (filter (keys_left ops) numbers) q ≡ keys_left ops q
  each q = kept q ∙ ⊎_elim
      (λ below. ap (λ b. keys_left ops q && b) (number_counted (above ops) q below) ∙ with_all (keys_left ops q))
      (λ high. ap (λ b. b && set_of numbers q) (none_left_above ops q high) ∙ sym (none_left_above ops q high))
      (cases_lt q (above ops))

-- in rounds, a key that is not the one before it has not stood before
module _ (left : List ℕ) (part : List (ℕ × Op)) (rounds : AreInRounds left (λ item. key_of item.1) part) (d : ℕ × Op) where
  abbrev key_at : ℕ → ℕ
  key_at i = key_of (get_or part i d).1

  -- what stands in one round keeps its place there
  module _ (k : ℕ) where
    abbrev in_round : ℕ × Op → Bool
    in_round item = round left (key_of item.1) == round left k

    abbrev place : ℕ → ℕ
    place i = length (filter in_round (take i part))

    there : (i : ℕ) → i < length part → round left (key_at i) ≡ round left k →
        slice_get (filter in_round part) (place i) ≡ Some (get_or part i d)
    there i below same =
        (filter_at in_round part i (get_or part i d) (slice_get-get_or part i d below) (eq-eqb (round left (key_at i)) (round left k) same)).0

    ascend : (i j : ℕ) → i < j → j < length part → round left (key_at i) ≡ round left k → round left (key_at j) ≡ round left k →
        key_at i ≤ key_at j
    ascend i j before below first second =
        let here = there i (omega arith) first in
        let later = there j below second in
        let fewer = fewer_before in_round part i j (get_or part i d) (slice_get-get_or part i d (omega arith)) (eq-eqb (round left (key_at i)) (round left k) first) before in
        let within = slice_get_within (filter in_round part) (place j) (get_or part j d) later in
        let rises = rounds.keys k (place i) (place j) d (omega arith) within in
        let one = get_or_from_slice_get (filter in_round part) (place i) (get_or part i d) d here in
        let other = get_or_from_slice_get (filter in_round part) (place j) (get_or part j d) d later in
        subst (λ (item : ℕ × Op). key_of item.1 ≤ key_at j) one
        (subst (λ (item : ℕ × Op). key_of (get_or (filter in_round part) (place i) d).1 ≤ key_of item.1) other rises)

  never_before : (i j : ℕ) → j < i → i < length part → key_at (i - 1) ≢ key_at i → key_at j ≢ key_at i
  never_before i j before below turns same =
      ⊎_elim
      (λ early.
      let up : round left (key_at j) ≤ round left (key_at (i - 1)) = rounds.rounds j (i - 1) d (omega arith) (omega arith) in
      let on : round left (key_at (i - 1)) ≤ round left (key_at i) = rounds.rounds (i - 1) i d (omega arith) below in
      let alike : round left (key_at j) ≡ round left (key_at i) = ap (round left) same in
      let between : round left (key_at (i - 1)) ≡ round left (key_at i) = omega arith in
      let low = ascend (key_at i) j (i - 1) early (omega arith) alike between in
      let high = ascend (key_at i) (i - 1) i (omega arith) below between refl in
      turns (omega arith))
      (λ late.
      let at : j ≡ i - 1 = omega arith in
      turns (ap key_at (sym at) ∙ same))
      (cases_lt j (i - 1))

-- with no operation before it that is on a key
pub none_before : (left : List ℕ) (part : List (ℕ × Op)) → AreInRounds left (λ item. key_of item.1) part → (i : ℕ) (d : ℕ × Op) → i + 1 < length part →
    key_of (get_or part i d).1 ≢ key_of (get_or part (i + 1) d).1 → on_key (key_of (get_or part (i + 1) d).1) (take (i + 1) part) ≡ []
none_before left part rounds i d below turns =
    let key = key_of (get_or part (i + 1) d).1 in
    filter_fail (λ item. key_of item.1 == key) (take (i + 1) part) (λ j item found.
    let within = slice_get_within (take (i + 1) part) j item found in
    let short : j < i + 1 = omega (arith, length-take-le (i + 1) part (omega arith)) in
    let here : item ≡ get_or part j d = sym (get_or_from_slice_get (take (i + 1) part) j item d found) ∙ get_or-take (i + 1) part j d short in
    let same : i + 1 - 1 ≡ i = omega arith in
    let other = never_before left part rounds d (i + 1) j short below (subst (λ n. key_of (get_or part n d).1 ≢ key) (sym same) turns) in
    ap (λ (it : ℕ × Op). key_of it.1 == key) here ∙ ne_eqb (key_of (get_or part j d).1) key other)

-- whether a numbered operation of a part may change the map behind those before it
abbrev pub changes_at : Contents → List (ℕ × Op) → ℕ × (ℕ × Op) → Bool
changes_at start part place = may_change_behind start (take place.0 part) place.1.1

-- whether a key is there after numbered operations
abbrev pub there_of : Contents → List (ℕ × Op) → ℕ → Bool
there_of start items key = keys_in (final start (ops_in items)) key

-- whether a numbered operation of a part is the first on its key
abbrev pub first_at : List (ℕ × Op) → ℕ × (ℕ × Op) → Bool
first_at part place = not (keys_of_part (take place.0 part) (key_of place.1.1))

-- the first operations of a part are counted, and their keys: the key of the last of them is there if they leave it there, and the
-- next is the first on its key, unless it is on that one
pub record AreCounted (start : Contents) (part : List (ℕ × Op)) (i : ℕ) (last : Option ℕ) (there : Bool) (changes keys : ℕ) : Type 0 where
  pub count : changes ≡ count_by (changes_at start part) (take i (enumerate_from 0 part))
  pub key_count : keys ≡ count_by (first_at part) (take i (enumerate_from 0 part))
  pub seen : (key : ℕ) → last ≡ Some key → keys_of_part (take i part) key ≡ true
  pub known : (key : ℕ) → last ≡ Some key → there ≡ there_of start (take i part) key
  pub first : (d : ℕ × Op) → i < length part → last ≢ Some (key_of (get_or part i d).1) → on_key (key_of (get_or part i d).1) (take i part) ≡ []

pub few_counted : (start : Contents) (part : List (ℕ × Op)) (i : ℕ) (last : Option ℕ) (there : Bool) (changes keys : ℕ) → i ≤ length part →
    AreCounted start part i last there changes keys → changes ≤ i
few_counted start part i last there changes keys within are =
    let numbered = length-enumerate_from 0 part in
    let fewer = count_by-le-length (changes_at start part) (take i (enumerate_from 0 part)) in
    let long = length-take-le i (enumerate_from 0 part) (omega arith) in
    let same = are.count in
    omega arith

pub all_counted : (start : Contents) (part : List (ℕ × Op)) (i : ℕ) (last : Option ℕ) (there : Bool) (changes keys : ℕ) → length part ≤ i →
    AreCounted start part i last there changes keys → changes ≡ changes_in start part
all_counted start part i last there changes keys end are =
    are.count ∙ ap (count_by (changes_at start part)) (take_all i (enumerate_from 0 part) (omega (arith, length-enumerate_from 0 part)))

pub few_keys_counted : (start : Contents) (part : List (ℕ × Op)) (i : ℕ) (last : Option ℕ) (there : Bool) (changes keys : ℕ) → i ≤ length part →
    AreCounted start part i last there changes keys → keys ≤ i
few_keys_counted start part i last there changes keys within are =
    let numbered = length-enumerate_from 0 part in
    let fewer = count_by-le-length (first_at part) (take i (enumerate_from 0 part)) in
    let long = length-take-le i (enumerate_from 0 part) (omega arith) in
    let same = are.key_count in
    omega arith

pub all_keys_counted : (start : Contents) (part : List (ℕ × Op)) (i : ℕ) (last : Option ℕ) (there : Bool) (changes keys : ℕ) → length part ≤ i →
    AreCounted start part i last there changes keys → keys ≡ key_count part
all_keys_counted start part i last there changes keys end are =
    are.key_count ∙ ap (count_by (first_at part)) (take_all i (enumerate_from 0 part) (omega (arith, length-enumerate_from 0 part)))

-- a key that no operation is on is not among the keys
not_among : (items : List (ℕ × Op)) (key : ℕ) → on_key key items ≡ [] → keys_of_part items key ≡ false
not_among [] key none = refl
not_among (item ∷ items) key none = by (not_among items key) (eqb (key_of item.1) key) refl none where
  by : (on_key key items ≡ [] → keys_of_part items key ≡ false) → (b : Bool) → eqb (key_of item.1) key ≡ b → cond b (item ∷ on_key key items) (on_key key items) ≡ [] →
      (eqb key (key_of item.1) || keys_of_part items key) ≡ false
  by behind true e some = let no : ⊥ = cc in absurd no
  by behind false e rest =
      ap (λ b. b || keys_of_part items key) (ne_eqb key (key_of item.1) (λ same. eqb-false (key_of item.1) key e (sym same))) ∙ behind rest

-- the key of an operation is among those up to it
among : (part : List (ℕ × Op)) (i : ℕ) (d : ℕ × Op) → i < length part → keys_of_part (take (i + 1) part) (key_of (get_or part i d).1) ≡ true
among part i d below =
    let key = key_of (get_or part i d).1 in
    let front = take (i + 1) part in
    let keys = map (λ (item : ℕ × Op). key_of item.1) front in
    let long : i < length front = omega (arith, length-take-le (i + 1) part (omega arith)) in
    let within : i < length keys = omega (arith, length-map front (λ (item : ℕ × Op). key_of item.1)) in
    let here : get_or keys i 0 ≡ key = get_or-map (λ (item : ℕ × Op). key_of item.1) front i d 0 long
    ∙ ap (λ (item : ℕ × Op). key_of item.1) (get_or-take (i + 1) part i d (omega arith)) in
    any_passes_from_place (eqb key) keys i key (slice_get-get_or keys i 0 within ∙ ap Some here) (eq-eqb key key refl)

swap_keeps : (there : Option ℕ) (was value : ℕ) → is_some (swapped there was value) ≡ is_some there
swap_keeps None was value = refl
swap_keeps (Some v) was value = refl

-- an operation leaves its own key there, or not
keys_in-after : (op : Op) (map : Contents) → keys_in (after op map) (key_of op) ≡ there_after op (keys_in map (key_of op))
keys_in-after (Find k) map = refl
keys_in-after (Insert k value) map = ap is_some (cond-true (eqb k k) (Some (unwrap_or (map k) value)) (map k) (eq-eqb k k refl))
keys_in-after (Delete k) map = ap is_some (cond-true (eqb k k) None (map k) (eq-eqb k k refl))
keys_in-after (Swap k was value) map =
    ap is_some (cond-true (eqb k k) (swapped (map k) was value) (map k) (eq-eqb k k refl)) ∙ swap_keeps (map k) was value

-- with no operation on a key, it is there if it was at the start
there_of-start : (start : Contents) (items : List (ℕ × Op)) (key : ℕ) → on_key key items ≡ [] → there_of start items key ≡ keys_in start key
there_of-start start items key none =
    ap is_some (final_alike (ops_in items) [] start start key refl (sym (on_key_in key items) ∙ ap ops_in none))

-- and behind one operation more, as that leaves it
there_of-more : (start : Contents) (part : List (ℕ × Op)) (i : ℕ) (d : ℕ × Op) → i < length part →
    there_of start (take (i + 1) part) (key_of (get_or part i d).1)
    ≡ there_after (get_or part i d).1 (there_of start (take i part) (key_of (get_or part i d).1))
there_of-more start part i d below =
    let item = get_or part i d in
    let front = ops_in (take i part) in
    let key = key_of item.1 in
    ap (λ items. there_of start items key) (take_more part i d below)
    ∙ ap (λ ops. keys_in (final start ops) key) (map-append (λ (it : ℕ × Op). it.1) (take i part) (item ∷ []))
    ∙ ap (λ map. keys_in map key) (final-append front (item.1 ∷ []) start)
    ∙ keys_in-after item.1 (final start front)

last_is : (last : Option ℕ) (key : ℕ) (same : Bool) → option_eq eqb last (Some key) ≡ same → not same ≡ false → last ≡ Some key
last_is None key same e stays = let no : option_eq eqb None (Some key) ≡ true = (e ∙ is_true same stays) in absurd cc where
  is_true : (b : Bool) → not b ≡ false → b ≡ true
  is_true true h = refl
  is_true false h = let no : ⊥ = cc in absurd no
last_is (Some k) key true e stays = ap Some (eqb-true k key e)
last_is (Some k) key false e stays = let no : ⊥ = cc in absurd no

last_other : (last : Option ℕ) (key : ℕ) → not (option_eq eqb last (Some key)) ≡ true → last ≢ Some key
last_other last key e same =
    let own : option_eq eqb last (Some key) ≡ true = ap (λ o. option_eq eqb o (Some key)) same ∙ eq-eqb key key refl in
    let none : not (option_eq eqb last (Some key)) ≡ false = ap not own in
    let no : ⊥ = cc in absurd no

-- whether the next one's key is there: as the last one left it, where this is the same key
pub known_on : (start : Contents) (part : List (ℕ × Op)) (i : ℕ) (last : Option ℕ) (there : Bool) (changes keys key : ℕ) (d : ℕ × Op) →
    AreCounted start part i last there changes keys → key ≡ key_of (get_or part i d).1 → not (option_eq eqb last (Some key)) ≡ false →
    there ≡ there_of start (take i part) (key_of (get_or part i d).1)
known_on start part i last there changes keys key d are is_key stays =
    are.known (key_of (get_or part i d).1) (last_is last key (option_eq eqb last (Some key)) refl stays ∙ ap Some is_key)

-- and else as at the start
pub known_anew : (start : Contents) (part : List (ℕ × Op)) (i : ℕ) (last : Option ℕ) (there : Bool) (changes keys key : ℕ) (d : ℕ × Op) → i < length part →
    AreCounted start part i last there changes keys → key ≡ key_of (get_or part i d).1 → not (option_eq eqb last (Some key)) ≡ true →
    keys_in start (key_of (get_or part i d).1) ≡ there_of start (take i part) (key_of (get_or part i d).1)
known_anew start part i last there changes keys key d below are is_key turns =
    sym (there_of-start start (take i part) (key_of (get_or part i d).1) (are.first d below (λ same. last_other last key turns (same ∙ ap Some (sym is_key)))))

-- the next one's key is among those before it exactly where it is the last one's
pub key_known : (start : Contents) (part : List (ℕ × Op)) (i : ℕ) (last : Option ℕ) (there : Bool) (changes keys key : ℕ) (d : ℕ × Op) →
    AreCounted start part i last there changes keys → key ≡ key_of (get_or part i d).1 → not (option_eq eqb last (Some key)) ≡ false →
    keys_of_part (take i part) (key_of (get_or part i d).1) ≡ true
key_known start part i last there changes keys key d are is_key stays =
    are.seen (key_of (get_or part i d).1) (last_is last key (option_eq eqb last (Some key)) refl stays ∙ ap Some is_key)

pub key_new : (start : Contents) (part : List (ℕ × Op)) (i : ℕ) (last : Option ℕ) (there : Bool) (changes keys key : ℕ) (d : ℕ × Op) → i < length part →
    AreCounted start part i last there changes keys → key ≡ key_of (get_or part i d).1 → not (option_eq eqb last (Some key)) ≡ true →
    keys_of_part (take i part) (key_of (get_or part i d).1) ≡ false
key_new start part i last there changes keys key d below are is_key turns =
    not_among (take i part) (key_of (get_or part i d).1) (are.first d below (λ same. last_other last key turns (same ∙ ap Some (sym is_key))))

-- one more, where there is room for it
pub one_added : (more : Bool) (changes byte sum : ℕ) → changes < 18446744073709551615 → byte ≡ bool_byte more →
    sum ≡ min (changes + byte) 18446744073709551615 → sum ≡ changes + cond more 1 0
one_added true changes byte sum room is all = let one : byte ≡ 1 = is in omega arith
one_added false changes byte sum room is all = let none : byte ≡ 0 = is in omega arith

-- so one operation more is counted
pub one_counted : (start : Contents) (part : List (ℕ × Op)) (i : ℕ) (last : Option ℕ) (there known after : Bool) (changes sum keys more key : ℕ) (d : ℕ × Op) →
    HasRounds part → i < length part → AreCounted start part i last there changes keys →
    known ≡ there_of start (take i part) (key_of (get_or part i d).1) → key ≡ key_of (get_or part i d).1 →
    after ≡ there_after (get_or part i d).1 known → sum ≡ changes + cond (may_change (get_or part i d).1 known) 1 0 →
    more ≡ keys + cond (not (keys_of_part (take i part) (key_of (get_or part i d).1))) 1 0 →
    AreCounted start part (i + 1) (Some key) after sum more
one_counted start part i last there known after changes sum keys more key d rounds below are is_known is_key is_after is_sum is_more = record {
  count = is_sum ∙ ap (λ n. n + cond (may_change op known) 1 0) are.count
      ∙ ap (λ b. count_by test (take i (enumerate_from 0 part)) + cond b 1 0) (ap (may_change op) is_known ∙ sym (ap test here))
      ∙ sym (sum_by_more (λ place. cond (test place) 1 0) (enumerate_from 0 part) i (0, d) numbered);
  key_count = is_more ∙ ap (λ n. n + cond (first_at part (i, item)) 1 0) are.key_count
      ∙ ap (λ b. count_by (first_at part) (take i (enumerate_from 0 part)) + cond b 1 0) (sym (ap (first_at part) here))
      ∙ sym (sum_by_more (λ place. cond (first_at part place) 1 0) (enumerate_from 0 part) i (0, d) numbered);
  seen = λ k last_is.
      let now : key_of op ≡ k = sym is_key ∙ (let same : key ≡ k = cc in same) in
      ap (keys_of_part (take (i + 1) part)) (sym now) ∙ among part i d below;
  known = λ k last_is.
      let now : key_of op ≡ k = sym is_key ∙ (let same : key ≡ k = cc in same) in
      is_after ∙ ap (there_after op) is_known ∙ sym (there_of-more start part i d below)
      ∙ ap (there_of start (take (i + 1) part)) now;
  first = λ e next turns.
      let same_next : get_or part (i + 1) e ≡ get_or part (i + 1) d = get_or_default part (i + 1) e d next in
      subst (λ (it : ℕ × Op). on_key (key_of it.1) (take (i + 1) part) ≡ []) (sym same_next)
      (none_before rounds.0 part rounds.1 i d next (λ alike. turns (ap Some (is_key ∙ alike ∙ ap (λ (it : ℕ × Op). key_of it.1) (sym same_next)))));
} where
  item : ℕ × Op
  item = get_or part i d

  op : Op
  op = item.1

  test : ℕ × (ℕ × Op) → Bool
  test = changes_at start part

  numbered : i < length (enumerate_from 0 part)
  numbered = omega (arith, length-enumerate_from 0 part)

  here : get_or (enumerate_from 0 part) i (0, d) ≡ (i, item)
  here = get_or-enumerate_from 0 part i (0, d) below ∙ (let same : 0 + i ≡ i = omega arith in ap {B = ℕ × (ℕ × Op)} (λ n. (n, item)) same)

-- the parts of a list that is reordered are in rounds
pub all_in_rounds : (ops : List Op) (parting : PartedOps) → IsPartedToRun ops parting.owners parting.workers parting → is_reordered ops ≡ true →
    All HasRounds parting.parts
all_in_rounds ops parting parted reordered worker d below =
    let within : worker < parting.workers = omega (arith, parted.lawful.parts) in
    let put = (parted.order worker within).rounds reordered in
    let left = left_of (ops_in (dealt ops parting.owners worker)) in
    let same : get_or parting.parts worker d ≡ part parting worker = get_or_default parting.parts worker d [] below in
    subst HasRounds (sym same) (left.0, put.rounds left.0 left.1)
