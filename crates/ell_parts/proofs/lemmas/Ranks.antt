use Rattle.std.proofs.Common.{◌≡◌, ℕ, zero, suc, ◌+◌, ◌*◌, ◌/◌, ◌<◌, ◌≤◌, Bool, true, false, List, [], ◌∷◌, ◌++◌, ◌||◌, eqb, ltb, length, get_or, take, arith, ap, sym, ◌∙◌, ⊎_elim}
use Rattle.std.proofs.Math.Nat.{div-lt_iff_lt-mul}
use Rattle.std.proofs.lemmas.Bool.{cases_eq, eq-eqb, ne_eqb}
use Rattle.std.proofs.lemmas.Bool.Decides.{nat_tests}
use Rattle.std.proofs.lemmas.Grind.{div_ceil_times}
use Rattle.std.proofs.lemmas.List.Sums.{count_by-le-length}
use Rattle.std.proofs.lemmas.List.{take_more, map-append, length-map, get_or-map}
use Rattle.std.proofs.lemmas.List.Folds.{list_any_at}
use Rattle.std.specs.Prelude.{map}
use Rattle.ell_ops.specs.declared.op.Op.{Op}
use Rattle.ell_ops.specs.Meaning.{key_of}
use Rattle.std.specs.Int.{div_ceil}
use Rattle.std.specs.List.{AllWithin}
use Rattle.ell_ops.specs.KeySet.{set_of, Lists}
use Rattle.ell_order.specs.Rounds.{rank}
use Rattle.ell_order.proofs.lemmas.Ranks.{one_if, rank-cons}
use Rattle.ell_parts.specs.PartedOps.{keys_of_ops, ranged}

count_above : (other key : ℕ) → ltb other key ≡ false → one_if (ltb other key) ≡ 0
count_above other key e = ap one_if e

count_below : (other key : ℕ) → ltb other key ≡ true → one_if (ltb other key) ≡ 1
count_below other key e = ap one_if e

count_small : (b : Bool) → one_if b ≤ 1
count_small true = omega arith
count_small false = omega arith

-- the place before which the keys are below, and from which on they are not, is the rank
pub rank_at_point : (keys : List ℕ) (key i : ℕ) → i ≤ length keys → AllWithin (λ k. ltb k key ≡ true) keys 0 i →
    AllWithin (λ k. ltb k key ≡ false) keys i (length keys) → rank keys key ≡ i
rank_at_point [] key i fits below above = omega arith
rank_at_point (other ∷ keys) key zero fits below above =
    let none = count_above other key (above 0 0 (omega arith) (omega arith)) in
    let rest = rank_at_point keys key zero (omega arith) (λ k d from to. absurd (omega arith)) (λ k d from to. above (suc k) d (omega arith) (omega arith)) in
    rank-cons other keys key ∙ omega arith
rank_at_point (other ∷ keys) key (suc i) fits below above =
    let one = count_below other key (below 0 0 (omega arith) (omega arith)) in
    let rest = rank_at_point keys key i (omega arith) (λ k d from to. below (suc k) d (omega arith) (omega arith)) (λ k d from to. above (suc k) d (omega arith) (omega arith)) in
    rank-cons other keys key ∙ omega arith

-- a key of the list does not count itself
pub rank-lt-length : (keys : List ℕ) (key : ℕ) → set_of keys key ≡ true → rank keys key < length keys
rank-lt-length [] key h = absurd cc
rank-lt-length (other ∷ keys) key h =
    ⊎_elim
    (λ e. let self : ltb other key ≡ false = grind (arith, nat_tests) in
    let none = count_above other key self in
    let few = count_by-le-length (λ k. ltb k key) keys in
    let cons = rank-cons other keys key in omega arith)
    (λ ne. let rest = rank-lt-length keys key (ap (λ b. b || set_of keys key) (sym (ne_eqb key other ne)) ∙ h) in
    let one = count_small (ltb other key) in
    let cons = rank-cons other keys key in omega arith)
    (cases_eq key other)

-- each worker has some keys, if there are any
pub share-pos : (n workers : ℕ) → 1 ≤ workers → 0 < n → 0 < div_ceil n workers
share-pos n workers some any = from (div_ceil n workers) (div_ceil_times n workers some).0 where
  from : (share : ℕ) → n ≤ share * workers → 0 < share
  from zero h = omega arith
  from (suc share) h = omega arith

-- the keys of all the workers are enough
pub share-lt : (n r workers : ℕ) → 1 ≤ workers → r < n → r / div_ceil n workers < workers
share-lt n r workers some below =
    let enough = (div_ceil_times n workers some).0 in
    let pos = share-pos n workers some (omega arith) in
    (div-lt_iff_lt-mul {k = div_ceil n workers} {x = r} {y = workers} pos).1 (omega arith)

-- a key of the list is among its distinct keys
pub key_is_listed : (ops : List Op) (keys : List ℕ) (i : ℕ) (d : Op) → i < length ops → Lists (keys_of_ops ops) keys → set_of keys (key_of (get_or ops i d)) ≡ true
key_is_listed ops keys i d below listed =
    let key : ℕ = key_of (get_or ops i d) in
    let within : i < length (map key_of ops) = rw (length-map ops key_of) below in
    ap (λ set. set key) listed.each
    ∙ list_any_at (λ k. eqb key k) (map key_of ops) i 0 within (eq-eqb key (get_or (map key_of ops) i 0) (sym (get_or-map key_of ops i d 0 below)))

-- the owner of one more operation
pub ranged-take : (keys : List ℕ) (ops : List Op) (workers i : ℕ) (d : Op) → i < length ops →
    ranged keys (take (i + 1) ops) workers ≡ ranged keys (take i ops) workers ++ rank keys (key_of (get_or ops i d)) / div_ceil (length keys) workers ∷ []
ranged-take keys ops workers i d below =
    let owner : Op → ℕ = λ op. rank keys (key_of op) / div_ceil (length keys) workers in
    ap (map owner) (take_more ops i d below) ∙ map-append owner (take i ops) (get_or ops i d ∷ [])
