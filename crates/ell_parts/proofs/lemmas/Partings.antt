use Rattle.std.proofs.Common.{◌≡◌, ℕ, ◌/◌, ◌%◌, ◌<◌, ◌≤◌, List, [], Some, None, length, get_or, arith, refl, ap, sym, subst, zero-add, ◌∙◌, ⊎_elim}
use Rattle.std.specs.Prelude.{slice_get, slice_index, map}
use Rattle.std.proofs.lemmas.List.{length-map}
use Rattle.std.proofs.lemmas.List.FromFn.{get_or-map-range_with_len, length-map-range_with_len}
use Rattle.std.proofs.lemmas.Option.{slice_get-map, slice_get_within, slice_get_cases, get_or_from_slice_get}
use Rattle.std.proofs.lemmas.Bool.{cases_eq, cases_lt}
use Rattle.std.specs.Option.{option_map}
use Rattle.std.specs.Int.{div_ceil}
use Rattle.ell_ops.specs.declared.op.Op.{Op}
use Rattle.ell_ops.specs.KeySet.{set_of, Lists}
use Rattle.ell_ops.specs.Meaning.{key_of}
use Rattle.ell_order.specs.Orders.{KeepsKeys}
use Rattle.ell_order.specs.Rounds.{rank}
use Rattle.ell_parts.specs.PartedOps.{IsWorkerCount, IsLawful, KeepsKeysTogether, dealt, keys_of_ops, parted, striped, ranged}
use Rattle.ell_parts.proofs.lemmas.Ranks.{key_is_listed, rank-lt-length, share-lt}
use Rattle.ell_parts.specs.Faults.{IsCounted, AreKnown, AreTogether}

-- operations as they stand keep each key's
pub as_they_stand : (items : List (ℕ × Op)) → KeepsKeys items items
as_they_stand items = record { count = refl; each = λ key. refl }

-- a parting whose parts are in the order of the list is lawful, if its owners are
lawful_parted : (ops : List Op) (owners : List ℕ) (workers : ℕ) → IsWorkerCount workers → length owners ≡ length ops →
    ((i : ℕ) → i < length owners → slice_index owners i < workers) → KeepsKeysTogether ops owners → IsLawful (parted ops owners workers)
lawful_parted ops owners workers count each known together = record {
  count = count;
  each = each;
  known = known;
  together = together;
  parts = length-map-range_with_len (dealt ops owners) 0 workers;
  keeps = λ worker below.
      subst (KeepsKeys (dealt ops owners worker))
      (sym (get_or-map-range_with_len (dealt ops owners) 0 workers worker worker [] below (zero-add worker))) (as_they_stand (dealt ops owners worker));
}

-- owners that go by the key are lawful
pub lawful_by_key : (worker_of : ℕ → ℕ) (ops : List Op) (workers : ℕ) → IsWorkerCount workers →
    ((i : ℕ) (op : Op) → slice_get ops i ≡ Some op → worker_of (key_of op) < workers) →
    IsLawful (parted ops (map (λ op. worker_of (key_of op)) ops) workers)
lawful_by_key worker_of ops workers count below =
    let owner : Op → ℕ = λ op. worker_of (key_of op) in
    let owner_at : (i : ℕ) (op : Op) → slice_get ops i ≡ Some op → get_or (map owner ops) i 0 ≡ owner op =
    λ i op e. get_or_from_slice_get (map owner ops) i (owner op) 0 (slice_get-map owner ops i ∙ ap (option_map owner) e) in
    lawful_parted ops (map owner ops) workers count (length-map ops owner)
    (λ i h. ⊎_elim
    (λ (p : (op : Op) × (i < length ops) × (slice_get ops i ≡ Some op) × (get_or ops i op ≡ op)). let e : get_or (map owner ops) i 0 ≡ owner p.0 = owner_at i p.0 p.2 in rw e (below i p.0 p.2))
    (λ (p : (length ops ≤ i) × (slice_get ops i ≡ None)). let long = length-map ops owner in let past = p.0 in absurd (omega arith))
    (slice_get_cases ops i).1)
    (λ i j a b first second same. owner_at i a first ∙ ap worker_of same ∙ sym (owner_at j b second))

-- owners that are known and keep keys together are lawful
pub lawful_from_checks : (ops : List Op) (owners : List ℕ) (workers : ℕ) → IsCounted ops owners workers → AreKnown owners workers (length owners) →
    AreTogether ops owners (length ops) → IsLawful (parted ops owners workers)
lawful_from_checks ops owners workers counted known together =
    lawful_parted ops owners workers counted.count counted.each known
    (λ i j a b first second same.
    let within_i = slice_get_within ops i a first in
    let within_j = slice_get_within ops j b second in
    ⊎_elim
    (λ below. together i j below within_j (a, b, first, second, same))
    (λ above. ⊎_elim
    (λ e. ap (λ k. get_or owners k 0) e)
    (λ ne. sym (together j i (omega arith) within_i (b, a, second, first, sym same)))
    (cases_eq i j))
    (cases_lt i j))

-- owners in stripes, and in ranges, are lawful
pub striped_is_lawful : (ops : List Op) (workers : ℕ) → IsWorkerCount workers → IsLawful (parted ops (striped ops workers) workers)
striped_is_lawful ops workers count = lawful_by_key (λ key. key % workers) ops workers count (λ i op e. let some = count.some in omega arith)

pub ranged_is_lawful : (ops : List Op) (keys : List ℕ) (workers : ℕ) → IsWorkerCount workers → Lists (keys_of_ops ops) keys →
    IsLawful (parted ops (ranged keys ops workers) workers)
ranged_is_lawful ops keys workers count listed =
    lawful_by_key (λ key. rank keys key / div_ceil (length keys) workers) ops workers count
    (λ i op e. let here : get_or ops i op ≡ op = get_or_from_slice_get ops i op op e in
    let among = key_is_listed ops keys i op (slice_get_within ops i op e) listed in
    share-lt (length keys) (rank keys (key_of op)) workers count.some (rank-lt-length keys (key_of op) (ap (λ o. set_of keys (key_of o)) (sym here) ∙ among)))
