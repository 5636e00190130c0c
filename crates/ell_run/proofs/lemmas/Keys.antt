use Rattle.std.proofs.Common.{◌≡◌, ℕ, zero, suc, ◌<◌, Bool, true, false, List, [], ◌∷◌, ◌++◌, Some, eqb, length, map, take, drop, get_or, ◌||◌, arith, refl, ap, ap₂, sym, subst, ◌∙◌, true≢false}
use Rattle.std.specs.Prelude.{filter, slice_get}
use Rattle.std.specs.List.{list_any}
use Rattle.std.proofs.lemmas.Bool.{eqb-true, eq-eqb, or_right, lt-ltb}
use Rattle.std.proofs.lemmas.List.{take-append-drop}
use Rattle.std.proofs.lemmas.List.Folds.{list_any-append}
use Rattle.std.proofs.lemmas.List.FromFn.{get_or-range_with_len, length-range_with_len}
use Rattle.std.proofs.lemmas.Option.{slice_get-get_or, slice_get_within}
use Rattle.ell_ops.specs.declared.op.Op.{Op}
use Rattle.ell_ops.specs.KeySet.{Lists, set_of, union}
use Rattle.ell_ops.specs.Meaning.{key_of}
use Rattle.ell_parts.specs.PartedOps.{PartedOps, IsLawful, part, keys_of_part, keys_of_ops}
use Rattle.ell_run.specs.Pieces.{all_workers, busy}
use Rattle.ell_run.specs.Work.{keys_for}
use Rattle.ell_run.proofs.lemmas.Busy.{is_busy}
use Rattle.ell_run.proofs.lemmas.ByParts.{in_part, owner_in}
use Rattle.ell_order.proofs.lemmas.Numbered.{filter_at}
use Rattle.ell_run.proofs.lemmas.Gathering.{part_covers}
use Rattle.ell_run.proofs.lemmas.Halves.{has_key}

-- the keys of one worker
pub one_row : (parting : PartedOps) (workers : List ℕ) (d : ℕ) (keys items : List ℕ) → 0 < length workers → length workers < 2 →
    Lists (keys_of_part (part parting (get_or workers 0 d))) keys → items ≡ keys → Lists (keys_for parting workers) items
one_row parting [] d keys items some few listed same = absurd (omega arith)
one_row parting (w ∷ v ∷ ws) d keys items some few listed same = absurd (omega arith)
one_row parting (w ∷ []) d keys items some few listed same =
    subst (Lists (keys_for parting (w ∷ []))) (sym same)
    (record { ascending = listed.ascending; each = listed.each ∙ (λ i key. sym (or_none (keys_of_part (part parting w) key)) i) })
  where
    or_none : (b : Bool) → (b || false) ≡ b
    or_none true = refl
    or_none false = refl

-- those of two rows, one after the other
pub both_rows : (parting : PartedOps) (n : ℕ) (workers low high left right ours theirs items : List ℕ) → low ≡ take n workers → high ≡ drop n workers →
    Lists (keys_for parting low) left → Lists (keys_for parting high) right → ours ≡ left → theirs ≡ right →
    Lists (union (set_of ours) (set_of theirs)) items → Lists (keys_for parting workers) items
both_rows parting n workers low high left right ours theirs items front back first second same other listed =
    let whole : low ++ high ≡ workers = ap₂ ◌++◌ front back ∙ take-append-drop n workers in
    let either : union (set_of ours) (set_of theirs) ≡ keys_for parting (low ++ high) =
    λ i key.
    (ap₂ ◌||◌ (ap (λ l. set_of l key) same ∙ ap (λ s. s key) first.each) (ap (λ l. set_of l key) other ∙ ap (λ s. s key) second.each)
    ∙ sym (list_any-append (λ worker. keys_of_part (part parting worker) key) low high)) i in
    record { ascending = listed.ascending; each = listed.each ∙ (either ∙ ap (keys_for parting) whole) }

-- what stands at a place settles whether any does
any_there : {X : Type 0} (p : X → Bool) (xs : List X) (k : ℕ) (x : X) → slice_get xs k ≡ Some x → p x ≡ true → list_any p xs ≡ true
any_there p [] k x e h = let no : ⊥ = cc in absurd no
any_there p (y ∷ xs) zero x e h = let same : y ≡ x = cc in ap (λ t. t || list_any p xs) (ap p same ∙ h)
any_there p (y ∷ xs) (suc k) x e h = or_right (p y) (list_any p xs) (any_there p xs k x e h)

map_there : {X Y : Type 0} (f : X → Y) (xs : List X) (k : ℕ) (x : X) → slice_get xs k ≡ Some x → slice_get (map f xs) k ≡ Some (f x)
map_there f [] k x e = let no : ⊥ = cc in absurd no
map_there f (y ∷ xs) zero x e = let same : y ≡ x = cc in ap (λ z. Some (f z)) same
map_there f (y ∷ xs) (suc k) x e = map_there f xs k x e

-- an operation on a key of a list
key_item : (ops : List Op) (key : ℕ) → keys_of_ops ops key ≡ true → (d : ℕ) × (op : Op) × (slice_get ops d ≡ Some op) × (key ≡ key_of op)
key_item [] key h = absurd (true≢false (sym h))
key_item (o ∷ ops) key h = by (eqb key (key_of o)) refl h (λ some. key_item ops key some)
  where
    by : (t : Bool) → eqb key (key_of o) ≡ t → (t || keys_of_ops ops key) ≡ true
        → (keys_of_ops ops key ≡ true → (d : ℕ) × (op : Op) × (slice_get ops d ≡ Some op) × (key ≡ key_of op))
        → (d : ℕ) × (op : Op) × (slice_get (o ∷ ops) d ≡ Some op) × (key ≡ key_of op)
    by true e some rest = (0, o, refl, eqb-true key (key_of o) e)
    by false e some rest = let it = rest some in (suc it.0, it.1, it.2, it.3)

alike : (a b : Bool) → (a ≡ true → b ≡ true) → (b ≡ true → a ≡ true) → a ≡ b
alike true b f g = sym (f refl)
alike false true f g = g refl
alike false false f g = refl

-- a worker with an operation on the key
record HasWorker (parting : PartedOps) (key : ℕ) : Type 0 where
  worker : ℕ
  known : worker < parting.workers
  some : 0 < length (part parting worker)
  among : keys_of_part (part parting worker) key ≡ true

-- each key of the list has one
has_worker : (parting : PartedOps) → IsLawful parting → (key : ℕ) → keys_of_ops parting.ops key ≡ true → HasWorker parting key
has_worker parting lawful key some =
    let it = key_item parting.ops key some in
    let worker = owner_in parting it.0 in
    let there = part_covers parting lawful it.0 it.1 it.2 in
    let within = slice_get_within (part parting worker) there.0 (it.0, it.1) there.1 in
    record {
      worker = worker;
      known = lawful.known it.0 (omega (arith, lawful.each, slice_get_within parting.ops it.0 it.1 it.2));
      some = omega (arith, within);
      among =
          any_there (eqb key) (map (λ (item : ℕ × Op). key_of item.1) (part parting worker)) there.0 (key_of it.1)
          (map_there (λ (item : ℕ × Op). key_of item.1) (part parting worker) there.0 (it.0, it.1) there.1) (eq-eqb key (key_of it.1) it.3);
    }

-- and each key of workers is on the list
listed_key : (parting : PartedOps) → IsLawful parting → (workers : List ℕ) (key : ℕ) → keys_for parting workers key ≡ true → keys_of_ops parting.ops key ≡ true
listed_key parting lawful workers key some =
    let has = has_key parting workers key some in
    let here = in_part parting lawful has.worker has.place has.item.0 has.item.1 has.there in
    any_there (eqb key) (map key_of parting.ops) has.item.0 (key_of has.item.1) (map_there key_of parting.ops has.item.0 has.item.1 here.there)
    (eq-eqb key (key_of has.item.1) (sym has.on))

-- a worker stands at its own place among all
stands_there : (parting : PartedOps) (worker : ℕ) → worker < parting.workers → slice_get (all_workers parting) worker ≡ Some worker
stands_there parting worker known =
    let number : get_or (all_workers parting) worker 0 ≡ worker = (let here = get_or-range_with_len 0 parting.workers worker 0 known in omega arith) in
    slice_get-get_or (all_workers parting) worker 0 (omega (arith, known, length-range_with_len 0 parting.workers)) ∙ ap Some number

-- the keys of all workers are those of the list
pub all_keys : (parting : PartedOps) → IsLawful parting → keys_for parting (all_workers parting) ≡ keys_of_ops parting.ops
all_keys parting lawful = λ i key. alike (keys_for parting (all_workers parting) key) (keys_of_ops parting.ops key) (listed_key parting lawful (all_workers parting) key) (parted key) i
  where
    parted : (key : ℕ) → keys_of_ops parting.ops key ≡ true → keys_for parting (all_workers parting) key ≡ true
    parted key some =
        let has = has_worker parting lawful key some in
        any_there (λ w. keys_of_part (part parting w) key) (all_workers parting) has.worker has.worker (stands_there parting has.worker has.known) has.among

-- and so are those of the busy ones
pub busy_keys : (parting : PartedOps) → IsLawful parting → keys_for parting (busy parting) ≡ keys_of_ops parting.ops
busy_keys parting lawful = λ i key. alike (keys_for parting (busy parting) key) (keys_of_ops parting.ops key) (listed_key parting lawful (busy parting) key) (parted key) i
  where
    parted : (key : ℕ) → keys_of_ops parting.ops key ≡ true → keys_for parting (busy parting) key ≡ true
    parted key some =
        let has = has_worker parting lawful key some in
        let stands = filter_at (is_busy parting) (all_workers parting) has.worker has.worker (stands_there parting has.worker has.known)
        (lt-ltb 0 (length (part parting has.worker)) has.some) in
        any_there (λ w. keys_of_part (part parting w) key) (busy parting) (length (filter (is_busy parting) (take has.worker (all_workers parting)))) has.worker stands.0 has.among

-- a list of the keys of the busy ones has those of the list
pub busy_listed : (parting : PartedOps) (workers keys : List ℕ) → IsLawful parting → workers ≡ busy parting →
    Lists (keys_for parting workers) keys → Lists (keys_of_ops parting.ops) keys
busy_listed parting workers keys lawful all = subst (λ set. Lists set keys) (ap (keys_for parting) all ∙ busy_keys parting lawful)
