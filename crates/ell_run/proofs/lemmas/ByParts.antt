use Rattle.std.proofs.Common.{◌≡◌, ℕ, zero, suc, ◌+◌, ◌≤◌, Bool, true, cond, List, [], ◌∷◌, ◌++◌, Some, eqb, take, drop, length, arith, refl, ap, sym, subst, ◌∙◌, ◌⊎◌, inl, inr, ⊎_elim}
use Rattle.std.specs.Prelude.{filter, slice_get, slice_index, ◌==◌}
use Rattle.std.specs.List.{enumerate_from}
use Rattle.std.proofs.Math.Seq.{take-add}
use Rattle.std.proofs.lemmas.List.{get_or_past, map-append, take-append-drop, take-map, take-take}
use Rattle.std.proofs.lemmas.Bool.{cases_Bool, cases_eq, cases_lt, eqb-true, eq-eqb, ne_eqb, cond-true, cond-false}
use Rattle.std.proofs.lemmas.Option.{slice_get_within}
use Rattle.ell_ops.specs.declared.Op.{Op}
use Rattle.ell_ops.specs.Contents.{Contents}
use Rattle.ell_ops.specs.Meaning.{key_of, final}
use Rattle.ell_order.specs.Orders.{KeepsKeys, on_key as items_on_key}
use Rattle.ell_parts.specs.PartedOps.{PartedOps, IsLawful, part}
use Rattle.ell_run.specs.ByParts.{ops_in, WorkerHasKey, done, IsRest, AreDone, ReplyAlike, PartsServe}
use Rattle.ell_ops.proofs.lemmas.Places.{slice_get-drop, slice_get_from_take, slice_get_within_take}
use Rattle.ell_order.proofs.lemmas.Kept.{Moved, moved, on_key_in}
use Rattle.ell_order.proofs.lemmas.Numbered.{filter_at, front_numbered, numbered_at, passes_at}
use Rattle.ell_order.proofs.lemmas.OnKey.{on_key, final_alike, final-append}
use Rattle.ell_order.proofs.lemmas.Reordered.{op_at, same_reply}

-- the part of a worker, where the list begins at position s
abbrev pub part_from : (ℕ → ℕ) → ℕ → List Op → ℕ → List (ℕ × Op)
part_from owner s ops worker = filter (λ item. owner item.0 == worker) (enumerate_from s ops)

-- item j of a part: where it stands in the list, and what stands before it
pub record StandsAt (owner : ℕ → ℕ) (s : ℕ) (ops : List Op) (worker j i : ℕ) (op : Op) : Type 0 where
  pub behind : ℕ
  pub place : i ≡ s + behind
  pub there : slice_get ops behind ≡ Some op
  pub owned : owner i ≡ worker
  pub before : take j (part_from owner s ops worker) ≡ part_from owner s (take behind ops) worker

pub stands_at : (owner : ℕ → ℕ) (s : ℕ) (ops : List Op) (worker j i : ℕ) (op : Op) →
    slice_get (part_from owner s ops worker) j ≡ Some (i, op) → StandsAt owner s ops worker j i op
stands_at owner s ops worker j i op e =
    let test : ℕ × Op → Bool = λ item. owner item.0 == worker in
    let found = passes_at test (enumerate_from s ops) j (i, op) e in
    let at = numbered_at s ops found.place i op found.there in
    let front = filter_at test (enumerate_from s ops) found.place (i, op) found.there found.passes in
    record {
      behind = found.place;
      place = at.0;
      there = at.1;
      owned = eqb-true (owner i) worker found.passes;
      before = ap (λ n. take n (part_from owner s ops worker)) found.before ∙ front.1 ∙ ap (filter test) (front_numbered found.place s ops);
    }

-- the owner of a position
abbrev pub owner_in : PartedOps → ℕ → ℕ
owner_in parting position = slice_index parting.owners position

-- an item of a worker's operations in the order of the list stands at its position there, which is the worker's
dealt_item : (parting : PartedOps) (worker k position : ℕ) (op : Op) → slice_get (part_from (owner_in parting) 0 parting.ops worker) k ≡ Some (position, op) →
    (owner_in parting position ≡ worker) × (slice_get parting.ops position ≡ Some op)
dealt_item parting worker k position op e =
    let h = stands_at (owner_in parting) 0 parting.ops worker k position op e in
    let same : h.behind ≡ position = (let place = h.place in omega arith) in
    (h.owned, subst (λ n. slice_get parting.ops n ≡ Some op) same h.there)

pub no_item : {X : Type 0} (xs : List X) → ((x : X) → slice_get xs 0 ≡ Some x → ⊥) → xs ≡ []
no_item [] none = refl
no_item (x ∷ xs) none = absurd (none x refl)

-- who is no worker has nothing
none_past : (parting : PartedOps) → IsLawful parting → (worker : ℕ) → parting.workers ≤ worker → part_from (owner_in parting) 0 parting.ops worker ≡ []
none_past parting lawful worker past = no_item (part_from (owner_in parting) 0 parting.ops worker)
    (λ item e.
    let h = dealt_item parting worker 0 item.0 item.1 e in
    let within = slice_get_within parting.ops item.0 item.1 h.1 in
    let each = lawful.each in
    let known = lawful.known item.0 (omega arith) in
    let own = h.0 in
    let no : ⊥ = omega arith in no)

-- a part has its worker's operations, each key's in the order of the list
pub part_keeps : (parting : PartedOps) → IsLawful parting → (worker : ℕ) → KeepsKeys (part_from (owner_in parting) 0 parting.ops worker) (part parting worker)
part_keeps parting lawful worker =
    ⊎_elim
    (λ below. lawful.keeps worker below)
    (λ past.
    let none : part parting worker ≡ [] = get_or_past parting.parts worker [] (let count = lawful.parts in omega arith) in
    let nothing = none_past parting lawful worker past in
    record { count = ap length none ∙ sym (ap length nothing); each = λ key. ap (items_on_key key) none ∙ sym (ap (items_on_key key) nothing) })
    (cases_lt worker parting.workers)

-- an item of a part: its position is the worker's, and the list has its operation there; and where it stands among the
-- worker's operations in the order of the list
pub record InPart (parting : PartedOps) (worker k position : ℕ) (op : Op) : Type 0 where
  pub owned : owner_in parting position ≡ worker
  pub there : slice_get parting.ops position ≡ Some op
  pub moved : Moved (part_from (owner_in parting) 0 parting.ops worker) (part parting worker) k position op

pub in_part : (parting : PartedOps) → IsLawful parting → (worker k position : ℕ) (op : Op) → slice_get (part parting worker) k ≡ Some (position, op) →
    InPart parting worker k position op
in_part parting lawful worker k position op e =
    let m = moved (part_from (owner_in parting) 0 parting.ops worker) (part parting worker) k position op ((part_keeps parting lawful worker).each (key_of op)) e in
    let h = dealt_item parting worker m.place position op m.there in
    record { owned = h.0; there = h.1; moved = m }

-- the operations on an owned key are those of its worker's part
part_on_key : (owner : ℕ → ℕ) (s : ℕ) (ops : List Op) (worker key : ℕ) →
    ((d : ℕ) (op : Op) → slice_get ops d ≡ Some op → key_of op ≡ key → owner (s + d) ≡ worker) →
    on_key key (ops_in (part_from owner s ops worker)) ≡ on_key key ops
part_on_key owner s [] worker key owns = refl
part_on_key owner s (o ∷ ops) worker key owns =
    let rest : on_key key (ops_in (part_from owner (s + 1) ops worker)) ≡ on_key key ops =
    part_on_key owner (s + 1) ops worker key (λ d op e on. subst (λ n. owner n ≡ worker) (omega arith) (owns (suc d) op e on)) in
    ⊎_elim
    (λ own. ap (λ items. on_key key (ops_in items)) (cond-true (eqb (owner s) worker) ((s, o) ∷ part_from owner (s + 1) ops worker) _ own)
    ∙ ap (λ l. cond (eqb (key_of o) key) (o ∷ l) l) rest)
    (λ not_own. ap (λ items. on_key key (ops_in items)) (cond-false (eqb (owner s) worker) ((s, o) ∷ part_from owner (s + 1) ops worker) _ not_own)
    ∙ rest
    ∙ sym (cond-false (eqb (key_of o) key) (o ∷ on_key key ops) (on_key key ops)
    (ne_eqb (key_of o) key (λ on.
    let here : owner s ≡ worker = subst (λ n. owner n ≡ worker) (omega arith) (owns 0 o refl on) in
    let own : eqb (owner s) worker ≡ true = eq-eqb (owner s) worker here in
    let no : ⊥ = cc in no))))
    (cases_Bool (eqb (owner s) worker))

-- some operation is on the key, or none is
pub find_key : (ops : List Op) (key : ℕ) →
    ((d : ℕ) × (op : Op) × (slice_get ops d ≡ Some op) × (key_of op ≡ key)) ⊎ ((d : ℕ) (op : Op) → slice_get ops d ≡ Some op → key_of op ≡ key → ⊥)
find_key [] key = inr (λ d op e on. cc)
find_key (o ∷ ops) key =
    ⊎_elim
    (λ on. inl (0, o, refl, on))
    (λ off. ⊎_elim
    (λ found. inl (suc found.0, found.1, found.2, found.3))
    (λ none. inr (elsewhere off none))
    (find_key ops key))
    (cases_eq (key_of o) key) where
      elsewhere : (key_of o ≡ key → ⊥) → ((d : ℕ) (op : Op) → slice_get ops d ≡ Some op → key_of op ≡ key → ⊥) →
          (d : ℕ) (op : Op) → slice_get (o ∷ ops) d ≡ Some op → key_of op ≡ key → ⊥
      elsewhere off none zero op e on = let same : o ≡ op = cc in off (ap key_of same ∙ on)
      elsewhere off none (suc d) op e on = none d op e on

-- the worker of one operation on a key is that of all
pub owns_key : (parting : PartedOps) → IsLawful parting → (worker d : ℕ) (op : Op) → slice_get parting.ops d ≡ Some op → slice_index parting.owners d ≡ worker →
    WorkerHasKey parting worker (key_of op)
owns_key parting lawful worker d op e own i other there same = lawful.together i d other op there e same ∙ own

-- a key that no operation is on is anybody's
some_owner : (parting : PartedOps) → IsLawful parting → (key : ℕ) → (worker : ℕ) × WorkerHasKey parting worker key
some_owner parting lawful key =
    ⊎_elim
    (λ found. (
      slice_index parting.owners found.0,
      subst (WorkerHasKey parting (slice_index parting.owners found.0)) found.3 (owns_key parting lawful (slice_index parting.owners found.0) found.0 found.1 found.2 refl),
    ))
    (λ none. (0, λ d op e on. absurd (none d op e on)))
    (find_key parting.ops key)

-- what stands before an operation, in its part and in the list, leaves its key alike
before_alike : (set : Contents) (parting : PartedOps) (worker d : ℕ) (op : Op) → WorkerHasKey parting worker (key_of op) →
    final set (ops_in (part_from (λ i. slice_index parting.owners i) 0 (take d parting.ops) worker)) (key_of op) ≡ final set (take d parting.ops) (key_of op)
before_alike set parting worker d op owns =
    final_alike (ops_in (part_from (λ i. slice_index parting.owners i) 0 (take d parting.ops) worker)) (take d parting.ops) set set (key_of op) refl
    (part_on_key (λ i. slice_index parting.owners i) 0 (take d parting.ops) worker (key_of op)
    (λ k other e on. subst (λ n. slice_index parting.owners n ≡ worker) (omega arith) (owns k other (slice_get_from_take d parting.ops k other e) on)))

-- what stands before an operation in its part leaves its key as what stands before it in the list does
part_before : (set : Contents) (parting : PartedOps) → IsLawful parting → (worker k position : ℕ) (op : Op) → slice_get (part parting worker) k ≡ Some (position, op) →
    final set (ops_in (take k (part parting worker))) (key_of op) ≡ final set (take position parting.ops) (key_of op)
part_before set parting lawful worker k position op e =
    let key = key_of op in
    let dealt = part_from (owner_in parting) 0 parting.ops worker in
    let h = in_part parting lawful worker k position op e in
    let s = stands_at (owner_in parting) 0 parting.ops worker h.moved.place position op h.moved.there in
    let same : s.behind ≡ position = (let place = s.place in omega arith) in
    final_alike (ops_in (take k (part parting worker))) (ops_in (take h.moved.place dealt)) set set key refl
    (sym (on_key_in key (take k (part parting worker))) ∙ ap ops_in h.moved.prior ∙ on_key_in key (take h.moved.place dealt))
    ∙ ap (λ items. final set (ops_in items) key) (s.before ∙ ap (λ n. part_from (owner_in parting) 0 (take n parting.ops) worker) same)
    ∙ before_alike set parting worker position op (owns_key parting lawful worker position op h.there h.owned)

-- the operations on a key of a part whose worker has the key are those of the list
pub part_on_owned : (parting : PartedOps) → IsLawful parting → (worker key : ℕ) → WorkerHasKey parting worker key →
    on_key key (ops_in (part parting worker)) ≡ on_key key parting.ops
part_on_owned parting lawful worker key owns =
    sym (on_key_in key (part parting worker)) ∙ ap ops_in ((part_keeps parting lawful worker).each key)
    ∙ on_key_in key (part_from (owner_in parting) 0 parting.ops worker)
    ∙ part_on_key (owner_in parting) 0 parting.ops worker key (λ k other e on. subst (λ n. owner_in parting n ≡ worker) (omega arith) (owns k other e on))

-- a reply in a part is that in the list
pub part_reply : (set : Contents) (parting : PartedOps) → IsLawful parting → (worker n : ℕ) → ReplyAlike set (take n (part parting worker)) set parting.ops
part_reply set parting lawful worker n j i op e =
    let front : take j (take n (part parting worker)) ≡ take j (part parting worker) =
    take-take j n (part parting worker) (omega (arith, slice_get_within_take n (part parting worker) j (i, op) e)) in
    let there = slice_get_from_take n (part parting worker) j (i, op) e in
    same_reply set set (ops_in (take n (part parting worker))) parting.ops j i op (op_at (take n (part parting worker)) j i op e)
    (in_part parting lawful worker j i op there).there
    (ap (λ xs. final set xs (key_of op)) (take-map (λ (item : ℕ × Op). item.1) j (take n (part parting worker)) ∙ ap ops_in front)
    ∙ part_before set parting lawful worker j i op there)

-- a front of the done part and what follows it, one after the other
done_then : (set : Contents) (xs ys : List (ℕ × Op)) → final (final set (ops_in xs)) (ops_in ys) ≡ final set (ops_in (xs ++ ys))
done_then set xs ys = sym (final-append (ops_in xs) (ops_in ys) set) ∙ ap (final set) (sym (map-append (λ (item : ℕ × Op). item.1) xs ys))

rest_reply : (set : Contents) (parting : PartedOps) (counts : ℕ → ℕ) (after : Contents) (rest : List (ℕ × Op)) →
    IsLawful parting → AreDone set parting counts after → IsRest parting counts rest → ReplyAlike after rest set parting.ops
rest_reply set parting counts after rest lawful did remains j i op e =
    let key = key_of op in
    let owner = some_owner parting lawful key in
    let worker = owner.0 in
    let left = drop (counts worker) (part parting worker) in
    let m = moved left rest j i op (remains worker key owner.1) e in
    let there : slice_get (part parting worker) (counts worker + m.place) ≡ Some (i, op) = sym (slice_get-drop (counts worker) (part parting worker) m.place) ∙ m.there in
    let front = done parting counts worker in
    let next = take m.place left in
    same_reply after set (ops_in rest) parting.ops j i op (op_at rest j i op e) (in_part parting lawful worker (counts worker + m.place) i op there).there
    (ap (λ xs. final after xs key) (take-map (λ (item : ℕ × Op). item.1) j rest)
    ∙ final_alike (ops_in (take j rest)) (ops_in next) after (final set (ops_in front)) key (did worker key owner.1)
    (sym (on_key_in key (take j rest)) ∙ ap ops_in m.prior ∙ on_key_in key next)
    ∙ ap (λ s. s key) (done_then set front next ∙ ap (λ items. final set (ops_in items)) (sym (take-add (counts worker) m.place (part parting worker))))
    ∙ part_before set parting lawful worker (counts worker + m.place) i op there)

rest_final : (set : Contents) (parting : PartedOps) (counts : ℕ → ℕ) (after : Contents) (rest : List (ℕ × Op)) →
    IsLawful parting → AreDone set parting counts after → IsRest parting counts rest → (key : ℕ) → final after (ops_in rest) key ≡ final set parting.ops key
rest_final set parting counts after rest lawful did remains key =
    let owner = some_owner parting lawful key in
    let worker = owner.0 in
    let front = done parting counts worker in
    let next = drop (counts worker) (part parting worker) in
    final_alike (ops_in rest) (ops_in next) after (final set (ops_in front)) key (did worker key owner.1)
    (sym (on_key_in key rest) ∙ ap ops_in (remains worker key owner.1) ∙ on_key_in key next)
    ∙ ap (λ s. s key) (done_then set front next ∙ ap (λ items. final set (ops_in items)) (take-append-drop (counts worker) (part parting worker)))
    ∙ final_alike (ops_in (part parting worker)) parting.ops set set key refl (part_on_owned parting lawful worker key owner.1)

pub parts_serve : PartsServe
parts_serve set parting counts after rest lawful did remains = record {
  early = λ worker. part_reply set parting lawful worker (counts worker);
  late = rest_reply set parting counts after rest lawful did remains;
  final = λ i key. rest_final set parting counts after rest lawful did remains key i;
}
