use Rattle.std.proofs.Common.{◌≡◌, ℕ, zero, suc, ◌+◌, ◌<◌, Bool, eqb, true, List, [], ◌∷◌, ◌++◌, Some, length, take, arith, refl, ap, sym, subst, ◌∙◌, ⊎_elim}
use Rattle.std.specs.Prelude.{slice_get, ◌==◌}
use Rattle.std.specs.List.{flat_map, range_with_len}
use Rattle.std.proofs.lemmas.List.{flat_map_more}
use Rattle.std.proofs.lemmas.Option.{slice_get_within}
use Rattle.std.proofs.lemmas.Bool.{cases_Bool, cases_eq, cases_lt, eq-eqb, cond-true, cond-false}
use Rattle.ell_ops.specs.declared.op.Op.{Op}
use Rattle.ell_ops.specs.Contents.{Contents}
use Rattle.ell_ops.specs.Meaning.{key_of, reply_of, final, replies}
use Rattle.ell_order.specs.Orders.{on_key}
use Rattle.ell_parts.specs.Gathering.{IsFor, AreSound}
use Rattle.ell_parts.specs.PartedOps.{PartedOps, IsLawful, part}
use Rattle.ell_ops.proofs.lemmas.Places.{slice_get-append, slice_get-append_behind, slice_get-append_cases, slice_get-take, slice_get_from_take, slice_get_within_take}
use Rattle.ell_ops.proofs.lemmas.Presence.{reply_at}
use Rattle.ell_run.specs.ByParts.{done, ops_in}
use Rattle.ell_run.specs.Pieces.{numbered, piece_from}
use Rattle.ell_run.proofs.lemmas.Busy.{counted}
use Rattle.ell_run.proofs.lemmas.ByParts.{in_part, owner_in, part_from, part_keeps, part_reply, stands_at}
use Rattle.ell_order.proofs.lemmas.Kept.{moved}
use Rattle.ell_order.proofs.lemmas.Numbered.{fewer_before}
use Rattle.ell_order.proofs.lemmas.Reordered.{op_at}
use Rattle.ell_ops.specs.declared.reply.Reply.{Reply}

-- an item of a piece is an operation of the part with its reply
pub tagged : (items : List (ℕ × Op)) (said : List Reply) (k position : ℕ) (reply : Reply) →
    slice_get (numbered items said) k ≡ Some (position, reply) →
    (op : Op) × (slice_get items k ≡ Some (position, op)) × (slice_get said k ≡ Some reply)
tagged [] said k position reply e = let no : ⊥ = cc in absurd no
tagged (item ∷ items) [] k position reply e = let no : ⊥ = cc in absurd no
tagged (item ∷ items) (first ∷ said) zero position reply e =
    let pair : (item.0, first) ≡ (position, reply) = cc in
    let place : item.0 ≡ position = ap (λ (p : ℕ × Reply). p.0) pair in
    (item.1, ap (λ n. Some (n, item.1)) place, ap (λ (p : ℕ × Reply). Some p.1) pair)
tagged (item ∷ items) (first ∷ said) (suc k) position reply e = tagged items said k position reply e

pub untagged : (items : List (ℕ × Op)) (said : List Reply) (k position : ℕ) (op : Op) (reply : Reply) →
    slice_get items k ≡ Some (position, op) → slice_get said k ≡ Some reply →
    slice_get (numbered items said) k ≡ Some (position, reply)
untagged [] said k position op reply e r = let no : ⊥ = cc in absurd no
untagged (item ∷ items) [] k position op reply e r = let no : ⊥ = cc in absurd no
untagged (item ∷ items) (first ∷ said) zero position op reply e r =
    let pair : item ≡ (position, op) = cc in
    let said_it : first ≡ reply = cc in
    ap (λ (p : ℕ × Op). Some (p.0, first)) pair ∙ ap (λ b. Some (position, b)) said_it
untagged (item ∷ items) (first ∷ said) (suc k) position op reply e r = untagged items said k position op reply e r

-- positions ascend in a part
pub part_ascends : (owner : ℕ → ℕ) (ops : List Op) (worker j k position at : ℕ) (op other : Op) → slice_get (part_from owner 0 ops worker) j ≡ Some (at, other) →
    slice_get (part_from owner 0 ops worker) k ≡ Some (position, op) → k < j → position < at
part_ascends owner ops worker j k position at op other ej ek below =
    let h = stands_at owner 0 ops worker j at other ej in
    let front : slice_get (part_from owner 0 (take h.behind ops) worker) k ≡ Some (position, op) =
    ap (λ l. slice_get l k) (sym h.before) ∙ slice_get-take j (part_from owner 0 ops worker) k below ∙ ek in
    let g = stands_at owner 0 (take h.behind ops) worker k position op front in
    let earlier = slice_get_within_take h.behind ops g.behind op g.there in
    let here = g.place in
    let there = h.place in
    omega arith

-- each operation stands in its worker's part
pub part_has : (owner : ℕ → ℕ) (s : ℕ) (ops : List Op) (worker d : ℕ) (op : Op) → slice_get ops d ≡ Some op → owner (s + d) ≡ worker →
    (k : ℕ) × (slice_get (part_from owner s ops worker) k ≡ Some (s + d, op))
part_has owner s [] worker d op e own = let no : ⊥ = cc in absurd no
part_has owner s (o ∷ ops) worker zero op e own =
    let here : s + 0 ≡ s = omega arith in
    let mine : eqb (owner s) worker ≡ true = eq-eqb (owner s) worker (ap owner (sym here) ∙ own) in
    let same : o ≡ op = cc in (
      0,
      ap (λ l. slice_get l 0) (cond-true (eqb (owner s) worker) ((s, o) ∷ part_from owner (s + 1) ops worker) _ mine)
          ∙ ap (λ n. Some (n, o)) (sym here) ∙ ap (λ x. Some (s + 0, x)) same,
    )
part_has owner s (o ∷ ops) worker (suc d) op e own =
    let place : s + 1 + d ≡ s + suc d = omega arith in
    let rest = part_has owner (s + 1) ops worker d op e (ap owner place ∙ own) in
    let found : slice_get (part_from owner (s + 1) ops worker) rest.0 ≡ Some (s + suc d, op) = rest.1 ∙ ap (λ n. Some (n, op)) place in
    ⊎_elim
    (λ mine. (suc rest.0, ap (λ l. slice_get l (suc rest.0)) (cond-true (eqb (owner s) worker) ((s, o) ∷ part_from owner (s + 1) ops worker) _ mine) ∙ found))
    (λ other. (rest.0, ap (λ l. slice_get l rest.0) (cond-false (eqb (owner s) worker) ((s, o) ∷ part_from owner (s + 1) ops worker) _ other) ∙ found))
    (cases_Bool (eqb (owner s) worker))

-- no two items of a part are of one position
pub part_distinct : (parting : PartedOps) → IsLawful parting → (worker j k position : ℕ) (op other : Op) → slice_get (part parting worker) j ≡ Some (position, op) →
    slice_get (part parting worker) k ≡ Some (position, other) → j < k → ⊥
part_distinct parting lawful worker j k position op other ej ek below =
    let dealt = part_from (owner_in parting) 0 parting.ops worker in
    let test : ℕ × Op → Bool = λ item. key_of item.1 == key_of op in
    let one = in_part parting lawful worker j position op ej in
    let two = in_part parting lawful worker k position other ek in
    let same : other ≡ op = (let a = one.there in let b = two.there in cc) in
    let less = fewer_before test (part parting worker) j k (position, op) ej (eq-eqb (key_of op) (key_of op) refl) below in
    let second : on_key (key_of op) (take k (part parting worker)) ≡ on_key (key_of op) (take two.moved.place dealt) =
    subst (λ o. on_key (key_of o) (take k (part parting worker)) ≡ on_key (key_of o) (take two.moved.place dealt)) same two.moved.prior in
    let place : one.moved.place ≡ two.moved.place =
    ⊎_elim
    (λ e. e)
    (λ ne. ⊎_elim
    (λ lower. let order = part_ascends (owner_in parting) parting.ops worker two.moved.place one.moved.place position position op other two.moved.there one.moved.there lower in absurd (omega arith))
    (λ upper. let order = part_ascends (owner_in parting) parting.ops worker one.moved.place two.moved.place position position other op one.moved.there two.moved.there (omega arith) in absurd (omega arith))
    (cases_lt one.moved.place two.moved.place))
    (cases_eq one.moved.place two.moved.place) in
    let equal : length (on_key (key_of op) (take j (part parting worker))) ≡ length (on_key (key_of op) (take k (part parting worker))) =
    ap length (one.moved.prior ∙ ap (λ n. on_key (key_of op) (take n dealt)) place ∙ sym second) in
    let no : ⊥ = omega arith in no

-- each operation of the list stands in its worker's part
pub part_covers : (parting : PartedOps) → IsLawful parting → (position : ℕ) (op : Op) → slice_get parting.ops position ≡ Some op →
    (k : ℕ) × (slice_get (part parting (owner_in parting position)) k ≡ Some (position, op))
part_covers parting lawful position op e =
    let worker = owner_in parting position in
    let same : 0 + position ≡ position = omega arith in
    let found = part_has (owner_in parting) 0 parting.ops worker position op e (ap (owner_in parting) same) in
    let m = moved (part parting worker) (part_from (owner_in parting) 0 parting.ops worker) found.0 position op
    (sym ((part_keeps parting lawful worker).each (key_of op))) (found.1 ∙ ap (λ n. Some (n, op)) same) in
    (m.place, m.there)

-- lists that are sound and have no position in common are sound together
pub together_sound : (n : ℕ) (xs ys : List (ℕ × Reply)) → AreSound n xs (length xs) → AreSound n ys (length ys) →
    ((i j position : ℕ) → IsFor xs i position → IsFor ys j position → ⊥) → AreSound n (xs ++ ys) (length (xs ++ ys))
together_sound n xs ys first second apart k position below is_for =
    ⊎_elim
    (λ early.
    let sound = first k position early.0 (is_for.0, early.1) in (
      sound.0,
      λ i earlier again. ⊎_elim
          (λ here. sound.1 i earlier (again.0, here.1))
          (λ there. let place = there.1 in let at = early.0 in omega arith)
          (slice_get-append_cases xs ys i (position, again.0) again.1),
    ))
    (λ late.
    let sound = second late.0 position (slice_get_within ys late.0 (position, is_for.0) late.2) (is_for.0, late.2) in
    let place = late.1 in (
      sound.0,
      λ i earlier again. ⊎_elim
          (λ here. apart i late.0 position (again.0, here.1) (is_for.0, late.2))
          (λ there. let at = there.1 in sound.1 there.0 (omega arith) (again.0, there.2))
          (slice_get-append_cases xs ys i (position, again.0) again.1),
    ))
    (slice_get-append_cases xs ys k (position, is_for.0) is_for.1)

-- the piece of a worker, of the front of its part that it has done
abbrev pub piece_of : Contents → PartedOps → (ℕ → ℕ) → ℕ → List (ℕ × Reply)
piece_of start parting counts worker = piece_from start (done parting counts worker)

-- the pieces of the first workers
abbrev pub pieces_of : Contents → PartedOps → (ℕ → ℕ) → ℕ → List (ℕ × Reply)
pieces_of start parting counts workers = flat_map (λ worker. piece_of start parting counts worker) (range_with_len 0 workers)

-- an item of a piece is for a position of its worker, with the reply of one thread
pub record ItemTells (start : Contents) (parting : PartedOps) (counts : ℕ → ℕ) (worker k position : ℕ) (reply : Reply) : Type 0 where
  pub op : Op
  pub early : k < counts worker
  pub item : slice_get (part parting worker) k ≡ Some (position, op)
  pub owned : owner_in parting position ≡ worker
  pub there : slice_get parting.ops position ≡ Some op
  pub told : slice_get (replies start parting.ops) position ≡ Some reply

item_tells : (start : Contents) (parting : PartedOps) → IsLawful parting → (counts : ℕ → ℕ) (worker k position : ℕ) (reply : Reply) →
    slice_get (piece_of start parting counts worker) k ≡ Some (position, reply) → ItemTells start parting counts worker k position reply
item_tells start parting lawful counts worker k position reply e =
    let items = done parting counts worker in
    let t = tagged items (replies start (ops_in items)) k position reply e in
    let item = slice_get_from_take (counts worker) (part parting worker) k (position, t.0) t.1 in
    let p = in_part parting lawful worker k position t.0 item in
    record {
      op = t.0;
      early = slice_get_within_take (counts worker) (part parting worker) k (position, t.0) t.1;
      item = item;
      owned = p.owned;
      there = p.there;
      told = sym (part_reply start parting lawful worker (counts worker) k position t.0 t.1) ∙ t.2;
    }

-- within one piece no two items are for one position, and each is for a position of the list
piece_sound : (start : Contents) (parting : PartedOps) → IsLawful parting → (counts : ℕ → ℕ) (worker : ℕ) →
    AreSound (length parting.ops) (piece_of start parting counts worker) (length (piece_of start parting counts worker))
piece_sound start parting lawful counts worker k position below is_for =
    let t = item_tells start parting lawful counts worker k position is_for.0 is_for.1 in (
      slice_get_within parting.ops position t.op t.there,
      λ i earlier again.
          let s = item_tells start parting lawful counts worker i position again.0 again.1 in
          part_distinct parting lawful worker i k position s.op t.op s.item t.item earlier,
    )

-- one worker's piece behind those of the workers before it
pieces_suc : (start : Contents) (parting : PartedOps) (counts : ℕ → ℕ) (workers : ℕ) →
    pieces_of start parting counts (suc workers) ≡ pieces_of start parting counts workers ++ piece_of start parting counts workers
pieces_suc start parting counts workers =
    let same : suc workers ≡ workers + 1 = omega arith in
    ap (pieces_of start parting counts) same ∙ ap (flat_map (λ worker. piece_of start parting counts worker)) (counted workers)
    ∙ sym (flat_map_more (λ worker. piece_of start parting counts worker) [] (range_with_len 0 workers) workers)

-- an item of the first pieces is one of some piece
pub record AnyTells (start : Contents) (parting : PartedOps) (counts : ℕ → ℕ) (workers position : ℕ) (reply : Reply) : Type 0 where
  pub worker : ℕ
  pub below : worker < workers
  pub place : ℕ
  pub tells : ItemTells start parting counts worker place position reply

pub any_tells : (start : Contents) (parting : PartedOps) → IsLawful parting → (counts : ℕ → ℕ) (workers k position : ℕ) (reply : Reply) →
    slice_get (pieces_of start parting counts workers) k ≡ Some (position, reply) → AnyTells start parting counts workers position reply
any_tells start parting lawful counts zero k position reply e = let no : ⊥ = cc in absurd no
any_tells start parting lawful counts (suc workers) k position reply e =
    ⊎_elim
    (λ early.
    let t = any_tells start parting lawful counts workers k position reply early.1 in
    let below = t.below in
    record { worker = t.worker; below = omega arith; place = t.place; tells = t.tells })
    (λ late. record { worker = workers; below = omega arith; place = late.0; tells = item_tells start parting lawful counts workers late.0 position reply late.2 })
    (slice_get-append_cases (pieces_of start parting counts workers) (piece_of start parting counts workers) k (position, reply)
    (ap (λ l. slice_get l k) (sym (pieces_suc start parting counts workers)) ∙ e))

pub pieces_sound : (start : Contents) (parting : PartedOps) → IsLawful parting → (counts : ℕ → ℕ) (workers : ℕ) →
    AreSound (length parting.ops) (pieces_of start parting counts workers) (length (pieces_of start parting counts workers))
pieces_sound start parting lawful counts zero = λ k position below is_for. let e = is_for.1 in let no : ⊥ = cc in absurd no
pieces_sound start parting lawful counts (suc workers) =
    subst (λ items. AreSound (length parting.ops) items (length items)) (sym (pieces_suc start parting counts workers))
    (together_sound (length parting.ops) (pieces_of start parting counts workers) (piece_of start parting counts workers)
    (pieces_sound start parting lawful counts workers) (piece_sound start parting lawful counts workers)
    (λ i j position early late.
    let t = any_tells start parting lawful counts workers i position early.0 early.1 in
    let below = t.below in
    let first = t.tells.owned in
    let s = item_tells start parting lawful counts workers j position late.0 late.1 in
    let own = s.owned in
    omega arith))

-- the piece of a worker has an item for each operation that it has done, and so have the pieces of all
piece_has : (start : Contents) (parting : PartedOps) (counts : ℕ → ℕ) (worker k position : ℕ) (op : Op) → slice_get (part parting worker) k ≡ Some (position, op) → k < counts worker →
    IsFor (piece_of start parting counts worker) k position
piece_has start parting counts worker k position op e early =
    let items = done parting counts worker in
    let item : slice_get items k ≡ Some (position, op) = slice_get-take (counts worker) (part parting worker) k early ∙ e in
    let reply = reply_of op (final start (take k (ops_in items))) in (
      reply,
      untagged items (replies start (ops_in items)) k position op reply item
          (reply_at start (ops_in items) k op (op_at items k position op item)),
    )

pieces_have : (start : Contents) (parting : PartedOps) (counts : ℕ → ℕ) (workers worker k position : ℕ) → worker < workers → IsFor (piece_of start parting counts worker) k position →
    (j : ℕ) × IsFor (pieces_of start parting counts workers) j position
pieces_have start parting counts zero worker k position below is_for = absurd (omega arith)
pieces_have start parting counts (suc workers) worker k position below is_for =
    ⊎_elim
    (λ last. (
      length (pieces_of start parting counts workers) + k,
      (
        is_for.0,
        ap (λ l. slice_get l (length (pieces_of start parting counts workers) + k)) (pieces_suc start parting counts workers)
            ∙ slice_get-append_behind (pieces_of start parting counts workers) (piece_of start parting counts workers) k
            ∙ ap (λ w. slice_get (piece_of start parting counts w) k) (sym last) ∙ is_for.1,
      ),
    ))
    (λ earlier.
    let found = pieces_have start parting counts workers worker k position (omega arith) is_for in (
      found.0,
      (
        found.1.0,
        ap (λ l. slice_get l found.0) (pieces_suc start parting counts workers)
            ∙ slice_get-append (pieces_of start parting counts workers) (piece_of start parting counts workers) found.0
            (slice_get_within (pieces_of start parting counts workers) found.0 (position, found.1.0) found.1.1)
            ∙ found.1.1,
      ),
    ))
    (cases_eq worker workers)

-- so an operation that was done has an item
pub done_has : (start : Contents) (parting : PartedOps) → IsLawful parting → (counts : ℕ → ℕ) (worker k position : ℕ) (op : Op) →
    slice_get (part parting worker) k ≡ Some (position, op) → k < counts worker →
    (j : ℕ) × IsFor (pieces_of start parting counts parting.workers) j position
done_has start parting lawful counts worker k position op e early =
    let here = in_part parting lawful worker k position op e in
    let each = lawful.each in
    let within = slice_get_within parting.ops position op here.there in
    let own = here.owned in
    let known = lawful.known position (omega arith) in
    pieces_have start parting counts parting.workers worker k position (omega arith) (piece_has start parting counts worker k position op e early)
