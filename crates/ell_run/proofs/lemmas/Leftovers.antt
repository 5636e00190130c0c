use Rattle.std.proofs.Common.{◌≡◌, ◌≢◌, ℕ, zero, suc, ◌+◌, ◌-◌, ◌<◌, ◌≤◌, Bool, true, false, not, cond, eqb, All, List, [], ◌∷◌, ◌++◌, Some, length, filter, take, drop, get_or, map, arith, refl, ap, ap₂, sym, subst, ◌∙◌, ⊎_elim}
use Rattle.std.specs.Prelude.{slice_get, slice_index, ◌==◌}
use Rattle.std.specs.List.{enumerate_from, flat_map, range_with_len}
use Rattle.std.proofs.lemmas.Bool.{cases_Bool, cases_eq, cases_lt, eq-eqb, eqb-true, cond-true, cond-false}
use Rattle.std.proofs.lemmas.List.{append-nil, get_or-map, get_or_past, length-map, take-append-drop}
use Rattle.std.proofs.lemmas.Grind.{flat_map-append}
use Rattle.std.proofs.lemmas.List.Elements.{filter-append, filter_agree}
use Rattle.std.proofs.lemmas.List.Folds.{Any-from_list_any}
use Rattle.std.proofs.lemmas.List.FromFn.{get_or-range_with_len, length-enumerate_from, length-range_with_len}
use Rattle.std.proofs.lemmas.List.Filters.{length-filter_both}
use Rattle.std.proofs.lemmas.Map.Keys.{any_passes_from_place}
use Rattle.std.proofs.lemmas.Option.{slice_get-get_or, slice_get_within}
use Rattle.ell_ops.specs.declared.op.Op.{Op}
use Rattle.ell_ops.specs.Contents.{ListsPairs, contents_of}
use Rattle.ell_ops.specs.Contents.{Contents}
use Rattle.ell_ops.specs.Meaning.{final, key_of, replies, reply_of}
use Rattle.ell_ops.proofs.lemmas.Places.{slice_get_below, slice_get-append, slice_get-append_behind, slice_get-append_cases, slice_get-drop, slice_get_from_take, slice_get_within_take}
use Rattle.ell_ops.proofs.lemmas.Presence.{reply_at}
use Rattle.ell_parts.specs.Gathering.{AreSound, IsFor}
use Rattle.ell_parts.specs.PartedOps.{PartedOps, IsLawful, part}
use Rattle.ell_run.specs.ByParts.{AreDone, IsAsOneThread, IsRest, WorkerHasKey, done, ops_in}
use Rattle.ell_run.specs.Late.{is_answered, late_ops}
use Rattle.ell_run.specs.Pieces.{ArePieces, IsPiece, all_workers, count_of, front, ops_done, piece_from}
use Rattle.ell_run.proofs.lemmas.ByParts.{in_part, no_item, owner_in, part_from, part_keeps, parts_serve, stands_at}
use Rattle.ell_order.proofs.lemmas.Numbered.{numbered_at}
use Rattle.ell_order.proofs.lemmas.Reordered.{op_at}
use Rattle.ell_order.proofs.lemmas.Sorting.{filter_within}
use Rattle.ell_run.proofs.lemmas.Gathering.{any_tells, done_has, part_ascends, part_covers, part_distinct, part_has, pieces_of, pieces_sound, tagged, together_sound, untagged}
use Rattle.ell_order.proofs.lemmas.OnKey.{final_alike, on_key, on_key-append}
use Rattle.ell_run.proofs.lemmas.Replies.{AreAnswers}
use Rattle.ell_run.proofs.lemmas.Rows.{IsOffKey, done_off_key, front_off_key, length-pieces}
use Rattle.ell_ops.specs.declared.reply.Reply.{Reply}

-- functions that agree at each number give one list
flat_map-agree : {X : Type 0} (f g : ℕ → List X) → ((k : ℕ) → f k ≡ g k) → (ks : List ℕ) → flat_map f ks ≡ flat_map g ks
flat_map-agree f g same [] = refl
flat_map-agree f g same (k ∷ ks) = ap₂ ◌++◌ (same k) (flat_map-agree f g same ks)

flat_map-further : {X : Type 0} (f : ℕ → List X) (a n : ℕ) → flat_map f (range_with_len (a + 1) n) ≡ flat_map (λ k. f (k + 1)) (range_with_len a n)
flat_map-further f a zero = refl
flat_map-further f a (suc n) = ap (λ l. f (a + 1) ++ l) (flat_map-further f (a + 1) n)

-- lists one after the other, by their places
flat_by_places : {X : Type 0} (xs : List (List X)) → flat_map (λ l. l) xs ≡ flat_map (λ k. get_or xs k []) (range_with_len 0 (length xs))
flat_by_places [] = refl
flat_by_places (x ∷ xs) =
    ap (λ l. x ++ l)
    (flat_by_places xs
    ∙ flat_map-agree (λ k. get_or xs k []) (λ k. get_or (x ∷ xs) (k + 1) [])
    (λ k. let same : k + 1 ≡ suc k = omega arith in sym (ap (λ n. get_or (x ∷ xs) n []) same)) (range_with_len 0 (length xs))
    ∙ sym (flat_map-further (λ k. get_or (x ∷ xs) k []) 0 (length xs)))

-- the piece at a place is that of its worker
piece_at : (s : Contents) (parting : PartedOps) (a n : ℕ) (pieces : List (List (ℕ × Reply))) → ArePieces s parting (range_with_len a n) pieces →
    (j : ℕ) → j < n → IsPiece s (part parting (a + j)) (get_or pieces j [])
piece_at s parting a zero pieces h j below = absurd (omega arith)
piece_at s parting a (suc n) [] h j below = absurd h
piece_at s parting a (suc n) (p ∷ pieces) h zero below = let same : a ≡ a + 0 = omega arith in subst (λ w. IsPiece s (part parting w) p) same h.0
piece_at s parting a (suc n) (p ∷ pieces) h (suc j) below =
    let same : a + 1 + j ≡ a + suc j = omega arith in
    subst (λ w. IsPiece s (part parting w) (get_or pieces j [])) same (piece_at s parting (a + 1) n pieces h.1 j (omega arith))

-- elements that all pass stay, and of those that all fail none does
filter_pass : {X : Type 0} (p : X → Bool) (xs : List X) → ((k : ℕ) (x : X) → slice_get xs k ≡ Some x → p x ≡ true) → filter p xs ≡ xs
filter_pass p [] pass = refl
filter_pass p (x ∷ xs) pass =
    cond-true (p x) (x ∷ filter p xs) (filter p xs) (pass 0 x refl) ∙ ap (λ l. x ∷ l) (filter_pass p xs (λ k y e. pass (suc k) y e))

pub filter_fail : {X : Type 0} (p : X → Bool) (xs : List X) → ((k : ℕ) (x : X) → slice_get xs k ≡ Some x → p x ≡ false) → filter p xs ≡ []
filter_fail p [] fail = refl
filter_fail p (x ∷ xs) fail =
    cond-false (p x) (x ∷ filter p xs) (filter p xs) (fail 0 x refl) ∙ filter_fail p xs (λ k y e. fail (suc k) y e)

-- two filters in either order
filter_swap : {X : Type 0} (p q : X → Bool) (xs : List X) → filter q (filter p xs) ≡ filter p (filter q xs)
filter_swap p q [] = refl
filter_swap p q (x ∷ xs) =
    ⊎_elim
    (λ yes. ap (filter q) (cond-true (p x) (x ∷ filter p xs) (filter p xs) yes)
    ∙ ⊎_elim
    (λ also. cond-true (q x) (x ∷ filter q (filter p xs)) (filter q (filter p xs)) also ∙ ap (λ l. x ∷ l) (filter_swap p q xs)
    ∙ sym (cond-true (p x) (x ∷ filter p (filter q xs)) (filter p (filter q xs)) yes)
    ∙ ap (filter p) (sym (cond-true (q x) (x ∷ filter q xs) (filter q xs) also)))
    (λ but. cond-false (q x) (x ∷ filter q (filter p xs)) (filter q (filter p xs)) but ∙ filter_swap p q xs
    ∙ ap (filter p) (sym (cond-false (q x) (x ∷ filter q xs) (filter q xs) but)))
    (cases_Bool (q x)))
    (λ no_pass. ap (filter q) (cond-false (p x) (x ∷ filter p xs) (filter p xs) no_pass) ∙ filter_swap p q xs
    ∙ ⊎_elim
    (λ also. sym (cond-false (p x) (x ∷ filter p (filter q xs)) (filter p (filter q xs)) no_pass)
    ∙ ap (filter p) (sym (cond-true (q x) (x ∷ filter q xs) (filter q xs) also)))
    (λ but. ap (filter p) (sym (cond-false (q x) (x ∷ filter q xs) (filter q xs) but)))
    (cases_Bool (q x)))
    (cases_Bool (p x))

not_is : (b : Bool) → not b ≡ eqb (cond b 1 0) 0
not_is true = refl
not_is false = refl

not_one : (b : Bool) → ◌≡◌ {A = ℕ} (cond b 1 0) 0 → b ≡ false
not_one true e = absurd (omega arith)
not_one false e = refl

not_true : (b : Bool) → b ≡ true → not b ≡ false
not_true b e = ap not e

not_false : (b : Bool) → b ≡ false → not b ≡ true
not_false b e = ap not e

-- which of two workers the positions go to that are answered: late operations are the part of the other
abbrev owner_by : List (ℕ × Reply) → ℕ → ℕ
owner_by items position = cond (is_answered items position) 1 0

late_as_part : (ops : List Op) (items : List (ℕ × Reply)) → late_ops ops items ≡ part_from (owner_by items) 0 ops 0
late_as_part ops items =
    filter_agree (λ item. not (is_answered items item.0)) (λ item. eqb (owner_by items item.0) 0) (λ item. not_is (is_answered items item.0)) (enumerate_from 0 ops)

-- a late operation stands at its position, which no item is for
late_item : (ops : List Op) (items : List (ℕ × Reply)) (k position : ℕ) (op : Op) → slice_get (late_ops ops items) k ≡ Some (position, op) →
    (slice_get ops position ≡ Some op) × (is_answered items position ≡ false)
late_item ops items k position op e =
    let h = stands_at (owner_by items) 0 ops 0 k position op (ap (λ l. slice_get l k) (sym (late_as_part ops items)) ∙ e) in
    let same : h.behind ≡ position = (let place = h.place in omega arith) in
    (subst (λ n. slice_get ops n ≡ Some op) same h.there, not_one (is_answered items position) h.owned)

-- late operations are no more than all
pub few_late : (ops : List Op) (items : List (ℕ × Reply)) → length (late_ops ops items) ≤ length ops
few_late ops items =
    omega (
      arith,
      length-filter_both (λ (item : ℕ × Op). not (is_answered items item.0)) (λ item. not (not (is_answered items item.0))) (λ item. refl) (enumerate_from 0 ops),
      length-enumerate_from 0 ops,
    )

-- an item answers its position
answers_it : (items : List (ℕ × Reply)) (k position : ℕ) → IsFor items k position → is_answered items position ≡ true
answers_it items k position is_for =
    any_passes_from_place (λ (item : ℕ × Reply). eqb item.0 position) items k (position, is_for.0) is_for.1 (eq-eqb position position refl)

answered_by : (items : List (ℕ × Reply)) (position : ℕ) → is_answered items position ≡ true → (k : ℕ) × IsFor items k position
answered_by items position some =
    let at = Any-from_list_any (λ (item : ℕ × Reply). eqb item.0 position) items some in
    let x = at.1 in (
      at.0,
      (x.1, slice_get-get_or items at.0 x at.2 ∙ ap Some at.3 ∙ ap (λ n. Some (n, x.1)) (eqb-true x.0 position at.4)),
    )

module _ (start : Contents) (parting : PartedOps) (pieces : List (List (ℕ × Reply))) (told : ArePieces start parting (all_workers parting) pieces) where
  pub count_is : length pieces ≡ parting.workers
  count_is = length-pieces start parting (all_workers parting) pieces told ∙ length-range_with_len 0 parting.workers

  piece_is : (worker : ℕ) → get_or pieces worker [] ≡ piece_from start (done parting (count_of pieces) worker)
  piece_is worker =
      ⊎_elim
      (λ below.
      let same : 0 + worker ≡ worker = omega arith in
      let p : IsPiece start (part parting worker) (get_or pieces worker []) =
      subst (λ w. IsPiece start (part parting w) (get_or pieces worker [])) same (piece_at start parting 0 parting.workers pieces told worker below) in
      p.done)
      (λ past.
      let none : get_or pieces worker [] ≡ [] = get_or_past pieces worker [] (let count = count_is in omega arith) in
      none ∙ ap (λ (p : List (ℕ × Reply)). piece_from start (take (length p) (part parting worker))) (sym none))
      (cases_lt worker parting.workers)

  -- the pieces are those of the fronts that they count
  pub flat_is : flat_map (λ l. l) pieces ≡ pieces_of start parting (count_of pieces) parting.workers
  flat_is =
      flat_by_places pieces ∙ ap (λ n. flat_map (λ k. get_or pieces k []) (range_with_len 0 n)) count_is
      ∙ flat_map-agree (λ k. get_or pieces k []) (λ k. piece_from start (done parting (count_of pieces) k)) piece_is (all_workers parting)

  -- each item is for a position of the list
  pub within_list : IsLawful parting → (j position : ℕ) → j < length pieces → (k : ℕ) (reply : Reply) → slice_get (get_or pieces j []) k ≡ Some (position, reply) → position < length parting.ops
  within_list lawful j position below k reply e =
      let t = tagged (done parting (count_of pieces) j) (replies start (ops_in (done parting (count_of pieces) j))) k position reply (ap (λ l. slice_get l k) (sym (piece_is j)) ∙ e) in
      let p = in_part parting lawful j k position t.0 (slice_get_from_take (count_of pieces j) (part parting j) k (position, t.0) t.1) in
      slice_get_within parting.ops position t.0 p.there

module _ (start : Contents) (parting : PartedOps) (lawful : IsLawful parting) (pieces : List (List (ℕ × Reply))) (told : ArePieces start parting (all_workers parting) pieces) where
  abbrev counts : ℕ → ℕ
  counts = count_of pieces

  abbrev early : List (ℕ × Reply)
  early = pieces_of start parting counts parting.workers

  -- an operation that was done is answered, and one that is left is not
  done_answered : (worker k position : ℕ) (op : Op) → slice_get (take (counts worker) (part parting worker)) k ≡ Some (position, op) → is_answered early position ≡ true
  done_answered worker k position op e =
      let has = done_has start parting lawful counts worker k position op
      (slice_get_from_take (counts worker) (part parting worker) k (position, op) e)
      (slice_get_within_take (counts worker) (part parting worker) k (position, op) e) in
      answers_it early has.0 position has.1

  left_unanswered : (worker k position : ℕ) (op : Op) → slice_get (drop (counts worker) (part parting worker)) k ≡ Some (position, op) → is_answered early position ≡ false
  left_unanswered worker k position op e =
      ⊎_elim
      (λ some.
      let by = answered_by early position some in
      let t = any_tells start parting lawful counts parting.workers by.0 position by.1.0 by.1.1 in
      let here : slice_get (part parting worker) (counts worker + k) ≡ Some (position, op) = sym (slice_get-drop (counts worker) (part parting worker) k) ∙ e in
      let own = (in_part parting lawful worker (counts worker + k) position op here).owned in
      let same : t.worker ≡ worker = sym t.tells.owned ∙ own in
      let there : slice_get (part parting worker) t.place ≡ Some (position, t.tells.op) = ap (λ w. slice_get (part parting w) t.place) (sym same) ∙ t.tells.item in
      let before : t.place < counts worker = subst (λ w. t.place < counts w) same t.tells.early in
      absurd (part_distinct parting lawful worker t.place (counts worker + k) position t.tells.op op there here (omega arith)))
      (λ none. none)
      (cases_Bool (is_answered early position))

  -- where all parts are done, nothing is late
  pub none_late : ((worker : ℕ) → worker < parting.workers → length (part parting worker) ≤ counts worker) → late_ops parting.ops early ≡ []
  none_late all = no_item (late_ops parting.ops early) (λ item e.
      let here = late_item parting.ops early 0 item.0 item.1 e in
      let worker = owner_in parting item.0 in
      let within = slice_get_within parting.ops item.0 item.1 here.0 in
      let each = lawful.each in
      let found = part_covers parting lawful item.0 item.1 here.0 in
      let there : slice_get (part parting worker) found.0 ≡ Some (item.0, item.1) = found.1 in
      let place = slice_get_within (part parting worker) found.0 (item.0, item.1) there in
      let long = all worker (lawful.known item.0 (omega arith)) in
      let has = done_has start parting lawful counts worker found.0 item.0 item.1 there (omega arith) in
      let some = answers_it early has.0 item.0 has.1 in
      let none = here.1 in
      cc)

  -- so what is late is the rest
  pub is_rest : IsRest parting counts (late_ops parting.ops early)
  is_rest worker key owns =
      let unanswered : ℕ × Op → Bool = λ item. not (is_answered early item.0) in
      let on : ℕ × Op → Bool = λ item. key_of item.1 == key in
      let own : ℕ × Op → Bool = λ item. slice_index parting.owners item.0 == worker in
      let all = enumerate_from 0 parting.ops in
      let of_part : filter on all ≡ filter on (part parting worker) =
      sym ((part_keeps parting lawful worker).each key
      ∙ filter_within on own all
      (λ k d below t.
      let item = get_or all k d in
      let at = numbered_at 0 parting.ops k item.0 item.1 (slice_get-get_or all k d below) in
      let place = at.0 in
      let same : k ≡ item.0 = omega arith in
      eq-eqb (slice_index parting.owners item.0) worker
      (owns item.0 item.1 (subst (λ n. slice_get parting.ops n ≡ Some item.1) same at.1) (eqb-true (key_of item.1) key t)))) in
      filter_swap unanswered on all
      ∙ ap (filter unanswered) of_part
      ∙ sym (filter_swap unanswered on (part parting worker))
      ∙ ap (filter on) (ap (filter unanswered) (sym (take-append-drop (counts worker) (part parting worker)))
      ∙ filter-append unanswered (take (counts worker) (part parting worker)) (drop (counts worker) (part parting worker))
      ∙ ap₂ ◌++◌
      (filter_fail unanswered (take (counts worker) (part parting worker))
      (λ k item e. not_true (is_answered early item.0) (done_answered worker k item.0 item.1 e)))
      (filter_pass unanswered (drop (counts worker) (part parting worker))
      (λ k item e. not_false (is_answered early item.0) (left_unanswered worker k item.0 item.1 e))))

  -- the other workers have nothing on a key that one owns
  others_off : (worker key other : ℕ) → WorkerHasKey parting worker key → other ≢ worker → IsOffKey parting key other
  others_off worker key other owns apart k d below on =
      let item = get_or (part parting other) k d in
      let here = in_part parting lawful other k item.0 item.1 (slice_get-get_or (part parting other) k d below) in
      apart (sym here.owned ∙ owns item.0 item.1 here.there on)

  others_off_from : (worker key a n : ℕ) → WorkerHasKey parting worker key → worker < a → All (IsOffKey parting key) (range_with_len a n)
  others_off_from worker key a n owns before j d below =
      let within : j < n = omega (arith, length-range_with_len a n) in
      let here = get_or-range_with_len a n j d within in
      others_off worker key (get_or (range_with_len a n) j d) owns (λ e. let no : ⊥ = omega arith in no)

  one_worker : (worker key a n : ℕ) (ps : List (List (ℕ × Reply))) → ArePieces start parting (range_with_len a n) ps → WorkerHasKey parting worker key → a ≤ worker → worker < a + n →
      on_key key (ops_done parting (range_with_len a n) ps) ≡ on_key key (ops_in (take (length (get_or ps (worker - a) [])) (part parting worker)))
  one_worker worker key a zero ps h owns from to = absurd (omega arith)
  one_worker worker key a (suc n) [] h owns from to = absurd h
  one_worker worker key a (suc n) (p ∷ ps) h owns from to =
      on_key-append key (ops_in (front (part parting a) p)) (ops_done parting (range_with_len (a + 1) n) ps)
      ∙ ⊎_elim
      (λ here.
      let first : worker - a ≡ 0 = omega arith in
      ap (λ l. on_key key (ops_in (front (part parting a) p)) ++ l)
      (done_off_key parting key (range_with_len (a + 1) n) ps (others_off_from worker key (a + 1) n owns (omega arith)))
      ∙ append-nil (on_key key (ops_in (front (part parting a) p)))
      ∙ ap (λ w. on_key key (ops_in (take (length p) (part parting w)))) (sym here)
      ∙ ap (λ j. on_key key (ops_in (take (length (get_or (p ∷ ps) j [])) (part parting worker)))) (sym first))
      (λ other.
      let later : worker - a ≡ suc (worker - (a + 1)) = omega arith in
      ap (λ l. l ++ on_key key (ops_done parting (range_with_len (a + 1) n) ps))
      (front_off_key (part parting a) key (length p) (others_off worker key a owns (λ e. other (sym e))))
      ∙ one_worker worker key (a + 1) n ps h.1 owns (omega arith) (omega arith)
      ∙ ap (λ j. on_key key (ops_in (take (length (get_or (p ∷ ps) j [])) (part parting worker)))) (sym later))
      (cases_eq worker a)

  -- each key is as its worker left it
  pub are_done : (after : Contents) → after ≡ final start (ops_done parting (all_workers parting) pieces) → AreDone start parting counts after
  are_done after same worker key owns =
      ap (λ s. s key) same
      ∙ final_alike (ops_done parting (all_workers parting) pieces) (ops_in (done parting counts worker)) start start key refl
      (⊎_elim
      (λ below. one_worker worker key 0 parting.workers pieces told owns (omega arith) (omega arith)
      ∙ (let here : worker - 0 ≡ worker = omega arith in ap (λ j. on_key key (ops_in (take (length (get_or pieces j [])) (part parting worker)))) here))
      (λ past.
      let none : get_or pieces worker [] ≡ [] = get_or_past pieces worker [] (let count = count_is start parting pieces told in omega arith) in
      done_off_key parting key (all_workers parting) pieces
      (λ j d below.
      let within : j < parting.workers = omega (arith, length-range_with_len 0 parting.workers) in
      let here = get_or-range_with_len 0 parting.workers j d within in
      others_off worker key (get_or (all_workers parting) j d) owns (λ e. let no : ⊥ = omega arith in no))
      ∙ ap (λ (p : List (ℕ × Reply)). on_key key (ops_in (take (length p) (part parting worker)))) (sym none))
      (cases_lt worker parting.workers))

  module _ (pairs : List (ℕ × ℕ)) (listed : ListsPairs (final start (ops_done parting (all_workers parting) pieces)) pairs) where
    abbrev rest : List (ℕ × Op)
    rest = late_ops parting.ops early

    abbrev last : List (ℕ × Reply)
    last = piece_from (contents_of pairs) rest

    -- replies and pairs come out as those of one thread
    pub one_thread : IsAsOneThread start parting counts (contents_of pairs) rest
    one_thread = parts_serve start parting counts (contents_of pairs) rest lawful (are_done (contents_of pairs) listed.each) is_rest

    late_sound : AreSound (length parting.ops) last (length last)
    late_sound k position below is_for =
        let t = tagged rest (replies (contents_of pairs) (ops_in rest)) k position is_for.0 is_for.1 in (
          slice_get_within parting.ops position t.0 (late_item parting.ops early k position t.0 t.1).0,
          λ i earlier again.
              let s = tagged rest (replies (contents_of pairs) (ops_in rest)) i position again.0 again.1 in
              let order = part_ascends (owner_by early) parting.ops 0 k i position position s.0 t.0
              (ap (λ l. slice_get l k) (sym (late_as_part parting.ops early)) ∙ t.1)
              (ap (λ l. slice_get l i) (sym (late_as_part parting.ops early)) ∙ s.1) earlier in
              omega arith,
        )

    late_cover : (position : ℕ) → position < length parting.ops → is_answered early position ≡ false → (j : ℕ) × IsFor last j position
    late_cover position below none =
        let op = slice_get_below parting.ops position below in
        let same : 0 + position ≡ position = omega arith in
        let own : owner_by early (0 + position) ≡ 0 =
        ap (owner_by early) same ∙ cond-false (is_answered early position) 1 0 none in
        let found = part_has (owner_by early) 0 parting.ops 0 position op.0 op.1 own in
        let item : slice_get rest found.0 ≡ Some (position, op.0) =
        ap (λ l. slice_get l found.0) (late_as_part parting.ops early) ∙ found.1 ∙ ap (λ n. Some (n, op.0)) same in
        let reply = reply_of op.0 (final (contents_of pairs) (take found.0 (ops_in rest))) in (
          found.0,
          (
            reply,
            untagged rest (replies (contents_of pairs) (ops_in rest)) found.0 position op.0 reply item
                (reply_at (contents_of pairs) (ops_in rest) found.0 op.0 (op_at rest found.0 position op.0 item)),
          ),
        )

    -- all items together answer each position once, as one thread does
    pub are_answers : AreAnswers start parting.ops (early ++ last)
    are_answers = record {
      sound = together_sound (length parting.ops) early last (pieces_sound start parting lawful counts parting.workers) late_sound
          (λ i j position first second.
          let t = tagged rest (replies (contents_of pairs) (ops_in rest)) j position second.0 second.1 in
          let none = (late_item parting.ops early j position t.0 t.1).1 in
          let some = answers_it early i position first in
          cc);
      cover = λ position below. ⊎_elim
          (λ some. let by = answered_by early position some in
          (by.0, (by.1.0, slice_get-append early last by.0 (slice_get_within early by.0 (position, by.1.0) by.1.1) ∙ by.1.1)))
          (λ none. let by = late_cover position below none in
          (length early + by.0, (by.1.0, slice_get-append_behind early last by.0 ∙ by.1.1)))
          (cases_Bool (is_answered early position));
      told = λ k position reply e. ⊎_elim
          (λ first. (any_tells start parting lawful counts parting.workers k position reply first.1).tells.told)
          (λ second.
          let t = tagged rest (replies (contents_of pairs) (ops_in rest)) second.0 position reply second.2 in
          sym (one_thread.late second.0 position t.0 t.1) ∙ t.2)
          (slice_get-append_cases early last k (position, reply) e);
    }

-- what is late of one list of pieces is late of another name for it
pub late_here : {V : Type 0} (seen : V → List (ℕ × Reply)) (parting : PartedOps) (ops : List Op) (pieces shown : List V) (late : List (ℕ × Op)) →
    parting.ops ≡ ops → shown ≡ pieces → late ≡ late_ops ops (flat_map seen shown) → late ≡ late_ops parting.ops (flat_map seen pieces)
late_here seen parting ops pieces shown late parted same is =
    is ∙ ap (λ p. late_ops ops (flat_map seen p)) same ∙ ap (λ o. late_ops o (flat_map seen pieces)) (sym parted)

-- the same of pieces that are seen as lists
pub flat_map-seen : {X Y : Type 0} (seen : X → List Y) (xs : List X) → flat_map seen xs ≡ flat_map (λ l. l) (map seen xs)
flat_map-seen seen [] = refl
flat_map-seen seen (x ∷ xs) = ap (λ l. seen x ++ l) (flat_map-seen seen xs)

module _ {V : Type 0} (seen : V → List (ℕ × Reply)) (start : Contents) (parting : PartedOps) (pieces : List V) (told : ArePieces start parting (all_workers parting) (map seen pieces)) where
  pub one_each : length pieces ≡ parting.workers
  one_each = sym (length-map pieces seen) ∙ count_is start parting (map seen pieces) told

  -- in one list they are those of the fronts that they count
  pub all_pieces : flat_map seen pieces ≡ pieces_of start parting (count_of (map seen pieces)) parting.workers
  all_pieces = flat_map-seen seen pieces ∙ flat_is start parting (map seen pieces) told

  pub all_within : IsLawful parting → All (λ piece. All (λ item. item.0 < length parting.ops) (seen piece)) pieces
  all_within lawful j d below k e within =
      let item = get_or (seen (get_or pieces j d)) k e in
      let piece : get_or (map seen pieces) j [] ≡ seen (get_or pieces j d) = get_or-map seen pieces j d [] below in
      within_list start parting (map seen pieces) told lawful j item.0 (omega (arith, length-map pieces seen)) k item.1
      (ap (λ l. slice_get l k) piece ∙ slice_get-get_or (seen (get_or pieces j d)) k e within)

  pub nothing_late : IsLawful parting →
      ((worker : ℕ) → worker < parting.workers → length (part parting worker) ≤ count_of (map seen pieces) worker) → [] ≡ late_ops parting.ops (flat_map seen pieces)
  nothing_late lawful all = sym (ap (late_ops parting.ops) all_pieces ∙ none_late start parting lawful (map seen pieces) told all)

  module _ (lawful : IsLawful parting) (pairs : List (ℕ × ℕ)) (listed : ListsPairs (final start (ops_done parting (all_workers parting) (map seen pieces))) pairs)
      (late : List (ℕ × Op)) (late_is : late ≡ late_ops parting.ops (flat_map seen pieces)) where
    rest_is : late ≡ late_ops parting.ops (pieces_of start parting (count_of (map seen pieces)) parting.workers)
    rest_is = late_is ∙ ap (late_ops parting.ops) all_pieces

    -- the pieces and the replies to what was late answer each position once, as one thread does
    pub all_answer : (piece : V) → seen piece ≡ piece_from (contents_of pairs) late → AreAnswers start parting.ops (flat_map seen (pieces ++ piece ∷ []))
    all_answer piece piece_is =
        subst (AreAnswers start parting.ops)
        (sym (flat_map-append seen pieces (piece ∷ [])
        ∙ ap₂ ◌++◌ all_pieces (append-nil (seen piece) ∙ piece_is ∙ ap (piece_from (contents_of pairs)) rest_is)))
        (are_answers start parting lawful (map seen pieces) told pairs listed)

    -- and what was late leaves the set of one thread
    pub last_map : final (contents_of pairs) (ops_in late) ≡ final start parting.ops
    last_map = ap (λ l. final (contents_of pairs) (ops_in l)) rest_is ∙ (one_thread start parting lawful (map seen pieces) told pairs listed).final
