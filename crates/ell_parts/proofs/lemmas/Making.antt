use Rattle.std.proofs.Common.{◌≡◌, ℕ, ◌+◌, ◌<◌, ◌≤◌, Bool, true, false, cond, All, List, [], ◌∷◌, ◌++◌, Some, Result, Ok, Err, IfOk, eqb, length, get_or, map, filter, take, arith, refl, ap, ap₂, sym, subst, zero-add, ◌∙◌, ⊎_elim}
use Rattle.std.specs.Prelude.{◌==◌, slice_get, unwrap_or}
use Rattle.std.specs.List.{enumerate_from, range_with_len}
use Rattle.std.proofs.lemmas.Bool.{eq-eqb, ne_eqb}
use Rattle.std.proofs.lemmas.List.{append-nil, get_or-map, length-map, length_push, take_all}
use Rattle.std.proofs.lemmas.List.Elements.{All-map, filter_more}
use Rattle.std.proofs.lemmas.List.FromFn.{get_or-enumerate_from, get_or-map-range_with_len, length-enumerate_from, length-map-range_with_len}
use Rattle.std.proofs.lemmas.Option.{get_or_from_slice_get, slice_get-get_or, slice_get_within}
use Rattle.ell_ops.specs.declared.no_memory.NoMemory.{NoMemory}
use Rattle.ell_ops.specs.declared.op.Op.{Op}
use Rattle.ell_ops.specs.declared.op.Op.TheVariants.{Find}
use Rattle.ell_ops.proofs.lemmas.Places.{slice_get_below, slice_get-push_cases}
use Rattle.ell_order.specs.Orders.{HasItsKeys, IsInRounds, IsRunOrder, is_reordered, on_key}
use Rattle.ell_order.specs.Places.{item_at, items_at}
use Rattle.ell_order.proofs.lemmas.Numbered.{numbered_at, passes_at}
use Rattle.ell_order.proofs.lemmas.Reordered.{lists_alike}
use Rattle.ell_order.proofs.lemmas.Sorting.{map_same, map_twice}
use Rattle.ell_order.specs.declared.order.Part.{Part}
use Rattle.ell_parts.specs.Made.{AreParts, IsPartOf, items_of, positions_in}
use Rattle.ell_parts.specs.PartedOps.{IsLawful, IsPartedToRun, IsWorkerCount, dealt, made, parted}

-- what follows from two facts of a result
pub if_ok_both : {X Y : Type 0} (r : Result X Y) (P Q R : X → Type 0) → ((x : X) → P x → Q x → R x) → IfOk r P → IfOk r Q → IfOk r R
if_ok_both (Ok x) P Q R from p q = from x p q
if_ok_both (Err e) P Q R from p q = tt

-- the operations of a worker so far
module _ (ops : List Op) (owners : List ℕ) (worker : ℕ) where
  abbrev pub dealt_so_far : ℕ → List (ℕ × Op)
  dealt_so_far i = filter (λ item. get_or owners item.0 0 == worker) (take i (enumerate_from 0 ops))

  dealt_more : (i : ℕ) (d : Op) → i < length ops →
      dealt_so_far (i + 1) ≡ dealt_so_far i ++ cond (eqb (get_or owners i 0) worker) ((i, get_or ops i d) ∷ []) []
  dealt_more i d below =
      filter_more (λ item. get_or owners item.0 0 == worker) (enumerate_from 0 ops) i (0, d) (let long = length-enumerate_from 0 ops in omega arith)
      ∙ ap (λ (item : ℕ × Op). dealt_so_far i ++ cond (eqb (get_or owners item.0 0) worker) (item ∷ []) [])
      (get_or-enumerate_from 0 ops i (0, d) below ∙ ap (λ n. (n, get_or ops i d)) (zero-add i))

  -- one operation more, which is the worker's or another's
  pub own_more : (i : ℕ) (d : Op) → i < length ops → get_or owners i 0 ≡ worker → dealt_so_far (i + 1) ≡ dealt_so_far i ++ (i, get_or ops i d) ∷ []
  own_more i d below own = dealt_more i d below ∙ ap (λ b. dealt_so_far i ++ cond b ((i, get_or ops i d) ∷ []) []) (eq-eqb (get_or owners i 0) worker own)

  pub other_more : (i : ℕ) (d : Op) → i < length ops → (get_or owners i 0 ≡ worker → ⊥) → dealt_so_far (i + 1) ≡ dealt_so_far i
  other_more i d below other =
      dealt_more i d below ∙ ap (λ b. dealt_so_far i ++ cond b ((i, get_or ops i d) ∷ []) []) (ne_eqb (get_or owners i 0) worker other) ∙ append-nil (dealt_so_far i)

  pub all_dealt : (i : ℕ) → length ops ≤ i → dealt_so_far i ≡ dealt ops owners worker
  all_dealt i past = ap (filter (λ item. get_or owners item.0 0 == worker)) (take_all i (enumerate_from 0 ops) (let long = length-enumerate_from 0 ops in omega arith))

  -- each stands in the list at its position
  stands : (k : ℕ) (item : ℕ × Op) → slice_get (dealt ops owners worker) k ≡ Some item → slice_get ops item.0 ≡ Some item.1
  stands k item e =
      let origin = passes_at (λ (item : ℕ × Op). get_or owners item.0 0 == worker) (enumerate_from 0 ops) k item e in
      let place = numbered_at 0 ops origin.place item.0 item.1 origin.there in
      let same : origin.place ≡ item.0 = (let at = place.0 in omega arith) in
      subst (λ n. slice_get ops n ≡ Some item.1) same place.1

  pub within : All (λ position. position < length ops) (positions_in (dealt ops owners worker))
  within = All-map (λ position. position < length ops) (λ (item : ℕ × Op). item.0) (dealt ops owners worker)
      (λ k d below.
      let item = get_or (dealt ops owners worker) k d in
      slice_get_within ops item.0 item.1 (stands k item (slice_get-get_or (dealt ops owners worker) k d below)))

  -- so they are what the list has at their positions
  at_positions : items_at ops (positions_in (dealt ops owners worker)) ≡ dealt ops owners worker
  at_positions =
      map_twice (λ (item : ℕ × Op). item.0) (item_at ops) (dealt ops owners worker)
      ∙ map_same (λ (item : ℕ × Op). item_at ops item.0) (dealt ops owners worker) (λ k item e. ap (λ o. (item.0, unwrap_or o (Find 0))) (stands k item e))

  -- a part of them, in rounds or in their order
  module _ {Z : Type 0} (positions : List ℕ) (own : positions ≡ positions_in (dealt ops owners worker)) (part : Part Z) (keys : HasItsKeys part) where
    there : items_at ops positions ≡ dealt ops owners worker
    there = ap (items_at ops) own ∙ at_positions

    pub part_in_rounds : IsInRounds (items_at ops positions) part.items.items → (reordered : Bool) → reordered ≡ true → IsPartOf reordered ops owners worker part
    part_in_rounds is reordered so =
        let rounds : IsInRounds (dealt ops owners worker) part.items.items = subst (λ before. IsInRounds before part.items.items) there is in
        record { order = record { keeps = rounds.keeps; stays = λ no. let never : false ≡ true = sym no ∙ so in absurd cc; rounds = λ _. rounds }; keys = keys }

    pub part_in_turn : part.items.items ≡ items_at ops positions → (reordered : Bool) → reordered ≡ false → IsPartOf reordered ops owners worker part
    part_in_turn is reordered so =
        let same : part.items.items ≡ dealt ops owners worker = is ∙ there in
        record {
          order = record {
            keeps = record { count = ap length same; each = λ key. ap (on_key key) same };
            stays = λ _. same;
            rounds = λ yes. let never : false ≡ true = sym so ∙ yes in absurd cc;
          };
          keys = keys;
        }

module _ {Z : Type 0} (reordered : Bool) (ops : List Op) (owners : List ℕ) where
  -- one part more
  pub one_more : (workers : ℕ) (parts : List (Part Z)) (part : Part Z) → AreParts reordered ops owners workers parts →
      IsPartOf reordered ops owners workers part → AreParts reordered ops owners (workers + 1) (parts ++ part ∷ [])
  one_more workers parts part are is = record {
    count = length_push parts part ∙ ap (λ n. n + 1) are.count;
    each = λ worker list found. ⊎_elim
        (λ h. are.each worker list h)
        (λ h. subst (IsPartOf reordered ops owners worker) h.1 (subst (λ w. IsPartOf reordered ops owners w part) (sym (h.0 ∙ are.count)) is))
        (slice_get-push_cases parts part worker list found);
  }

  -- parts that were all made
  pub all_are : (workers : ℕ) (results : List (Result (Part Z) NoMemory)) (parts : List (Part Z)) → map Ok parts ≡ results → length results ≡ workers →
      ((i : ℕ) (d : Result (Part Z) NoMemory) → i < workers → IfOk (get_or results i d) (IsPartOf reordered ops owners i)) → AreParts reordered ops owners workers parts
  all_are workers results parts same count each = record {
    count = sym (length-map parts Ok) ∙ ap length same ∙ count;
    each = λ worker part found.
        let within : worker < length parts = slice_get_within parts worker part found in
        let as_many : length parts ≡ workers = sym (length-map parts Ok) ∙ ap length same ∙ count in
        let there : get_or results worker (Ok part) ≡ Ok part =
        ap (λ l. get_or l worker (Ok part)) (sym same) ∙ get_or-map Ok parts worker part (Ok part) within ∙ ap Ok (get_or_from_slice_get parts worker part part found) in
        subst (λ r. IfOk r (IsPartOf reordered ops owners worker)) there (each worker (Ok part) (omega arith));
  }

  module _ (workers : ℕ) (parts : List (Part Z)) (are : AreParts reordered ops owners workers parts) where
    pub order_at : (worker : ℕ) → worker < workers → IsRunOrder reordered (dealt ops owners worker) (get_or (items_of parts) worker [])
    order_at worker below =
        let within : worker < length parts = let count = are.count in omega arith in
        let found = slice_get_below parts worker within in
        subst (IsRunOrder reordered (dealt ops owners worker))
        (sym (get_or-map (λ (part : Part Z). part.items.items) parts worker found.0 [] within
        ∙ ap (λ (part : Part Z). part.items.items) (get_or_from_slice_get parts worker found.0 found.0 found.1)))
        (are.each worker found.0 found.1).order

    pub as_many_made : length (items_of parts) ≡ workers
    as_many_made = length-map parts (λ (part : Part Z). part.items.items) ∙ are.count

    pub have_keys : All HasItsKeys parts
    have_keys i d below = (are.each i (get_or parts i d) (slice_get-get_or parts i d below)).keys

    -- they are lawful, if their owners are
    pub lawful_made : IsLawful (parted ops owners workers) → IsLawful (made ops owners (items_of parts))
    lawful_made lawful = record {
      count = subst IsWorkerCount (sym as_many_made) lawful.count;
      each = lawful.each;
      known = λ i below. let known = lawful.known i below in let same = as_many_made in omega arith;
      together = lawful.together;
      parts = refl;
      keeps = λ worker below. (order_at worker (let same = as_many_made in omega arith)).keeps;
    }

    pub made_to_run : reordered ≡ is_reordered ops → IsLawful (parted ops owners workers) → IsPartedToRun ops owners workers (made ops owners (items_of parts))
    made_to_run so lawful = record {
      all = refl;
      owned = refl;
      count = as_many_made;
      lawful = lawful_made lawful;
      order = λ worker below. subst (λ b. IsRunOrder b (dealt ops owners worker) (get_or (items_of parts) worker [])) so (order_at worker below);
    }

    -- parts that are not reordered are in the order of the list
    pub made_in_turn : reordered ≡ false → made ops owners (items_of parts) ≡ parted ops owners workers
    made_in_turn stays =
        let every = map (dealt ops owners) (range_with_len 0 workers) in
        let long : length every ≡ workers = length-map-range_with_len (dealt ops owners) 0 workers in
        let same : items_of parts ≡ every =
        lists_alike (items_of parts) every (as_many_made ∙ sym long)
        (λ i x e.
        let within : i < length (items_of parts) = slice_get_within (items_of parts) i x e in
        let below : i < workers = let many = as_many_made in omega arith in
        slice_get-get_or every i x (omega arith)
        ∙ ap Some (get_or-map-range_with_len (dealt ops owners) 0 workers i i x below (zero-add i) ∙ sym ((order_at i below).stays stays)
        ∙ get_or_from_slice_get (items_of parts) i x [] e)) in
        ap₂ (λ n l. record { ops = ops; owners = owners; workers = n; parts = l }) as_many_made same
