use Rattle.std.proofs.Common.{◌≡◌, ◌≢◌, ◌↔◌, ℕ, zero, suc, ◌+◌, ◌<◌, Bool, true, false, All, Option, None, Some, List, [], ◌∷◌, ◌++◌, ◌⊎◌, inl, inr, ⊎_elim, eqb, length, get_or, map, arith, refl, ap, sym, subst, ◌∙◌}
use Rattle.std.specs.Prelude.{slice_get}
use Rattle.std.specs.List.{Contains, list_any}
use Rattle.std.specs.List.Sorted.{IsStrictlyIncreasing}
use Rattle.std.proofs.lemmas.Bool.{cases_Bool, eq-eqb, eqb-true, eqb-false, cond-true, cond-false}
use Rattle.std.proofs.lemmas.List.{append-nil, get_or-append-add, get_or-map, get_or_default, length-append, length-map}
use Rattle.std.proofs.lemmas.List.Elements.{All-contains, Contains-append_left}
use Rattle.std.proofs.lemmas.List.Folds.{Any-from_list_any, list_any_at}
use Rattle.std.proofs.lemmas.List.Kept.{AllPairs-from_increasing}
use Rattle.std.proofs.lemmas.List.Sums.{sum_by-append}
use Rattle.std.proofs.lemmas.Option.{slice_get-get_or}
use Rattle.ell_ops.specs.declared.op.Op.{Op}
use Rattle.ell_ops.specs.declared.op.Op.TheVariants.{Find}
use Rattle.ell_ops.specs.KeySet.{Lists}
use Rattle.ell_ops.specs.Meaning.{key_of, final}
use Rattle.ell_core.specs.statements.Premises.{entry_or}
use Rattle.ell_parts.specs.PartedOps.{PartedOps, IsLawful, part, keys_of_part}
use Rattle.ell_runs.specs.Plans.{TablePlan}
use Rattle.ell_tree.specs.Ledgers.{PassModel, TreeModel, Owns, ledger, present_in, Entry}
use Rattle.ell_tree.specs.PassParts.{IsUnion}
use Rattle.ell_run.specs.Pieces.{all_not_done, ops_done}
use Rattle.ell_run.specs.Work.{AreHalves, AreNotDone, AreReady, IsWorked, OwnsKeysOf, keys_for}
use Rattle.ell_run.proofs.lemmas.ByParts.{in_part}
use Rattle.ell_run.proofs.lemmas.NotDone.{all_not_done-append, both_not_done}
use Rattle.ell_order.proofs.lemmas.OnKey.{on_key, on_key-append, final_alike}
use Rattle.ell_run.proofs.lemmas.Rows.{IsOffKey, all_at, done-append, done_off_key, pieces-append, pieces_alike}
use Rattle.ell_ops.specs.declared.reply.Reply.{Reply}

-- where no element passes, each fails
all_fail : {X : Type 0} (p : X → Bool) (xs : List X) → list_any p xs ≡ false → All (λ x. p x ≡ false) xs
all_fail p xs none k d below =
    ⊎_elim
    (λ passes. let no : ⊥ = (let some = list_any_at p xs k d below passes in cc) in absurd no)
    (λ fails. fails)
    (cases_Bool (p (get_or xs k d)))

-- a key that no item of a part is on
off_key : (items : List (ℕ × Op)) (key : ℕ) → keys_of_part items key ≡ false → All (λ item. key_of item.1 ≢ key) items
off_key items key none k d below = λ on.
    let keys = map (λ (item : ℕ × Op). key_of item.1) items in
    let same : get_or keys k 0 ≡ key_of (get_or items k d).1 = get_or-map (λ (item : ℕ × Op). key_of item.1) items k d 0 below in
    let miss : eqb key (get_or keys k 0) ≡ false =
    all_fail (λ other. eqb key other) keys none k 0 (omega (arith, length-map items (λ (item : ℕ × Op). key_of item.1))) in
    eqb-false key (get_or keys k 0) miss (sym (same ∙ on))

-- an item of a worker's part on a key
pub record HasKey (parting : PartedOps) (workers : List ℕ) (key : ℕ) : Type 0 where
  pub worker : ℕ
  pub within : Contains workers worker
  pub place : ℕ
  pub item : ℕ × Op
  pub there : slice_get (part parting worker) place ≡ Some item
  pub on : key_of item.1 ≡ key

-- a key of workers is that of some item
pub has_key : (parting : PartedOps) (workers : List ℕ) (key : ℕ) → keys_for parting workers key ≡ true → HasKey parting workers key
has_key parting workers key some =
    let w = Any-from_list_any (λ worker. keys_of_part (part parting worker) key) workers some in
    let items = part parting w.1 in
    let keys = map (λ (item : ℕ × Op). key_of item.1) items in
    let k = Any-from_list_any (λ other. eqb key other) keys w.4 in
    let below : k.0 < length items = (let l = k.2 in omega (arith, length-map items (λ (item : ℕ × Op). key_of item.1))) in
    record {
      worker = w.1;
      within = (w.0, w.2, w.3);
      place = k.0;
      item = get_or items k.0 (0, Find 0);
      there = slice_get-get_or items k.0 (0, Find 0) below;
      on = sym (get_or-map (λ (item : ℕ × Op). key_of item.1) items k.0 (0, Find 0) k.1 below) ∙ k.3 ∙ sym (eqb-true key k.1 k.4);
    }

-- items on one key are one worker's
pub same_worker : (parting : PartedOps) → IsLawful parting → (w v j k : ℕ) (x y : ℕ × Op) → slice_get (part parting w) j ≡ Some x → slice_get (part parting v) k ≡ Some y →
    key_of x.1 ≡ key_of y.1 → w ≡ v
same_worker parting lawful w v j k x y ex ey same =
    let p = in_part parting lawful w j x.0 x.1 ex in
    let q = in_part parting lawful v k y.0 y.1 ey in
    sym p.owned ∙ lawful.together x.0 y.0 x.1 y.1 p.there q.there same ∙ q.owned

get_or_first : (xs ys : List ℕ) (k d : ℕ) → k < length xs → get_or (xs ++ ys) k d ≡ get_or xs k d
get_or_first [] ys k d below = absurd (omega arith)
get_or_first (x ∷ xs) ys zero d below = refl
get_or_first (x ∷ xs) ys (suc k) d below = get_or_first xs ys k d (omega arith)

-- in an ascending list those in front are below those behind
below_behind : (xs ys : List ℕ) (x j d : ℕ) → IsStrictlyIncreasing (xs ++ ys) → Contains xs x → j < length ys → x < get_or ys j d
below_behind xs ys x j d ascending h below =
    let within = h.1 in
    let first : get_or (xs ++ ys) h.0 d ≡ x = get_or_first xs ys h.0 d within ∙ get_or_default xs h.0 d x within ∙ h.2 in
    let second : get_or (xs ++ ys) (length xs + j) d ≡ get_or ys j d = get_or-append-add xs ys j d in
    let order : get_or (xs ++ ys) h.0 d < get_or (xs ++ ys) (length xs + j) d =
    AllPairs-from_increasing (xs ++ ys) ascending h.0 (length xs + j) d (omega arith) (omega (arith, length-append xs ys)) in
    omega arith

-- the key went to the left half, and the workers of the right one have nothing on it
record IsLeft (parting : PartedOps) (high : List ℕ) (pass left right : PassModel) (key : ℕ) : Type 0 where
  kept : ledger left key ≡ ledger pass key
  none : ledger right key ≡ None
  off : All (IsOffKey parting key) high

-- or it stayed with the right half, and the workers of the left one have nothing on it
record IsRight (parting : PartedOps) (low : List ℕ) (pass left right : PassModel) (key : ℕ) : Type 0 where
  kept : ledger right key ≡ ledger pass key
  none : ledger left key ≡ None
  off : All (IsOffKey parting key) low

key_cases : (tree : TreeModel) (parting : PartedOps) (low high : List ℕ) (pass left right : PassModel) → AreReady tree parting (low ++ high) pass →
    AreHalves parting low pass left right → (key : ℕ) → IsLeft parting high pass left right key ⊎ IsRight parting low pass left right key
key_cases tree parting low high pass left right ready h key =
    let among : list_any (λ x. eqb key x) h.keys ≡ keys_for parting low key = ap (λ s. s key) h.listed.each in
    ⊎_elim
    (λ some. inl (record {
      kept = h.on_left.ledger key ∙ cond-true (list_any (λ x. eqb key x) h.keys) (ledger pass key) None (among ∙ some);
      none = h.on_right.ledger key ∙ cond-true (list_any (λ x. eqb key x) h.keys) None (ledger pass key) (among ∙ some);
      off = λ j d below k e within on.
          let has = has_key parting low key some in
          let order = below_behind low high has.worker j d ready.ascending has.within below in
          let one = same_worker parting ready.lawful has.worker (get_or high j d) has.place k has.item (get_or (part parting (get_or high j d)) k e)
          has.there (slice_get-get_or (part parting (get_or high j d)) k e within) (has.on ∙ sym on) in
          omega arith;
    }))
    (λ none. inr (record {
      kept = h.on_right.ledger key ∙ cond-false (list_any (λ x. eqb key x) h.keys) None (ledger pass key) (among ∙ none);
      none = h.on_left.ledger key ∙ cond-false (list_any (λ x. eqb key x) h.keys) (ledger pass key) None (among ∙ none);
      off = λ j d below. off_key (part parting (get_or low j d)) key (all_fail (λ worker. keys_of_part (part parting worker) key) low none j d below);
    }))
    (cases_Bool (keys_for parting low key))

-- passes whose ledgers agree at a key have it present alike, and own it alike
present_alike : (p q : PassModel) (key : ℕ) → ledger p key ≡ ledger q key → present_in p key ≡ present_in q key
present_alike p q key same = rw same refl

owns_alike : (p q : PassModel) (key : ℕ) → ledger p key ≡ ledger q key → Owns p key ↔ Owns q key
owns_alike p q key same = (λ h e. h (same ∙ e), λ h e. h (sym same ∙ e))

none_or : (o : Option Entry) → ((o ≢ None) → ⊥) → o ≡ None
none_or None never = refl
none_or (Some b) never = absurd (never (λ e. cc))

entry_or_none : (o : Option Entry) → entry_or o None ≡ o
entry_or_none None = refl
entry_or_none (Some b) = refl

-- a key that a pass does not own it does not own after work
none_after : (p q : PassModel) (key : ℕ) → (Owns q key → Owns p key) → ledger p key ≡ None → ledger q key ≡ None
none_after p q key back none = none_or (ledger q key) (λ h. back h none)

module _ (tree : TreeModel) (parting : PartedOps) (low high : List ℕ) (pass left right : PassModel)
    (ready : AreReady tree parting (low ++ high) pass) (h : AreHalves parting low pass left right) where
  -- a worker's own keys are in its half
  own_left : (j : ℕ) (d : ℕ) → j < length low → (k : ℕ) (e : ℕ × Op) → k < length (part parting (get_or low j d)) →
      ledger left (key_of (get_or (part parting (get_or low j d)) k e).1) ≡ ledger pass (key_of (get_or (part parting (get_or low j d)) k e).1)
  own_left j d below k e within =
      ⊎_elim (λ l. l.kept) (λ r. absurd (r.off j d below k e within refl))
      (key_cases tree parting low high pass left right ready h (key_of (get_or (part parting (get_or low j d)) k e).1))

  own_right : (j : ℕ) (d : ℕ) → j < length high → (k : ℕ) (e : ℕ × Op) → k < length (part parting (get_or high j d)) →
      ledger right (key_of (get_or (part parting (get_or high j d)) k e).1) ≡ ledger pass (key_of (get_or (part parting (get_or high j d)) k e).1)
  own_right j d below k e within =
      ⊎_elim (λ l. absurd (l.off j d below k e within refl)) (λ r. r.kept)
      (key_cases tree parting low high pass left right ready h (key_of (get_or (part parting (get_or high j d)) k e).1))

  pub ready_left : AreReady tree parting low left
  ready_left = record {
    lawful = ready.lawful;
    known = λ j d below. subst (λ w. w < parting.workers) (get_or_first low high j d below) (ready.known j d (omega (arith, length-append low high)));
    ascending = λ k below.
        let order = ready.ascending k (omega (arith, length-append low high)) in
        let first = get_or_first low high k 0 (omega arith) in
        let second = get_or_first low high (k + 1) 0 below in
        omega arith;
    own = h.on_left.own.table ∙ ready.own;
    idle = h.on_left.idle;
    owned = λ j d below k e within.
        let owned : All (λ item. Owns pass (key_of item.1)) (part parting (get_or low j d)) =
        subst (λ w. OwnsKeysOf pass (part parting w)) (get_or_first low high j d below) (ready.owned j d (omega (arith, length-append low high))) in
        (owns_alike left pass (key_of (get_or (part parting (get_or low j d)) k e).1) (own_left j d below k e within)).1 (owned k e within);
  }

  pub ready_right : AreReady tree parting high right
  ready_right = record {
    lawful = ready.lawful;
    known = λ j d below. subst (λ w. w < parting.workers) (get_or-append-add low high j d) (ready.known (length low + j) d (omega (arith, length-append low high)));
    ascending = λ k below.
        let far : length low + k + 1 ≡ length low + (k + 1) = omega arith in
        let order = ready.ascending (length low + k) (omega (arith, length-append low high)) in
        let first = get_or-append-add low high k 0 in
        let second = ap (λ n. get_or (low ++ high) n 0) far ∙ get_or-append-add low high (k + 1) 0 in
        omega arith;
    own = h.on_right.own.table ∙ ready.own;
    idle = h.on_right.idle;
    owned = λ j d below k e within.
        let owned : All (λ item. Owns pass (key_of item.1)) (part parting (get_or high j d)) =
        subst (λ w. OwnsKeysOf pass (part parting w)) (get_or-append-add low high j d) (ready.owned (length low + j) d (omega (arith, length-append low high))) in
        (owns_alike right pass (key_of (get_or (part parting (get_or high j d)) k e).1) (own_right j d below k e within)).1 (owned k e within);
  }

  module _ (plan : TablePlan) (tries : ℕ) (first second both : PassModel) (ps qs : List (List (ℕ × Reply)))
      (did : IsWorked plan tries parting low left first ps) (other : IsWorked plan tries parting high right second qs)
      (union : IsUnion first second both) where
    -- the ledger of both at a key is that of its half
    ledger_at_left : (key : ℕ) → IsLeft parting high pass left right key → ledger both key ≡ ledger first key
    ledger_at_left key l =
        union.ledger key ∙ ap (entry_or (ledger first key)) (none_after right second key (other.owned key).0 l.none) ∙ entry_or_none (ledger first key)

    ledger_at_right : (key : ℕ) → IsRight parting low pass left right key → ledger both key ≡ ledger second key
    ledger_at_right key r = union.ledger key ∙ ap (λ o. entry_or o (ledger second key)) (none_after left first key (did.owned key).0 r.none)

    set_at : (key : ℕ) → present_in both key ≡ final (present_in pass) (ops_done parting low ps ++ ops_done parting high qs) key
    set_at key =
        ⊎_elim
        (λ l.
        present_alike both first key (ledger_at_left key l) ∙ ap (λ s. s key) did.map
        ∙ final_alike (ops_done parting low ps) (ops_done parting low ps ++ ops_done parting high qs) (present_in left) (present_in pass) key
        (present_alike left pass key l.kept)
        (sym (on_key-append key (ops_done parting low ps) (ops_done parting high qs)
        ∙ ap (λ ops. on_key key (ops_done parting low ps) ++ ops) (done_off_key parting key high qs l.off)
        ∙ append-nil (on_key key (ops_done parting low ps)))))
        (λ r.
        present_alike both second key (ledger_at_right key r) ∙ ap (λ s. s key) other.map
        ∙ final_alike (ops_done parting high qs) (ops_done parting low ps ++ ops_done parting high qs) (present_in right) (present_in pass) key
        (present_alike right pass key r.kept)
        (sym (on_key-append key (ops_done parting low ps) (ops_done parting high qs)
        ∙ ap (λ ops. ops ++ on_key key (ops_done parting high qs)) (done_off_key parting key low ps r.off))))
        (key_cases tree parting low high pass left right ready h key)

    owned_at : (key : ℕ) → Owns both key ↔ Owns pass key
    owned_at key =
        ⊎_elim
        (λ l.
        let a = owns_alike both first key (ledger_at_left key l) in
        let b = did.owned key in
        let c = owns_alike left pass key l.kept in
        (λ o. c.0 (b.0 (a.0 o)), λ o. a.1 (b.1 (c.1 o))))
        (λ r.
        let a = owns_alike both second key (ledger_at_right key r) in
        let b = other.owned key in
        let c = owns_alike right pass key r.kept in
        (λ o. c.0 (b.0 (a.0 o)), λ o. a.1 (b.1 (c.1 o))))
        (key_cases tree parting low high pass left right ready h key)

    -- two rows of workers, each with its half, have worked as one with the whole
    pub worked_both : IsWorked plan tries parting (low ++ high) pass both (ps ++ qs)
    worked_both =
        let first_told = pieces_alike (present_in left) (present_in pass) parting low ps
        (λ j d below k e within. present_alike left pass (key_of (get_or (part parting (get_or low j d)) k e).1) (own_left j d below k e within)) did.told in
        let second_told = pieces_alike (present_in right) (present_in pass) parting high qs
        (λ j d below k e within. present_alike right pass (key_of (get_or (part parting (get_or high j d)) k e).1) (own_right j d below k e within)) other.told in
        let all = union.answers in
        let one = did.answers in
        let two = other.answers in
        let kept = h.on_left.answers in
        let anew = h.on_right.answers in
        record {
          table = union.own.table ∙ did.table ∙ h.on_left.own.table;
          idle = union.idle;
          told = pieces-append (present_in pass) parting low high ps qs first_told second_told;
          map = (λ i key. set_at key i) ∙ ap (final (present_in pass)) (sym (done-append (present_in pass) parting low high ps qs first_told));
          owned = owned_at;
          answers = omega (arith, sum_by-append (λ (piece : List (ℕ × Reply)). length piece) ps qs);
          not_done =
              subst (λ n. AreNotDone plan tries n pass both)
              (sym (all_not_done-append (present_in pass) parting low high ps qs first_told))
              (both_not_done plan tries (all_not_done parting low ps) (all_not_done parting high qs) pass left right first second both
              h.on_left.hindrances h.on_right.hindrances union.hindrances union.next did.not_done other.not_done);
        }

-- the keys that a half is to get are the pass's
pub keys_owned : (tree : TreeModel) (parting : PartedOps) (low high : List ℕ) (pass : PassModel) (keys : List ℕ) → AreReady tree parting (low ++ high) pass →
    Lists (keys_for parting low) keys → All (λ key. Owns pass key) keys
keys_owned tree parting low high pass keys ready listed j d below =
    let key = get_or keys j d in
    let among : keys_for parting low key ≡ true =
    ap (λ s. s key) (sym listed.each) ∙ list_any_at (λ other. eqb key other) keys j d below (eq-eqb key key refl) in
    let has = has_key parting low key among in
    let worker = Contains-append_left low high has.worker has.within in
    let owned : All (λ item. Owns pass (key_of item.1)) (part parting has.worker) =
    All-contains (λ worker. OwnsKeysOf pass (part parting worker)) (low ++ high) has.worker ready.owned worker in
    subst (Owns pass) has.on (all_at (λ item. Owns pass (key_of item.1)) (part parting has.worker) has.place has.item owned has.there)
