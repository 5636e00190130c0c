use Rattle.std.proofs.Common.{◌≡◌, ◌≢◌, ℕ, zero, suc, ◌<◌, ◌↔◌, not, Option, Some, None, is_some, if◌then◌else◌, unwrap_or, List, [], ◌∷◌, take, arith, refl, ap, sym, subst, ◌∙◌, inl, inr, ⊎_elim}
use Rattle.std.specs.Prelude.{slice_get}
use Rattle.std.proofs.lemmas.Bool.{cases_eq, eq-eqb, ne_eqb}
use Rattle.ell_ops.specs.declared.op.Op.{Op}
use Rattle.ell_ops.specs.declared.op.Op.TheVariants.{Find, Insert, Delete, Swap}
use Rattle.ell_ops.specs.declared.reply.Reply.TheVariants.{No, Yes, Found}
use Rattle.ell_ops.specs.Contents.{Contents, swapped}
use Rattle.ell_ops.specs.Meaning.{key_of, yes_if, found, reply_of, after, replies, final}
use Rattle.ell_ops.specs.LastWriter.{NoInsert, NoDelete, NoSwapAway, ValueStays, IsAbsent, IsInserted, IsKept, HasValue, at_first, by_insert, by_swap, TellsValue, GoesByPresence, FoldHasPresentKeys, RepliesGoByPresence}
use Rattle.ell_ops.proofs.lemmas.Swaps.{swapped_same, swapped_other, cases_some}

-- no insert behind the first operation, in the list and in its rest
inserts_up : (op : Op) (ops : List Op) (key low high : ℕ) → NoInsert ops key low high → NoInsert (op ∷ ops) key (suc low) (suc high)
inserts_up op ops key low high free zero value from to = absurd (omega arith)
inserts_up op ops key low high free (suc j) value from to = free j value (omega arith) (omega arith)

inserts_down : (op : Op) (ops : List Op) (key low high : ℕ) → NoInsert (op ∷ ops) key (suc low) (suc high) → NoInsert ops key low high
inserts_down op ops key low high free j value from to = free (suc j) value (omega arith) (omega arith)

-- and with the first operation, which is no insert of the key
inserts_first : (op : Op) (ops : List Op) (key high : ℕ) → ((value : ℕ) → op ≢ Insert key value) → NoInsert ops key 0 high → NoInsert (op ∷ ops) key 0 (suc high)
inserts_first op ops key high other free zero value from to = λ e. let same : op ≡ Insert key value = cc in other value same
inserts_first op ops key high other free (suc j) value from to = free j value (omega arith) (omega arith)

inserts_rest : (op : Op) (ops : List Op) (key high : ℕ) → NoInsert (op ∷ ops) key 0 (suc high) → NoInsert ops key 0 high
inserts_rest op ops key high free j value from to = free (suc j) value (omega arith) (omega arith)

-- the same of a value that stays
stays_up : (op : Op) (ops : List Op) (key value low high : ℕ) → ValueStays ops key value low high → ValueStays (op ∷ ops) key value (suc low) (suc high)
stays_up op ops key value low high stays = record { no_delete = deletes; no_swap = swaps }
  where
    deletes : NoDelete (op ∷ ops) key (suc low) (suc high)
    deletes zero from to = absurd (omega arith)
    deletes (suc j) from to = stays.no_delete j (omega arith) (omega arith)

    swaps : NoSwapAway (op ∷ ops) key value (suc low) (suc high)
    swaps zero other from to apart = absurd (omega arith)
    swaps (suc j) other from to apart = stays.no_swap j other (omega arith) (omega arith) apart

stays_down : (op : Op) (ops : List Op) (key value low high : ℕ) → ValueStays (op ∷ ops) key value (suc low) (suc high) → ValueStays ops key value low high
stays_down op ops key value low high stays = record {
  no_delete = λ j from to. stays.no_delete (suc j) (omega arith) (omega arith);
  no_swap = λ j other from to. stays.no_swap (suc j) other (omega arith) (omega arith);
}

-- an operation that neither deletes the key nor swaps it from this value to another
record LeavesValue (op : Op) (key value : ℕ) : Type 0 where
  pub no_delete : op ≢ Delete key
  pub no_swap : (other : ℕ) → other ≢ value → op ≢ Swap key value other

stays_first : (op : Op) (ops : List Op) (key value high : ℕ) → LeavesValue op key value → ValueStays ops key value 0 high → ValueStays (op ∷ ops) key value 0 (suc high)
stays_first op ops key value high leaves stays = record { no_delete = deletes; no_swap = swaps }
  where
    deletes : NoDelete (op ∷ ops) key 0 (suc high)
    deletes zero from to = λ e. let same : op ≡ Delete key = cc in leaves.no_delete same
    deletes (suc j) from to = stays.no_delete j (omega arith) (omega arith)

    swaps : NoSwapAway (op ∷ ops) key value 0 (suc high)
    swaps zero other from to apart = λ e. let same : op ≡ Swap key value other = cc in leaves.no_swap other apart same
    swaps (suc j) other from to apart = stays.no_swap j other (omega arith) (omega arith) apart

stays_rest : (op : Op) (ops : List Op) (key value high : ℕ) → ValueStays (op ∷ ops) key value 0 (suc high) → ValueStays ops key value 0 high
stays_rest op ops key value high stays = record {
  no_delete = λ j from to. stays.no_delete (suc j) (omega arith) (omega arith);
  no_swap = λ j other from to. stays.no_swap (suc j) other (omega arith) (omega arith);
}

-- between a position and itself, and in the empty list, a value stays
stays_at : (ops : List Op) (key value at : ℕ) → ValueStays ops key value at at
stays_at ops key value at = record { no_delete = λ j from to. absurd (omega arith); no_swap = λ j other from to. absurd (omega arith) }

stays_in_none : (key value low high : ℕ) → ValueStays [] key value low high
stays_in_none key value low high = record { no_delete = λ j from to e. absurd cc; no_swap = λ j other from to apart e. absurd cc }

-- what an operation leaves at its key
insert_here : (there : Contents) (key value : ℕ) → after (Insert key value) there key ≡ Some (unwrap_or (there key) value)
insert_here there key value = ap (λ t. if t then Some (unwrap_or (there key) value) else there key) (eq-eqb key key refl)

delete_here : (there : Contents) (key : ℕ) → after (Delete key) there key ≡ None
delete_here there key = ap (λ t. if t then None else there key) (eq-eqb key key refl)

swap_here : (there : Contents) (key was value : ℕ) → after (Swap key was value) there key ≡ swapped (there key) was value
swap_here there key was value = ap (λ t. if t then swapped (there key) was value else there key) (eq-eqb key key refl)

-- a swap from the value that is there
swap_from : (there : Contents) (key was value : ℕ) → there key ≡ Some was → after (Swap key was value) there key ≡ Some value
swap_from there key was value had = swap_here there key was value ∙ ap (λ o. swapped o was value) had ∙ swapped_same was value

-- an operation on another key leaves the key as it was
left_else : (there : Contents) (op : Op) (key : ℕ) → key ≢ key_of op → after op there key ≡ there key
left_else there (Find k) key n = refl
left_else there (Insert k value) key n = ap (λ t. if t then Some (unwrap_or (there key) value) else there key) (ne_eqb key k n)
left_else there (Delete k) key n = ap (λ t. if t then None else there key) (ne_eqb key k n)
left_else there (Swap k was value) key n = ap (λ t. if t then swapped (there key) was value else there key) (ne_eqb key k n)

-- an insert leaves a value, and so do a swap to it, and a swap from what is not there
insert_leaves : (op : Op) (key v value : ℕ) → op ≡ Insert key v → LeavesValue op key value
insert_leaves op key v value is = record { no_delete = λ e. absurd cc; no_swap = λ other apart e. absurd cc }

swap_leaves : (op : Op) (key was value : ℕ) → op ≡ Swap key was value → LeavesValue op key value
swap_leaves op key was value is = record { no_delete = λ e. absurd cc; no_swap = λ other apart e. let same : other ≡ value = cc in apart same }

swap_missed : (there : Contents) (key was value v : ℕ) → there key ≢ Some was → there key ≡ Some v → LeavesValue (Swap key was value) key v
swap_missed there key was value v missed had = record {
  no_delete = λ e. absurd cc;
  no_swap = λ other apart e. let same : v ≡ was = cc in missed (had ∙ ap Some same);
}

-- what an operation does to a key, as data: it leaves it as it was, adds it with a value, takes it away, or swaps its value
data Did (there : Contents) (op : Op) (key : ℕ) : Type 0 where
  left : after op there key ≡ there key → ((value : ℕ) → op ≢ Insert key value) → ((value : ℕ) → there key ≡ Some value → LeavesValue op key value)
      → Did there op key
  inserted : (value : ℕ) → op ≡ Insert key value → after op there key ≡ Some (unwrap_or (there key) value) → Did there op key
  deleted : op ≡ Delete key → after op there key ≡ None → Did there op key
  exchanged : (was value : ℕ) → op ≡ Swap key was value → there key ≡ Some was → after op there key ≡ Some value → Did there op key

did_swap : (there : Contents) (key was value : ℕ) → Did there (Swap key was value) key
did_swap there key was value = ⊎_elim
    (λ had. exchanged was value refl had (swap_from there key was value had))
    (λ other. left (swap_here there key was value ∙ swapped_other (there key) was value other) (λ v e. absurd cc) (λ v. swap_missed there key was value v other))
    (cases_some (there key) was)

did_here : (there : Contents) (op : Op) → Did there op (key_of op)
did_here there (Find key) = left refl (λ value e. absurd cc) (λ value had. record { no_delete = λ e. absurd cc; no_swap = λ other n e. absurd cc })
did_here there (Insert key value) = inserted value refl (insert_here there key value)
did_here there (Delete key) = deleted refl (delete_here there key)
did_here there (Swap key was value) = did_swap there key was value

did_else : (there : Contents) (op : Op) (key : ℕ) → key ≢ key_of op → Did there op key
did_else there op key n = left (left_else there op key n)
    (λ value e. n (sym (ap key_of e)))
    (λ value had. record { no_delete = λ e. n (sym (ap key_of e)); no_swap = λ other apart e. n (sym (ap key_of e)) })

did : (there : Contents) (op : Op) (key : ℕ) → Did there op key
did there op key = ⊎_elim (λ e. subst (Did there op) (sym e) (did_here there op)) (did_else there op key) (cases_eq key (key_of op))

-- a key that is absent in the rest, behind the first operation, is absent in the list
absent_forth : (there : Contents) (op : Op) (ops : List Op) (key i : ℕ) → IsAbsent (after op there) ops key i → IsAbsent there (op ∷ ops) key (suc i)
absent_forth there op ops key i (inl h) =
    inl (record { at = suc h.at; before = let b = h.before in omega arith; delete = h.delete; stays = inserts_up op ops key h.at i h.stays })
absent_forth there op ops key i (inr h) = by (did there op key)
  where
    by : Did there op key → IsAbsent there (op ∷ ops) key (suc i)
    by (left same no_insert leaves) = inr (record { lacked = sym same ∙ h.lacked; stays = inserts_first op ops key i no_insert h.stays })
    by (inserted value is has) = absurd (let clash : Some (unwrap_or (there key) value) ≡ None = sym has ∙ h.lacked in cc)
    by (deleted is none) = inl (record {
      at = 0;
      before = omega arith;
      delete = ap Some is;
      stays = inserts_first op ops key i (λ value e. let clash : Delete key ≡ Insert key value = sym is ∙ e in absurd cc) h.stays;
    })
    by (exchanged was value is had has) = absurd (let clash : Some value ≡ None = sym has ∙ h.lacked in cc)

absent_back : (there : Contents) (op : Op) (ops : List Op) (key i : ℕ) → IsAbsent there (op ∷ ops) key (suc i) → IsAbsent (after op there) ops key i
absent_back there op ops key i (inl h) = at_place h.at h.before h.delete h.stays
  where
    at_place : (at : ℕ) → at < suc i → slice_get (op ∷ ops) at ≡ Some (Delete key) → NoInsert (op ∷ ops) key at (suc i) → IsAbsent (after op there) ops key i
    at_place zero before delete stays = let is : op ≡ Delete key = cc in
        inr (record { lacked = ap (λ o. after o there key) is ∙ delete_here there key; stays = inserts_rest op ops key i stays })
    at_place (suc at) before delete stays = inl (record { at = at; before = omega arith; delete = delete; stays = inserts_down op ops key at i stays })
absent_back there op ops key i (inr h) = by (did there op key)
  where
    by : Did there op key → IsAbsent (after op there) ops key i
    by (left same no_insert leaves) = inr (record { lacked = same ∙ h.lacked; stays = inserts_rest op ops key i h.stays })
    by (inserted value is has) = absurd (h.stays 0 value (omega arith) (omega arith) (ap Some is))
    by (deleted is none) = inr (record { lacked = none; stays = inserts_rest op ops key i h.stays })
    by (exchanged was value is had has) = absurd (let clash : Some was ≡ None = sym had ∙ h.lacked in cc)

-- so it is of one that is present with a value, which the rest begins with
kept_forth : (there : Contents) (op : Op) (ops : List Op) (key i value : ℕ) → IsKept (after op there) ops key i value → HasValue there (op ∷ ops) key (suc i) value
kept_forth there op ops key i value h = by (did there op key)
  where
    new : (v : ℕ) → op ≡ Insert key v → (o : Option ℕ) → there key ≡ o → Some (unwrap_or o v) ≡ Some value → HasValue there (op ∷ ops) key (suc i) value
    new v is None none e = let same : v ≡ value = cc in by_insert (record {
      at = 0;
      before = omega arith;
      insert = ap Some (is ∙ ap (Insert key) same);
      absent = inr (record { lacked = none; stays = λ j u from to. absurd (omega arith) });
      stays = stays_first op ops key value i (insert_leaves op key v value is) h.stays;
    })
    new v is (Some w) had e = at_first (record { had = had ∙ e; stays = stays_first op ops key value i (insert_leaves op key v value is) h.stays })

    by : Did there op key → HasValue there (op ∷ ops) key (suc i) value
    by (left same no_insert leaves) = let had = sym same ∙ h.had in
        at_first (record { had = had; stays = stays_first op ops key value i (leaves value had) h.stays })
    by (inserted v is has) = new v is (there key) refl (sym has ∙ h.had)
    by (deleted is none) = absurd (let clash : None ≡ Some value = sym none ∙ h.had in cc)
    by (exchanged was v is had has) =
        let same : Some v ≡ Some value = sym has ∙ h.had in
        let to : op ≡ Swap key was value = cc in
        by_swap 0 was (omega arith) (ap Some to) (at_first (record { had = had; stays = stays_at (op ∷ ops) key was 0 }))
        (stays_first op ops key value i (swap_leaves op key was value to) h.stays)

-- or which the rest writes
value_forth : (there : Contents) (op : Op) (ops : List Op) (key i value : ℕ) → HasValue (after op there) ops key i value → HasValue there (op ∷ ops) key (suc i) value
value_forth there op ops key i value (at_first h) = kept_forth there op ops key i value h
value_forth there op ops key i value (by_insert h) = by_insert (record {
  at = suc h.at;
  before = let b = h.before in omega arith;
  insert = h.insert;
  absent = absent_forth there op ops key h.at h.absent;
  stays = stays_up op ops key value h.at i h.stays;
})
value_forth there op ops key i value (by_swap at was before swap had stays) =
    by_swap (suc at) was (omega arith) swap (value_forth there op ops key at was had) (stays_up op ops key value at i stays)

-- before position 0 there is what was there at first
first_absent : (there : Contents) (ops : List Op) (key : ℕ) → IsAbsent there ops key 0 → there key ≡ None
first_absent there ops key (inl h) = let b = h.before in absurd (omega arith)
first_absent there ops key (inr h) = h.lacked

first_value : (there : Contents) (ops : List Op) (key value : ℕ) → HasValue there ops key 0 value → there key ≡ Some value
first_value there ops key value (at_first h) = h.had
first_value there ops key value (by_insert h) = let b = h.before in absurd (omega arith)
first_value there ops key value (by_swap at was before swap had stays) = absurd (omega arith)

-- and back
kept_back : (there : Contents) (op : Op) (ops : List Op) (key i value : ℕ) → IsKept there (op ∷ ops) key (suc i) value → HasValue (after op there) ops key i value
kept_back there op ops key i value h = by (did there op key)
  where
    stays : ValueStays ops key value 0 i
    stays = stays_rest op ops key value i h.stays

    by : Did there op key → HasValue (after op there) ops key i value
    by (left same no_insert leaves) = at_first (record { had = same ∙ h.had; stays = stays })
    by (inserted v is has) = at_first (record { had = has ∙ ap (λ o. Some (unwrap_or o v)) h.had; stays = stays })
    by (deleted is none) = absurd (h.stays.no_delete 0 (omega arith) (omega arith) (ap Some is))
    by (exchanged was v is had has) =
        let from : Some was ≡ Some value = sym had ∙ h.had in
        let swap : op ≡ Swap key value v = cc in
        ⊎_elim
        (λ same. at_first (record { had = has ∙ ap Some same; stays = stays }))
        (λ apart. absurd (h.stays.no_swap 0 v (omega arith) (omega arith) apart (ap Some swap)))
        (cases_eq v value)

inserted_back : (there : Contents) (op : Op) (ops : List Op) (key i value : ℕ) → IsInserted there (op ∷ ops) key (suc i) value → HasValue (after op there) ops key i value
inserted_back there op ops key i value h = at_place h.at h.before h.insert h.absent h.stays
  where
    at_place : (at : ℕ) → at < suc i → slice_get (op ∷ ops) at ≡ Some (Insert key value) → IsAbsent there (op ∷ ops) key at
        → ValueStays (op ∷ ops) key value at (suc i) → HasValue (after op there) ops key i value
    at_place zero before insert absent stays = let is : op ≡ Insert key value = cc in at_first (record {
      had = ap (λ o. after o there key) is ∙ insert_here there key value ∙ ap (λ o. Some (unwrap_or o value)) (first_absent there (op ∷ ops) key absent);
      stays = stays_rest op ops key value i stays;
    })
    at_place (suc at) before insert absent stays = by_insert (record {
      at = at;
      before = omega arith;
      insert = insert;
      absent = absent_back there op ops key at absent;
      stays = stays_down op ops key value at i stays;
    })

value_back : (there : Contents) (op : Op) (ops : List Op) (key i value : ℕ) → HasValue there (op ∷ ops) key (suc i) value → HasValue (after op there) ops key i value
value_back there op ops key i value (at_first h) = kept_back there op ops key i value h
value_back there op ops key i value (by_insert h) = inserted_back there op ops key i value h
value_back there op ops key i value (by_swap zero was before swap had stays) = let is : op ≡ Swap key was value = cc in at_first (record {
  had = ap (λ o. after o there key) is ∙ swap_from there key was value (first_value there (op ∷ ops) key was had);
  stays = stays_rest op ops key value i stays;
})
value_back there op ops key i value (by_swap (suc at) was before swap had stays) =
    by_swap at was (omega arith) swap (value_back there op ops key at was had) (stays_down op ops key value at i stays)

-- before the first operation, and in the empty list
none_yet : (there : Contents) (ops : List Op) (key : ℕ)
    → ((value : ℕ) → (there key ≡ Some value) ↔ HasValue there ops key 0 value) × ((there key ≡ None) ↔ IsAbsent there ops key 0)
none_yet there ops key = (
  λ value. (λ had. at_first (record { had = had; stays = stays_at ops key value 0 }), first_value there ops key value),
  (λ lacked. inr (record { lacked = lacked; stays = λ j v from to. absurd (omega arith) }), first_absent there ops key),
)

value_in_none : (there : Contents) (key i value : ℕ) → HasValue there [] key i value → there key ≡ Some value
value_in_none there key i value (at_first h) = h.had
value_in_none there key i value (by_insert h) = let e = h.insert in absurd cc
value_in_none there key i value (by_swap at was before swap had stays) = absurd cc

nothing_stands : (there : Contents) (key i : ℕ)
    → ((value : ℕ) → (there key ≡ Some value) ↔ HasValue there [] key i value) × ((there key ≡ None) ↔ IsAbsent there [] key i)
nothing_stands there key i = (
  λ value. (λ had. at_first (record { had = had; stays = stays_in_none key value 0 i }), value_in_none there key i value),
  (
    λ lacked. inr (record { lacked = lacked; stays = λ j v from to e. absurd cc }),
    elim [ inl h ↦ (let e = h.delete in absurd cc) | inr h ↦ h.lacked ],
  ),
)

pub present_keys : FoldHasPresentKeys
present_keys there [] key zero = none_yet there [] key
present_keys there [] key (suc i) = nothing_stands there key (suc i)
present_keys there (op ∷ ops) key zero = none_yet there (op ∷ ops) key
present_keys there (op ∷ ops) key (suc i) =
    let rest = present_keys (after op there) ops key i in (
      λ value. (
        λ h. value_forth there op ops key i value ((rest.0 value).0 h),
        λ h. (rest.0 value).1 (value_back there op ops key i value h),
      ),
      (λ h. absent_forth there op ops key i (rest.1.0 h), λ h. rest.1.1 (absent_back there op ops key i h)),
    )

-- the reply at a position is that where it stands
pub reply_at : (there : Contents) (ops : List Op) (i : ℕ) (op : Op) → slice_get ops i ≡ Some op → slice_get (replies there ops) i ≡ Some (reply_of op (final there (take i ops)))
reply_at there [] i op e = absurd cc
reply_at there (first ∷ ops) zero op e = let same : first ≡ op = cc in ap (λ o. Some (reply_of o there)) same
reply_at there (first ∷ ops) (suc i) op e = reply_at (after first there) ops i op e

module _ (o : Option ℕ) (P : ℕ → Type 0) (N : Type 0) (some : (value : ℕ) → (o ≡ Some value) ↔ P value) (none : (o ≡ None) ↔ N) where
  -- what is found, where a key is as it is
  finds : (value : ℕ) → (found o ≡ Found value) ↔ P value
  finds value = by o some
    where
      by : (q : Option ℕ) → ((v : ℕ) → (q ≡ Some v) ↔ P v) → (found q ≡ Found value) ↔ P value
      by None has = (λ e. absurd cc, λ p. let e = (has value).1 p in absurd cc)
      by (Some v) has = (λ e. let same : Some v ≡ Some value = cc in (has value).0 same, λ p. let e = (has value).1 p in cc)

  finds_none : (found o ≡ No) ↔ N
  finds_none = by o none
    where
      by : (q : Option ℕ) → (q ≡ None) ↔ N → (found q ≡ No) ↔ N
      by None has = (λ e. has.0 refl, λ n. refl)
      by (Some v) has = (λ e. absurd cc, λ n. let e = has.1 n in absurd cc)

  -- yes where it is present, and where it is absent
  yes_some : (yes_if (is_some o) ≡ Yes) ↔ ((value : ℕ) × P value)
  yes_some = by o some
    where
      by : (q : Option ℕ) → ((v : ℕ) → (q ≡ Some v) ↔ P v) → (yes_if (is_some q) ≡ Yes) ↔ ((value : ℕ) × P value)
      by None has = (λ e. absurd cc, λ p. let e = (has p.0).1 p.1 in absurd cc)
      by (Some v) has = (λ e. (v, (has v).0 refl), λ p. refl)

  no_some : (yes_if (is_some o) ≡ No) ↔ N
  no_some = by o none
    where
      by : (q : Option ℕ) → (q ≡ None) ↔ N → (yes_if (is_some q) ≡ No) ↔ N
      by None has = (λ e. has.0 refl, λ n. refl)
      by (Some v) has = (λ e. absurd cc, λ n. let e = has.1 n in absurd cc)

  yes_none : (yes_if (not (is_some o)) ≡ Yes) ↔ N
  yes_none = by o none
    where
      by : (q : Option ℕ) → (q ≡ None) ↔ N → (yes_if (not (is_some q)) ≡ Yes) ↔ N
      by None has = (λ e. has.0 refl, λ n. refl)
      by (Some v) has = (λ e. absurd cc, λ n. let e = has.1 n in absurd cc)

  no_none : (yes_if (not (is_some o)) ≡ No) ↔ ((value : ℕ) × P value)
  no_none = by o some
    where
      by : (q : Option ℕ) → ((v : ℕ) → (q ≡ Some v) ↔ P v) → (yes_if (not (is_some q)) ≡ No) ↔ ((value : ℕ) × P value)
      by None has = (λ e. absurd cc, λ p. let e = (has p.0).1 p.1 in absurd cc)
      by (Some v) has = (λ e. (v, (has v).0 refl), λ p. refl)

-- what a find and a swap tell
tells : (there : Contents) (ops : List Op) (key i : ℕ) → TellsValue there ops key i (found (final there (take i ops) key))
tells there ops key i =
    let h = present_keys there ops key i in
    let o = final there (take i ops) key in
    (finds o (HasValue there ops key i) (IsAbsent there ops key i) h.0 h.1, finds_none o (HasValue there ops key i) (IsAbsent there ops key i) h.0 h.1)

answers : (there : Contents) (ops : List Op) (i : ℕ) (op : Op) → GoesByPresence there ops i op (reply_of op (final there (take i ops)))
answers there ops i (Find key) = tells there ops key i
answers there ops i (Insert key value) =
    let h = present_keys there ops key i in
    let o = final there (take i ops) key in
    (yes_none o (HasValue there ops key i) (IsAbsent there ops key i) h.0 h.1, no_none o (HasValue there ops key i) (IsAbsent there ops key i) h.0 h.1)
answers there ops i (Delete key) =
    let h = present_keys there ops key i in
    let o = final there (take i ops) key in
    (yes_some o (HasValue there ops key i) (IsAbsent there ops key i) h.0 h.1, no_some o (HasValue there ops key i) (IsAbsent there ops key i) h.0 h.1)
answers there ops i (Swap key was value) = tells there ops key i

pub replies_by_presence : RepliesGoByPresence
replies_by_presence there ops i op e = (reply_of op (final there (take i ops)), reply_at there ops i op e, answers there ops i op)
