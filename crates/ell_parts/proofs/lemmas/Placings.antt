use Rattle.std.proofs.Common.{◌≡◌, ℕ, ◌+◌, ◌<◌, ◌≤◌, Bool, true, false, List, [], ◌∷◌, ◌++◌, Some, length, get_or, set, take, drop, arith, refl, ap, sym, subst, ◌∙◌, ⊎_elim, length-set, append_assoc, take-append-drop}
use Rattle.std.specs.List.{Contains, flat_map}
use Rattle.std.specs.Prelude.{slice_get}
use Rattle.std.proofs.lemmas.Bool.{cases_eq}
use Rattle.std.proofs.lemmas.Grind.{flat_map-append}
use Rattle.std.proofs.lemmas.List.{append-nil, drop_all, drop_more, take_all}
use Rattle.std.proofs.lemmas.List.Elements.{Contains-append_left, Contains-append_right}
use Rattle.std.proofs.lemmas.Option.{slice_get-get_or, slice_get_within, slice_get_read}
use Rattle.ell_ops.specs.declared.reply.Reply.{Reply}
use Rattle.ell_parts.specs.declared.gathering.GatherFault.TheVariants.{Stranger, Doubled, Missing}
use Rattle.ell_parts.specs.Gathering.{IsFor, NoneFor, AreSound, IsGathered, IsFault, IsPlaced}
use Rattle.ell_ops.proofs.lemmas.Places.{slice_get-push_cases, slice_get-append, slice_get-seam, slice_get-set_same, slice_get-set_other}

-- an item stays where it is when more come behind it
for_kept : (items rest : List (ℕ × Reply)) (j at : ℕ) → IsFor items j at → IsFor (items ++ rest) j at
for_kept items rest j at h = (h.0, slice_get-append items rest j (slice_get_within items j (at, h.0) h.1) ∙ h.1)

for_back : (items rest : List (ℕ × Reply)) (j at : ℕ) → j < length items → IsFor (items ++ rest) j at → IsFor items j at
for_back items rest j at below h = (h.0, sym (slice_get-append items rest j below) ∙ h.1)

none_kept : (items rest : List (ℕ × Reply)) (j at : ℕ) → j ≤ length items → NoneFor items j at → NoneFor (items ++ rest) j at
none_kept items rest j at within none k below h = none k below (for_back items rest k at (omega arith) h)

sound_kept : (n : ℕ) (items rest : List (ℕ × Reply)) → AreSound n items (length items) → AreSound n (items ++ rest) (length items)
sound_kept n items rest sound k at below h =
    let old = sound k at below (for_back items rest k at below h) in
    (old.0, none_kept items rest k at (omega arith) old.1)

-- what contains an item has a place for it
for_contained : (items : List (ℕ × Reply)) (at : ℕ) (reply : Reply) → Contains items (at, reply) → (k : ℕ) × (k < length items) × IsFor items k at
for_contained items at reply h = (h.0, h.1, (reply, slice_get_read items (length items) h.0 (at, reply) refl h.1 (sym h.2)))

-- one more item, for a position that no item before it is for
pub IsPlaced-push : (items : List (ℕ × Reply)) (answered : List Bool) (replies : List Reply) (at : ℕ) (reply : Reply) → IsPlaced items answered replies →
    length answered ≡ length replies → at < length answered → slice_get answered at ≡ Some false →
    IsPlaced (items ++ (at, reply) ∷ []) (set answered at true) (set replies at reply)
IsPlaced-push items answered replies at reply placed same below fresh = record {
  sound = λ k position before h. ⊎_elim
      (λ old. let within = slice_get_within items k (position, h.0) old in let s = placed.sound k position within (h.0, old) in
      (rw (length-set answered at true) s.0, none_kept items ((at, reply) ∷ []) k position (omega arith) s.1))
      (λ new. let here : at ≡ position = ap (λ item. item.0) new.1 in (
        rw (length-set answered at true) (subst (λ p. p < length answered) here below),
        none_kept items ((at, reply) ∷ []) k position (omega (arith, new.0))
            (subst (λ p. NoneFor items k p) here (subst (λ j. NoneFor items j at) (sym new.0) (placed.untold at fresh))),
      ))
      (slice_get-push_cases items (at, reply) k (position, h.0) h.1);
  told = λ position e. ⊎_elim
      (λ here. (
        reply,
        subst (λ p. slice_get (set replies at reply) p ≡ Some reply) (sym here) (slice_get-set_same replies at reply (omega arith)),
        Contains-append_right items ((at, reply) ∷ []) (position, reply) (0, omega arith, ap (λ p. (p, reply)) (sym here)),
      ))
      (λ other. let h = placed.told position (sym (slice_get-set_other answered at position true other) ∙ e) in
      (h.0, slice_get-set_other replies at position reply other ∙ h.1, Contains-append_left items ((at, reply) ∷ []) (position, h.0) h.2))
      (cases_eq position at);
  untold = λ position e. ⊎_elim
      (λ here. absurd (let answer = slice_get-set_same answered at true below in let fresh_still = subst (λ p. slice_get (set answered at true) p ≡ Some false) here e in cc))
      (λ other. λ k before h. ⊎_elim
      (λ old. placed.untold position (sym (slice_get-set_other answered at position true other) ∙ e) k (slice_get_within items k (position, h.0) old) (h.0, old))
      (λ new. other (sym (ap (λ item. item.0) new.1)))
      (slice_get-push_cases items (at, reply) k (position, h.0) h.1))
      (cases_eq position at);
}

-- the item behind those that are placed is for no position, or for one that is answered
pub is_stranger : (n : ℕ) (items rest : List (ℕ × Reply)) (answered : List Bool) (replies : List Reply) (item : ℕ × Reply) → IsPlaced items answered replies →
    length answered ≡ n → n ≤ item.0 → IsFault n (items ++ item ∷ rest) (Stranger item.0)
is_stranger n items rest answered replies item placed count past = (
  length items,
  (item.1, slice_get-seam items item rest),
  subst (λ m. AreSound m (items ++ item ∷ rest) (length items)) count
      (sound_kept (length answered) items (item ∷ rest) placed.sound),
  past,
)

pub is_doubled : (n : ℕ) (items rest : List (ℕ × Reply)) (answered : List Bool) (replies : List Reply) (item : ℕ × Reply) → IsPlaced items answered replies →
    length answered ≡ n → item.0 < n → get_or answered item.0 false ≡ true → IsFault n (items ++ item ∷ rest) (Doubled item.0)
is_doubled n items rest answered replies item placed count below answer =
    let within : item.0 < length answered = omega arith in
    let first = placed.told item.0 (slice_get-get_or answered item.0 false within ∙ ap Some answer) in
    let place = for_contained items item.0 first.0 first.2 in (
      length items,
      place.0,
      (item.1, slice_get-seam items item rest),
      subst (λ m. AreSound m (items ++ item ∷ rest) (length items)) count (sound_kept (length answered) items (item ∷ rest) placed.sound),
      below,
      place.1,
      for_kept items (item ∷ rest) place.0 item.0 place.2,
    )

-- the list of the items, cut at one of them
pub items-cut : (before piece after : List (ℕ × Reply)) (i : ℕ) (d : ℕ × Reply) → i < length piece →
    (before ++ piece) ++ after ≡ (before ++ take i piece) ++ (get_or piece i d ∷ (drop (i + 1) piece ++ after))
items-cut before piece after i d below =
    ap (λ p. (before ++ p) ++ after) (sym (take-append-drop i piece) ∙ ap (λ p. take i piece ++ p) (drop_more piece i d below)) ∙ simp append_assoc

-- and the list of the pieces' items, cut round one piece
pub pieces-cut : {V : Type 0} (items : V → List (ℕ × Reply)) (pieces : List V) (i : ℕ) (d : V) → i < length pieces →
    flat_map items pieces ≡ (flat_map items (take i pieces) ++ items (get_or pieces i d)) ++ flat_map items (drop (i + 1) pieces)
pieces-cut items pieces i d below =
    ap (flat_map items) (sym (take-append-drop i pieces) ∙ ap (λ p. take i pieces ++ p) (drop_more pieces i d below))
    ∙ flat_map-append items (take i pieces) (get_or pieces i d ∷ drop (i + 1) pieces)
    ∙ sym (append_assoc (flat_map items (take i pieces)) (items (get_or pieces i d)) (flat_map items (drop (i + 1) pieces)))

-- all of a list, written over all of another
pub take-written : {X : Type 0} (n : ℕ) (new old : List X) → length new ≡ n → length old ≡ n → take n (new ++ drop (length new) old) ≡ new
take-written n new old count was =
    ap (λ rest. take n (new ++ rest)) (drop_all (length new) old (omega arith)) ∙ ap (take n) (append-nil new) ∙ take_all n new (omega arith)

-- a position that is not answered
pub is_missing : (n : ℕ) (items : List (ℕ × Reply)) (answered : List Bool) (replies : List Reply) (at : ℕ) → IsPlaced items answered replies → length answered ≡ n → at < n →
    get_or answered at true ≡ false → ((k : ℕ) → k < at → get_or answered k false ≡ true) → IsFault n items (Missing at)
is_missing n items answered replies at placed count below fresh all =
    let within : at < length answered = omega arith in (
      subst (λ m. AreSound m items (length items)) count placed.sound,
      below,
      placed.untold at (slice_get-get_or answered at true within ∙ ap Some fresh),
      λ position early. let inside : position < length answered = omega arith in
          let h = placed.told position (slice_get-get_or answered position false inside ∙ ap Some (all position early)) in
          let place = for_contained items position h.0 h.2 in (place.0, place.2),
    )

-- all positions answered
pub is_gathered : (n : ℕ) (items : List (ℕ × Reply)) (answered : List Bool) (replies : List Reply) → IsPlaced items answered replies → length answered ≡ n → length replies ≡ n →
    ((k : ℕ) → k < n → get_or answered k false ≡ true) → IsGathered n items replies
is_gathered n items answered replies placed count same all = record {
  count = same;
  sound = subst (λ m. AreSound m items (length items)) count placed.sound;
  each = λ position reply e.
      let within = slice_get_within replies position reply e in
      let below : position < n = omega arith in
      let inside : position < length answered = omega arith in
      let h = placed.told position (slice_get-get_or answered position false inside ∙ ap Some (all position below)) in
      let one : h.0 ≡ reply = let both : Some h.0 ≡ Some reply = sym h.1 ∙ e in cc in
      subst (λ r. Contains items (position, r)) one h.2;
}
