-- Memory refines its tree after a step call, if it did before.
use Rattle.std.proofs.Common.{◌≡◌, ◌≢◌, ◌⊎◌, ℕ, ◌+◌, ◌^◌, ◌<◌, ◌≤◌, ◌==◌, if◌then◌else◌, inl, inr, Bool, true, false, Some, None, List, [], ◌∷◌, length, get_or, set, refl, sym, ap, ◌∙◌, subst, ⊎_elim, arith, eqb-true, true≢false, get_or-set_same, get_or-set_other}
use Rattle.std.proofs.lemmas.Bool.{cases_eq}
use Rattle.ell_word.specs.Node.{generation_size}
use mathlib.Core.Option.{some}
use mathlib.Core.Option.{Option as Maybe}
use lib.ListN.{get_elem?}
use Rattle.atomic_table.proofs.Lists.{at_set}
use Rattle.ell_word.specs.Word.{packed, unpacked}
use Rattle.ell_word.specs.declared.update.Update.{Update}
use Rattle.ell_layout.specs.declared.field.Field.{Field}
use Rattle.ell_layout.specs.Layout.{address, table_size}
use Rattle.ell_layout.proofs.lemmas.Listed.{addresses_apart}
use Rattle.ell_core.specs.declared.fact.Fact.{Fact}
use Rattle.ell_core.specs.declared.fact.Fact.TheVariants as fact
use Rattle.ell_core.specs.history.Stages.{Stages}
use Rattle.ell_core.proofs.lemmas.outcomes.Decide.{some_not_none}
use Rattle.ell_runs.specs.declared.call.Call.{Call}
use Rattle.ell_runs.specs.declared.call.Call.TheVariants as call
use Rattle.ell_runs.specs.declared.call.NewNode.{NewNode}
use Rattle.ell_cards.specs.declared.view.Known.{Known}
use Rattle.ell_runs.specs.declared.view.Slots.{Slots}
use Rattle.ell_runs.specs.declared.view.View.{View}
use Rattle.ell_runs.specs.Calls.{word_of, atomic_of, left_by, after, May}
use Rattle.ell_cards.specs.Addresses.{slot_address, place_of}
use Rattle.ell_runs.specs.Changes.{after_claim, after_flag, after_mark, is_mark_of, with_fact, unmarking}
use Rattle.ell_runs.specs.Plans.{TablePlan}
use Rattle.ell_runs.specs.Views.{Has, latest, earlier}
use Rattle.ell_cards.specs.Epochs.{WholeState}
use Rattle.ell_runs.specs.Sayings.{says}
use Rattle.ell_cards.specs.Shown.{cut_field, cut_by}
use Rattle.ell_cards.specs.SlotWords.{slot_of}
use Rattle.ell_runs.specs.States.{TableState}
use Rattle.ell_runs.specs.Holding.{HoldsWaiting}
use Rattle.ell_cards.specs.Refinement.{LiesThere, HasWon, HasStored, HasStoredAll, IsKept, Refines, MayInMemory, FlagsCard}
use Rattle.ell_cards.specs.RefinementLaws.{card_touched, TouchesRefined}
use Rattle.ell_cards.specs.Refinement.IsKept.{won, stored}
use Rattle.ell_runs.specs.Touching.{touched_by}
use Rattle.ell_runs.specs.Turns.{found_by, view_after, state_after}
use Rattle.ell_runs.proofs.lemmas.runs.Met.{some_same}
use Rattle.ell_cards.proofs.lemmas.shown.CutWords.{cut_same}
use Rattle.ell_runs.proofs.lemmas.runs.Rests.{has_none}
use Rattle.ell_cards.proofs.lemmas.refinement.Touched.{spots, no_claim, no_flat}
use Rattle.ell_cards.proofs.lemmas.refinement.Winning.{flag_says}

-- a call fills this field
abbrev pub FillsField : Call → Field → Type 0
FillsField (call.Fill c g value) f = f ≡ g
FillsField _ f = ⊥

-- a card that a pass has in hand after a call, not flagged, it had so before, with what it had stored of it but for what the call
-- stores now; or the call has claimed it now, and nothing of it was stored
pub data WaitedBefore (c : Call) (n : ℕ) (v w : View) (d : ℕ) : Type 0 where
  before : HoldsWaiting v d → ((f : Field) → HasStored w f → HasStored v f ⊎ FillsField c f) → WaitedBefore c n v w d
  claimed : (q : NewNode) → c ≡ call.Claim d q → n ≡ d → w.stores ≡ [] → WaitedBefore c n v w d

-- where the pass has nothing in hand
none_waits : (c : Call) (n : ℕ) (v w : View) (d : ℕ) → w.worker.card ≡ None → HoldsWaiting w d → WaitedBefore c n v w d
none_waits c n v w d none h = absurd (some_not_none h.0 none)

same_waits : (c : Call) (n : ℕ) (v w : View) (d : ℕ) → w.worker.card ≡ v.worker.card → w.worker.flagged ≡ v.worker.flagged → w.stores ≡ v.stores → HoldsWaiting w d
    → WaitedBefore c n v w d
same_waits c n v w d card flagged stores h =
    before (sym card ∙ h.0, sym flagged ∙ h.1) (λ f has. inl (has.0, subst (λ es. Has es (f, has.0)) stores has.1))

flag_waits : (b : Bool) (new : Fact) (x : ℕ) (u : Update) (c : Call) (n : ℕ) (v w : View) (d : ℕ) → w.worker ≡ (after_flag b new x u v).worker → HoldsWaiting w d
    → WaitedBefore c n v w d
flag_waits true new x u c n v w d same h = absurd (true≢false (sym (ap (λ k. k.flagged) same) ∙ h.1))
flag_waits false new x u c n v w d same h = none_waits c n v w d (ap (λ k. k.card) same) h

mark_waits : (b : Bool) (e x : ℕ) (u : Update) (c : Call) (n : ℕ) (v w : View) (d : ℕ) → w.worker ≡ (after_mark b e x u v).worker → w.stores ≡ (after_mark b e x u v).stores
    → HoldsWaiting w d → WaitedBefore c n v w d
mark_waits true e x u c n v w d same stores h = same_waits c n v w d (ap (λ k. k.card) same) (ap (λ k. k.flagged) same) stores h
mark_waits false e x u c n v w d same stores h = by (is_mark_of e u.state u.card) same stores
  where
    by : (b : Bool) → w.worker ≡ (if b then with_fact (fact.Marked e) v else unmarking e x u v).worker
        → w.stores ≡ (if b then with_fact (fact.Marked e) v else unmarking e x u v).stores → WaitedBefore c n v w d
    by true same stores = same_waits c n v w d (ap (λ k. k.card) same) (ap (λ k. k.flagged) same) stores h
    by false same stores = same_waits c n v w d (ap (λ k. k.card) same) (ap (λ k. k.flagged) same) stores h

claim_waits : (b : Bool) (e : ℕ) (q : NewNode) (n : ℕ) → (n == e) ≡ b → (v w : View) (d : ℕ) → w.worker ≡ (after_claim b e q v).worker → w.stores ≡ (after_claim b e q v).stores
    → HoldsWaiting w d → WaitedBefore (call.Claim e q) n v w d
claim_waits true e q n is v w d same stores h =
    let at : e ≡ d = some_same (sym (ap (λ k. k.card) same) ∙ h.0) in
    claimed q (ap (λ x. call.Claim x q) at) (eqb-true n e is ∙ at) stores
claim_waits false e q n is v w d same stores h = same_waits (call.Claim e q) n v w d (ap (λ k. k.card) same) (ap (λ k. k.flagged) same) stores h

-- what was stored, with what is stored now
filled_more : (g : Field) (value : ℕ) (vs : List (Field × ℕ)) (e : Field × ℕ) → Has ((g, value) ∷ vs) e → Has vs e ⊎ (e.0 ≡ g)
filled_more g value vs e (latest _ _) = inr refl
filled_more g value vs e (earlier _ _ _ h) = inl h

fill_waits : (c : ℕ) (g : Field) (value n : ℕ) (v : View) (d : ℕ) → HoldsWaiting v d → WaitedBefore (call.Fill c g value) n v (after (call.Fill c g value) n v) d
fill_waits c g value n v d h =
    before h (λ f has. elim (filled_more g value v.stores (f, has.0) has.1) [ inl old ↦ inl (has.0, old) | inr is ↦ inr is ])

pub waited_before : (plan : TablePlan) (c : Call) (n : ℕ) (v : View) (d : ℕ) → HoldsWaiting (after c n v) d → WaitedBefore c n v (after c n v) d
waited_before plan (call.Begin op) n v d h = none_waits (call.Begin op) n v (after (call.Begin op) n v) d refl h
waited_before plan call.Again n v d h = none_waits call.Again n v (after call.Again n v) d refl h
waited_before plan call.Leave n v d h = none_waits call.Leave n v (after call.Leave n v) d refl h
waited_before plan (call.Answer said took) n v d h = none_waits (call.Answer said took) n v (after (call.Answer said took) n v) d refl h
waited_before plan call.Rest n v d h = none_waits call.Rest n v (after call.Rest n v) d refl h
waited_before plan (call.Claim e q) n v d h = claim_waits (n == e) e q n refl v (after (call.Claim e q) n v) d refl refl h
waited_before plan (call.Fill c g value) n v d h = fill_waits c g value n v d h
waited_before plan (call.IFlag c p from) n v d h =
    flag_waits (n == packed from) (fact.IFlagged c) p (unpacked n) (call.IFlag c p from) n v (after (call.IFlag c p from) n v) d refl h
waited_before plan (call.DFlag c gp from) n v d h =
    flag_waits (n == packed from) (fact.DFlagged c) gp (unpacked n) (call.DFlag c gp from) n v (after (call.DFlag c gp from) n v) d refl h
waited_before plan (call.Mark c p was) n v d h =
    mark_waits (n == was) c p (unpacked n) (call.Mark c p was) n v (after (call.Mark c p was) n v) d refl refl h
waited_before plan c n v d h = same_waits c n v (after c n v) d refl refl refl h

-- a card that a call flags is in hand, and all that it says was stored in its slot
flag_in_hand : (plan : TablePlan) (s : Slots) (c : Call) (k : Known) → May plan c k.tree → MayInMemory s k.participant.slot k.participant.retired k.tree c → (d : ℕ) → FlagsCard c d
    → HoldsWaiting k.tree d × (k.participant.slot ≡ Some d) × HasStoredAll k.tree (flag_says c)
flag_in_hand plan s (call.IFlag c p from) k may mem d is = ((may.may.holds ∙ ap Some (sym is), may.may.unflagged), mem.0 ∙ ap Some (sym is), mem.1)
flag_in_hand plan s (call.DFlag c gp from) k may mem d is = ((may.may.holds ∙ ap Some (sym is), may.may.unflagged), mem.0 ∙ ap Some (sym is), mem.1)
flag_in_hand plan s _ k may mem d is = absurd is

-- a card that a call fills is the one in hand
fill_place : (plan : TablePlan) (c : Call) (v : View) → May plan c v → (d : ℕ) (f : Field) → HoldsWaiting v d → FillsField c f → place_of c ≡ slot_address d f
fill_place plan (call.Fill c g value) v may d f h is = λ t. slot_address (some_same (sym may.holds ∙ h.0) t) (sym is t)
fill_place plan _ v may d f h is = absurd is

fill_taken : (plan : TablePlan) (s : Slots) (c : Call) (k : Known) → May plan c k.tree → MayInMemory s k.participant.slot k.participant.retired k.tree c → (d : ℕ) (f : Field) → HoldsWaiting k.tree d → FillsField c f
    → k.participant.slot ≡ Some d
fill_taken plan s (call.Fill c g value) k may mem d f h is = mem ∙ (sym may.holds ∙ h.0)
fill_taken plan s _ k may mem d f h is = absurd is

-- the claim word never falls
left_rises : (c : Call) (n : ℕ) → word_of c ≡ 0 → n ≤ left_by (atomic_of c) n
left_rises (call.Claim c q) n is = by (n == c) refl
  where
    by : (b : Bool) → (n == c) ≡ b → n ≤ (if b then c + 1 else n)
    by true e = let same = eqb-true n c e in omega arith
    by false e = omega arith
left_rises call.Next n is = omega arith
left_rises _ n is = absurd (omega arith)

-- what was set is read there
read_there : (l : List ℕ) (i j n : ℕ) → j ≡ i → i < length l → get_or (set l i n) j 0 ≡ n
read_there l i j n same fits = ap (λ x. get_or (set l i n) x 0) same ∙ get_or-set_same l i n 0 fits

module _ (plan : TablePlan) (s : Slots) (low : s.last < generation_size) (tree : TableState) (t : WholeState) (stage next : Stages) (lie : ℕ → ℕ) (dead : ℕ → Bool) (was_dead : ℕ → ℕ → Bool)
    (refines : Refines s tree t stage lie dead was_dead) (id : ℕ) (k : Known) (here : get_elem? t.views id ≡ some k) (c : Call) (may : May plan c k.tree) (mem : MayInMemory s k.participant.slot k.participant.retired k.tree c)
    (touch : TouchesRefined s lie t.words tree c) (room : table_size s.last ≤ length t.words) (fits : word_of c < length tree.words)
    (small : get_or (set tree.words (word_of c) (left_by (atomic_of c) (found_by tree c))) 0 0 < 2 ^ 64)
    (wins : (d : ℕ) → HasWon next d → HasWon stage d ⊎ FlagsCard c d)
    (kinds : (d : ℕ) (f : Field) → HasWon stage d → says (next d) f ≡ true → says (stage d) f ≡ true)
    (flagged : (d : ℕ) (f : Field) → FlagsCard c d → says (next d) f ≡ true → flag_says c f ≡ true) (n : ℕ) (is : n ≡ cut_by c (left_by (atomic_of c) (found_by tree c))) where
  abbrev d : ℕ
  d = card_touched (touched_by c)

  abbrev left : ℕ
  left = left_by (atomic_of c) (found_by tree c)

  abbrev words : List ℕ
  words = set t.words (place_of c) n

  abbrev leaves : List ℕ
  leaves = set tree.words (word_of c) left

  abbrev knows : Known
  knows = record k { tree = view_after tree k.tree c }

  abbrev views : List Known
  views = set t.views id knows

  place_fits : place_of c < length t.words
  place_fits = let inside = touch.inside in omega arith

  -- the first two words
  claim_on : get_or words 0 0 ≡ get_or leaves 0 0
  claim_on = elim (spots c) [
    | inl at ↦
        let there = read_there tree.words (word_of c) 0 left (sym at.1) fits in
        read_there t.words (place_of c) 0 n (sym at.2) place_fits ∙ (is ∙ (at.3 left ∙ (cut_same left (subst (λ x. x < 2 ^ 64) there small) ∙ sym there)))
    | inr at ↦
        get_or-set_other t.words (place_of c) 0 n 0 (λ e. no_claim (slot_of d) at.0 (sym at.2 ∙ sym e))
        ∙ (refines.claim ∙ sym (get_or-set_other tree.words (word_of c) 0 left 0 (λ e. no_claim d at.0 (sym at.1 ∙ sym e))))
  ]

  flat_on : get_or words 1 0 ≡ get_or leaves 1 0
  flat_on =
      get_or-set_other t.words (place_of c) 1 n 0 apart ∙ (refines.flat ∙ sym (get_or-set_other tree.words (word_of c) 1 left 0 apart'))
    where
      apart : 1 ≢ place_of c
      apart e = elim (spots c) [
        | inl at ↦ (let zero = at.2 in absurd (omega arith))
        | inr at ↦ no_flat (slot_of d) at.0 (sym at.2 ∙ sym e)
      ]

      apart' : 1 ≢ word_of c
      apart' e = elim (spots c) [
        | inl at ↦ (let zero = at.1 in absurd (omega arith))
        | inr at ↦ no_flat d at.0 (sym at.1 ∙ sym e)
      ]

  -- the claim word of the tree never falls
  rises : get_or tree.words 0 0 ≤ get_or leaves 0 0
  rises = elim (spots c) [
    | inl at ↦
        let there = read_there tree.words (word_of c) 0 left (sym at.1) fits in
        let more = left_rises c (found_by tree c) at.1 in
        let was : found_by tree c ≡ get_or tree.words 0 0 = ap (λ i. get_or tree.words i 0) at.1 in
        omega arith
    | inr at ↦ (let same = get_or-set_other tree.words (word_of c) 0 left 0 (λ e. no_claim d at.0 (sym at.1 ∙ sym e)) in omega arith)
  ]

  -- the card whose flag the call wins lies in its slot
  hand_lies : (e : ℕ) → FlagsCard c e → LiesThere s lie e
  hand_lies e flags = let hand = flag_in_hand plan s c k may mem e flags in refines.hand id e k here hand.1 hand.0

  -- what is kept after the call was kept before it, but for what the call stores
  kept_before : (e : ℕ) (f : Field) → IsKept next views e f → IsKept stage t.views e f ⊎ (place_of c ≡ slot_address e f)
  kept_before e f (won has said) = elim (wins e has) [
    | inl had ↦ inl (won had (kinds e f had said))
    | inr flags ↦ (let hand = flag_in_hand plan s c k may mem e flags in inl (stored id k here hand.0 (hand.2 f (flagged e f flags said))))
  ]
  kept_before e f (stored seat u at waits has) = ⊎_elim
      (λ (q : (seat ≡ id) × (knows ≡ u)). mine (subst (λ (x : Known). HoldsWaiting x.tree e) (sym q.1) waits) (subst (λ (x : Known). HasStored x.tree f) (sym q.1) has))
      (λ (q : (seat ≢ id) × (get_elem? t.views seat ≡ some u)). inl (stored seat u q.1 waits has))
      (at_set t.views id seat knows u at)
    where
      mine : HoldsWaiting knows.tree e → HasStored knows.tree f → IsKept stage t.views e f ⊎ (place_of c ≡ slot_address e f)
      mine waits has = elim (waited_before plan c (found_by tree c) k.tree e waits) [
        | before had more ↦ elim (more f has) [
          | inl old ↦ inl (stored id k here had old)
          | inr fills ↦ inr (fill_place plan c k.tree may e f had fills)
        ]
        | claimed q claims found none ↦ absurd (has_none (f, has.0) (subst (λ es. Has es (f, has.0)) none has.1))
      ]

  -- the words of a card that lies in a slot
  at_card : (slot : ℕ) (f : Field) → slot ≤ s.last → IsKept next views (lie slot) f
      → get_or words (address slot f) 0 ≡ cut_field f (get_or leaves (address (lie slot) f) 0)
  at_card slot f inside kept = elim (cases_eq (address slot f) (place_of c)) [
    | inl same ↦ touched same
    | inr other ↦ elsewhere other
  ]
    where
      e : ℕ
      e = lie slot

      there : slot_of e ≡ slot
      there = refines.own slot inside

      touched : address slot f ≡ place_of c → get_or words (address slot f) 0 ≡ cut_field f (get_or leaves (address e f) 0)
      touched same = elim (spots c) [
        | inl at ↦ absurd (no_claim slot f (same ∙ at.2))
        | inr at ↦
            let apart = addresses_apart slot (slot_of d) f at.0 (same ∙ at.2) in
            let lies : e ≡ d = ap lie apart.0 ∙ touch.lies.1 in
            let word : address e f ≡ word_of c = (λ i. address (lies i) (apart.1 i)) ∙ sym at.1 in
            read_there t.words (place_of c) (address slot f) n same place_fits
            ∙ (is ∙ (at.4 left ∙ ((λ i. cut_field (sym apart.1 i) left) ∙ ap (cut_field f) (sym (read_there tree.words (word_of c) (address e f) left word fits)))))
      ]

      elsewhere : address slot f ≢ place_of c → get_or words (address slot f) 0 ≡ cut_field f (get_or leaves (address e f) 0)
      elsewhere other = elim (kept_before e f kept) [
        | inl had ↦
            get_or-set_other t.words (place_of c) (address slot f) n 0 other
            ∙ (refines.at slot f inside had ∙ ap (cut_field f) (sym (get_or-set_other tree.words (word_of c) (address e f) left 0 apart)))
        | inr stores ↦ absurd (other (ap (λ x. address x f) (sym there) ∙ sym stores))
      ]
        where
          apart : address e f ≢ word_of c
          apart same = elim (spots c) [
            | inl at ↦ no_claim e f (same ∙ at.1)
            | inr at ↦
                let both = addresses_apart e d f at.0 (same ∙ at.1) in
                other ((λ i. address ((sym there ∙ ap slot_of both.0) i) (both.1 i)) ∙ sym at.2)
          ]

  pub refinement_after_call : (homes : List (Maybe (Unit {0})))
      → Refines s (state_after tree id k.tree c) (record { words = words; homes = homes; views = views }) next lie dead was_dead
  refinement_after_call homes = record {
    claim = claim_on;
    flat = flat_on;
    root = refines.root;
    own = refines.own;
    at = at_card;
    alive = λ e has lives. elim (wins e has) [ inl had ↦ refines.alive e had lives | inr flags ↦ hand_lies e flags ];
    lives = λ seat q a e u at placed an has alive. elim (wins e has) [
      | inl had ↦ ⊎_elim
          (λ (w : (seat ≡ id) × (knows ≡ u)). refines.lives id q a e k here (ap (λ (x : Known). x.participant.announcement) w.1 ∙ placed) (ap (λ (x : Known). x.participant.announced) w.1 ∙ an) had alive)
          (λ (w : (seat ≢ id) × (get_elem? t.views seat ≡ some u)). refines.lives seat q a e u w.1 placed an had alive)
          (at_set t.views id seat knows u at)
      | inr flags ↦ hand_lies e flags
    ];
    fits = λ e has. elim (wins e has) [
      | inl had ↦ refines.fits e had
      | inr flags ↦ refines.slotted id e k here (flag_in_hand plan s c k may mem e flags).1
    ];
    hand = λ seat e u at slot waits. ⊎_elim
        (λ (w : (seat ≡ id) × (knows ≡ u)). mine e (ap (λ (x : Known). x.participant.slot) w.1 ∙ slot) (subst (λ (x : Known). HoldsWaiting x.tree e) (sym w.1) waits))
        (λ (w : (seat ≢ id) × (get_elem? t.views seat ≡ some u)). refines.hand seat e u w.1 slot waits)
        (at_set t.views id seat knows u at);
    slotted = λ seat e u at slot. ⊎_elim
        (λ (w : (seat ≡ id) × (knows ≡ u)). refines.slotted id e k here (ap (λ (x : Known). x.participant.slot) w.1 ∙ slot))
        (λ (w : (seat ≢ id) × (get_elem? t.views seat ≡ some u)). refines.slotted seat e u w.1 slot)
        (at_set t.views id seat knows u at);
    past = λ seat e u at slot.
        let was : e < get_or t.words 0 0 = ⊎_elim
        (λ (w : (seat ≡ id) × (knows ≡ u)). refines.past id e k here (ap (λ (x : Known). x.participant.slot) w.1 ∙ slot))
        (λ (w : (seat ≢ id) × (get_elem? t.views seat ≡ some u)). refines.past seat e u w.1 slot)
        (at_set t.views id seat knows u at) in
        let same = refines.claim in
        let now = claim_on in
        let more = rises in
        omega arith;
    stores = λ seat e f u at waits has. ⊎_elim
        (λ (w : (seat ≡ id) × (knows ≡ u)). subst (λ (x : Known). x.participant.slot ≡ Some e) w.1
        (taken e f (subst (λ (x : Known). HoldsWaiting x.tree e) (sym w.1) waits) (subst (λ (x : Known). HasStored x.tree f) (sym w.1) has)))
        (λ (w : (seat ≢ id) × (get_elem? t.views seat ≡ some u)). refines.stores seat e f u w.1 waits has)
        (at_set t.views id seat knows u at);
  }
    where
      taken : (e : ℕ) (f : Field) → HoldsWaiting knows.tree e → HasStored knows.tree f → k.participant.slot ≡ Some e
      taken e f waits has = elim (waited_before plan c (found_by tree c) k.tree e waits) [
        | before had more ↦ elim (more f has) [
          | inl old ↦ refines.stores id e f k here had old
          | inr fills ↦ fill_taken plan s c k may mem e f had fills
        ]
        | claimed q claims found none ↦ absurd (has_none (f, has.0) (subst (λ es. Has es (f, has.0)) none has.1))
      ]

      mine : (e : ℕ) → k.participant.slot ≡ Some e → HoldsWaiting knows.tree e → LiesThere s lie e
      mine e slot waits = elim (waited_before plan c (found_by tree c) k.tree e waits) [
        | before had more ↦ refines.hand id e k here slot had
        | claimed q claims found none ↦
            let past = refines.past id e k here slot in
            let same = refines.claim in
            let at : found_by tree c ≡ get_or tree.words 0 0 = ap (found_by tree) claims in
            absurd (omega arith)
      ]
