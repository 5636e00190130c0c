-- Memory refines its tree still where a pass takes a slot for its card in hand, in which a card lies that is dead, and
-- was dead for each pass that is pinned.
use Rattle.std.proofs.Common.{◌≡◌, ◌≢◌, ◌<◌, ◌≤◌, ℕ, inl, inr, Bool, true, false, Some, List, length, get_or, set, sym, ap, ◌∙◌, subst, ⊎_elim, arith, true≢false, get_or-set_other}
use Rattle.std.proofs.lemmas.Bool.{cases_eq}
use Rattle.ell_word.specs.Node.{generation_size}
use mathlib.Core.Option.{some, some-injective}
use mathlib.Core.Option.{Option as Maybe}
use lib.ListN.{get_elem?}
use Rattle.atomic_table.proofs.Lists.{at_set}
use Rattle.ell_layout.specs.declared.field.Field.{Field}
use Rattle.ell_layout.specs.Layout.{address, table_size}
use Rattle.ell_layout.specs.Words.{put}
use Rattle.ell_layout.proofs.lemmas.Writes.{put_same, put_other}
use Rattle.ell_layout.proofs.lemmas.Listed.{address_in_table}
use Rattle.ell_core.specs.history.Stages.{Stages}
use Rattle.ell_cards.specs.declared.view.Known.{Known}
use Rattle.ell_cards.specs.declared.view.Participant.{Participant}
use Rattle.ell_runs.specs.declared.view.Slots.{Slots}
use Rattle.ell_cards.specs.Epochs.{WholeState, slot_word}
use Rattle.ell_cards.specs.Shown.{cut_field}
use Rattle.ell_cards.specs.SlotWords.{has_slot_in, slot_of, generation_of, taken_word}
use Rattle.ell_runs.specs.States.{TableState}
use Rattle.ell_runs.specs.Holding.{HoldsWaiting}
use Rattle.ell_cards.specs.Refinement.{LiesThere, HasWon, HasStored, IsKept, Refines}
use Rattle.ell_cards.specs.Refinement.IsKept.{won, stored}
use Rattle.ell_runs.proofs.lemmas.runs.Met.{some_same}
use Rattle.ell_cards.proofs.lemmas.whole.Seats.{before_epoch, epoch_before_slots}
use Rattle.ell_cards.proofs.lemmas.refinement.Epochs.{kept_of_participant}

module _ (s : Slots) (low : s.last < generation_size) (tree : TableState) (t : WholeState) (stage : Stages) (lie : ℕ → ℕ) (dead : ℕ → Bool) (was_dead : ℕ → ℕ → Bool)
    (refines : Refines s tree t stage lie dead was_dead) (id : ℕ) (k : Known) (here : get_elem? t.views id ≡ some k)
    (c : ℕ) (inside : slot_of c ≤ s.last) (numbered : has_slot_in s.last c ≡ true) (waits : HoldsWaiting k.tree c) (unwon : ¬ HasWon stage c) (claimed : c < get_or t.words 0 0)
    (p : Participant) (announcement : p.announcement ≡ k.participant.announcement) (announced : p.announced ≡ k.participant.announced) (taken : p.slot ≡ Some c)
    (room : slot_word s (slot_of c) < length t.words) (gone : dead (lie (slot_of c)) ≡ true)
    (was_gone : (seat q a : ℕ) (u : Known) → get_elem? t.views seat ≡ some u → u.participant.announcement ≡ Some q → u.participant.announced ≡ Some a
    → was_dead q (lie (slot_of c)) ≡ true)
    (root : dead 0 ≡ false) (hands : (seat d : ℕ) (u : Known) → get_elem? t.views seat ≡ some u → HoldsWaiting u.tree d → dead d ≡ false)
    (one : (seat : ℕ) (u : Known) → get_elem? t.views seat ≡ some u → u.tree.worker.card ≡ Some c → seat ≡ id) where
  abbrev slot : ℕ
  slot = slot_of c

  abbrev old : ℕ
  old = lie slot

  abbrev lie' : ℕ → ℕ
  lie' = put lie slot c

  abbrev words : List ℕ
  words = set t.words (slot_word s slot) (taken_word (generation_of c))

  abbrev now : Known
  now = record k { participant = p }

  -- the words of slots beside the slot's own are as they were
  slots_stay : (i : ℕ) → i < table_size s.last → get_or words i 0 ≡ get_or t.words i 0
  slots_stay i below = get_or-set_other t.words (slot_word s slot) i (taken_word (generation_of c)) 0
      (λ e. (let before = before_epoch s i below in let behind = epoch_before_slots s slot in omega arith))

  card_now : lie' slot ≡ c
  card_now = put_same lie slot c

  card_else : (other : ℕ) → other ≢ slot → lie' other ≡ lie other
  card_else other apart = put_other lie slot c other apart

  -- so each card lies where it lay, but for that which is dead
  lies_on : (d : ℕ) → d ≢ old → LiesThere s lie d → LiesThere s lie' d
  lies_on d other lies = (lies.0, card_else (slot_of d) (λ e. other (sym lies.1 ∙ ap lie e)) ∙ lies.1)

  alive_not : (d : ℕ) → dead d ≡ false → d ≢ old
  alive_not d lives e = true≢false (sym gone ∙ (ap dead (sym e) ∙ lives))

  -- the pass had taken no slot for its card
  untaken : k.participant.slot ≢ Some c
  untaken has = alive_not c (hands id c k here waits) (sym (refines.hand id c k here has waits).1)

  -- so nothing of it is kept
  none_kept : (f : Field) → IsKept stage (set t.views id now) c f → ⊥
  none_kept f kept = by (kept_of_participant stage t.views id k here k.sight p c f kept)
    where
      by : IsKept stage t.views c f → ⊥
      by (won has said) = unwon has
      by (stored seat u at waits' has) =
          let same = one seat u at waits'.0 in
          untaken (own u (ap (get_elem? t.views) (sym same) ∙ at) waits' has)
        where
          own : (u : Known) → get_elem? t.views id ≡ some u → HoldsWaiting u.tree c → HasStored u.tree f → k.participant.slot ≡ Some c
          own u at waits' has = refines.stores id c f k here waits (subst (λ (x : Known). HasStored x.tree f) (some-injective u k (sym at ∙ here)) has)

  at_slot : (other : ℕ) (f : Field) → other ≤ s.last → IsKept stage (set t.views id now) (lie' other) f
      → get_or words (address other f) 0 ≡ cut_field f (get_or tree.words (address (lie' other) f) 0)
  at_slot other f below kept = elim (cases_eq other slot) [
    | inl same ↦ absurd (none_kept f (subst (λ e. IsKept stage (set t.views id now) e f) (ap lie' same ∙ card_now) kept))
    | inr apart ↦
        let is = card_else other apart in
        slots_stay (address other f) (address_in_table s.last other f below).1
        ∙ (refines.at other f below (subst (λ e. IsKept stage t.views e f) is (kept_of_participant stage t.views id k here k.sight p (lie' other) f kept))
        ∙ ap (λ e. cut_field f (get_or tree.words (address e f) 0)) (sym is))
  ]

  lives_not : (seat q a d : ℕ) (u : Known) → get_elem? t.views seat ≡ some u → u.participant.announcement ≡ Some q → u.participant.announced ≡ Some a → was_dead q d ≡ false → d ≢ old
  lives_not seat q a d u at placed an lives e = true≢false (sym (was_gone seat q a u at placed an) ∙ (ap (was_dead q) (sym e) ∙ lives))

  -- the card in hand lies in the slot
  lies_now : LiesThere s lie' c
  lies_now = (inside, card_now)

  pub refinement_of_taken : (homes : List (Maybe (Unit {0}))) → Refines s tree (record { words = words; homes = homes; views = set t.views id now }) stage lie' dead was_dead
  refinement_of_taken homes = record {
    claim = slots_stay 0 (omega arith) ∙ refines.claim;
    flat = slots_stay 1 (omega arith) ∙ refines.flat;
    root = card_else 0 (λ e. alive_not 0 root (sym refines.root ∙ ap lie e)) ∙ refines.root;
    own = λ other below. elim (cases_eq other slot) [
      | inl same ↦ ap slot_of (ap lie' same ∙ card_now) ∙ sym same
      | inr apart ↦ ap slot_of (card_else other apart) ∙ refines.own other below
    ];
    at = at_slot;
    alive = λ d has lives. lies_on d (alive_not d lives) (refines.alive d has lives);
    lives = λ seat q a d u at placed an has lives. ⊎_elim
        (λ (e : (seat ≡ id) × (now ≡ u)).
        let placed' = sym announcement ∙ (ap (λ (x : Known). x.participant.announcement) e.1 ∙ placed) in
        let an' = sym announced ∙ (ap (λ (x : Known). x.participant.announced) e.1 ∙ an) in
        lies_on d (lives_not id q a d k here placed' an' lives) (refines.lives id q a d k here placed' an' has lives))
        (λ (e : (seat ≢ id) × (get_elem? t.views seat ≡ some u)). lies_on d (lives_not seat q a d u e.1 placed an lives) (refines.lives seat q a d u e.1 placed an has lives))
        (at_set t.views id seat now u at);
    fits = refines.fits;
    hand = λ seat d u at slot waits. ⊎_elim
        (λ (e : (seat ≡ id) × (now ≡ u)). subst (LiesThere s lie') (some_same (sym taken ∙ (ap (λ (x : Known). x.participant.slot) e.1 ∙ slot))) lies_now)
        (λ (e : (seat ≢ id) × (get_elem? t.views seat ≡ some u)). lies_on d (alive_not d (hands seat d u e.1 waits)) (refines.hand seat d u e.1 slot waits))
        (at_set t.views id seat now u at);
    slotted = λ seat d u at slot. ⊎_elim
        (λ (e : (seat ≡ id) × (now ≡ u)). subst (λ x. has_slot_in s.last x ≡ true) (some_same (sym taken ∙ (ap (λ (x : Known). x.participant.slot) e.1 ∙ slot))) numbered)
        (λ (e : (seat ≢ id) × (get_elem? t.views seat ≡ some u)). refines.slotted seat d u e.1 slot)
        (at_set t.views id seat now u at);
    past = λ seat d u at slot. subst (λ n. d < n) (sym (slots_stay 0 (omega arith))) (⊎_elim
        (λ (e : (seat ≡ id) × (now ≡ u)). subst (λ x. x < get_or t.words 0 0) (some_same (sym taken ∙ (ap (λ (x : Known). x.participant.slot) e.1 ∙ slot))) claimed)
        (λ (e : (seat ≢ id) × (get_elem? t.views seat ≡ some u)). refines.past seat d u e.1 slot)
        (at_set t.views id seat now u at));
    stores = λ seat d f u at waits' has. ⊎_elim
        (λ (e : (seat ≡ id) × (now ≡ u)). sym (ap (λ (x : Known). x.participant.slot) e.1) ∙ (taken
        ∙ (sym waits.0 ∙ (ap (λ (x : Known). x.tree.worker.card) e.1 ∙ waits'.0))))
        (λ (e : (seat ≢ id) × (get_elem? t.views seat ≡ some u)). refines.stores seat d f u e.1 waits' has)
        (at_set t.views id seat now u at);
  }
