-- Memory refines its tree still where passes come to know something else, while the words of slots are as they were.
use Rattle.std.proofs.Common.{◌≡◌, ◌<◌, ◌≤◌, ℕ, Bool, false, Some, None, true, List, get_or, sym, ap, ◌∙◌, subst, arith}
use Rattle.ell_word.specs.Node.{generation_size}
use mathlib.Core.Option.{some}
use mathlib.Core.Option.{Option as Maybe}
use lib.ListN.{get_elem?}
use Rattle.ell_layout.specs.declared.field.Field.{Field}
use Rattle.ell_layout.specs.Layout.{address, table_size}
use Rattle.ell_layout.proofs.lemmas.Listed.{address_in_table}
use Rattle.ell_core.specs.history.Stages.{Stages}
use Rattle.ell_core.proofs.lemmas.outcomes.Decide.{some_not_none}
use Rattle.ell_cards.specs.declared.view.Known.{Known}
use Rattle.ell_runs.specs.declared.view.Slots.{Slots}
use Rattle.ell_cards.specs.Epochs.{WholeState}
use Rattle.ell_runs.specs.Sayings.{says}
use Rattle.ell_cards.specs.Shown.{cut_field}
use Rattle.ell_cards.specs.SlotWords.{has_slot_in}
use Rattle.ell_runs.specs.States.{TableState}
use Rattle.ell_runs.specs.Holding.{HoldsWaiting}
use Rattle.ell_cards.specs.Refinement.{LiesThere, HasWon, HasStored, IsKept, Refines}
use Rattle.ell_cards.specs.Refinement.IsKept.{won, stored}

-- What a pass in a seat knows after a step that is no call. It is what it knew; or it has the same card in hand as the pass there, with
-- no more stored of it, and announces what that announces; or it has no card in hand, and announces what some pass announces, or nothing.
pub data StaysSo (views : List Known) (seat : ℕ) (u : Known) : Type 0 where
  same : get_elem? views seat ≡ some u → StaysSo views seat u
  goes_on : (k : Known) → get_elem? views seat ≡ some k → u.tree ≡ k.tree → u.participant.announcement ≡ k.participant.announcement → u.participant.announced ≡ k.participant.announced
      → u.participant.slot ≡ k.participant.slot → StaysSo views seat u
  idle : u.tree.worker.card ≡ None → (other : ℕ) (k : Known) → get_elem? views other ≡ some k → u.participant.announcement ≡ k.participant.announcement
      → u.participant.announced ≡ k.participant.announced → u.participant.slot ≡ k.participant.slot → StaysSo views seat u
  blank : u.tree.worker.card ≡ None → u.participant.announced ≡ None → u.participant.slot ≡ None → StaysSo views seat u

module _ (s : Slots) (low : s.last < generation_size) (tree tree' : TableState) (t : WholeState) (stage next : Stages) (lie : ℕ → ℕ) (dead : ℕ → Bool) (was_dead : ℕ → ℕ → Bool)
    (refines : Refines s tree t stage lie dead was_dead) (cards : tree'.words ≡ tree.words) (words : List ℕ)
    (slots : (i : ℕ) → i < table_size s.last → get_or words i 0 ≡ get_or t.words i 0)
    (wins : (c : ℕ) → HasWon next c → HasWon stage c)
    (kinds : (c : ℕ) (f : Field) → HasWon stage c → says (next c) f ≡ true → says (stage c) f ≡ true) (views : List Known) (stays : (seat : ℕ) (u : Known) → get_elem? views seat ≡ some u → StaysSo t.views seat u) where
  kept_before : (c : ℕ) (f : Field) → IsKept next views c f → IsKept stage t.views c f
  kept_before c f (won has said) = won (wins c has) (kinds c f (wins c has) said)
  kept_before c f (stored seat u at waits has) = elim (stays seat u at) [
    | same there ↦ stored seat u there waits has
    | goes_on k there is placed an slot ↦ stored seat k there (subst (λ v. HoldsWaiting v c) is waits) (subst (λ v. HasStored v f) is has)
    | idle none other k there placed an slot ↦ absurd (some_not_none waits.0 none)
    | blank none an slot ↦ absurd (some_not_none waits.0 none)
  ]

  at_slot : (slot : ℕ) (f : Field) → slot ≤ s.last → IsKept next views (lie slot) f
      → get_or words (address slot f) 0 ≡ cut_field f (get_or tree'.words (address (lie slot) f) 0)
  at_slot slot f inside kept =
      slots (address slot f) (address_in_table s.last slot f inside).1
      ∙ (refines.at slot f inside (kept_before (lie slot) f kept) ∙ ap (λ l. cut_field f (get_or l (address (lie slot) f) 0)) (sym cards))

  first_words : (i : ℕ) → i < 2 → get_or t.words i 0 ≡ get_or tree.words i 0 → get_or words i 0 ≡ get_or tree'.words i 0
  first_words i few is = slots i (omega arith) ∙ (is ∙ ap (λ l. get_or l i 0) (sym cards))

  lives_on : (seat q a c : ℕ) (u : Known) → get_elem? views seat ≡ some u → u.participant.announcement ≡ Some q → u.participant.announced ≡ Some a → HasWon next c → was_dead q c ≡ false
      → LiesThere s lie c
  lives_on seat q a c u at placed an has alive = elim (stays seat u at) [
    | same there ↦ refines.lives seat q a c u there placed an (wins c has) alive
    | goes_on k there is announcement says slot ↦ refines.lives seat q a c k there (sym announcement ∙ placed) (sym says ∙ an) (wins c has) alive
    | idle none other k there announcement says slot ↦ refines.lives other q a c k there (sym announcement ∙ placed) (sym says ∙ an) (wins c has) alive
    | blank none says slot ↦ absurd (some_not_none an says)
  ]

  hand_on : (seat c : ℕ) (u : Known) → get_elem? views seat ≡ some u → u.participant.slot ≡ Some c → HoldsWaiting u.tree c → LiesThere s lie c
  hand_on seat c u at slot waits = elim (stays seat u at) [
    | same there ↦ refines.hand seat c u there slot waits
    | goes_on k there is announcement says taken ↦ refines.hand seat c k there (sym taken ∙ slot) (subst (λ v. HoldsWaiting v c) is waits)
    | idle none other k there announcement says taken ↦ absurd (some_not_none waits.0 none)
    | blank none says taken ↦ absurd (some_not_none waits.0 none)
  ]

  past_on : (seat c : ℕ) (u : Known) → get_elem? views seat ≡ some u → u.participant.slot ≡ Some c → c < get_or t.words 0 0
  past_on seat c u at slot = elim (stays seat u at) [
    | same there ↦ refines.past seat c u there slot
    | goes_on k there is announcement says taken ↦ refines.past seat c k there (sym taken ∙ slot)
    | idle none other k there announcement says taken ↦ refines.past other c k there (sym taken ∙ slot)
    | blank none says taken ↦ absurd (some_not_none slot taken)
  ]

  slotted_on : (seat c : ℕ) (u : Known) → get_elem? views seat ≡ some u → u.participant.slot ≡ Some c → has_slot_in s.last c ≡ true
  slotted_on seat c u at slot = elim (stays seat u at) [
    | same there ↦ refines.slotted seat c u there slot
    | goes_on k there is announcement says taken ↦ refines.slotted seat c k there (sym taken ∙ slot)
    | idle none other k there announcement says taken ↦ refines.slotted other c k there (sym taken ∙ slot)
    | blank none says taken ↦ absurd (some_not_none slot taken)
  ]

  stores_on : (seat c : ℕ) (f : Field) (u : Known) → get_elem? views seat ≡ some u → HoldsWaiting u.tree c → HasStored u.tree f → u.participant.slot ≡ Some c
  stores_on seat c f u at waits has = elim (stays seat u at) [
    | same there ↦ refines.stores seat c f u there waits has
    | goes_on k there is announcement says taken ↦ taken ∙ refines.stores seat c f k there (subst (λ v. HoldsWaiting v c) is waits) (subst (λ v. HasStored v f) is has)
    | idle none other k there announcement says taken ↦ absurd (some_not_none waits.0 none)
    | blank none says taken ↦ absurd (some_not_none waits.0 none)
  ]

  pub refinement_stays : (homes : List (Maybe (Unit {0}))) → Refines s tree' (record { words = words; homes = homes; views = views }) next lie dead was_dead
  refinement_stays homes = record {
    claim = first_words 0 (omega arith) refines.claim;
    flat = first_words 1 (omega arith) refines.flat;
    root = refines.root;
    own = refines.own;
    at = at_slot;
    alive = λ c has lives. refines.alive c (wins c has) lives;
    lives = lives_on;
    fits = λ c has. refines.fits c (wins c has);
    hand = hand_on;
    slotted = slotted_on;
    past = λ seat c u at slot. subst (λ n. c < n) (sym (slots 0 (omega arith))) (past_on seat c u at slot);
    stores = stores_on;
  }
