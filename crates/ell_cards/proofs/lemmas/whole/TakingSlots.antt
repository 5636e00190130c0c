-- A pass takes the slot of its card in hand, which was set free with a retire epoch below the pass's safe epoch.
use Rattle.std.proofs.Common.{◌≡◌, ◌≢◌, ℕ, ◌%◌, ◌<◌, ◌≤◌, ◌==◌, if◌then◌else◌, Bool, true, Some, None, length, get_or, inl, inr, ◌⊎◌, refl, sym, ap, ◌∙◌, subst, arith, eq-eqb, ne_eqb}
use Rattle.std.proofs.lemmas.Bool.{cases_eq}
use Rattle.std.proofs.lemmas.Option.{same_Some}
use Rattle.ell_word.specs.Node.{generation_size}
use mathlib.Core.Option.{some}
use lib.ListN.{get_elem?}
use prog.Atomic.{either}
use Rattle.ell_layout.specs.Words.{put}
use Rattle.ell_cards.specs.declared.view.Known.{Known}
use Rattle.ell_cards.specs.declared.view.Participant.{Participant}
use Rattle.ell_runs.specs.declared.view.Slots.{Slots}
use Rattle.ell_cards.specs.Ages.{HasEpochs}
use Rattle.ell_runs.specs.Plans.{TablePlan}
use Rattle.ell_cards.specs.Epochs.{WholeState, slot_word, slots_size, after_read, after_taking}
use Rattle.ell_cards.specs.SlotWords.{has_slot_in, slot_of, generation_of, retire_epoch_in, taken_word}
use Rattle.ell_runs.specs.Starts.{IsReached}
use Rattle.ell_runs.specs.States.{TableState}
use Rattle.ell_cards.specs.Stepping.{MayGoOn}
use Rattle.ell_runs.specs.Holding.{HoldsWaiting}
use Rattle.ell_cards.specs.Whole.{trees_of}
use Rattle.ell_cards.proofs.lemmas.refinement.TakingSlots.{take_goes}
use Rattle.ell_cards.proofs.lemmas.whole.Freeing.{reads_now}
use Rattle.ell_cards.proofs.lemmas.whole.Going.{GoesTo, turned_to, goes_on_whole}
use Rattle.ell_cards.proofs.lemmas.whole.Slots.{slot_taken, taken_is_dead, taken_was_dead_for, lie_taken}
use Rattle.ell_cards.proofs.lemmas.whole.Trees.{tree_at}

-- the epochs of a table where a pass takes the slot of its card in hand
module _ (plan : TablePlan) (s : Slots) (tree : TableState) (t : WholeState) (id : ℕ) (k : Known) (here : get_elem? t.views id ≡ some k) (same : trees_of t.views ≡ tree.views)
    (h : HasEpochs plan s tree t) (size : length t.words ≡ slots_size s) (c : ℕ) (hand : HoldsWaiting k.tree c) (inside : slot_of c ≤ s.last) (numbered : has_slot_in s.last c ≡ true) (reached : IsReached plan tree) where
  abbrev at : ℕ
  at = slot_word s (slot_of c)

  abbrev found : ℕ
  found = get_or t.words at 0

  -- it reads the slot's word
  pub reads_so : GoesTo plan s tree t h (turned_to t id k (after_read (slot_of c) found k.participant) at found)
  reads_so = reads_now plan s tree t id k here (ap (λ l. get_elem? l id) (sym same) ∙ tree_at t.views id k here) h size reached (slot_of c) inside k.participant.retired
      (λ d at hand. h.retired id d k here at hand)

  -- it takes the slot, if that was set free with a retire epoch below the pass's safe epoch
  pub takes_now : k.participant.lost ≡ None → s.last < generation_size → (n : ℕ) → get_or t.words (slot_word s (slot_of c)) 0 ≡ n → n % 8 ≡ 0 → retire_epoch_in n < k.participant.safe_epoch
      → GoesTo plan s tree t h (turned_to t id k (after_taking c k.participant) (slot_word s (slot_of c)) (taken_word (generation_of c)))
  takes_now unlost low n is free safe_epoch =
      let full : found % 8 ≡ 0 = ap (λ m. m % 8) is ∙ free in
      let past : retire_epoch_in found < k.participant.safe_epoch = subst (λ m. retire_epoch_in m < k.participant.safe_epoch) (sym is) safe_epoch in
      let own = h.refines.own (slot_of c) inside in
      let it = take_goes plan s tree t h.lie h.dead h.was_dead low size (record { ages = h.ages; refines = h.refines }) same id k here c hand numbered
      (taken_is_dead s t id k here h.lie h.dead h.began h.was_dead h.epochs size (slot_of c) inside own full past)
      (taken_was_dead_for s t id k here h.lie h.dead h.began h.was_dead h.epochs size (slot_of c) inside own full past) in record {
        epochs = record {
          lie = put h.lie (slot_of c) c;
          lies = lie_taken s h.lie t.words h.lies (slot_of c) (omega arith) c refl;
          dead = h.dead;
          began = h.began;
          was_dead = h.was_dead;
          epochs = slot_taken s t id k here h.lie h.dead h.began h.was_dead h.epochs size (slot_of c) inside own full past (generation_of c) c refl;
          ages = it.ages;
          refines = it.refines;
          flat = h.flat;
          retired = it.retired h.retired;
        };
        leaks = it.leaks unlost;
      }

-- these steps are steps of the table
module _ (plan : TablePlan) (s : Slots) (placed : plan.slots ≡ Some s) (k : Known) (c : ℕ) (hand : HoldsWaiting k.tree c) (inside : slot_of c ≤ s.last) (numbered : has_slot_in s.last c ≡ true) where
  -- a pass takes the slot, if the word is as it was
  abbrev After : ℕ → ℕ → ℕ → Participant
  After n d m = if m == n then after_taking d k.participant else after_read (slot_of d) m k.participant

  pub takes_slot : k.participant.lost ≡ None → s.last < generation_size → (n : ℕ) → n % 8 ≡ 0 → retire_epoch_in n < k.participant.safe_epoch
      → MayGoOn plan k (slot_word s (slot_of c)) (λ m. either (m == n) (taken_word (generation_of c)) m) (λ m p. p ≡ After n c m)
  takes_slot unlost low n free safe_epoch =
      goes_on_whole plan s placed k (slot_word s (slot_of c)) (λ m. either (m == n) (taken_word (generation_of c)) m) (λ m p. p ≡ After n c m)
      (λ t. After n c (get_or t.words (slot_word s (slot_of c)) 0))
      (λ tree t id reached here same h size. (by tree t id reached here same h size (cases_eq (get_or t.words (slot_word s (slot_of c)) 0) n), refl))
    where
      after : (t : WholeState) (tree : TableState) → HasEpochs plan s tree t → ℕ → ℕ → Bool → Type 0
      after t tree h id m b = GoesTo plan s tree t h (turned_to t id k (if b then after_taking c k.participant else after_read (slot_of c) m k.participant) (slot_word s (slot_of c)) (either b (taken_word (generation_of c)) m))

      by : (tree : TableState) (t : WholeState) (id : ℕ) → IsReached plan tree → get_elem? t.views id ≡ some k → trees_of t.views ≡ tree.views → (h : HasEpochs plan s tree t) → length t.words ≡ slots_size s
          → (get_or t.words (slot_word s (slot_of c)) 0 ≡ n) ⊎ (get_or t.words (slot_word s (slot_of c)) 0 ≢ n)
          → after t tree h id (get_or t.words (slot_word s (slot_of c)) 0) (get_or t.words (slot_word s (slot_of c)) 0 == n)
      by tree t id reached here same h size (inl is) =
          subst (after t tree h id (get_or t.words (slot_word s (slot_of c)) 0)) (sym (eq-eqb (get_or t.words (slot_word s (slot_of c)) 0) n is))
          (takes_now plan s tree t id k here same h size c hand inside numbered reached unlost low n is free safe_epoch)
      by tree t id reached here same h size (inr other) =
          subst (after t tree h id (get_or t.words (slot_word s (slot_of c)) 0)) (sym (ne_eqb (get_or t.words (slot_word s (slot_of c)) 0) n other))
          (reads_so plan s tree t id k here same h size c hand inside numbered reached)

  -- whichever card the pass has in hand, and whatever slot's word this is
  one : (d : ℕ) → k.tree.worker.card ≡ Some d → c ≡ d
  one d has = same_Some c d (sym hand.0 ∙ has)

  pub takes_any : k.participant.lost ≡ None → s.last < generation_size → (n word generation : ℕ) → n % 8 ≡ 0 → retire_epoch_in n < k.participant.safe_epoch → word ≡ slot_word s (slot_of c) → generation ≡ generation_of c
      → MayGoOn plan k word (λ m. either (m == n) (taken_word generation) m) (λ m p. (d : ℕ) → k.tree.worker.card ≡ Some d → p ≡ After n d m)
  takes_any unlost low n word generation free safe_epoch is at id t h homes here small =
      let may = subst (λ i. MayGoOn plan k i (λ m. either (m == n) (taken_word generation) m) (λ m p. p ≡ After n c m)) (sym is)
      (subst (λ u. MayGoOn plan k (slot_word s (slot_of c)) (λ m. either (m == n) (taken_word u) m) (λ m p. p ≡ After n c m)) (sym at)
      (takes_slot unlost low n free safe_epoch)) in
      let x = may id t h homes here small in
      (x.0, x.1, x.2, x.3, (λ d has. x.4.0 ∙ ap (λ e. After n e (get_or t.words word 0)) (one d has), x.4.1, x.4.2, x.4.3))
