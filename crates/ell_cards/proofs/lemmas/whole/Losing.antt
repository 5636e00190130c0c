-- A pass that loses a flag has discarded its card, and may note that.
use Rattle.std.proofs.Common.{◌≡◌, ◌≢◌, ℕ, ◌%◌, ◌≤◌, ◌==◌, Bool, false, true, Option, Some, None, List, length, nat_lt, get_or, set, inl, inr, ◌⊎◌, refl, sym, ap, ◌∙◌, subst, arith, eq-eqb, ne_eqb, true≢false, get_or-set_same}
use Rattle.std.proofs.lemmas.Bool.{cases_eq}
use Rattle.std.proofs.lemmas.Option.{same_Some}
use mathlib.Core.Option.{some}
use lib.ListN.{get_elem?}
use prog.Atomic.{either}
use Rattle.ell_core.proofs.lemmas.outcomes.Decide.{some_not_none}
use Rattle.ell_runs.specs.declared.call.Call.{Call}
use Rattle.ell_cards.specs.declared.view.Known.{Known}
use Rattle.ell_cards.specs.declared.view.Participant.{Participant}
use Rattle.ell_runs.specs.declared.view.Sight.{Sight}
use Rattle.ell_runs.specs.declared.view.Slots.{Slots}
use Rattle.ell_runs.specs.declared.view.View.{View}
use Rattle.ell_cards.specs.Ages.{IsOut, IsRetiredThere, AreRetired, AgesAreSound, HasEpochs}
use Rattle.ell_runs.specs.Discarded.{IsDiscarded}
use Rattle.ell_runs.specs.Calls.{May, atomic_of, is_won}
use Rattle.ell_cards.specs.Leaks.{Holds, NothingLeaks}
use Rattle.ell_cards.specs.Leaks.Holds.{waiting, lost}
use Rattle.ell_runs.specs.Plans.{TablePlan}
use Rattle.ell_cards.specs.Epochs.{WholeState, slot_word, slots_size, after_freeing, pending_by, HasAnnouncement, own, spare, ParticipantHolds, EpochsAreSound, grace_of}
use Rattle.ell_cards.specs.SlotWords.{card_by, free_word, is_retired, slot_of, generation_in, generation_of, taken_word}
use Rattle.ell_runs.specs.Starts.{IsReached}
use Rattle.ell_runs.specs.States.{TableState}
use Rattle.ell_cards.specs.Stepping.{MayGoOn}
use Rattle.ell_cards.specs.Refinement.{FlagsCard, HasWon}
use Rattle.ell_runs.specs.Turns.{Makes, found_by, state_after}
use Rattle.ell_cards.proofs.lemmas.refinement.Discarded.{lost_is_discarded}
use Rattle.ell_runs.proofs.lemmas.seats.Seats.{set_there}
use Rattle.ell_cards.proofs.lemmas.refinement.Epochs.{refinement_of_participant}
use Rattle.ell_cards.proofs.lemmas.whole.Ages.{AgesOn, ages_of_participant}
use Rattle.ell_cards.proofs.lemmas.whole.Freeing.{frees_now, retired_by_then}
use Rattle.ell_cards.proofs.lemmas.whole.Going.{GoesTo, goes_on_there, set_twice, stays, turned_to}
use Rattle.ell_cards.proofs.lemmas.whole.Leaks.{leaks_same}
use Rattle.ell_cards.proofs.lemmas.whole.Retired.{retired_so}
use Rattle.ell_cards.proofs.lemmas.whole.Seats.{part_same}
use Rattle.ell_cards.proofs.lemmas.whole.Steps.{epochs_after, word_again}
use Rattle.ell_cards.proofs.lemmas.whole.Trees.{grace_same}
use Rattle.ell_cards.proofs.lemmas.words.RetiredBits.{unretired}
use Rattle.ell_cards.proofs.lemmas.words.Slotted.{slot_inside}

-- so it was by the ages after that call
pub discarded_in_ages : (plan : TablePlan) (s : Slots) (tree : TableState) (t : WholeState) (lie : ℕ → ℕ) (dead : ℕ → Bool) (was_dead : ℕ → ℕ → Bool)
    (h : AgesAreSound plan s tree t lie dead was_dead) (id : ℕ) (v : View) → get_elem? tree.views id ≡ some v → (c : Call) → May plan c v
    → (t' : WholeState) (on : AgesOn plan s tree t lie dead was_dead h (Makes id c) (state_after tree id v c) t')
    → (d : ℕ) → FlagsCard c d → is_won (atomic_of c) (found_by tree c) ≡ false → IsDiscarded on.ages.now.machine.stages (state_after tree id v c).views d
discarded_in_ages plan s tree t lie dead was_dead h id v there c may t' on d flags unwon =
    lost_is_discarded plan tree h.now.machine id v there c may d flags unwon on.ages.now.machine on.later (on.wins d)

module _ (plan : TablePlan) (s : Slots) (tree : TableState) (t : WholeState) (id : ℕ) (k : Known) (here : get_elem? t.views id ≡ some k)
    (h : HasEpochs plan s tree t) (o : Option ℕ) (discarded : (c : ℕ) → o ≡ Some c → IsDiscarded h.ages.now.machine.stages tree.views c)
    (idle : (c : ℕ) → o ≡ Some c → k.tree.worker.card ≡ None) (g : Sight) where
  abbrev noting : Participant
  noting = record k.participant { lost = o }

  abbrev now : Known
  now = record k { participant = noting; sight = g }

  abbrev after : WholeState
  after = record { words = t.words; homes = t.homes; views = set t.views id now }

  same_standing : (q : ℕ) → HasAnnouncement noting q → HasAnnouncement k.participant q
  same_standing q (own e) = own e
  same_standing q (spare e) = spare e

  holds : ParticipantHolds s t.words now
  holds = let was = h.epochs.each id k here in record {
    announcement = was.announcement;
    other = was.other;
    two = was.two;
    none = was.none;
    epoch = was.epoch;
    surveyed = was.surveyed;
    rests = was.rests;
    idle = idle;
  }

  pub lost_epochs : EpochsAreSound s after h.lie h.dead h.began h.was_dead
  lost_epochs =
      epochs_after s t id k here g h.lie h.dead h.began h.was_dead h.epochs t.words noting refl (λ j u other at q has. refl) (λ q has. inl (same_standing q has))
      h.lie h.dead h.began h.was_dead
      (λ r a at an. h.epochs.since id r a k here at an) (λ j r a u other there at an. h.epochs.since j r a u there at an)
      (grace_same s.announcements (grace_of s t h.lie h.dead h.began h.was_dead) (grace_of s after h.lie h.dead h.began h.was_dead)
      refl (λ d. refl) (λ q. refl) (λ q. refl) (λ q d. refl)
      (part_same t.views id k here now (λ p. pending_by p.retire_epoch) refl)
      (part_same t.views id k here now (λ p. p.least) refl)
      (λ j q. part_same t.views id k here now (λ p. nat_lt q p.looked) refl j)
      (part_same t.views id k here now (λ p. p.safe_epoch) refl)
      (λ d. refl) h.epochs.sound)
      holds

  abbrev pub lost_ages : AgesAreSound plan s tree after h.lie h.dead h.was_dead
  lost_ages = ages_of_participant plan s tree t id k here now refl t.words h.lie h.lie h.dead h.dead h.was_dead h.was_dead h.ages
      h.ages.now.each h.ages.still (λ q a at an. h.ages.since id q a k here at an) (λ j q a u other at placed an. refl)
      h.ages.retired_out (λ x out is. is) (λ r has. h.ages.read id k r here has)
      discarded

  -- the pass notes the card that it has discarded, or that it has set free the slot of that
  abbrev pub lost_now : HasEpochs plan s tree after
  lost_now = record {
    lie = h.lie;
    lies = h.lies;
    dead = h.dead;
    began = h.began;
    was_dead = h.was_dead;
    epochs = lost_epochs;
    ages = lost_ages;
    refines = refinement_of_participant s tree t h.ages.now.machine.stages h.lie h.dead h.dead h.was_dead h.was_dead h.refines id k here g noting refl t.words (λ i low. refl)
        (λ d lives. lives) (λ q a at an. inl (at, an, λ d lives. lives)) (λ seat q a u other at placed an d lives. lives) t.homes;
    flat = h.flat;
    retired = retired_so plan s tree h.ages.now.machine h.ages.now.uses t id k here g noting refl refl t.words h.lie h.lie (λ x out is. is) h.retired;
  }

-- A pass sets the slot free of a card that it has discarded: nobody else knows of the card, so no node is retired in
-- the slot's word.
module _ (plan : TablePlan) (s : Slots) (tree : TableState) (t : WholeState) (id : ℕ) (k : Known) (here : get_elem? t.views id ≡ some k)
    (h : HasEpochs plan s tree t) where
  abbrev freed : Known
  freed = record k { participant = after_freeing k.participant }

  -- where that card lies in no slot that is in use
  unlost_now : (c : ℕ) → k.participant.lost ≡ Some c
      → (NothingLeaks s t tree.views h.ages.now.machine.words h.ages.now.machine.stages h.lie → (slot : ℕ) → slot ≤ s.last → get_or t.words (slot_word s slot) 0 % 8 ≢ 0 → h.lie slot ≡ c → ⊥)
      → GoesTo plan s tree t h (record { words = t.words; homes = t.homes; views = set t.views id freed })
  unlost_now c lost_it gone = record {
    epochs = lost_now plan s tree t id k here h None (λ d none. absurd (some_not_none none refl)) (λ d none. absurd (some_not_none none refl)) k.sight;
    leaks = λ was. leaks_same s t tree.views h.ages.now.machine.words h.ages.now.machine.stages h.lie was id k here (after_freeing k.participant) t.words
        (λ slot low used holds. by was slot low used holds) (λ slot. refl);
  }
    where
      by : NothingLeaks s t tree.views h.ages.now.machine.words h.ages.now.machine.stages h.lie → (slot : ℕ) → slot ≤ s.last → get_or t.words (slot_word s slot) 0 % 8 ≢ 0
          → Holds k (h.lie slot) → Holds freed (h.lie slot)
      by was slot low used (waiting at waits) = waiting at waits
      by was slot low used (lost at) = absurd (gone was slot low used (sym (same_Some c (h.lie slot) (sym lost_it ∙ at))))

  module _ (c : ℕ) (lost_it : k.participant.lost ≡ Some c) (taken : k.participant.slot ≡ Some c) where
    abbrev in_slot : ℕ
    in_slot = get_or t.words (slot_word s (slot_of c)) 0

    -- its slot's word is this as long as it lies there
    stands : NothingLeaks s t tree.views h.ages.now.machine.words h.ages.now.machine.stages h.lie → (slot : ℕ) → slot ≤ s.last → get_or t.words (slot_word s slot) 0 % 8 ≢ 0 → h.lie slot ≡ c
        → in_slot ≡ taken_word (generation_of c)
    stands was slot low used lies = by (get_or t.words (slot_word s slot) 0) refl
      where
        at : slot ≡ slot_of c
        at = sym (h.refines.own slot low) ∙ ap slot_of lies

        none : (i : ℕ) → is_retired (get_or t.words (slot_word s slot) 0) i ≡ true → ⊥
        none i is = true≢false (sym (h.ages.lost id c k here lost_it).waits ∙ (subst (HasWon h.ages.now.machine.stages) lies (was.bits slot i low used is)).1)

        generation_is : (slot n d : ℕ) → slot ≡ slot_of d → card_by slot n ≡ d → generation_in n ≡ generation_of d
        generation_is slot n d at is = omega (arith, at, is)

        whole : (n generation : ℕ) → n % 8 ≡ 7 → generation_in n ≡ generation → n ≡ taken_word generation
        whole n generation low is = omega (arith, low, is)

        by : (n : ℕ) → get_or t.words (slot_word s slot) 0 ≡ n → in_slot ≡ taken_word (generation_of c)
        by n is =
            let low_bits = unretired (get_or t.words (slot_word s slot) 0) none in
            let generation = generation_is slot (get_or t.words (slot_word s slot) 0) c at (sym (h.lies slot low used) ∙ lies) in
            ap (λ x. get_or t.words (slot_word s x) 0) (sym at) ∙ whole (get_or t.words (slot_word s slot) 0) (generation_of c) low_bits generation

-- so it sets the slot free
module _ (plan : TablePlan) (s : Slots) (tree : TableState) (t : WholeState) (id : ℕ) (k : Known) (here : get_elem? t.views id ≡ some k)
    (there : get_elem? tree.views id ≡ some k.tree) (h : HasEpochs plan s tree t) (size : length t.words ≡ slots_size s) (reached : IsReached plan tree) where
  abbrev freed_then : Known
  freed_then = record k { participant = after_freeing k.participant }

  module _ (c : ℕ) (lost_it : k.participant.lost ≡ Some c) (taken : k.participant.slot ≡ Some c) where
    inside : slot_of c ≤ s.last
    inside = slot_inside s.last c (h.refines.slotted id c k here taken)

    abbrev found : ℕ
    found = get_or t.words (slot_word s (slot_of c)) 0

    -- it sets the slot free
    frees_it : (epoch : ℕ) → k.participant.retire_epoch ≡ Some (record { card = c; epoch = epoch }) → found ≡ taken_word (generation_of c)
        → GoesTo plan s tree t h (turned_to t id k (after_freeing k.participant) (slot_word s (slot_of c)) (free_word epoch))
    frees_it epoch retire_epoch is =
        let card_is : card_by (slot_of c) (taken_word (generation_of c)) ≡ c = omega arith in
        let first = frees_now plan s tree t id k here there h size reached (slot_of c) epoch k.participant.retired inside (taken_word (generation_of c)) is (λ full. omega arith)
        (retire_epoch ∙ ap (λ d. Some (record { card = d; epoch = epoch })) (sym card_is)) (λ d at hand. kept d at hand) in
        let t1 = turned_to t id k k.participant (slot_word s (slot_of c)) (free_word epoch) in
        let here1 = set_there t.views id k k here in
        let second = unlost_now plan s tree t1 id k here1 first.epochs c lost_it (λ was slot low used lies. gone first.epochs slot low used lies) in
        subst (λ l. GoesTo plan s tree t h (record { words = t1.words; homes = t.homes; views = l })) (set_twice t.views id k freed_then) (record { epochs = second.epochs; leaks = λ was. second.leaks (first.leaks was) })
      where
        W : List ℕ
        W = set t.words (slot_word s (slot_of c)) (free_word epoch)

        keeps : (x : ℕ) → IsRetiredThere s t.words h.lie x → IsRetiredThere s W h.lie x
        keeps x was = retired_by_then plan s tree t id k here there h size reached (slot_of c) (free_word epoch) inside (λ full. absurd (by (ap (λ n. n % 8) (sym is) ∙ full))) (λ some. absurd (some (omega arith))) x was
          where
            by : taken_word (generation_of c) % 8 ≡ 0 → ⊥
            by e = omega (arith, e)

        kept : (d : ℕ) → k.participant.slot ≡ Some d → k.tree.worker.card ≡ Some d
            → AreRetired h.ages.now.machine.words d k.participant.retired (λ x. IsOut plan tree h.ages.now.machine h.ages.now.uses x × IsRetiredThere s W h.lie x)
        kept d at hand = let was = h.retired id d k here at hand in record {
          parent = λ e. (let o = was.parent e in (o.0, keeps _ o.1));
          leaf = λ e. (let o = was.leaf e in (o.0, keeps _ o.1));
          own = λ i e. (let o = was.own i e in (o.0, keeps _ o.1));
        }

        -- the slot is free then
        gone : (h1 : HasEpochs plan s tree (turned_to t id k k.participant (slot_word s (slot_of c)) (free_word epoch))) → (slot : ℕ) → slot ≤ s.last
            → get_or W (slot_word s slot) 0 % 8 ≢ 0 → h1.lie slot ≡ c → ⊥
        gone h1 slot low used lies =
            let at : slot ≡ slot_of c = sym (h1.refines.own slot low) ∙ ap slot_of lies in
            used (ap (λ x. get_or W (slot_word s x) 0 % 8) at ∙ (ap (λ n. n % 8) (get_or-set_same t.words (slot_word s (slot_of c)) (free_word epoch) 0 (let low_slot = inside in omega arith)) ∙ omega arith))

    -- or that was free already, or had another card
    stays_so : found ≢ taken_word (generation_of c) → GoesTo plan s tree t h (turned_to t id k (after_freeing k.participant) (slot_word s (slot_of c)) found)
    stays_so other =
        let first = stays plan s tree t id k here h size (slot_word s (slot_of c)) (let low = inside in omega arith) in
        let t1 = turned_to t id k k.participant (slot_word s (slot_of c)) found in
        let here1 = set_there t.views id k k here in
        let second = unlost_now plan s tree t1 id k here1 first.epochs c lost_it
        (λ was slot low used lies. same_not (stands plan s tree t1 id k here1 first.epochs c lost_it taken was slot low used lies)) in
        subst (λ l. GoesTo plan s tree t h (record { words = t1.words; homes = t.homes; views = l })) (set_twice t.views id k freed_then) (record { epochs = second.epochs; leaks = λ was. second.leaks (first.leaks was) })
      where
        same_not : get_or (set t.words (slot_word s (slot_of c)) found) (slot_word s (slot_of c)) 0 ≡ taken_word (generation_of c) → ⊥
        same_not is = other (sym (word_again t.words (slot_word s (slot_of c)) (let low = inside in omega arith) (slot_word s (slot_of c))) ∙ is)

-- that is a step of the table
pub frees_discarded : (plan : TablePlan) (s : Slots) → plan.slots ≡ Some s → (k : Known) (c epoch : ℕ) → k.participant.lost ≡ Some c → k.participant.slot ≡ Some c
    → k.participant.retire_epoch ≡ Some (record { card = c; epoch = epoch })
    → MayGoOn plan k (slot_word s (slot_of c)) (λ x. either (x == taken_word (generation_of c)) (free_word epoch) x) (λ x p. p ≡ after_freeing k.participant)
frees_discarded plan s placed k c epoch lost_it taken retire_epoch =
    goes_on_there plan s placed k (slot_word s (slot_of c)) (λ x. either (x == taken_word (generation_of c)) (free_word epoch) x) (λ x p. p ≡ after_freeing k.participant) (λ t. after_freeing k.participant)
    (λ tree t id reached here there h size. (by tree t id reached here there h size (cases_eq (get_or t.words (slot_word s (slot_of c)) 0) (taken_word (generation_of c))), refl))
  where
    after : (tree : TableState) (t : WholeState) → HasEpochs plan s tree t → (id : ℕ) → Bool → Type 0
    after tree t h id b = GoesTo plan s tree t h (turned_to t id k (after_freeing k.participant) (slot_word s (slot_of c)) (either b (free_word epoch) (get_or t.words (slot_word s (slot_of c)) 0)))

    by : (tree : TableState) (t : WholeState) (id : ℕ) → IsReached plan tree → get_elem? t.views id ≡ some k → get_elem? tree.views id ≡ some k.tree → (h : HasEpochs plan s tree t) → length t.words ≡ slots_size s
        → (get_or t.words (slot_word s (slot_of c)) 0 ≡ taken_word (generation_of c)) ⊎ (get_or t.words (slot_word s (slot_of c)) 0 ≢ taken_word (generation_of c))
        → after tree t h id (get_or t.words (slot_word s (slot_of c)) 0 == taken_word (generation_of c))
    by tree t id reached here there h size (inl is) =
        subst (after tree t h id) (sym (eq-eqb (get_or t.words (slot_word s (slot_of c)) 0) (taken_word (generation_of c)) is)) (frees_it plan s tree t id k here there h size reached c lost_it taken epoch retire_epoch is)
    by tree t id reached here there h size (inr other) =
        subst (after tree t h id) (sym (ne_eqb (get_or t.words (slot_word s (slot_of c)) 0) (taken_word (generation_of c)) other)) (stays_so plan s tree t id k here there h size reached c lost_it taken other)
