use Rattle.std.proofs.Common.{◌≡◌, ◌≢◌, ℕ, zero, suc, ◌+◌, ◌*◌, ◌<◌, ◌≤◌, ◌==◌, true, Some, None, List, [], ◌∷◌, length, get_or, set, inl, inr, ◌⊎◌, refl, sym, ap, ◌∙◌, subst, arith, eq-eqb, ne_eqb, length-set, get_or-set_other, get_or-set_same}
use Rattle.std.proofs.lemmas.Bool.{cases_eq}
use Rattle.std.proofs.lemmas.List.{map-set}
use Rattle.std.proofs.lemmas.Option.{same_Some}
use mathlib.Core.Option.{some}
use lib.ListN.{get_elem?}
use prog.Atomic.{either}
use Rattle.atomic_table.specs.Table.{keeps}
use Rattle.atomic_table.proofs.Lists.{set_again}
use Rattle.ell_core.proofs.lemmas.outcomes.Decide.{some_not_none}
use Rattle.ell_layout.specs.Layout.{table_size}
use Rattle.ell_layout.specs.Words.{put}
use Rattle.ell_layout.proofs.lemmas.Writes.{put_same, put_other}
use Rattle.ell_cards.specs.declared.view.Known.{Known}
use Rattle.ell_cards.specs.declared.view.Participant.{Participant}
use Rattle.ell_runs.specs.declared.view.Slots.{Slots}
use Rattle.ell_cards.specs.Ages.{IsOut, HasEpochs}
use Rattle.ell_runs.specs.Histories.{history_of}
use Rattle.ell_runs.specs.Plans.{TablePlan}
use Rattle.ell_cards.specs.Epochs.{WholeState, epoch_word, announcement_word, slot_word, slots_size, last_epoch, after_epoch_read, after_announce, after_retract, after_look_at, after_take, after_advance, after_give, after_release, own, EpochsAreSound}
use Rattle.ell_runs.specs.Touching.{IsAtRest}
use Rattle.ell_cards.specs.Shown.{shown}
use Rattle.ell_cards.specs.SlotWords.{is_retired}
use Rattle.ell_runs.specs.Starts.{IsReached}
use Rattle.ell_runs.specs.States.{TableState}
use Rattle.ell_cards.specs.Stepping.{MayGoOn}
use Rattle.ell_cards.specs.Whole.{trees_of, WordsAre, EpochsAre}
use Rattle.ell_cards.proofs.lemmas.shown.ShownViews.{rests_whole}
use Rattle.ell_cards.proofs.lemmas.refinement.Apart.{tells_apart}
use Rattle.ell_cards.proofs.lemmas.refinement.Epochs.{refinement_of_participant}
use Rattle.ell_cards.proofs.lemmas.whole.Ages.{ages_of_participant, retired_same}
use Rattle.ell_cards.proofs.lemmas.whole.Apart.{ready_there}
use Rattle.ell_cards.specs.Leaks.{NothingLeaks}
use Rattle.ell_cards.proofs.lemmas.whole.Leaks.{holds_so, leaks_same}
use Rattle.ell_cards.proofs.lemmas.whole.OwnCalls.{apart_set}
use Rattle.ell_cards.proofs.lemmas.whole.Retired.{retired_so}
use Rattle.ell_cards.proofs.lemmas.whole.Seats.{before_epoch, lie_same}
use Rattle.ell_cards.proofs.lemmas.whole.Seeing.{all_set, made_set, silent_set}
use Rattle.ell_cards.proofs.lemmas.whole.Steps.{word_again, epochs_again, epochs_read, epochs_advanced, epochs_seen, epochs_announced, epochs_retracted, epochs_taken, epochs_given, epochs_released}
use Rattle.ell_cards.proofs.lemmas.whole.Slots.{epoch_known}
use Rattle.ell_cards.proofs.lemmas.whole.Trees.{tree_at}

-- the table where a pass knows something else of epochs, and a word became another one
abbrev pub turned_to : WholeState → ℕ → Known → Participant → ℕ → ℕ → WholeState
turned_to t id k p i n = record { words = set t.words i n; homes = t.homes; views = set t.views id (record k { participant = p }) }

-- the epochs of a table where a step on their words leads on, by which no slot stays in use for nothing
pub record GoesTo (plan : TablePlan) (s : Slots) (tree : TableState) (t : WholeState) (h : HasEpochs plan s tree t) (t' : WholeState) : Type 0 where
  pub epochs : HasEpochs plan s tree t'
  pub leaks : NothingLeaks s t tree.views h.ages.now.machine.words h.ages.now.machine.stages h.lie
      → NothingLeaks s t' tree.views epochs.ages.now.machine.words epochs.ages.now.machine.stages epochs.lie

-- the last of two that are put in one place
pub set_twice : {A : Type 0} (l : List A) (i : ℕ) (a b : A) → set (set l i a) i b ≡ set l i b
set_twice [] i a b = refl
set_twice (x ∷ xs) zero a b = refl
set_twice (x ∷ xs) (suc i) a b = ap (λ l. x ∷ l) (set_twice xs i a b)

-- what a pass knows that it announces was that before
abbrev AnnouncesNoMore : Participant → Participant → Type 0
AnnouncesNoMore old new = (q a : ℕ) → new.announcement ≡ Some q → new.announced ≡ Some a → (old.announcement ≡ Some q) × (old.announced ≡ Some a)

module _ (plan : TablePlan) (s : Slots) (tree : TableState) (t : WholeState) (id : ℕ) (k : Known) (here : get_elem? t.views id ≡ some k) (h : HasEpochs plan s tree t) where
  -- what is retired by the words of slots where they are as they were
  pub same_retired : (words : List ℕ) → ((slot : ℕ) → get_or words (slot_word s slot) 0 ≡ get_or t.words (slot_word s slot) 0)
      → (slot i : ℕ) → slot ≤ s.last → is_retired (get_or words (slot_word s slot) 0) i ≡ true
      → IsOut plan tree h.ages.now.machine h.ages.now.uses (4 * h.lie slot + i)
  same_retired words same slot i low is =
      h.ages.retired_out slot i low (subst (λ n. is_retired n i ≡ true) (same slot) is)

  -- the words of cards where one behind them becomes another one
  pub behind : (i n : ℕ) → epoch_word s ≤ i → (j : ℕ) → j < table_size s.last → get_or (set t.words i n) j 0 ≡ get_or t.words j 0
  behind i n after j low = get_or-set_other t.words i j n 0 (let before = before_epoch s j low in omega arith)

  -- the epochs of a table after a step by which no pass is pinned
  pub going : (p : Participant) (i n : ℕ) → AnnouncesNoMore k.participant p → p.read ≡ k.participant.read → p.lost ≡ k.participant.lost → p.slot ≡ k.participant.slot
      → p.retired ≡ k.participant.retired
      → ((j : ℕ) → j < table_size s.last → get_or (set t.words i n) j 0 ≡ get_or t.words j 0)
      → ((slot : ℕ) → get_or (set t.words i n) (slot_word s slot) 0 ≡ get_or t.words (slot_word s slot) 0)
      → EpochsAreSound s (turned_to t id k p i n) h.lie h.dead h.began h.was_dead → GoesTo plan s tree t h (turned_to t id k p i n)
  going p i n was read lost taken retired_out cards same sound = record {
    epochs = record {
      lie = h.lie;
      lies = lie_same s h.lie t.words (set t.words i n) (λ slot low. same slot) h.lies;
      dead = h.dead;
      began = h.began;
      was_dead = h.was_dead;
      epochs = sound;
      ages = ages_of_participant plan s tree t id k here (record k { participant = p }) refl (set t.words i n) h.lie h.lie h.dead h.dead h.was_dead h.was_dead h.ages
          h.ages.now.each h.ages.still
          (λ q a at an. let old = was q a at an in h.ages.since id q a k here old.0 old.1)
          (λ j q a u other there at an. refl)
          (same_retired (set t.words i n) same)
          (λ x out is. retired_same plan s t.words (set t.words i n) h.lie (λ slot low. same slot) x is)
          (λ r has used j is. (let old = h.ages.read id k r here (sym read ∙ has) used j is in (old.0, retired_same plan s t.words (set t.words i n) h.lie (λ slot low. same slot) _ old.1)))
          (λ c has. h.ages.lost id c k here (sym lost ∙ has));
      refines = refinement_of_participant s tree t h.ages.now.machine.stages h.lie h.dead h.dead h.was_dead h.was_dead h.refines id k here k.sight p taken (set t.words i n) cards
          (λ c lives. lives) (λ q a at an. (let old = was q a at an in inl (old.0, old.1, λ c lives. lives)))
          (λ seat q a u other there at an c lives. lives) t.homes;
      flat = h.flat;
      retired = retired_so plan s tree h.ages.now.machine h.ages.now.uses t id k here k.sight p taken retired_out (set t.words i n) h.lie h.lie
          (λ x out is. retired_same plan s t.words (set t.words i n) h.lie (λ slot low. same slot) x is) h.retired;
    };
    leaks = λ was. leaks_same s t tree.views h.ages.now.machine.words h.ages.now.machine.stages h.lie was id k here p (set t.words i n) (λ slot low used. holds_so k p taken lost (h.lie slot)) same;
  }

  -- a word is stored again
  pub same_again : length t.words ≡ slots_size s → (i : ℕ) → i < slots_size s → (slot : ℕ)
      → get_or (set t.words i (get_or t.words i 0)) (slot_word s slot) 0 ≡ get_or t.words (slot_word s slot) 0
  same_again size i inside slot = word_again t.words i (omega arith) (slot_word s slot)

  -- so nothing changes
  pub stays : length t.words ≡ slots_size s → (i : ℕ) → i < slots_size s → GoesTo plan s tree t h (turned_to t id k k.participant i (get_or t.words i 0))
  stays size i inside =
      going k.participant i (get_or t.words i 0) (λ q a at an. (at, an)) refl refl refl refl (λ j low. word_again t.words i (omega arith) j) (same_again size i inside)
      (epochs_again s t id k here h.lie h.dead h.began h.was_dead h.epochs size i inside)

  -- and after one begins
  pub begins_now : (q epoch : ℕ) → k.participant.announcement ≡ Some q → k.participant.announced ≡ None → k.participant.epoch ≡ Some epoch → length t.words ≡ slots_size s
      → GoesTo plan s tree t h (turned_to t id k (after_announce epoch (get_or t.words (epoch_word s) 0) k.participant) (announcement_word s q) (epoch + 2))
  begins_now q epoch placed quiet was size = record {
    epochs = record {
      lie = h.lie;
      lies = lie_same s h.lie t.words (set t.words (announcement_word s q) (epoch + 2)) (λ slot low. get_or-set_other t.words (announcement_word s q) (slot_word s slot) (epoch + 2) 0 (λ e. omega arith)) h.lies;
      dead = h.dead;
      began = put h.began q (get_or t.words (epoch_word s) 0);
      was_dead = put h.was_dead q h.dead;
      epochs = epochs_announced s t id k here h.lie h.dead h.began h.was_dead h.epochs size q epoch placed was;
      ages = ages_of_participant plan s tree t id k here (record k { participant = after_announce epoch (get_or t.words (epoch_word s) 0) k.participant }) refl
          (set t.words (announcement_word s q) (epoch + 2)) h.lie h.lie h.dead h.dead h.was_dead (put h.was_dead q h.dead) h.ages h.ages.now.each still
          (λ r a at an. inl ((h.epochs.each id k here).rests quiet))
          (λ j r a u other there at an. put_other h.was_dead q h.dead r
          (λ e. other (h.epochs.apart j id q u k there here (own (at ∙ ap (λ x. Some x) e)) (own placed))))
          (same_retired (set t.words (announcement_word s q) (epoch + 2)) (λ slot. get_or-set_other t.words (announcement_word s q) (slot_word s slot) (epoch + 2) 0 (λ e. omega arith)))
          (λ x out is. retired_same plan s t.words (set t.words (announcement_word s q) (epoch + 2)) h.lie same_slots x is)
          (λ r has used i is. (let old = h.ages.read id k r here has used i is in (old.0, retired_same plan s t.words (set t.words (announcement_word s q) (epoch + 2)) h.lie same_slots _ old.1)))
          (λ c has. h.ages.lost id c k here has);
      refines = refinement_of_participant s tree t h.ages.now.machine.stages h.lie h.dead h.dead h.was_dead (put h.was_dead q h.dead) h.refines id k here k.sight (after_announce epoch (get_or t.words (epoch_word s) 0) k.participant) refl
          (set t.words (announcement_word s q) (epoch + 2)) (behind (announcement_word s q) (epoch + 2) (omega arith))
          (λ c lives. lives)
          (λ r a at an. inr (λ c lives. sym (ap (λ f. f c) (ap (put h.was_dead q h.dead) (same_Some r q (sym at ∙ placed)) ∙ put_same h.was_dead q h.dead)) ∙ lives))
          (λ seat r a u other there at an c lives. sym (ap (λ f. f c) (put_other h.was_dead q h.dead r
          (λ e. other (h.epochs.apart seat id q u k there here (own (at ∙ ap (λ x. Some x) e)) (own placed))))) ∙ lives)
          t.homes;
      flat = h.flat;
      retired = retired_so plan s tree h.ages.now.machine h.ages.now.uses t id k here k.sight (after_announce epoch (get_or t.words (epoch_word s) 0) k.participant) refl refl (set t.words (announcement_word s q) (epoch + 2)) h.lie h.lie
          (λ x out is. retired_same plan s t.words (set t.words (announcement_word s q) (epoch + 2)) h.lie same_slots x is) h.retired;
    };
    leaks = λ was. leaks_same s t tree.views h.ages.now.machine.words h.ages.now.machine.stages h.lie was id k here (after_announce epoch (get_or t.words (epoch_word s) 0) k.participant) (set t.words (announcement_word s q) (epoch + 2))
        (λ slot low used. holds_so k (after_announce epoch (get_or t.words (epoch_word s) 0) k.participant) refl refl (h.lie slot)) (λ slot. get_or-set_other t.words (announcement_word s q) (slot_word s slot) (epoch + 2) 0 (λ e. omega arith));
  }
    where
      same_slots : (slot : ℕ) → slot ≤ s.last → get_or (set t.words (announcement_word s q) (epoch + 2)) (slot_word s slot) 0 ≡ get_or t.words (slot_word s slot) 0
      same_slots slot low = get_or-set_other t.words (announcement_word s q) (slot_word s slot) (epoch + 2) 0 (λ e. omega arith)

      still : (r x : ℕ) → put h.was_dead q h.dead r x ≡ true → h.dead x ≡ true
      still r x is = elim (cases_eq r q) [
        | inl e ↦ sym (ap (λ f. f x) (ap (put h.was_dead q h.dead) e ∙ put_same h.was_dead q h.dead)) ∙ is
        | inr n ↦ h.ages.still r x (sym (ap (λ f. f x) (put_other h.was_dead q h.dead r n)) ∙ is)
      ]

-- what a load of the epoch tells: it has never gone back
pub record TellsEpoch (was : Participant) (n : ℕ) (p : Participant) : Type 0 where
  pub is : p ≡ after_epoch_read n was
  pub low : n ≤ last_epoch
  pub later : (m : ℕ) → was.epoch ≡ Some m → m ≤ n
  pub since : was.surveyed.epoch ≤ n

-- a step on the words of the epochs is one of the table
module _ (plan : TablePlan) (s : Slots) (placed : plan.slots ≡ Some s) where
  pub goes_on_whole : (k : Known) (i : ℕ) (f : ℕ → ℕ) (told : ℕ → Participant → Type 0) (p : WholeState → Participant)
      → ((tree : TableState) (t : WholeState) (id : ℕ) → IsReached plan tree → get_elem? t.views id ≡ some k → trees_of t.views ≡ tree.views → (h : HasEpochs plan s tree t) → length t.words ≡ slots_size s
      → GoesTo plan s tree t h (turned_to t id k (p t) i (f (get_or t.words i 0))) × told (get_or t.words i 0) (p t))
      → MayGoOn plan k i f told
  goes_on_whole k i f told p step id t h homes here small =
      let has = subst (λ o. WordsAre o t.words h.tree.words) placed h.words in
      let n = get_or t.words i 0 in
      let now : Known = record k { participant = p t } in
      let old = subst (λ o. EpochsAre plan o h.tree t) placed h.epochs in
      let x = step h.tree t id h.reached here h.views old.0 has.0 in (
        now,
        keeps,
        tt,
        record {
          tree = h.tree;
          reached = h.reached;
          seen = all_set (history_of h.reached.turns) t.views id now h.seen (h.seen id k here);
          made = made_set (history_of h.reached.turns) t.views id k now here (λ a has. has) h.made;
          silent = silent_set plan t.views id now h.silent (h.silent id k here);
          apart = apart_set t.views id k now here h.apart (h.apart.each id k here) (λ a has. inl has);
          views = map-set (λ (l : Known). l.tree) t.views id now ∙ (set_again (trees_of t.views) id k.tree (tree_at t.views id k here) ∙ h.views);
          homes = h.homes;
          stores = h.stores;
          words = subst (λ o. WordsAre o (set t.words i (f n)) h.tree.words) (sym placed) (length-set t.words i (f n) ∙ has.0, has.1);
          epochs = subst (λ o. EpochsAre plan o h.tree (turned_to t id k (p t) i (f n))) (sym placed) (x.0.epochs, x.0.leaks old.1);
        },
        (x.1, refl, refl, refl),
      )

  -- where only the pass's own view of the tree is asked for
  pub goes_on_there : (k : Known) (i : ℕ) (f : ℕ → ℕ) (told : ℕ → Participant → Type 0) (p : WholeState → Participant)
      → ((tree : TableState) (t : WholeState) (id : ℕ) → IsReached plan tree → get_elem? t.views id ≡ some k → get_elem? tree.views id ≡ some k.tree → (h : HasEpochs plan s tree t) → length t.words ≡ slots_size s
      → GoesTo plan s tree t h (turned_to t id k (p t) i (f (get_or t.words i 0))) × told (get_or t.words i 0) (p t))
      → MayGoOn plan k i f told
  goes_on_there k i f told p step = goes_on_whole k i f told p (λ tree t id reached here same. step tree t id reached here (ap (λ l. get_elem? l id) (sym same) ∙ tree_at t.views id k here))

  -- where nothing is asked of the tree
  goes_on : (k : Known) (i : ℕ) (f : ℕ → ℕ) (told : ℕ → Participant → Type 0) (p : WholeState → Participant)
      → ((tree : TableState) (t : WholeState) (id : ℕ) → get_elem? t.views id ≡ some k → (h : HasEpochs plan s tree t) → length t.words ≡ slots_size s
      → GoesTo plan s tree t h (turned_to t id k (p t) i (f (get_or t.words i 0))) × told (get_or t.words i 0) (p t))
      → MayGoOn plan k i f told
  goes_on k i f told p step = goes_on_there k i f told p (λ tree t id reached here there. step tree t id here)

  -- a pass reads the epoch
  pub read_epoch_goes_on : (k : Known) → MayGoOn plan k (epoch_word s) (λ n. n) (TellsEpoch k.participant)
  read_epoch_goes_on k =
      goes_on k (epoch_word s) (λ n. n) (TellsEpoch k.participant) (λ t. after_epoch_read (get_or t.words (epoch_word s) 0) k.participant)
      (λ tree t id here h size. (going plan s tree t id k here h (after_epoch_read (get_or t.words (epoch_word s) 0) k.participant) (epoch_word s) (get_or t.words (epoch_word s) 0) (λ q a at an. (at, an)) refl refl refl refl (behind plan s tree t id k here h (epoch_word s) (get_or t.words (epoch_word s) 0) (omega arith)) (λ slot. get_or-set_other t.words (epoch_word s) (slot_word s slot) (get_or t.words (epoch_word s) 0) 0 (λ e. omega arith)) (epochs_read s t id k here h.lie h.dead h.began h.was_dead h.epochs size), record { is = refl; low = h.epochs.low; later = (h.epochs.each id k here).epoch; since = (h.epochs.each id k here).surveyed }))

  -- it announces an epoch, if it announces nothing
  pub announces : (k : Known) (q epoch : ℕ) → k.participant.announcement ≡ Some q → k.participant.announced ≡ None → k.participant.epoch ≡ Some epoch
      → MayGoOn plan k (announcement_word s q) (λ n. epoch + 2) (λ n p. (global : ℕ) × (epoch ≤ global) × (p ≡ after_announce epoch global k.participant))
  announces k q epoch has quiet was =
      goes_on k (announcement_word s q) (λ n. epoch + 2) (λ n p. (global : ℕ) × (epoch ≤ global) × (p ≡ after_announce epoch global k.participant))
      (λ t. after_announce epoch (get_or t.words (epoch_word s) 0) k.participant)
      (λ tree t id here h size. (
        begins_now plan s tree t id k here h q epoch has quiet was size,
        (get_or t.words (epoch_word s) 0, (h.epochs.each id k here).epoch epoch was, refl),
      ))

  -- it takes its announcement away
  pub retracts : (k : Known) (q : ℕ) → k.participant.announcement ≡ Some q → IsAtRest (shown k.tree)
      → MayGoOn plan k (announcement_word s q) (λ n. 1) (λ n p. p ≡ after_retract k.participant)
  retracts k q has rest =
      goes_on_there k (announcement_word s q) (λ n. 1) (λ n p. p ≡ after_retract k.participant) (λ t. after_retract k.participant)
      (λ tree t id reached here there h size. (going plan s tree t id k here h (after_retract k.participant) (announcement_word s q) 1 (λ r a at an. absurd (some_not_none an refl)) refl refl refl refl (behind plan s tree t id k here h (announcement_word s q) 1 (omega arith)) (λ slot. get_or-set_other t.words (announcement_word s q) (slot_word s slot) 1 0 (λ e. omega arith)) (epochs_retracted s t id k here h.lie h.dead h.began h.was_dead h.epochs size q has (rests_whole plan k.tree (tells_apart plan s tree t h.ages.now.machine h.lie h.dead h.was_dead h.refines placed reached id k here there (ready_there plan s tree t h id k here)) rest)), refl))

  -- it takes an announcement, if no pass has it
  pub takes : (k : Known) (q : ℕ) → q < s.announcements → MayGoOn plan k (announcement_word s q) (λ n. either (n == 0) 1 n) (λ n p. p ≡ after_take q n k.participant)
  takes k q below =
      goes_on k (announcement_word s q) (λ n. either (n == 0) 1 n) (λ n p. p ≡ after_take q n k.participant) (λ t. after_take q (get_or t.words (announcement_word s q) 0) k.participant)
      (λ tree t id here h size. (by tree t id here h size (get_or t.words (announcement_word s q) 0) refl, refl))
    where
      taken : (n : ℕ) → either (suc n == 0) 1 (suc n) ≡ suc n
      taken n = ap (λ b. either b 1 (suc n)) (ne_eqb (suc n) 0 (λ z. omega arith))

      by : (tree : TableState) (t : WholeState) (id : ℕ) → get_elem? t.views id ≡ some k → (h : HasEpochs plan s tree t) → length t.words ≡ slots_size s → (n : ℕ) → get_or t.words (announcement_word s q) 0 ≡ n
          → GoesTo plan s tree t h (turned_to t id k (after_take q n k.participant) (announcement_word s q) (either (n == 0) 1 n))
      by tree t id here h size zero e = going plan s tree t id k here h (after_take q 0 k.participant) (announcement_word s q) 1 (λ r a at an. (at, an)) refl refl refl refl (behind plan s tree t id k here h (announcement_word s q) 1 (omega arith)) (λ slot. get_or-set_other t.words (announcement_word s q) (slot_word s slot) 1 0 (λ e. omega arith))
          (epochs_taken s t id k here h.lie h.dead h.began h.was_dead h.epochs size q below e)
      by tree t id here h size (suc n) e =
          subst (λ m. GoesTo plan s tree t h (turned_to t id k k.participant (announcement_word s q) m)) (e ∙ sym (taken n))
          (stays plan s tree t id k here h size (announcement_word s q) (omega arith))

  -- whatever announcement of the table a word is of
  pub takes_any : (k : Known) (q word : ℕ) → q < s.announcements → word ≡ announcement_word s q
      → MayGoOn plan k word (λ n. either (n == 0) 1 n)
      (λ n p. (o : Slots) (r : ℕ) → plan.slots ≡ Some o → r < o.announcements → word ≡ announcement_word o r → p ≡ after_take r n k.participant)
  takes_any k q word below is id t h homes here small =
      let may = subst (λ i. MayGoOn plan k i (λ n. either (n == 0) 1 n) (λ n p. p ≡ after_take q n k.participant)) (sym is) (takes k q below) in
      let x = may id t h homes here small in
      (x.0, x.1, x.2, x.3, (λ o r slots low at. x.4.0 ∙ ap (λ y. after_take y (get_or t.words word 0) k.participant) (one o r slots low at), x.4.1, x.4.2, x.4.3))
    where
      one : (o : Slots) (r : ℕ) → plan.slots ≡ Some o → r < o.announcements → word ≡ announcement_word o r → q ≡ r
      one o r slots low at =
          let same : o ≡ s = same_Some o s (sym slots ∙ placed) in
          let last : o.last ≡ s.last = ap (λ (x : Slots). x.last) same in
          let announcements : o.announcements ≡ s.announcements = ap (λ (x : Slots). x.announcements) same in
          let global : epoch_word o ≡ epoch_word s = ap epoch_word same in
          omega arith

  -- it gives its other announcement back
  pub gives_back : (k : Known) (q : ℕ) → k.participant.other ≡ Some q → MayGoOn plan k (announcement_word s q) (λ n. 0) (λ n p. p ≡ after_give k.participant)
  gives_back k q has =
      goes_on k (announcement_word s q) (λ n. 0) (λ n p. p ≡ after_give k.participant) (λ t. after_give k.participant)
      (λ tree t id here h size. (going plan s tree t id k here h (after_give k.participant) (announcement_word s q) 0 (λ r a at an. (at, an)) refl refl refl refl (behind plan s tree t id k here h (announcement_word s q) 0 (omega arith)) (λ slot. get_or-set_other t.words (announcement_word s q) (slot_word s slot) 0 0 (λ e. omega arith)) (epochs_given s t id k here h.lie h.dead h.began h.was_dead h.epochs size q has), refl))

  -- it is given up, and so is its announcement, if it announces nothing
  pub releases : (k : Known) (q : ℕ) → k.participant.announcement ≡ Some q → k.participant.announced ≡ None
      → MayGoOn plan k (announcement_word s q) (λ n. 0) (λ n p. p ≡ after_release k.participant)
  releases k q has quiet =
      goes_on k (announcement_word s q) (λ n. 0) (λ n p. p ≡ after_release k.participant) (λ t. after_release k.participant)
      (λ tree t id here h size. (going plan s tree t id k here h (after_release k.participant) (announcement_word s q) 0 (λ r a at an. absurd (some_not_none at refl)) refl refl refl refl (behind plan s tree t id k here h (announcement_word s q) 0 (omega arith)) (λ slot. get_or-set_other t.words (announcement_word s q) (slot_word s slot) 0 0 (λ e. omega arith)) (epochs_released s t id k here h.lie h.dead h.began h.was_dead h.epochs size q has quiet), refl))

  -- it advances the epoch, if that is as it was read
  pub advance_goes_on : (k : Known) (epoch : ℕ) → k.participant.epoch ≡ Some epoch → epoch < last_epoch
      → MayGoOn plan k (epoch_word s) (λ n. either (n == epoch) (epoch + 1) n) (λ n p. p ≡ after_advance epoch k.participant)
  advance_goes_on k epoch was low =
      goes_on k (epoch_word s) (λ n. either (n == epoch) (epoch + 1) n) (λ n p. p ≡ after_advance epoch k.participant) (λ t. after_advance epoch k.participant)
      (λ tree t id here h size. (by tree t id here h size (cases_eq (get_or t.words (epoch_word s) 0) epoch), refl))
    where
      on : (tree : TableState) (t : WholeState) → HasEpochs plan s tree t → ℕ → ℕ → Type 0
      on tree t h id n = GoesTo plan s tree t h (turned_to t id k (after_advance epoch k.participant) (epoch_word s) n)

      by : (tree : TableState) (t : WholeState) (id : ℕ) → get_elem? t.views id ≡ some k → (h : HasEpochs plan s tree t) → length t.words ≡ slots_size s
          → (get_or t.words (epoch_word s) 0 ≡ epoch) ⊎ (get_or t.words (epoch_word s) 0 ≢ epoch)
          → on tree t h id (either (get_or t.words (epoch_word s) 0 == epoch) (epoch + 1) (get_or t.words (epoch_word s) 0))
      by tree t id here h size (inl is) =
          subst (on tree t h id)
          (ap (λ n. n + 1) is ∙ sym (ap (λ n. either (n == epoch) (epoch + 1) n) is ∙ ap (λ b. either b (epoch + 1) epoch) (eq-eqb epoch epoch refl)))
          (going plan s tree t id k here h (after_advance epoch k.participant) (epoch_word s) (get_or t.words (epoch_word s) 0 + 1) (λ q a at an. (at, an)) refl refl refl refl (behind plan s tree t id k here h (epoch_word s) (get_or t.words (epoch_word s) 0 + 1) (omega arith)) (λ slot. get_or-set_other t.words (epoch_word s) (slot_word s slot) (get_or t.words (epoch_word s) 0 + 1) 0 (λ e. omega arith))
          (epoch_known s (record { words = set t.words (epoch_word s) (get_or t.words (epoch_word s) 0 + 1); homes = t.homes; views = t.views }) id k here h.lie h.dead h.began h.was_dead
          (epochs_advanced s t id k here h.lie h.dead h.began h.was_dead h.epochs size (omega arith)) (length-set t.words (epoch_word s) (get_or t.words (epoch_word s) 0 + 1) ∙ size)
          (set t.words (epoch_word s) (get_or t.words (epoch_word s) 0 + 1)) (λ j. refl) (epoch + 1)
          (let now = get_or-set_same t.words (epoch_word s) (get_or t.words (epoch_word s) 0 + 1) 0 (omega arith) in omega arith)))
      by tree t id here h size (inr other) =
          subst (on tree t h id)
          (sym (ap (λ b. either b (epoch + 1) (get_or t.words (epoch_word s) 0)) (ne_eqb (get_or t.words (epoch_word s) 0) epoch other)))
          (going plan s tree t id k here h (after_advance epoch k.participant) (epoch_word s) (get_or t.words (epoch_word s) 0) (λ q a at an. (at, an)) refl refl refl refl
          (behind plan s tree t id k here h (epoch_word s) (get_or t.words (epoch_word s) 0) (omega arith)) (same_again plan s tree t id k here h size (epoch_word s) (omega arith))
          (epoch_known s t id k here h.lie h.dead h.began h.was_dead h.epochs size (set t.words (epoch_word s) (get_or t.words (epoch_word s) 0)) (word_again t.words (epoch_word s) (omega arith)) (epoch + 1)
          (let low = (h.epochs.each id k here).epoch epoch was in omega arith)))

  -- it looks at the next announcement
  pub looks_at : (k : Known) (q : ℕ) → q ≡ k.participant.looked → q < s.announcements
      → MayGoOn plan k (announcement_word s q) (λ n. n) (λ n p. (o : Slots) → plan.slots ≡ Some o → p ≡ after_look_at o.announcements n k.participant)
  looks_at k q next below =
      goes_on k (announcement_word s q) (λ n. n) (λ n p. (o : Slots) → plan.slots ≡ Some o → p ≡ after_look_at o.announcements n k.participant) (λ t. after_look_at s.announcements (get_or t.words (announcement_word s q) 0) k.participant)
      (λ tree t id here h size. (
        going plan s tree t id k here h (after_look_at s.announcements (get_or t.words (announcement_word s q) 0) k.participant) (announcement_word s q) (get_or t.words (announcement_word s q) 0)
            (λ r a at an. (at, an)) refl refl refl refl (behind plan s tree t id k here h (announcement_word s q) (get_or t.words (announcement_word s q) 0) (omega arith)) (λ slot. get_or-set_other t.words (announcement_word s q) (slot_word s slot) (get_or t.words (announcement_word s q) 0) 0 (λ e. omega arith)) (epochs_seen s t id k here h.lie h.dead h.began h.was_dead h.epochs size q next below),
        λ o is. ap (λ (x : Slots). after_look_at x.announcements (get_or t.words (announcement_word s q) 0) k.participant) (same_Some s o (sym placed ∙ is)),
      ))
