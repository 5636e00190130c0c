use Rattle.std.proofs.Common.{◌≡◌, ◌≢◌, ℕ, ◌+◌, ◌*◌, ◌%◌, ◌<◌, ◌≤◌, ◌==◌, ◌&&◌, nat_lt, nat_le, if◌then◌else◌, Bool, true, false, Option, Some, None, List, length, get_or, set, inl, inr, ◌⊎◌, refl, sym, ap, ◌∙◌, subst, arith, ne_eqb, eq-eqb, get_or-set_same, get_or-set_other}
use Rattle.std.proofs.lemmas.Option.{same_Some}
use Rattle.std.proofs.lemmas.Bool.{cases_eq}
use Rattle.std.proofs.lemmas.Bool.Decides.{nat_tests}
use Rattle.ell_word.specs.Node.{generation_size}
use mathlib.Core.Option.{some}
use lib.ListN.{get_elem?}
use Rattle.ell_layout.specs.Words.{put}
use Rattle.ell_layout.proofs.lemmas.Writes.{put_same, put_other}
use Rattle.ell_grace.specs.epochs.Grace.{Grace, dies, gets_retire_epoch, frees, takes}
use Rattle.ell_grace.specs.epochs.Sound.{GraceIsSound}
use Rattle.ell_grace.proofs.lemmas.epochs.Grace.{grace_goes_on, taken_cards_were_gone}
use Rattle.ell_cards.specs.declared.view.Known.{Known}
use Rattle.ell_cards.specs.declared.view.Participant.{Participant}
use Rattle.ell_cards.specs.declared.view.Retired.{Retired}
use Rattle.ell_runs.specs.declared.view.Slots.{Slots}
use Rattle.ell_cards.specs.Epochs.{WholeState, epoch_word, announcement_word, slot_word, slots_size, retire_epoch_at, pending_by, participant_in, word_at_announcement, announced_by, announcement_says, after_read, after_retire_epoch, after_taking, LieInSlots, HasAnnouncement, own, spare, StandsAs, ParticipantHolds, EpochsAreSound, grace_of}
use Rattle.ell_cards.specs.SlotWords.{slot_of, generation_of, generation_in, retire_epoch_in, free_word, card_by, freed_by, taken_word}
use Rattle.ell_cards.proofs.lemmas.whole.Seats.{before_slots, epoch_before_slots, retire_epoch_by, retire_epochs_same, participant_was, part_put, part_same, holds_on}
use Rattle.ell_cards.proofs.lemmas.whole.Steps.{word_again, announced_again, epochs_after}
use Rattle.ell_cards.proofs.lemmas.whole.Trees.{grace_same}

-- the word that sets a slot free has its retire epoch, and fits a word
pub free_retire_epoch : (epoch : ℕ) → retire_epoch_in (free_word epoch) ≡ epoch
free_retire_epoch epoch = omega arith

pub free_bits : (epoch : ℕ) → free_word epoch % 8 ≡ 0
free_bits epoch = omega arith

-- and the word of a slot that was taken has its generation, and no bit
pub taken_generation : (generation : ℕ) → generation_in (taken_word generation) ≡ generation
taken_generation generation = omega arith

pub taken_bits : (generation : ℕ) → taken_word generation % 8 ≢ 0
taken_bits generation e = omega arith

-- a word sets its slot free if it has all bits, and else not
pub freed_with : (n : ℕ) → n % 8 ≡ 0 → freed_by n ≡ Some (retire_epoch_in n)
freed_with n full = ap (λ b. if b then Some (retire_epoch_in n) else None) (eq-eqb (n % 8) 0 full)

pub not_freed : (n : ℕ) → n % 8 ≢ 0 → freed_by n ≡ None
not_freed n some_bit = ap (λ b. if b then Some (retire_epoch_in n) else None) (ne_eqb (n % 8) 0 some_bit)

-- the retire epoch of a card by which one lies in its slot, and by the word of that
abbrev retire_epoch_in_slot : ℕ → ℕ → ℕ → Option ℕ
retire_epoch_in_slot there n c = if there == c then freed_by n else None

-- it is that of the card which lies there, and no other card of the slot has one
retire_epoch_lies : (there n c : ℕ) → there ≡ c → retire_epoch_in_slot there n c ≡ freed_by n
retire_epoch_lies there n c lies = ap (λ b. if b then freed_by n else None) (eq-eqb there c lies)

retire_epoch_gone : (there n c : ℕ) → there ≢ c → retire_epoch_in_slot there n c ≡ None
retire_epoch_gone there n c other = ap (λ b. if b then freed_by n else None) (ne_eqb there c other)

no_retire_epoch : (there n c : ℕ) → n % 8 ≢ 0 → retire_epoch_in_slot there n c ≡ None
no_retire_epoch there n c some_bit = none (there == c)
  where
    none : (b : Bool) → (if b then freed_by n else None) ≡ None
    none true = not_freed n some_bit
    none false = refl

-- the retire epochs of a table are so
retire_epoch_there : (s : Slots) (lie : ℕ → ℕ) (words : List ℕ) (c slot n : ℕ) → slot ≤ s.last → slot_of c ≡ slot → get_or words (slot_word s slot) 0 ≡ n
    → retire_epoch_at s lie words c ≡ retire_epoch_in_slot (lie slot) n c
retire_epoch_there s lie words c slot n inside lies has =
    let there : nat_le slot s.last ≡ true = grind (arith, nat_tests) in
    ap (λ x. if nat_le x s.last && lie x == c then freed_by (get_or words (slot_word s x) 0) else None) lies
    ∙ (ap (λ b. if b && lie slot == c then freed_by (get_or words (slot_word s slot) 0) else None) there
    ∙ ap (λ m. retire_epoch_in_slot (lie slot) m c) has)

-- The epochs of a table where words of slots became others and a pass knows something else of those, if the epoch and
-- the announcements say the same.
module _ (s : Slots) (t : WholeState) (id : ℕ) (k : Known) (here : get_elem? t.views id ≡ some k) (lie : ℕ → ℕ) (dead : ℕ → Bool) (began : ℕ → ℕ) (was_dead : ℕ → ℕ → Bool)
    (h : EpochsAreSound s t lie dead began was_dead) (words : List ℕ) (p : Participant) (stands : StandsAs k.participant p) (began_so : p.began ≡ k.participant.began) (epoch : (n : ℕ) → p.epoch ≡ Some n → n ≤ get_or t.words (epoch_word s) 0)
    (surveyed : p.surveyed.epoch ≤ get_or t.words (epoch_word s) 0)
    (least : p.least ≡ k.participant.least) (looked : p.looked ≡ k.participant.looked) (safe_epoch : p.safe_epoch ≡ k.participant.safe_epoch) (lost : p.lost ≡ k.participant.lost)
    (global : get_or words (epoch_word s) 0 ≡ get_or t.words (epoch_word s) 0) (announcements : (q : ℕ) → get_or words (announcement_word s q) 0 ≡ get_or t.words (announcement_word s q) 0) where
  abbrev now : Known
  now = record k { participant = p }

  abbrev after : WholeState
  after = record { words = words; homes = t.homes; views = set t.views id now }

  gains : (q : ℕ) → HasAnnouncement p q → HasAnnouncement k.participant q
  gains q (own is) = own (sym stands.announcement ∙ is)
  gains q (spare is) = spare (sym stands.other ∙ is)

  now_holds : ParticipantHolds s words now
  now_holds =
      let was = holds_on s t.words words k (λ q has. announcements q) (let same = global in omega arith) (h.each id k here) in record {
        announcement = λ q is. (let at = was.announcement q (sym stands.announcement ∙ is) in (at.0, at.1 ∙ ap announcement_says (sym stands.announced)));
        other = λ q is. (let at = was.other q (sym stands.other ∙ is) in (at.0, at.1 ∙ ap announcement_says (sym stands.other_says)));
        two = λ q is other. was.two q (sym stands.announcement ∙ is) (sym stands.other ∙ other);
        none = λ is. stands.announced ∙ was.none (sym stands.announcement ∙ is);
        epoch = λ n is. (let low = epoch n is in let same = global in omega arith);
        surveyed = (let low = surveyed in let same = global in omega arith);
        rests = λ is. was.rests (sym stands.announced ∙ is);
        idle = λ c is. was.idle c (sym lost ∙ is);
      }

  same_word : (q : ℕ) → word_at_announcement s words q ≡ word_at_announcement s t.words q
  same_word q = ap (λ x. if nat_lt q s.announcements then announced_by x else None) (announcements q)

  -- they are sound again if those of the protocol are so, by what is dead, about to be freed, and free
  pub slots_after : (lie' : ℕ → ℕ) (dead' : ℕ → Bool) (pending : ℕ → Option (ℕ × ℕ)) (free : ℕ → Option ℕ)
      → GraceIsSound s.announcements (record (grace_of s t lie dead began was_dead) { gone = dead'; pending = pending; free = free })
      → ((j : ℕ) → pending_by (participant_in (set t.views id now) j).retire_epoch ≡ pending j)
      → ((c : ℕ) → retire_epoch_at s lie' words c ≡ free c)
      → EpochsAreSound s after lie' dead' began was_dead
  slots_after lie' dead' pending free sound pends with_retire_epoch =
      epochs_after s t id k here k.sight lie dead began was_dead h words p global (λ j u other at q has. announcements q) (λ q has. inl (gains q has)) lie' dead' began was_dead
      (λ r a at an. h.since id r a k here (sym stands.announcement ∙ at) (sym stands.announced ∙ an) ∙ sym began_so)
      (λ j r a u other there at an. h.since j r a u there at an)
      (grace_same s.announcements (record (grace_of s t lie dead began was_dead) { gone = dead'; pending = pending; free = free })
      (grace_of s after lie' dead' began was_dead)
      global (λ c. refl) same_word (λ q. refl) (λ q c. refl) pends
      (part_same t.views id k here now (λ x. x.least) least)
      (λ j q. part_same t.views id k here now (λ x. nat_lt q x.looked) (ap (nat_lt q) looked) j)
      (part_same t.views id k here now (λ x. x.safe_epoch) safe_epoch)
      with_retire_epoch sound)
      now_holds

-- the steps of a pass on the words of slots
module _ (s : Slots) (t : WholeState) (id : ℕ) (k : Known) (here : get_elem? t.views id ≡ some k) (lie : ℕ → ℕ) (dead : ℕ → Bool) (began : ℕ → ℕ) (was_dead : ℕ → ℕ → Bool)
    (h : EpochsAreSound s t lie dead began was_dead) (size : length t.words ≡ slots_size s) where
  abbrev was : Grace
  was = grace_of s t lie dead began was_dead

  -- it reads the epoch for a card that is dead
  abbrev epoch_now : ℕ
  epoch_now = get_or t.words (epoch_word s) 0

  module _ (c : ℕ) where
    abbrev with_retire_epoch : Known
    with_retire_epoch = record k { participant = after_retire_epoch c epoch_now k.participant }

    abbrev died : Grace
    died = record was { gone = put was.gone c true }

    abbrev pends : Grace
    pends = record died { pending = put was.pending id (Some (c, was.epoch)) }

    pub card_with_retire_epoch : EpochsAreSound s (record { words = set t.words (epoch_word s) (get_or t.words (epoch_word s) 0); homes = t.homes; views = set t.views id (record k { participant = after_retire_epoch c (get_or t.words (epoch_word s) 0) k.participant }) })
        lie (put dead c true) began was_dead
    card_with_retire_epoch =
        slots_after s t id k here lie dead began was_dead h (set t.words (epoch_word s) (get_or t.words (epoch_word s) 0)) (after_retire_epoch c epoch_now k.participant)
        (record { announcement = refl; other = refl; other_says = refl; announced = refl }) refl (h.each id k here).epoch (h.each id k here).surveyed refl refl refl refl (again (epoch_word s)) (λ q. again (announcement_word s q))
        lie (put dead c true) (put was.pending id (Some (c, was.epoch))) was.free
        (grace_goes_on s.announcements died pends (grace_goes_on s.announcements was died h.sound (dies c refl)) (gets_retire_epoch id c (put_same was.gone c true) refl))
        (part_put t.views id k here with_retire_epoch (λ p. pending_by p.retire_epoch))
        (retire_epochs_same s lie t.words (set t.words (epoch_word s) (get_or t.words (epoch_word s) 0)) (λ slot inside. again (slot_word s slot)))
      where
        again : (j : ℕ) → get_or (set t.words (epoch_word s) (get_or t.words (epoch_word s) 0)) j 0 ≡ get_or t.words j 0
        again = word_again t.words (epoch_word s) (omega arith)

  -- it knows another epoch, where the words say the same
  pub epoch_known : (words : List ℕ) → ((j : ℕ) → get_or words j 0 ≡ get_or t.words j 0) → (n : ℕ) → n ≤ get_or t.words (epoch_word s) 0
      → EpochsAreSound s (record { words = words; homes = t.homes; views = set t.views id (record k { participant = record (k.participant) { epoch = Some n } }) }) lie dead began was_dead
  epoch_known words again n low =
      slots_after s t id k here lie dead began was_dead h words (record (k.participant) { epoch = Some n })
      (record { announcement = refl; other = refl; other_says = refl; announced = refl }) refl (λ m is. (let same = same_Some n m is in omega arith)) (h.each id k here).surveyed refl refl refl refl (again (epoch_word s)) (λ q. again (announcement_word s q))
      lie dead was.pending was.free h.sound
      (part_same t.views id k here (record k { participant = record (k.participant) { epoch = Some n } }) (λ p. pending_by p.retire_epoch) refl)
      (retire_epochs_same s lie t.words words (λ slot inside. again (slot_word s slot)))

  -- the word of a slot
  module _ (slot : ℕ) (inside : slot ≤ s.last) where
    abbrev found : ℕ
    found = get_or t.words (slot_word s slot) 0

    -- it reads that, whatever its search has read then
    pub slot_read : (retired : Retired)
        → EpochsAreSound s (record { words = set t.words (slot_word s slot) (get_or t.words (slot_word s slot) 0); homes = t.homes; views = set t.views id (record k { participant = record (after_read slot (get_or t.words (slot_word s slot) 0) k.participant) { retired = retired } }) })
        lie dead began was_dead
    slot_read retired =
        slots_after s t id k here lie dead began was_dead h (set t.words (slot_word s slot) (get_or t.words (slot_word s slot) 0)) (record (after_read slot found k.participant) { retired = retired })
        (record { announcement = refl; other = refl; other_says = refl; announced = refl }) refl (h.each id k here).epoch (h.each id k here).surveyed refl refl refl refl (again (epoch_word s)) (λ q. again (announcement_word s q))
        lie dead was.pending was.free h.sound
        (part_same t.views id k here (record k { participant = record (after_read slot found k.participant) { retired = retired } }) (λ p. pending_by p.retire_epoch) refl)
        (retire_epochs_same s lie t.words (set t.words (slot_word s slot) (get_or t.words (slot_word s slot) 0)) (λ x low. again (slot_word s x)))
      where
        again : (j : ℕ) → get_or (set t.words (slot_word s slot) (get_or t.words (slot_word s slot) 0)) j 0 ≡ get_or t.words j 0
        again = word_again t.words (slot_word s slot) (omega arith)

    -- it becomes another one
    module _ (n' : ℕ) where
      abbrev turned : List ℕ
      turned = set t.words (slot_word s slot) n'

      turned_here : get_or turned (slot_word s slot) 0 ≡ n'
      turned_here = get_or-set_same t.words (slot_word s slot) n' 0 (omega arith)

      turned_else : (i : ℕ) → i ≢ slot_word s slot → get_or turned i 0 ≡ get_or t.words i 0
      turned_else i other = get_or-set_other t.words (slot_word s slot) i n' 0 other

      turned_epoch : get_or turned (epoch_word s) 0 ≡ get_or t.words (epoch_word s) 0
      turned_epoch = let behind = epoch_before_slots s slot in turned_else (epoch_word s) (λ e. omega arith)

      turned_announcement : (q : ℕ) → get_or turned (announcement_word s q) 0 ≡ get_or t.words (announcement_word s q) 0
      turned_announcement q = let behind = before_slots s q slot in turned_else (announcement_word s q) (λ e. omega arith)

      -- the cards of other slots have the retire epochs that they had
      retire_epoch_else : (c : ℕ) → slot_of c ≢ slot → retire_epoch_at s lie turned c ≡ retire_epoch_at s lie t.words c
      retire_epoch_else c other = ap (retire_epoch_by lie c (nat_le (slot_of c) s.last)) (turned_else (slot_word s (slot_of c)) (λ e. other (omega arith)))

      retire_epoch_now : (lie' : ℕ → ℕ) (c : ℕ) → slot_of c ≡ slot → retire_epoch_at s lie' turned c ≡ retire_epoch_in_slot (lie' slot) n' c
      retire_epoch_now lie' c lies = retire_epoch_there s lie' turned c slot n' inside lies turned_here

      retire_epoch_was : (c : ℕ) → slot_of c ≡ slot → retire_epoch_at s lie t.words c ≡ retire_epoch_in_slot (lie slot) found c
      retire_epoch_was c lies = retire_epoch_there s lie t.words c slot found inside lies refl

    -- a word that sets nothing free becomes one that does not either
    pub slot_retired : (retired : Retired) (n' : ℕ) → get_or t.words (slot_word s slot) 0 % 8 ≢ 0 → n' % 8 ≢ 0
        → EpochsAreSound s (record { words = set t.words (slot_word s slot) n'; homes = t.homes; views = set t.views id (record k { participant = record (k.participant) { retired = retired } }) }) lie dead began was_dead
    slot_retired retired n' some_bit some_bit' =
        slots_after s t id k here lie dead began was_dead h (turned n') (record (k.participant) { retired = retired })
        (record { announcement = refl; other = refl; other_says = refl; announced = refl }) refl (h.each id k here).epoch (h.each id k here).surveyed refl refl refl refl (turned_epoch n') (turned_announcement n')
        lie dead was.pending was.free h.sound
        (part_same t.views id k here (record k { participant = record (k.participant) { retired = retired } }) (λ p. pending_by p.retire_epoch) refl)
        stays
      where
        stays : (c : ℕ) → retire_epoch_at s lie (turned n') c ≡ retire_epoch_at s lie t.words c
        stays c = elim (cases_eq (slot_of c) slot) [
          | inl lies ↦ retire_epoch_now n' lie c lies ∙ (no_retire_epoch (lie slot) n' c some_bit' ∙ sym (retire_epoch_was n' c lies ∙ no_retire_epoch (lie slot) found c some_bit))
          | inr other ↦ retire_epoch_else n' c other
        ]

    -- the card that lies there is set free with the retire epoch that the pass has for it
    pub slot_freed : (retired : Retired) (epoch : ℕ) → slot_of (lie slot) ≡ slot → k.participant.retire_epoch ≡ Some (record { card = lie slot; epoch = epoch })
        → EpochsAreSound s (record { words = set t.words (slot_word s slot) (free_word epoch); homes = t.homes; views = set t.views id (record k { participant = record (k.participant) { retired = retired } }) }) lie dead began was_dead
    slot_freed retired epoch home has =
        slots_after s t id k here lie dead began was_dead h (turned n') (record (k.participant) { retired = retired })
        (record { announcement = refl; other = refl; other_says = refl; announced = refl }) refl (h.each id k here).epoch (h.each id k here).surveyed refl refl refl refl (turned_epoch n') (turned_announcement n')
        lie dead was.pending (put was.free card (Some epoch))
        (grace_goes_on s.announcements was (record was { free = put was.free card (Some epoch) }) h.sound (frees id card epoch pending refl))
        (part_same t.views id k here (record k { participant = record (k.participant) { retired = retired } }) (λ p. pending_by p.retire_epoch) refl)
        retire_epoch
      where
        n' : ℕ
        n' = free_word epoch

        card : ℕ
        card = lie slot

        pending : was.pending id ≡ Some (card, epoch)
        pending = ap (λ (p : Participant). pending_by p.retire_epoch) (participant_was t.views id k here k) ∙ ap pending_by has

        retire_epoch_apart : (c : ℕ) → c ≢ card → (slot_of c ≡ slot) ⊎ (slot_of c ≢ slot) → retire_epoch_at s lie (turned n') c ≡ retire_epoch_at s lie t.words c
        retire_epoch_apart c apart (inl lies) =
            retire_epoch_now n' lie c lies ∙ (retire_epoch_gone card n' c (λ e. apart (sym e)) ∙ sym (retire_epoch_was n' c lies ∙ retire_epoch_gone card found c (λ e. apart (sym e))))
        retire_epoch_apart c apart (inr other) = retire_epoch_else n' c other

        retire_epoch_card : retire_epoch_at s lie (turned n') card ≡ Some epoch
        retire_epoch_card =
            retire_epoch_now n' lie card home ∙ (retire_epoch_lies card n' card refl ∙ (freed_with n' (free_bits epoch) ∙ ap (λ r. Some r) (free_retire_epoch epoch)))

        retire_epoch : (c : ℕ) → retire_epoch_at s lie (turned n') c ≡ put was.free card (Some epoch) c
        retire_epoch c = elim (cases_eq c card) [
          | inl e ↦ ap (retire_epoch_at s lie (turned n')) e ∙ (retire_epoch_card ∙ sym (ap (put was.free card (Some epoch)) e ∙ put_same was.free card (Some epoch)))
          | inr n ↦ retire_epoch_apart c n (cases_eq (slot_of c) slot) ∙ sym (put_other was.free card (Some epoch) c n)
        ]

    -- a slot that was set free, with a retire epoch below the safe epoch of the pass
    module _ (home : slot_of (lie slot) ≡ slot) (full : get_or t.words (slot_word s slot) 0 % 8 ≡ 0) (past : retire_epoch_in (get_or t.words (slot_word s slot) 0) < k.participant.safe_epoch) where
      abbrev card : ℕ
      card = lie slot

      -- its card has that retire epoch, and so it may be taken
      card_free : was.free card ≡ Some (retire_epoch_in found)
      card_free = retire_epoch_was found card home ∙ (retire_epoch_lies card found card refl ∙ freed_with found full)

      card_past : retire_epoch_in found < was.safe_epoch id
      card_past = let same = ap (λ (p : Participant). p.safe_epoch) (participant_was t.views id k here k) in omega arith

      -- that card is dead
      pub taken_is_dead : dead (lie slot) ≡ true
      taken_is_dead = (h.sound.free card (retire_epoch_in found) card_free).gone

      -- and whoever announces something was pinned when it was dead
      pub taken_was_dead : (q a : ℕ) → word_at_announcement s t.words q ≡ Some a → was_dead q (lie slot) ≡ true
      taken_was_dead q a = taken_cards_were_gone s.announcements was h.sound id card (retire_epoch_in found) card_free card_past q a

      pub taken_was_dead_for : (j q a : ℕ) (u : Known) → get_elem? t.views j ≡ some u → u.participant.announcement ≡ Some q → u.participant.announced ≡ Some a
          → was_dead q (lie slot) ≡ true
      taken_was_dead_for j q a u at placed says = taken_was_dead q a announces
        where
          announces : word_at_announcement s t.words q ≡ Some a
          announces =
              let has = (h.each j u at).announcement q placed in
              let there : nat_lt q s.announcements ≡ true = let below = has.0 in grind (arith, nat_tests) in
              ap (λ b. if b then announced_by (get_or t.words (announcement_word s q) 0) else None) there
              ∙ (ap announced_by (has.1 ∙ ap announcement_says says) ∙ announced_again a)

      -- the pass takes it, for another card there
      pub slot_taken : (generation next : ℕ) → slot_of next ≡ slot
          → EpochsAreSound s (record { words = set t.words (slot_word s slot) (taken_word generation); homes = t.homes; views = set t.views id (record k { participant = after_taking next k.participant }) }) (put lie slot next) dead began was_dead
      slot_taken generation next at =
          slots_after s t id k here lie dead began was_dead h (turned n') (after_taking next k.participant)
          (record { announcement = refl; other = refl; other_says = refl; announced = refl }) refl (h.each id k here).epoch (h.each id k here).surveyed refl refl refl refl (turned_epoch n') (turned_announcement n')
          lie' dead was.pending (put was.free card None)
          (grace_goes_on s.announcements was (record was { free = put was.free card None }) h.sound (takes id card (retire_epoch_in found) card_free card_past refl))
          (part_same t.views id k here (record k { participant = after_taking next k.participant }) (λ p. pending_by p.retire_epoch) refl)
          retire_epoch
        where
          n' : ℕ
          n' = taken_word generation

          lie' : ℕ → ℕ
          lie' = put lie slot next

          retire_epoch_of_slot : (c : ℕ) → slot_of c ≡ slot → retire_epoch_at s lie' (turned n') c ≡ None
          retire_epoch_of_slot c lies = retire_epoch_now n' lie' c lies ∙ no_retire_epoch (lie' slot) n' c (taken_bits generation)

          retire_epoch_there_else : (c : ℕ) → slot_of c ≢ slot → retire_epoch_at s lie' (turned n') c ≡ retire_epoch_at s lie (turned n') c
          retire_epoch_there_else c other = ap (λ d. if nat_le (slot_of c) s.last && d == c then freed_by (get_or (turned n') (slot_word s (slot_of c)) 0) else None)
              (put_other lie slot next (slot_of c) other)

          retire_epoch_apart : (c : ℕ) → c ≢ card → (slot_of c ≡ slot) ⊎ (slot_of c ≢ slot) → retire_epoch_at s lie' (turned n') c ≡ retire_epoch_at s lie t.words c
          retire_epoch_apart c apart (inl lies) = retire_epoch_of_slot c lies ∙ sym (retire_epoch_was n' c lies ∙ retire_epoch_gone card found c (λ e. apart (sym e)))
          retire_epoch_apart c apart (inr other) = retire_epoch_there_else c other ∙ retire_epoch_else n' c other

          retire_epoch : (c : ℕ) → retire_epoch_at s lie' (turned n') c ≡ put was.free card None c
          retire_epoch c = elim (cases_eq c card) [
            | inl e ↦ retire_epoch_of_slot c (ap slot_of e ∙ home) ∙ sym (ap (put was.free card None) e ∙ put_same was.free card None)
            | inr n ↦ retire_epoch_apart c n (cases_eq (slot_of c) slot) ∙ sym (put_other was.free card None c n)
          ]

-- which cards lie in slots, where the word of one becomes another one
module _ (s : Slots) (lie : ℕ → ℕ) (words : List ℕ) (lies : LieInSlots s words lie) (slot : ℕ) (room : slot_word s slot < length words) where
  lie_turned : (n : ℕ) (lie' : ℕ → ℕ) → ((other : ℕ) → other ≢ slot → lie' other ≡ lie other)
      → (slot ≤ s.last → n % 8 ≢ 0 → lie' slot ≡ card_by slot n) → LieInSlots s (set words (slot_word s slot) n) lie'
  lie_turned n lie' stay used other inside = elim (cases_eq other slot) [
    | inl e ↦ subst (λ x. get_or turned (slot_word s x) 0 % 8 ≢ 0 → lie' x ≡ card_by x (get_or turned (slot_word s x) 0)) (sym e)
        (subst (λ m. m % 8 ≢ 0 → lie' slot ≡ card_by slot m) (sym here) (used (subst (λ x. x ≤ s.last) e inside)))
    | inr apart ↦ subst (λ m. m % 8 ≢ 0 → lie' other ≡ card_by other m) (sym (stays apart)) (λ taken. stay other apart ∙ lies other inside taken)
  ]
    where
      turned : List ℕ
      turned = set words (slot_word s slot) n

      here : get_or turned (slot_word s slot) 0 ≡ n
      here = get_or-set_same words (slot_word s slot) n 0 room

      stays : other ≢ slot → get_or turned (slot_word s other) 0 ≡ get_or words (slot_word s other) 0
      stays apart = get_or-set_other words (slot_word s slot) (slot_word s other) n 0 (λ e. apart (omega arith))

  -- it sets the slot free
  pub lie_freed : (epoch : ℕ) → LieInSlots s (set words (slot_word s slot) (free_word epoch)) lie
  lie_freed epoch = lie_turned (free_word epoch) lie (λ other apart. refl) (λ inside taken. absurd (taken (free_bits epoch)))

  -- it is of the same generation
  pub lie_retired : (n : ℕ) → get_or words (slot_word s slot) 0 % 8 ≢ 0 → generation_in n ≡ generation_in (get_or words (slot_word s slot) 0) → LieInSlots s (set words (slot_word s slot) n) lie
  lie_retired n taken generation =
      lie_turned n lie (λ other apart. refl) (λ inside still. lies slot inside taken ∙ ap (λ x. generation_size * x + slot) (sym generation))

  -- another card takes the slot
  pub lie_taken : (c : ℕ) → slot_of c ≡ slot → LieInSlots s (set words (slot_word s slot) (taken_word (generation_of c))) (put lie slot c)
  lie_taken c at =
      lie_turned (taken_word (generation_of c)) (put lie slot c) (λ other apart. put_other lie slot c other apart)
      (λ inside taken. put_same lie slot c ∙ (let generation = taken_generation (generation_of c) in omega arith))
