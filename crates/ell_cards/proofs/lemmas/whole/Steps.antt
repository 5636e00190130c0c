use Rattle.std.proofs.Common.{◌≡◌, ◌≢◌, ℕ, zero, suc, ◌+◌, ◌<◌, ◌≤◌, ◌==◌, max, nat_lt, if◌then◌else◌, Bool, true, false, Option, Some, None, List, length, get_or, set, inl, inr, ◌⊎◌, refl, sym, ap, ◌∙◌, subst, ⊎_elim, arith, get_or-set_same, get_or-set_other}
use Rattle.std.proofs.Math.Nat.{max-eq_left, max-eq_right}
use Rattle.std.proofs.lemmas.Bool.{cases_eq, cases_lt}
use Rattle.std.proofs.lemmas.Bool.Decides.{nat_tests}
use Rattle.std.proofs.lemmas.Option.{same_Some}
use mathlib.Core.Option.{some}
use lib.ListN.{get_elem?}
use Rattle.atomic_table.proofs.Lists.{at_set}
use Rattle.ell_core.proofs.lemmas.outcomes.Decide.{some_not_none}
use Rattle.ell_layout.specs.Words.{put}
use Rattle.ell_layout.proofs.lemmas.Writes.{put_same, put_other}
use Rattle.ell_grace.specs.epochs.Grace.{Grace, least_with, advances, begins, ends, scans, looks, settles}
use Rattle.ell_grace.specs.epochs.Sound.{GraceIsSound}
use Rattle.ell_grace.proofs.lemmas.epochs.Grace.{grace_goes_on}
use Rattle.ell_cards.specs.declared.view.Known.{Known}
use Rattle.ell_cards.specs.declared.view.Participant.{Participant}
use Rattle.ell_runs.specs.declared.view.Sight.{Sight}
use Rattle.ell_runs.specs.declared.view.Slots.{Slots}
use Rattle.ell_cards.specs.declared.view.Survey.{Survey}
use Rattle.ell_cards.specs.Epochs.{WholeState, epoch_word, announcement_word, slot_word, slots_size, retire_epoch_at, pending_by, participant_in, word_at_announcement, announced_by, announcement_says, last_epoch, after_epoch_read, after_announce, after_retract, after_look_at, after_take, after_give, after_release, settled_at, surveyed_at, HasAnnouncement, own, spare, ParticipantHolds, EpochsAreSound, grace_of}
use Rattle.ell_runs.specs.Touching.{IsAtRest}
use Rattle.ell_cards.proofs.lemmas.whole.Seats.{announcements_apart, before_slots, epoch_before_slots, retire_epochs_same, participant_was, part_put, part_same, holds_on}
use Rattle.ell_cards.proofs.lemmas.whole.Trees.{grace_same}

-- the word of an announcement that a pass has is not 0
says_something : (o : Option ℕ) → 1 ≤ announcement_says o
says_something None = omega arith
says_something (Some a) = omega arith

-- the last look at all announcements began when the epoch was no more than it is, if each epoch that was read was no
-- more
surveyed_low : (announcements looked : ℕ) (epoch : Option ℕ) (least : ℕ) (was : Survey) (global : ℕ) → ((n : ℕ) → epoch ≡ Some n → n ≤ global) → was.epoch ≤ global
    → (surveyed_at announcements looked epoch least was).epoch ≤ global
surveyed_low announcements looked None least was global low before = before
surveyed_low announcements looked (Some n) least was global low before = by (nat_lt looked announcements)
  where
    by : (b : Bool) → (if b then was else record { epoch = n; least = least }).epoch ≤ global
    by true = before
    by false = low n refl

-- the word of an announcement says which epoch is announced
pub announced_again : (epoch : ℕ) → announced_by (epoch + 2) ≡ Some epoch
announced_again epoch = let two : epoch + 2 ≡ suc (suc epoch) = omega arith in ap announced_by two

-- an announcement that was found free is taken
pub found_free : (q n : ℕ) (p p' : Participant) → p' ≡ after_take q n p → (n == 0) ≡ true → p' ≡ after_take q 0 p
found_free q n p p' is free = let none : n ≡ 0 = grind (arith, nat_tests) in is ∙ ap (λ m. after_take q m p) none

-- and one that was not is not
pub found_taken : (q n : ℕ) (p p' : Participant) → p' ≡ after_take q n p → (n == 0) ≡ false → p' ≡ p
found_taken q zero p p' is taken = absurd (cc)
found_taken q (suc n) p p' is taken = is

-- one more announcement was looked at
one_announcement_more : (looked q r : ℕ) → q ≡ looked → nat_lt r (looked + 1) ≡ (if r == q then true else nat_lt r looked)
one_announcement_more looked q r next = grind (arith, nat_tests)

-- a word that is stored again leaves all words as they were
pub word_again : (words : List ℕ) (i : ℕ) → i < length words → (j : ℕ) → get_or (set words i (get_or words i 0)) j 0 ≡ get_or words j 0
word_again words i inside j = elim (cases_eq j i) [
  | inl e ↦ ap (λ x. get_or (set words i (get_or words i 0)) x 0) e ∙ (get_or-set_same words i (get_or words i 0) 0 inside ∙ sym (ap (λ x. get_or words x 0) e))
  | inr n ↦ get_or-set_other words i j (get_or words i 0) 0 n
]

-- two choices are the same where what is chosen is the same
chosen : {A : Type 0} (b : Bool) (x y z : A) → (b ≡ true → x ≡ y) → (if b then x else z) ≡ (if b then y else z)
chosen true x y z h = h refl
chosen false x y z h = refl

-- no pass has an announcement
abbrev IsNobodys : WholeState → ℕ → Type 0
IsNobodys t q = (j : ℕ) (u : Known) → get_elem? t.views j ≡ some u → HasAnnouncement u.participant q → ⊥

-- The epochs of a table where a pass knows something else of them and the words became other ones, if the announcements
-- of other passes say the same and so does the epoch, and each announcement of the pass was its own or nobody's.
module _ (s : Slots) (t : WholeState) (id : ℕ) (k : Known) (here : get_elem? t.views id ≡ some k) (g : Sight) (lie : ℕ → ℕ) (dead : ℕ → Bool) (began : ℕ → ℕ) (was_dead : ℕ → ℕ → Bool)
    (h : EpochsAreSound s t lie dead began was_dead) (words : List ℕ) (p : Participant) where
  abbrev now : Known
  now = record k { participant = p; sight = g }

  abbrev after : WholeState
  after = record { words = words; homes = t.homes; views = set t.views id now }

  module _ (global : get_or words (epoch_word s) 0 ≡ get_or t.words (epoch_word s) 0)
      (others : (j : ℕ) (u : Known) → j ≢ id → get_elem? t.views j ≡ some u → (q : ℕ) → HasAnnouncement u.participant q → get_or words (announcement_word s q) 0 ≡ get_or t.words (announcement_word s q) 0)
      (gains : (q : ℕ) → HasAnnouncement p q → HasAnnouncement k.participant q ⊎ IsNobodys t q) where
    -- the pass and another one have no announcement in common
    not_mine : (j q : ℕ) (u : Known) → j ≢ id → get_elem? t.views j ≡ some u → HasAnnouncement u.participant q → HasAnnouncement p q → ⊥
    not_mine j q u other at has mine = elim (gains q mine) [
      | inl was ↦ other (h.apart j id q u k at here has was)
      | inr none ↦ none j u at has
    ]

    -- so no two passes have one announcement
    apart_in : (i j q : ℕ) (x y : Known) → ((i ≡ id) × (now ≡ x)) ⊎ ((i ≢ id) × (get_elem? t.views i ≡ some x)) → ((j ≡ id) × (now ≡ y)) ⊎ ((j ≢ id) × (get_elem? t.views j ≡ some y))
        → HasAnnouncement x.participant q → HasAnnouncement y.participant q → i ≡ j
    apart_in i j q x y (inl a) (inl b) has has' = a.0 ∙ sym b.0
    apart_in i j q x y (inl a) (inr b) has has' = absurd (not_mine j q y b.0 b.1 has' (subst (λ (l : Known). HasAnnouncement l.participant q) (sym a.1) has))
    apart_in i j q x y (inr a) (inl b) has has' = absurd (not_mine i q x a.0 a.1 has (subst (λ (l : Known). HasAnnouncement l.participant q) (sym b.1) has'))
    apart_in i j q x y (inr a) (inr b) has has' = h.apart i j q x y a.1 b.1 has has'

    -- the epochs are sound again, if those of the protocol are and what the pass knows is so
    pub epochs_after : (lie' : ℕ → ℕ) (dead' : ℕ → Bool) (began' : ℕ → ℕ) (was_dead' : ℕ → ℕ → Bool)
        → ((q a : ℕ) → p.announcement ≡ Some q → p.announced ≡ Some a → began' q ≡ p.began)
        → ((j q a : ℕ) (u : Known) → j ≢ id → get_elem? t.views j ≡ some u → u.participant.announcement ≡ Some q → u.participant.announced ≡ Some a → began' q ≡ u.participant.began)
        → GraceIsSound s.announcements (grace_of s after lie' dead' began' was_dead')
        → ParticipantHolds s words now → EpochsAreSound s after lie' dead' began' was_dead'
    epochs_after lie' dead' began' was_dead' since since' sound holds = record {
      sound = sound;
      low = let was = h.low in omega arith;
      each = λ j u at. ⊎_elim
          (λ (a : (j ≡ id) × (now ≡ u)). subst (ParticipantHolds s words) a.1 holds)
          (λ (a : (j ≢ id) × (get_elem? t.views j ≡ some u)). holds_on s t.words words u (others j u a.0 a.1) (omega arith) (h.each j u a.1))
          (at_set t.views id j now u at);
      since = λ j q a u at is an. ⊎_elim
          (λ (e : (j ≡ id) × (now ≡ u)). subst (λ (x : Known). x.participant.announcement ≡ Some q → x.participant.announced ≡ Some a → began' q ≡ x.participant.began) e.1 (since q a) is an)
          (λ (e : (j ≢ id) × (get_elem? t.views j ≡ some u)). since' j q a u e.0 e.1 is an)
          (at_set t.views id j now u at);
      apart = λ i j q x y at at' has has'. apart_in i j q x y (at_set t.views id i now x at) (at_set t.views id j now y at') has has';
    }

-- the epochs of a table after a step of a pass on their words
module _ (s : Slots) (t : WholeState) (id : ℕ) (k : Known) (here : get_elem? t.views id ≡ some k) (lie : ℕ → ℕ) (dead : ℕ → Bool) (began : ℕ → ℕ) (was_dead : ℕ → ℕ → Bool)
    (h : EpochsAreSound s t lie dead began was_dead) (size : length t.words ≡ slots_size s) where
  -- a word is stored again, so nothing changes
  module _ (i : ℕ) (inside : i < slots_size s) where
    abbrev again : List ℕ
    again = set t.words i (get_or t.words i 0)

    same_at : (j : ℕ) → get_or again j 0 ≡ get_or t.words j 0
    same_at = word_again t.words i (omega arith)

    same_word : (q : ℕ) → word_at_announcement s again q ≡ word_at_announcement s t.words q
    same_word q = ap (λ x. if nat_lt q s.announcements then announced_by x else None) (same_at (announcement_word s q))

    same_retire_epochs : (c : ℕ) → retire_epoch_at s lie again c ≡ retire_epoch_at s lie t.words c
    same_retire_epochs = retire_epochs_same s lie t.words again (λ slot low. same_at (slot_word s slot))

    same_holds : ParticipantHolds s again k
    same_holds = holds_on s t.words again k (λ q has. same_at (announcement_word s q)) (let global = same_at (epoch_word s) in omega arith) (h.each id k here)

    pub epochs_again : EpochsAreSound s (record { words = again; homes = t.homes; views = set t.views id k }) lie dead began was_dead
    epochs_again =
        epochs_after s t id k here k.sight lie dead began was_dead h again k.participant (same_at (epoch_word s)) (λ j u other at q has. same_at (announcement_word s q)) (λ q has. inl has) lie dead began was_dead
        (λ r a at an. h.since id r a k here at an) (λ j r a u other there at an. h.since j r a u there at an)
        (grace_same s.announcements (grace_of s t lie dead began was_dead)
        (grace_of s (record { words = again; homes = t.homes; views = set t.views id k }) lie dead began was_dead)
        (same_at (epoch_word s)) (λ c. refl) same_word (λ q. refl) (λ q c. refl)
        (part_same t.views id k here k (λ p. pending_by p.retire_epoch) refl)
        (part_same t.views id k here k (λ p. p.least) refl)
        (λ j q. part_same t.views id k here k (λ p. nat_lt q p.looked) refl j)
        (part_same t.views id k here k (λ p. p.safe_epoch) refl)
        same_retire_epochs h.sound)
        same_holds

  -- the pass reads the epoch
  abbrev epoch_now : ℕ
  epoch_now = get_or t.words (epoch_word s) 0

  abbrev reads : Known
  reads = record k { participant = after_epoch_read epoch_now k.participant }

  -- the epochs of the protocol as they are, and after a scan has begun
  abbrev was : Grace
  was = grace_of s t lie dead began was_dead

  abbrev scanned : Grace
  scanned = record was { least = put was.least id was.epoch; seen = put was.seen id (λ q. false) }

  -- nothing is below 0
  none_below : (q : ℕ) → nat_lt q 0 ≡ false
  none_below q = grind (arith, nat_tests)

  reads_holds : ParticipantHolds s (again (epoch_word s) (omega arith)) reads
  reads_holds = let now = same_holds (epoch_word s) (omega arith) in record {
    announcement = now.announcement;
    other = now.other;
    two = now.two;
    none = now.none;
    epoch = λ n is. (let same = same_Some epoch_now n is in let global = same_at (epoch_word s) (omega arith) (epoch_word s) in omega arith);
    surveyed = now.surveyed;
    rests = now.rests;
    idle = now.idle;
  }

  pub epochs_read : EpochsAreSound s (record { words = set t.words (epoch_word s) (get_or t.words (epoch_word s) 0); homes = t.homes; views = set t.views id reads }) lie dead began was_dead
  epochs_read =
      epochs_after s t id k here k.sight lie dead began was_dead h (again (epoch_word s) (omega arith)) reads.participant (same_at (epoch_word s) (omega arith) (epoch_word s))
      (λ j u other at q has. same_at (epoch_word s) (omega arith) (announcement_word s q)) gains lie dead began was_dead
      (λ r a at an. h.since id r a k here at an) (λ j r a u other there at an. h.since j r a u there at an)
      (grace_same s.announcements scanned
      (grace_of s (record { words = again (epoch_word s) (omega arith); homes = t.homes; views = set t.views id reads }) lie dead began was_dead)
      (same_at (epoch_word s) (omega arith) (epoch_word s)) (λ c. refl) (same_word (epoch_word s) (omega arith)) (λ q. refl) (λ q c. refl)
      (part_same t.views id k here reads (λ p. pending_by p.retire_epoch) refl)
      (part_put t.views id k here reads (λ p. p.least))
      seen
      (part_same t.views id k here reads (λ p. p.safe_epoch) refl)
      (same_retire_epochs (epoch_word s) (omega arith)) (grace_goes_on s.announcements was scanned h.sound (scans id refl)))
      reads_holds
    where
      gains : (q : ℕ) → HasAnnouncement reads.participant q → HasAnnouncement k.participant q ⊎ IsNobodys t q
      gains q (own is) = inl (own is)
      gains q (spare is) = inl (spare is)

      seen : (i q : ℕ) → nat_lt q (participant_in (set t.views id reads) i).looked ≡ put was.seen id (λ r. false) i q
      seen i q = ap {A = ℕ → Bool} (λ g. g q) (part_put t.views id k here reads (λ p r. nat_lt r p.looked) i)
          ∙ ap {A = ℕ → Bool} (λ g. put was.seen id g i q) (λ x r. none_below r x)

  -- the epoch advances
  module _ (low : epoch_now < last_epoch) where
    abbrev later : List ℕ
    later = set t.words (epoch_word s) (epoch_now + 1)

    later_epoch : get_or later (epoch_word s) 0 ≡ epoch_now + 1
    later_epoch = get_or-set_same t.words (epoch_word s) (epoch_now + 1) 0 (omega arith)

    later_announcement : (q : ℕ) → get_or later (announcement_word s q) 0 ≡ get_or t.words (announcement_word s q) 0
    later_announcement q = get_or-set_other t.words (epoch_word s) (announcement_word s q) (epoch_now + 1) 0 (λ e. omega arith)

    later_retire_epochs : (c : ℕ) → retire_epoch_at s lie later c ≡ retire_epoch_at s lie t.words c
    later_retire_epochs = retire_epochs_same s lie t.words later (λ slot inside. (let behind = epoch_before_slots s slot in
        get_or-set_other t.words (epoch_word s) (slot_word s slot) (epoch_now + 1) 0 (λ e. omega arith)))

    abbrev gone_on : Grace
    gone_on = record was { epoch = was.epoch + 1 }

    pub epochs_advanced : EpochsAreSound s (record { words = set t.words (epoch_word s) (get_or t.words (epoch_word s) 0 + 1); homes = t.homes; views = t.views }) lie dead began was_dead
    epochs_advanced = record {
      sound = grace_same s.announcements gone_on (grace_of s (record { words = later; homes = t.homes; views = t.views }) lie dead began was_dead)
          later_epoch (λ c. refl) (λ q. ap (λ x. if nat_lt q s.announcements then announced_by x else None) (later_announcement q))
          (λ q. refl) (λ q c. refl) (λ j. refl) (λ j. refl) (λ j q. refl) (λ j. refl) later_retire_epochs
          (grace_goes_on s.announcements was gone_on h.sound (advances refl));
      low = let now = later_epoch in omega arith;
      each = λ j u at. holds_on s t.words later u (λ q has. later_announcement q) (let now = later_epoch in omega arith) (h.each j u at);
      since = h.since;
      apart = h.apart;
    }

  -- the pass looks at the word of the next announcement
  module _ (q : ℕ) (next : q ≡ k.participant.looked) (below : q < s.announcements) where
    abbrev found : ℕ
    found = get_or t.words (announcement_word s q) 0

    abbrev sees : Known
    sees = record k { participant = after_look_at s.announcements found k.participant }

    abbrev kept : List ℕ
    kept = again (announcement_word s q) (omega arith)

    abbrev after_it : WholeState
    after_it = record { words = kept; homes = t.homes; views = set t.views id sees }

    kept_at : (j : ℕ) → get_or kept j 0 ≡ get_or t.words j 0
    kept_at = same_at (announcement_word s q) (omega arith)

    -- the epochs of the protocol after the look, and once the safe epoch is settled
    abbrev looked_now : Grace
    looked_now = record was { least = put was.least id (least_with (was.least id) (was.word q)); seen = put was.seen id (put (was.seen id) q true) }

    abbrev settled_now : Grace
    settled_now = record looked_now { safe_epoch = put looked_now.safe_epoch id (looked_now.least id) }

    looked_sound : GraceIsSound s.announcements looked_now
    looked_sound = grace_goes_on s.announcements was looked_now h.sound (looks id q refl)

    -- its least number is that of the protocol, and so are the announcements at which it has looked
    said_there : was.word q ≡ announced_by found
    said_there = let there : nat_lt q s.announcements ≡ true = grind (arith, nat_tests) in ap (λ b. if b then announced_by found else None) there

    least_now : least_with k.participant.least (announced_by found) ≡ least_with (was.least id) (was.word q)
    least_now =
        sym (ap (λ n. least_with n (was.word q)) (ap (λ (p : Participant). p.least) (participant_was t.views id k here sees)) ∙ ap (least_with k.participant.least) said_there)

    least_after : (i : ℕ) → (participant_in (set t.views id sees) i).least ≡ looked_now.least i
    least_after i = part_put t.views id k here sees (λ p. p.least) i ∙ ap (λ n. put was.least id n i) least_now

    pending_after : (i : ℕ) → pending_by (participant_in (set t.views id sees) i).retire_epoch ≡ looked_now.pending i
    pending_after = part_same t.views id k here sees (λ p. pending_by p.retire_epoch) refl

    seen_more : (r : ℕ) → nat_lt r (k.participant.looked + 1) ≡ put (was.seen id) q true r
    seen_more r =
        one_announcement_more k.participant.looked q r next
        ∙ sym (ap (λ n. if r == q then true else nat_lt r n) (ap (λ (p : Participant). p.looked) (participant_was t.views id k here sees)))

    seen_after : (i r : ℕ) → nat_lt r (participant_in (set t.views id sees) i).looked ≡ looked_now.seen i r
    seen_after i r =
        ap {A = ℕ → Bool} (λ g. g r) (part_put t.views id k here sees (λ p x. nat_lt x p.looked) i)
        ∙ ap {A = ℕ → Bool} (λ g. put was.seen id g i r) (λ x n. seen_more n x)

    -- once all announcements were looked at, each was seen
    all_seen : s.announcements ≤ k.participant.looked + 1 → (r : ℕ) → r < s.announcements → looked_now.seen id r ≡ true
    all_seen all r low =
        let there : nat_lt r (k.participant.looked + 1) ≡ true = grind (arith, nat_tests) in
        ap {A = ℕ → Bool} (λ g. g r) (put_same was.seen id (put (was.seen id) q true)) ∙ (sym (seen_more r) ∙ there)

    -- then the least number is the safe one, unless the last one is greater
    module _ (all : nat_lt (k.participant.looked + 1) s.announcements ≡ false) where
      abbrev least_seen : ℕ
      least_seen = least_with k.participant.least (announced_by found)

      greater_one : settled_at s.announcements (k.participant.looked + 1) least_seen k.participant.safe_epoch ≡ max least_seen k.participant.safe_epoch
      greater_one = ap (λ b. if b then k.participant.safe_epoch else max least_seen k.participant.safe_epoch) all

      settled_sound : (least_seen < k.participant.safe_epoch) ⊎ (k.participant.safe_epoch ≤ least_seen) → GraceIsSound s.announcements (grace_of s after_it lie dead began was_dead)
      settled_sound (inr more) =
          grace_same s.announcements settled_now (grace_of s after_it lie dead began was_dead)
          (kept_at (epoch_word s)) (λ c. refl) (same_word (announcement_word s q) (omega arith)) (λ r. refl) (λ r c. refl) pending_after
          least_after seen_after
          (λ i. part_put t.views id k here sees (λ p. p.safe_epoch) i ∙ ap (λ n. put was.safe_epoch id n i) safe_now)
          (same_retire_epochs (announcement_word s q) (omega arith))
          (grace_goes_on s.announcements looked_now settled_now looked_sound (settles id (all_seen (grind (arith, nat_tests))) refl))
        where
          safe_now : settled_at s.announcements (k.participant.looked + 1) least_seen k.participant.safe_epoch ≡ looked_now.least id
          safe_now = greater_one ∙ (max-eq_left more ∙ (least_now ∙ sym (put_same was.least id (least_with (was.least id) (was.word q)))))
      settled_sound (inl less) =
          grace_same s.announcements looked_now (grace_of s after_it lie dead began was_dead)
          (kept_at (epoch_word s)) (λ c. refl) (same_word (announcement_word s q) (omega arith)) (λ r. refl) (λ r c. refl) pending_after
          least_after seen_after
          (part_same t.views id k here sees (λ p. p.safe_epoch) (greater_one ∙ max-eq_right (omega arith)))
          (same_retire_epochs (announcement_word s q) (omega arith)) looked_sound

    -- and before that the safe epoch is as it was
    seen_sound : (b : Bool) → nat_lt (k.participant.looked + 1) s.announcements ≡ b → GraceIsSound s.announcements (grace_of s after_it lie dead began was_dead)
    seen_sound true is =
        grace_same s.announcements looked_now (grace_of s after_it lie dead began was_dead)
        (kept_at (epoch_word s)) (λ c. refl) (same_word (announcement_word s q) (omega arith)) (λ r. refl) (λ r c. refl) pending_after
        least_after seen_after
        (part_same t.views id k here sees (λ p. p.safe_epoch)
        (ap (λ b. if b then k.participant.safe_epoch else max (least_with k.participant.least (announced_by found)) k.participant.safe_epoch) is))
        (same_retire_epochs (announcement_word s q) (omega arith)) looked_sound
    seen_sound false is = settled_sound is (cases_lt (least_with k.participant.least (announced_by found)) k.participant.safe_epoch)

    sees_holds : ParticipantHolds s kept sees
    sees_holds = let now = same_holds (announcement_word s q) (omega arith) in record {
      announcement = now.announcement;
      other = now.other;
      two = now.two;
      none = now.none;
      epoch = now.epoch;
      surveyed = surveyed_low s.announcements (k.participant.looked + 1) k.participant.epoch _ k.participant.surveyed _ now.epoch now.surveyed;
      rests = now.rests;
      idle = now.idle;
    }

    pub epochs_seen : EpochsAreSound s (record { words = set t.words (announcement_word s q) (get_or t.words (announcement_word s q) 0); homes = t.homes; views = set t.views id sees }) lie dead began was_dead
    epochs_seen =
        epochs_after s t id k here k.sight lie dead began was_dead h kept sees.participant (kept_at (epoch_word s)) (λ j u other at r has. kept_at (announcement_word s r)) gains lie dead began was_dead
        (λ r a at an. h.since id r a k here at an) (λ j r a u other there at an. h.since j r a u there at an)
        (seen_sound (nat_lt (k.participant.looked + 1) s.announcements) refl)
        sees_holds
      where
        gains : (r : ℕ) → HasAnnouncement sees.participant r → HasAnnouncement k.participant r ⊎ IsNobodys t r
        gains r (own is) = inl (own is)
        gains r (spare is) = inl (spare is)

  -- the word of an announcement becomes another one
  module _ (q v : ℕ) (below : q < s.announcements) where
    abbrev turned : List ℕ
    turned = set t.words (announcement_word s q) v

    turned_here : get_or turned (announcement_word s q) 0 ≡ v
    turned_here = get_or-set_same t.words (announcement_word s q) v 0 (omega arith)

    turned_else : (r : ℕ) → r < s.announcements → r ≢ q → get_or turned (announcement_word s r) 0 ≡ get_or t.words (announcement_word s r) 0
    turned_else r low other = get_or-set_other t.words (announcement_word s q) (announcement_word s r) v 0 (announcements_apart s r q low below other)

    turned_epoch : get_or turned (epoch_word s) 0 ≡ get_or t.words (epoch_word s) 0
    turned_epoch = get_or-set_other t.words (announcement_word s q) (epoch_word s) v 0 (λ e. omega arith)

    turned_word : (o : Option ℕ) → announced_by v ≡ o → (r : ℕ) → word_at_announcement s turned r ≡ put (word_at_announcement s t.words) q o r
    turned_word o says r = elim (cases_eq r q) [
      | inl e ↦ ap (word_at_announcement s turned) e ∙ (chosen_here ∙ sym (ap (put (word_at_announcement s t.words) q o) e ∙ put_same (word_at_announcement s t.words) q o))
      | inr n ↦ chosen (nat_lt r s.announcements) _ _ None (λ low. ap announced_by (turned_else r (grind (arith, nat_tests)) n)) ∙ sym (put_other (word_at_announcement s t.words) q o r n)
    ]
      where
        chosen_here : word_at_announcement s turned q ≡ o
        chosen_here =
            let there : nat_lt q s.announcements ≡ true = grind (arith, nat_tests) in
            ap (λ b. if b then announced_by (get_or turned (announcement_word s q) 0) else None) there ∙ (ap announced_by turned_here ∙ says)

    turned_retire_epochs : (c : ℕ) → retire_epoch_at s lie turned c ≡ retire_epoch_at s lie t.words c
    turned_retire_epochs = retire_epochs_same s lie t.words turned (λ slot inside. (let behind = before_slots s q slot in
        get_or-set_other t.words (announcement_word s q) (slot_word s slot) v 0 (λ e. omega arith)))

    -- who has another announcement finds its word as it was
    announcement_else : (j r : ℕ) (u : Known) → get_elem? t.views j ≡ some u → HasAnnouncement u.participant r → r ≢ q → get_or turned (announcement_word s r) 0 ≡ get_or t.words (announcement_word s r) 0
    announcement_else j r u at (own is) other = turned_else r ((h.each j u at).announcement r is).0 other
    announcement_else j r u at (spare is) other = turned_else r ((h.each j u at).other r is).0 other

    -- no other pass has that announcement, if this one has it
    others_have_none : HasAnnouncement k.participant q → (j : ℕ) (u : Known) → j ≢ id → get_elem? t.views j ≡ some u → (r : ℕ) → HasAnnouncement u.participant r
        → get_or turned (announcement_word s r) 0 ≡ get_or t.words (announcement_word s r) 0
    others_have_none mine j u other at r has =
        announcement_else j r u at has (λ e. other (h.apart j id q u k at here (subst (HasAnnouncement u.participant) e has) mine))

    -- nor has any, if its word is 0
    nobody_has : get_or t.words (announcement_word s q) 0 ≡ 0 → IsNobodys t q
    nobody_has empty j u at (own is) = let says = ((h.each j u at).announcement q is).1 in let more = says_something u.participant.announced in absurd (omega arith)
    nobody_has empty j u at (spare is) = let says = ((h.each j u at).other q is).1 in let more = says_something u.participant.other_says in absurd (omega arith)

    -- the epochs of the protocol after an announcement
    module _ (p : Participant) (least : p.least ≡ k.participant.least) (looked : p.looked ≡ k.participant.looked) (safe_epoch : p.safe_epoch ≡ k.participant.safe_epoch)
        (retire_epoch : p.retire_epoch ≡ k.participant.retire_epoch) where
      abbrev knows : Known
      knows = record k { participant = p }

      abbrev turns : WholeState
      turns = record { words = turned; homes = t.homes; views = set t.views id knows }

      abbrev begun_now : ℕ → Grace
      begun_now epoch = record was { word = put was.word q (Some epoch); began = put was.began q was.epoch; was_gone = put was.was_gone q was.gone }

      abbrev ended_now : Grace
      ended_now = record was { word = put was.word q None }

      begun : (epoch : ℕ) → announced_by v ≡ Some epoch → epoch ≤ get_or t.words (epoch_word s) 0
          → GraceIsSound s.announcements (grace_of s turns lie dead (put began q (get_or t.words (epoch_word s) 0)) (put was_dead q dead))
      begun epoch says low =
          grace_same s.announcements (begun_now epoch) (grace_of s turns lie dead (put began q (get_or t.words (epoch_word s) 0)) (put was_dead q dead))
          turned_epoch (λ c. refl) (turned_word (Some epoch) says) (λ r. refl) (λ r c. refl)
          (part_same t.views id k here knows (λ x. pending_by x.retire_epoch) (ap pending_by retire_epoch))
          (part_same t.views id k here knows (λ x. x.least) least)
          (λ j r. part_same t.views id k here knows (λ x. nat_lt r x.looked) (ap (nat_lt r) looked) j)
          (part_same t.views id k here knows (λ x. x.safe_epoch) safe_epoch)
          turned_retire_epochs (grace_goes_on s.announcements was (begun_now epoch) h.sound (begins q epoch below low refl))

      ended : announced_by v ≡ None → GraceIsSound s.announcements (grace_of s turns lie dead began was_dead)
      ended says =
          grace_same s.announcements ended_now (grace_of s turns lie dead began was_dead)
          turned_epoch (λ c. refl) (turned_word None says) (λ r. refl) (λ r c. refl)
          (part_same t.views id k here knows (λ x. pending_by x.retire_epoch) (ap pending_by retire_epoch))
          (part_same t.views id k here knows (λ x. x.least) least)
          (λ j r. part_same t.views id k here knows (λ x. nat_lt r x.looked) (ap (nat_lt r) looked) j)
          (part_same t.views id k here knows (λ x. x.safe_epoch) safe_epoch)
          turned_retire_epochs (grace_goes_on s.announcements was ended_now h.sound (ends q refl))

  -- what the pass knows is so
  abbrev mine : ParticipantHolds s t.words k
  mine = h.each id k here

  -- the pass announces an epoch
  pub epochs_announced : (q epoch : ℕ) → k.participant.announcement ≡ Some q → k.participant.epoch ≡ Some epoch
      → EpochsAreSound s (record { words = set t.words (announcement_word s q) (epoch + 2); homes = t.homes; views = set t.views id (record k { participant = after_announce epoch (get_or t.words (epoch_word s) 0) k.participant }) })
      lie dead (put began q (get_or t.words (epoch_word s) 0)) (put was_dead q dead)
  epochs_announced q epoch placed was =
      epochs_after s t id k here k.sight lie dead began was_dead h (turned q (epoch + 2) below) (after_announce epoch (get_or t.words (epoch_word s) 0) k.participant) (turned_epoch q (epoch + 2) below) (others_have_none q (epoch + 2) below (own placed)) gains
      lie dead (put began q (get_or t.words (epoch_word s) 0)) (put was_dead q dead)
      (λ r a at an. (let e : r ≡ q = same_Some r q (sym at ∙ placed) in
      ap (put began q (get_or t.words (epoch_word s) 0)) e ∙ put_same began q (get_or t.words (epoch_word s) 0)))
      (λ j r a u other there at an. put_other began q (get_or t.words (epoch_word s) 0) r
      (λ e. other (h.apart j id q u k there here (own (at ∙ ap (λ x. Some x) e)) (own placed))) ∙ h.since j r a u there at an)
      (begun q (epoch + 2) below (after_announce epoch (get_or t.words (epoch_word s) 0) k.participant) refl refl refl refl epoch (announced_again epoch) (mine.epoch epoch was))
      record {
        announcement = λ r is. (let e : r ≡ q = same_Some r q (sym is ∙ placed) in let low = below in (omega arith, ap (λ x. get_or (turned q (epoch + 2) below) (announcement_word s x) 0) e ∙ turned_here q (epoch + 2) below));
        other = λ r is. (let at = mine.other r is in
            (at.0, turned_else q (epoch + 2) below r at.0 (λ e. mine.two q placed (is ∙ ap (λ x. Some x) e)) ∙ at.1));
        two = mine.two;
        none = λ is. absurd (some_not_none placed is);
        epoch = λ n is. (let same = turned_epoch q (epoch + 2) below in let low = mine.epoch n is in omega arith);
        surveyed = (let same = turned_epoch q (epoch + 2) below in let low = mine.surveyed in omega arith);
        rests = λ is. absurd (some_not_none refl is);
        idle = mine.idle;
      }
    where
      below : q < s.announcements
      below = (mine.announcement q placed).0

      gains : (r : ℕ) → HasAnnouncement (after_announce epoch (get_or t.words (epoch_word s) 0) k.participant) r → HasAnnouncement k.participant r ⊎ IsNobodys t r
      gains r (own is) = inl (own is)
      gains r (spare is) = inl (spare is)

  -- what a pass at rest has announced is taken back
  pub epochs_retracted : (q : ℕ) → k.participant.announcement ≡ Some q → IsAtRest k.tree
      → EpochsAreSound s (record { words = set t.words (announcement_word s q) 1; homes = t.homes; views = set t.views id (record k { participant = after_retract k.participant }) }) lie dead began was_dead
  epochs_retracted q placed rest =
      epochs_after s t id k here k.sight lie dead began was_dead h (turned q 1 below) (after_retract k.participant) (turned_epoch q 1 below) (others_have_none q 1 below (own placed)) gains
      lie dead began was_dead
      (λ r a at an. absurd (some_not_none an refl)) (λ j r a u other there at an. h.since j r a u there at an)
      (ended q 1 below (after_retract k.participant) refl refl refl refl refl)
      record {
        announcement = λ r is. (let e : r ≡ q = same_Some r q (sym is ∙ placed) in let low = below in (omega arith, ap (λ x. get_or (turned q 1 below) (announcement_word s x) 0) e ∙ turned_here q 1 below));
        other = λ r is. (let at = mine.other r is in
            (at.0, turned_else q 1 below r at.0 (λ e. mine.two q placed (is ∙ ap (λ x. Some x) e)) ∙ at.1));
        two = mine.two;
        none = λ is. refl;
        epoch = λ n is. (let same = turned_epoch q 1 below in let low = mine.epoch n is in omega arith);
        surveyed = (let same = turned_epoch q 1 below in let low = mine.surveyed in omega arith);
        rests = λ is. rest;
        idle = mine.idle;
      }
    where
      below : q < s.announcements
      below = (mine.announcement q placed).0

      gains : (r : ℕ) → HasAnnouncement (after_retract k.participant) r → HasAnnouncement k.participant r ⊎ IsNobodys t r
      gains r (own is) = inl (own is)
      gains r (spare is) = inl (spare is)

  -- an announcement that no pass has is taken
  pub epochs_taken : (q : ℕ) → q < s.announcements → get_or t.words (announcement_word s q) 0 ≡ 0
      → EpochsAreSound s (record { words = set t.words (announcement_word s q) 1; homes = t.homes; views = set t.views id (record k { participant = after_take q 0 k.participant }) }) lie dead began was_dead
  epochs_taken q below empty =
      epochs_after s t id k here k.sight lie dead began was_dead h (turned q 1 below) (after_take q 0 k.participant) (turned_epoch q 1 below)
      (λ j u other at r has. announcement_else q 1 below j r u at has (λ e. nobody j u at (subst (HasAnnouncement u.participant) e has))) gains
      lie dead began was_dead
      (λ r a at an. h.since id r a k here at an) (λ j r a u other there at an. h.since j r a u there at an)
      (ended q 1 below (after_take q 0 k.participant) refl refl refl refl refl)
      record {
        announcement = λ r is. (let at = mine.announcement r is in (at.0, announcement_else q 1 below id r k here (own is) (λ e. nobody id k here (subst (HasAnnouncement k.participant) e (own is))) ∙ at.1));
        other = λ r is. (let e : r ≡ q = sym (same_Some q r is) in (omega arith, ap (λ x. get_or (turned q 1 below) (announcement_word s x) 0) e ∙ turned_here q 1 below));
        two = λ r is other. nobody id k here (subst (HasAnnouncement k.participant) (sym (same_Some q r other)) (own is));
        none = mine.none;
        epoch = λ n is. (let same = turned_epoch q 1 below in let low = mine.epoch n is in omega arith);
        surveyed = (let same = turned_epoch q 1 below in let low = mine.surveyed in omega arith);
        rests = mine.rests;
        idle = mine.idle;
      }
    where
      nobody : IsNobodys t q
      nobody = nobody_has q 1 below empty

      gains : (r : ℕ) → HasAnnouncement (after_take q 0 k.participant) r → HasAnnouncement k.participant r ⊎ IsNobodys t r
      gains r (own is) = inl (own is)
      gains r (spare is) = inr (λ j u at has. nobody j u at (subst (HasAnnouncement u.participant) (sym (same_Some q r is)) has))

  -- the other announcement of the pass is given back
  pub epochs_given : (q : ℕ) → k.participant.other ≡ Some q
      → EpochsAreSound s (record { words = set t.words (announcement_word s q) 0; homes = t.homes; views = set t.views id (record k { participant = after_give k.participant }) }) lie dead began was_dead
  epochs_given q has =
      epochs_after s t id k here k.sight lie dead began was_dead h (turned q 0 below) (after_give k.participant) (turned_epoch q 0 below) (others_have_none q 0 below (spare has)) gains
      lie dead began was_dead
      (λ r a at an. h.since id r a k here at an) (λ j r a u other there at an. h.since j r a u there at an)
      (ended q 0 below (after_give k.participant) refl refl refl refl refl)
      record {
        announcement = λ r is. (let at = mine.announcement r is in
            (at.0, turned_else q 0 below r at.0 (λ e. mine.two r is (has ∙ ap (λ x. Some x) (sym e))) ∙ at.1));
        other = λ r is. absurd (some_not_none is refl);
        two = λ r is other. some_not_none other refl;
        none = mine.none;
        epoch = λ n is. (let same = turned_epoch q 0 below in let low = mine.epoch n is in omega arith);
        surveyed = (let same = turned_epoch q 0 below in let low = mine.surveyed in omega arith);
        rests = mine.rests;
        idle = mine.idle;
      }
    where
      below : q < s.announcements
      below = (mine.other q has).0

      gains : (r : ℕ) → HasAnnouncement (after_give k.participant) r → HasAnnouncement k.participant r ⊎ IsNobodys t r
      gains r (own is) = inl (own is)
      gains r (spare is) = absurd (some_not_none is refl)

  -- the announcement of a pass that announces nothing is given back, as the pass is given up
  pub epochs_released : (q : ℕ) → k.participant.announcement ≡ Some q → k.participant.announced ≡ None
      → EpochsAreSound s (record { words = set t.words (announcement_word s q) 0; homes = t.homes; views = set t.views id (record k { participant = after_release k.participant }) }) lie dead began was_dead
  epochs_released q placed quiet =
      epochs_after s t id k here k.sight lie dead began was_dead h (turned q 0 below) (after_release k.participant) (turned_epoch q 0 below) (others_have_none q 0 below (own placed)) gains
      lie dead began was_dead
      (λ r a at an. absurd (some_not_none at refl)) (λ j r a u other there at an. h.since j r a u there at an)
      (ended q 0 below (after_release k.participant) refl refl refl refl refl)
      record {
        announcement = λ r is. absurd (some_not_none is refl);
        other = λ r is. (let at = mine.other r is in
            (at.0, turned_else q 0 below r at.0 (λ e. mine.two q placed (is ∙ ap (λ x. Some x) e)) ∙ at.1));
        two = λ r is other. some_not_none is refl;
        none = λ is. quiet;
        epoch = λ n is. (let same = turned_epoch q 0 below in let low = mine.epoch n is in omega arith);
        surveyed = (let same = turned_epoch q 0 below in let low = mine.surveyed in omega arith);
        rests = mine.rests;
        idle = mine.idle;
      }
    where
      below : q < s.announcements
      below = (mine.announcement q placed).0

      gains : (r : ℕ) → HasAnnouncement (after_release k.participant) r → HasAnnouncement k.participant r ⊎ IsNobodys t r
      gains r (own is) = absurd (some_not_none is refl)
      gains r (spare is) = inl (spare is)
