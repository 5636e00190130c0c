use Rattle.std.specs.Prelude.{◌≡◌, ◌≢◌, ℕ, zero, suc, ◌+◌, ◌-◌, ◌*◌, ◌/◌, ◌<◌, ◌≤◌, ◌==◌, ◌++◌, ◌&&◌, ◌⊎◌, max, nat_lt, nat_le, if◌then◌else◌, ◌%◌, Bool, Option, Some, None, List, length, replicate, slice_index, slice_set, true, false}
use mathlib.Core.Option.{some, none, Option as Maybe}
use lib.ListN.{get_elem?}
use Rattle.atomic_table.specs.Table.{State}
use Rattle.ell_layout.specs.Layout.{table_size}
use Rattle.ell_grace.specs.epochs.Grace.{Grace, least_with}
use Rattle.ell_grace.specs.epochs.Sound.{GraceIsSound}
use Rattle.ell_cards.specs.declared.retiring.Whose.{Whose}
use Rattle.ell_cards.specs.declared.card_nodes.CardNodes.{CardNodes}
use Rattle.ell_cards.specs.declared.view.Known.{Known}
use Rattle.ell_cards.specs.declared.view.Participant.{Participant}
use Rattle.ell_runs.specs.declared.view.Slots.{Slots}
use Rattle.ell_cards.specs.declared.view.RetireEpoch.{RetireEpoch}
use Rattle.ell_cards.specs.declared.view.Survey.{Survey}
use Rattle.ell_runs.specs.Plans.{TablePlan}
use Rattle.ell_cards.specs.Models.{no_survey}
use Rattle.ell_cards.specs.Retiring.{is_done, none_retired, retires_if, with_retired}
use Rattle.ell_cards.specs.SlotWords.{slot_of, card_by, free_word, freed_by, taken_word}
use Rattle.ell_runs.specs.Touching.{IsAtRest}

-- the state of a table, with all that its passes know
abbrev pub WholeState : Type 0
WholeState = State (Unit {0}) Known

-- The epoch of a table whose cards come back is the first word of the group behind the last card's, and the
-- announcements follow it, the first one at the end. Each has eight words, of which it uses one, so that no two of them
-- are in one line of the cache.
abbrev pub epoch_word : Slots → ℕ
epoch_word s = 774 + 768 * (s.last / 64)

abbrev pub announcement_word : Slots → ℕ → ℕ
announcement_word s q = epoch_word s + 1 + 8 * (s.announcements - q)

-- Where a slot has its word among those of the slots: in each 64 words, those of slots that come one after the other
-- stand eight words apart, so that no two of them are in one line of the cache.
abbrev pub spread : ℕ → ℕ
spread slot = 64 * (slot / 64) + 8 * (slot % 8) + slot / 8 % 8

-- behind the announcements stand the words of the slots, one each
abbrev pub slot_word : Slots → ℕ → ℕ
slot_word s slot = epoch_word s + 9 + 8 * s.announcements + spread slot

-- How many words such a table has. A table whose cards do not come back never has so many, since this number is odd:
-- there are words for 64 slots, or 128, and so on.
abbrev pub slots_size : Slots → ℕ
slots_size s = epoch_word s + 9 + 8 * s.announcements + 64 * (s.last / 64 + 1)

-- These cards lie in the slots of a table, one each, by the words of those that are in use.
abbrev pub LieInSlots : Slots → List ℕ → (ℕ → ℕ) → Type 0
LieInSlots s words lie =
    (slot : ℕ) → slot ≤ s.last → slice_index words (slot_word s slot) % 8 ≢ 0
    → lie slot ≡ card_by slot (slice_index words (slot_word s slot))

-- the retire epoch of a card that was set free, if it lies in its slot
abbrev pub retire_epoch_at : Slots → (ℕ → ℕ) → List ℕ → ℕ → Option ℕ
retire_epoch_at s lie words c =
    if nat_le (slot_of c) s.last && lie (slot_of c) == c
    then freed_by (slice_index words (slot_word s (slot_of c))) else None

-- the card that a pass is about to set free, and the retire epoch
abbrev pub pending_by : Option RetireEpoch → Option (ℕ × ℕ)
pending_by None = None
pending_by (Some retire_epoch) = Some (retire_epoch.card, retire_epoch.epoch)

-- the word of a slot as a table opens with so many start keys: each slot is free, with the retire epoch 0, unless the
-- card of the root or of a start key lies there
abbrev pub opening_word : ℕ → ℕ → ℕ
opening_word given slot = if nat_lt given slot then free_word 0 else taken_word 0

-- the words of cards, and behind them those of epochs, where nobody has an announcement but the first pass, and those
-- of slots that are all free
abbrev pub words_of_free_slots : Slots → List ℕ → List ℕ
words_of_free_slots s cards =
    slice_set
    (slice_set
    ((cards ++ replicate (slot_word s 0 - length cards) 0) ++ replicate (slots_size s - slot_word s 0) (free_word 0))
    (epoch_word s) 1)
    (announcement_word s 0) 1

-- The words of a table whose cards come back at its start, behind these of its cards: the epoch is 1, so that the
-- retire epoch 0 is safe for whoever looks at the announcements, of which the first pass has the first one and nobody
-- another, and slots are free.
pub record AreOpeningWords (s : Slots) (given : ℕ) (cards words : List ℕ) : Type 0 where
  pub size : length words ≡ slots_size s
  pub cards_first : (i : ℕ) → i < table_size s.last → slice_index words i ≡ slice_index cards i
  pub epoch : slice_index words (epoch_word s) ≡ 1
  pub announcement : slice_index words (announcement_word s 0) ≡ 1
  pub others : (i : ℕ) → epoch_word s < i → i < epoch_word s + 9 + 8 * s.announcements → i ≢ announcement_word s 0
      → slice_index words i ≡ 0
  pub slots : (slot : ℕ) → slot ≤ s.last → slice_index words (slot_word s slot) ≡ opening_word given slot

abbrev pub AreWholeWords : Option Slots → ℕ → List ℕ → List ℕ → Type 0
AreWholeWords None given cards words = words ≡ cards
AreWholeWords (Some s) given cards words = AreOpeningWords s given cards words

-- how many words a table has, whether its cards come back or not
abbrev pub size_by : Option Slots → ℕ → ℕ
size_by None last = table_size last
size_by (Some s) last = slots_size s

abbrev pub whole_size : TablePlan → ℕ
whole_size plan = size_by plan.slots plan.last_card

-- The word of an announcement is 0 if no pass has it, 1 if its pass is not pinned, and else the epoch that its pass
-- announces, and 2.
abbrev pub announcement_says : Option ℕ → ℕ
announcement_says None = 1
announcement_says (Some epoch) = epoch + 2

abbrev pub announced_by : ℕ → Option ℕ
announced_by zero = None
announced_by (suc zero) = None
announced_by (suc (suc epoch)) = Some epoch

-- the epoch stops here, so that an announcement has a word for each epoch, and so has a slot that was set free with it
abbrev pub last_epoch : ℕ
last_epoch = 1152921504606846976

-- all announcements were looked at anew: the epoch has advanced since the last time, unless it has stopped
abbrev pub LooksAnew : Survey → Survey → Type 0
LooksAnew old new = (old.epoch < new.epoch) ⊎ (new.epoch ≡ last_epoch)

-- what a pass without an announcement knows of epochs: nothing
abbrev pub no_participant : Participant
no_participant = record {
  announcement = None;
  other = None;
  other_says = None;
  announced = None;
  began = 0;
  epoch = None;
  least = 0;
  looked = 0;
  safe_epoch = 0;
  surveyed = no_survey;
  read = None;
  retire_epoch = None;
  slot = None;
  retired = none_retired;
  lost = None;
}

-- the first pass of a table has the first announcement, if there is one
abbrev pub participant_by : Option Slots → Participant
participant_by None = no_participant
participant_by (Some s) = record no_participant { announcement = Some 0 }

abbrev pub first_participant : TablePlan → Participant
first_participant plan = participant_by plan.slots

-- the epoch was read, so a look at the announcements begins
abbrev pub after_epoch_read : ℕ → Participant → Participant
after_epoch_read n p = record p { epoch = Some n; least = n; looked = 0 }

-- the epoch was advanced from the one that was read, by the pass or by another one
abbrev pub after_advance : ℕ → Participant → Participant
after_advance n p = record p { epoch = Some (n + 1) }

-- the pass was pinned by an announcement of this epoch, when the global one was that
abbrev pub after_announce : ℕ → ℕ → Participant → Participant
after_announce epoch global p = record p { announced = Some epoch; began = global }

-- and it was ended
abbrev pub after_retract : Participant → Participant
after_retract p = record p { announced = None }

-- once all announcements were looked at, the least number that was seen is the safe one, unless the last one is greater
abbrev pub settled_at : ℕ → ℕ → ℕ → ℕ → ℕ
settled_at announcements looked least safe_epoch =
    if nat_lt looked announcements then safe_epoch else max least safe_epoch

-- and that look is the last one at all announcements
abbrev pub surveyed_at : ℕ → ℕ → Option ℕ → ℕ → Survey → Survey
surveyed_at announcements looked None least seen = seen
surveyed_at announcements looked (Some epoch) least seen =
    if nat_lt looked announcements then seen else record { epoch = epoch; least = least }

-- the next announcement was looked at, and its word is this
abbrev pub after_look_at : ℕ → ℕ → Participant → Participant
after_look_at announcements n p = record p {
  least = least_with p.least (announced_by n);
  looked = p.looked + 1;
  safe_epoch = settled_at announcements (p.looked + 1) (least_with p.least (announced_by n)) p.safe_epoch;
  surveyed = surveyed_at announcements (p.looked + 1) p.epoch (least_with p.least (announced_by n)) p.surveyed;
}

-- the announcements of a pass, and what is announced there, are as they were
pub record StandsAs (old new : Participant) : Type 0 where
  pub announcement : new.announcement ≡ old.announcement
  pub other : new.other ≡ old.other
  pub other_says : new.other_says ≡ old.other_says
  pub announced : new.announced ≡ old.announced

-- the word of a slot was read
abbrev pub after_read : ℕ → ℕ → Participant → Participant
after_read slot n p = record p { read = Some (record { slot = slot; word = n }) }

-- the word of a card's slot was read by a pass that is to retire nodes of the card there, and none of them may be left
abbrev pub after_retiring_read : Whose → ℕ → CardNodes → ℕ → Participant → Participant
after_retiring_read whose c nodes n p =
    record (after_read (slot_of c) n p) { retired = retires_if (is_done whose c nodes n) whose nodes p.retired }

-- it exchanged that word for one by which they are retired too; or it found another one, by which it goes on
abbrev pub after_retiring : Bool → Whose → ℕ → CardNodes → ℕ → Participant → Participant
after_retiring true whose c nodes n p = record p { retired = with_retired whose nodes p.retired }
after_retiring false whose c nodes n p = after_retiring_read whose c nodes n p

-- the slot of a card was taken, for which nothing was retired yet
abbrev pub after_taking : ℕ → Participant → Participant
after_taking c p = record p { read = None; slot = Some c; retired = none_retired }

-- the epoch was read for a card whose nodes are dead
abbrev pub after_retire_epoch : ℕ → ℕ → Participant → Participant
after_retire_epoch card n p = record p { retire_epoch = Some (record { card = card; epoch = n }) }

-- a flag was set, or it was lost, and the card was discarded by that
abbrev pub after_flagging : Option Slots → Bool → ℕ → Participant → Participant
after_flagging None won c p = p
after_flagging (Some s) true c p = p
after_flagging (Some s) false c p = record p { lost = Some c }

-- so a pass has lost the flag of a card for which it had taken a slot, if it has lost it and cards come back
abbrev pub LostIs : Option Slots → Bool → ℕ → Participant → Type 0
LostIs None lost c p = p.lost ≡ None
LostIs (Some s) false c p = p.lost ≡ None
LostIs (Some s) true c p = (p.lost ≡ Some c) × (p.slot ≡ Some c)

-- that card's slot was set free
abbrev pub after_freeing : Participant → Participant
after_freeing p = record p { lost = None }

-- an announcement was taken that no pass had, if its word was 0
abbrev pub after_take : ℕ → ℕ → Participant → Participant
after_take q zero p = record p { other = Some q; other_says = None }
after_take q (suc n) p = p

-- the other announcement was given back, or given away
abbrev pub after_give : Participant → Participant
after_give p = record p { other = None; other_says = None }

-- the pass was given up, and its announcement given back
abbrev pub after_release : Participant → Participant
after_release p = record p { announcement = None }

-- the pass that gets it
abbrev pub given_participant : Participant → Participant
given_participant p = record no_participant { announcement = p.other }

-- the pass to which another was joined has that one's announcement, with what is announced there
abbrev pub joined_participant : Participant → Participant → Participant
joined_participant p other = record p { other = other.announcement; other_says = other.announced }

-- a pass has an announcement
pub data HasAnnouncement (p : Participant) (q : ℕ) : Type 0 where
  own : p.announcement ≡ Some q → HasAnnouncement p q
  spare : p.other ≡ Some q → HasAnnouncement p q

-- an announcement is one of the table, and its word says that this is announced there, or that nothing is
abbrev pub AnnouncementHas : Slots → List ℕ → ℕ → Option ℕ → Type 0
AnnouncementHas s words q announced = (q < s.announcements)
    × (slice_index words (announcement_word s q) ≡ announcement_says announced)

-- What a pass knows of epochs is so: its announcements are among those of the table, two if it has another one, and
-- their words say what it knows to be announced there; the epoch has been as it was read; a pass that announces nothing
-- is at rest; and one that has lost a flag has no card in hand until it has set the slot free.
pub record ParticipantHolds (s : Slots) (words : List ℕ) (k : Known) : Type 0 where
  pub announcement : (q : ℕ) → k.participant.announcement ≡ Some q → AnnouncementHas s words q k.participant.announced
  pub other : (q : ℕ) → k.participant.other ≡ Some q → AnnouncementHas s words q k.participant.other_says
  pub two : (q : ℕ) → k.participant.announcement ≡ Some q → k.participant.other ≢ Some q
  pub none : k.participant.announcement ≡ None → k.participant.announced ≡ None
  pub epoch : (n : ℕ) → k.participant.epoch ≡ Some n → n ≤ slice_index words (epoch_word s)
  pub surveyed : k.participant.surveyed.epoch ≤ slice_index words (epoch_word s)
  pub rests : k.participant.announced ≡ None → IsAtRest k.tree
  pub idle : (c : ℕ) → k.participant.lost ≡ Some c → k.tree.worker.card ≡ None

-- what the pass in a seat knows of epochs: nothing, if there is none
abbrev pub participant_of : Maybe Known → Participant
participant_of none = no_participant
participant_of (some k) = k.participant

abbrev pub participant_in : List Known → ℕ → Participant
participant_in views i = participant_of (get_elem? views i)

-- what an announcement says, if it is one of the table
abbrev pub word_at_announcement : Slots → List ℕ → ℕ → Option ℕ
word_at_announcement s words q =
    if nat_lt q s.announcements then announced_by (slice_index words (announcement_word s q)) else None

-- The epochs of a table as the protocol has them: the global epoch and what is announced are its words, and what each
-- pass has seen is what it knows. Nobody reads which cards lie in free slots, which are dead, what the epoch was when a
-- pass was pinned, and which were dead then.
abbrev pub grace_of : Slots → WholeState → (ℕ → ℕ) → (ℕ → Bool) → (ℕ → ℕ) → (ℕ → ℕ → Bool) → Grace
grace_of s t lie dead began was_dead = record {
  epoch = slice_index t.words (epoch_word s);
  gone = dead;
  word = word_at_announcement s t.words;
  began = began;
  was_gone = was_dead;
  pending = λ i. pending_by (participant_in t.views i).retire_epoch;
  least = λ i. (participant_in t.views i).least;
  seen = λ i q. nat_lt q (participant_in t.views i).looked;
  safe_epoch = λ i. (participant_in t.views i).safe_epoch;
  free = retire_epoch_at s lie t.words;
}

-- The epochs of a table are sound, by which cards lie in its slots, what is dead, what the epoch was when each pass was
-- pinned, and what was dead then: they are sound as the protocol has them, what each pass knows of them is so, a pass
-- that is pinned was pinned when it knows it, and no two passes have one announcement.
pub record EpochsAreSound (s : Slots) (t : WholeState) (lie : ℕ → ℕ) (dead : ℕ → Bool) (began : ℕ → ℕ)
    (was_dead : ℕ → ℕ → Bool) : Type 0 where
  pub sound : GraceIsSound s.announcements (grace_of s t lie dead began was_dead)
  pub low : slice_index t.words (epoch_word s) ≤ last_epoch
  pub each : (i : ℕ) (k : Known) → get_elem? t.views i ≡ some k → ParticipantHolds s t.words k
  pub since : (i q a : ℕ) (k : Known) → get_elem? t.views i ≡ some k → k.participant.announcement ≡ Some q
      → k.participant.announced ≡ Some a → began q ≡ k.participant.began
  pub apart : (i j q : ℕ) (k l : Known) → get_elem? t.views i ≡ some k → get_elem? t.views j ≡ some l
      → HasAnnouncement k.participant q → HasAnnouncement l.participant q → i ≡ j
