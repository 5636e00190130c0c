use Rattle.std.proofs.Common.{Some, ◌≡◌, ◌≢◌, ℕ, ◌%◌, ◌<◌, ◌≤◌, ◌==◌, ◌&&◌, nat_le, if◌then◌else◌, Bool, true, false, Option, None, List, get_or, set, inl, inr, refl, sym, ap, ◌∙◌, arith}
use Rattle.std.proofs.lemmas.Bool.{cases_eq}
use Rattle.std.proofs.lemmas.Bool.Decides.{nat_tests}
use mathlib.Core.Option.{some}
use lib.ListN.{get_elem?}
use Rattle.atomic_table.proofs.Lists.{set_else}
use Rattle.ell_layout.specs.Layout.{table_size}
use Rattle.ell_layout.specs.Words.{put}
use Rattle.ell_layout.proofs.lemmas.Writes.{put_same, put_other}
use Rattle.ell_cards.specs.declared.view.Known.{Known}
use Rattle.ell_cards.specs.declared.view.Participant.{Participant}
use Rattle.ell_runs.specs.declared.view.Slots.{Slots}
use Rattle.ell_cards.specs.Epochs.{epoch_word, announcement_word, slot_word, retire_epoch_at, participant_of, participant_in, LieInSlots, ParticipantHolds, HasAnnouncement, own, spare, announcement_says}
use Rattle.ell_runs.specs.Touching.{IsAtRest}
use Rattle.ell_cards.specs.SlotWords.{slot_of, card_by, freed_by}
use Rattle.ell_runs.proofs.lemmas.seats.Seats.{set_there}

-- the words of the cards stand before the epoch, and the announcements behind it
pub before_epoch : (s : Slots) (i : ℕ) → i < table_size s.last → i < epoch_word s
before_epoch s i low = omega arith

-- two announcements have two words
pub announcements_apart : (s : Slots) (q r : ℕ) → q < s.announcements → r < s.announcements → q ≢ r → announcement_word s q ≢ announcement_word s r
announcements_apart s q r low low' apart same = apart (omega arith)

-- the words of the slots stand behind all others
pub before_slots : (s : Slots) (q slot : ℕ) → announcement_word s q < slot_word s slot
before_slots s q slot = omega arith

pub epoch_before_slots : (s : Slots) (slot : ℕ) → epoch_word s < slot_word s slot
epoch_before_slots s slot = omega arith

-- the retire epoch of a card, by whether its slot is one of the table, by which card lies there, and by the word of
-- that
abbrev pub retire_epoch_by : (ℕ → ℕ) → ℕ → Bool → ℕ → Option ℕ
retire_epoch_by lie c b n = if b && lie (slot_of c) == c then freed_by n else None

-- where the words of the slots are the same, so are the retire epochs
pub retire_epochs_same : (s : Slots) (lie : ℕ → ℕ) (words words' : List ℕ)
    → ((slot : ℕ) → slot ≤ s.last → get_or words' (slot_word s slot) 0 ≡ get_or words (slot_word s slot) 0)
    → (c : ℕ) → retire_epoch_at s lie words' c ≡ retire_epoch_at s lie words c
retire_epochs_same s lie words words' same c = by (nat_le (slot_of c) s.last) refl
  where
    by : (b : Bool) → nat_le (slot_of c) s.last ≡ b
        → retire_epoch_by lie c b (get_or words' (slot_word s (slot_of c)) 0) ≡ retire_epoch_by lie c b (get_or words (slot_word s (slot_of c)) 0)
    by true is = ap (retire_epoch_by lie c true) (same (slot_of c) (grind (arith, nat_tests)))
    by false is = refl

-- and the same cards lie there
pub lie_same : (s : Slots) (lie : ℕ → ℕ) (words words' : List ℕ)
    → ((slot : ℕ) → slot ≤ s.last → get_or words' (slot_word s slot) 0 ≡ get_or words (slot_word s slot) 0)
    → LieInSlots s words lie → LieInSlots s words' lie
lie_same s lie words words' same lies slot inside taken =
    let is = same slot inside in lies slot inside (λ full. taken (ap (λ n. n % 8) is ∙ full)) ∙ ap (card_by slot) (sym is)

-- what the passes know of epochs, where one knows something else
module _ (views : List Known) (id : ℕ) (k : Known) (here : get_elem? views id ≡ some k) (after : Known) where
  pub participant_now : participant_in (set views id after) id ≡ after.participant
  participant_now = ap participant_of (set_there views id after k here)

  pub participant_else : (i : ℕ) → i ≢ id → participant_in (set views id after) i ≡ participant_in views i
  participant_else i apart = ap participant_of (set_else views id i after apart)

  pub participant_was : participant_in views id ≡ k.participant
  participant_was = ap participant_of here

  -- something of it goes on so
  pub part_put : {A : Type 0} (part : Participant → A) (i : ℕ)
      → part (participant_in (set views id after) i) ≡ put (λ j. part (participant_in views j)) id (part after.participant) i
  part_put part i = elim (cases_eq i id) [
    | inl e ↦ ap (λ j. part (participant_in (set views id after) j)) e ∙ (ap part participant_now
        ∙ sym (ap (put (λ j. part (participant_in views j)) id (part after.participant)) e ∙ put_same (λ j. part (participant_in views j)) id (part after.participant)))
    | inr n ↦ ap part (participant_else i n) ∙ sym (put_other (λ j. part (participant_in views j)) id (part after.participant) i n)
  ]

  -- or as it was
  pub part_same : {A : Type 0} (part : Participant → A) → part after.participant ≡ part k.participant → (i : ℕ)
      → part (participant_in (set views id after) i) ≡ part (participant_in views i)
  part_same part same i = elim (cases_eq i id) [
    | inl e ↦ ap (λ j. part (participant_in (set views id after) j)) e ∙ (ap part participant_now ∙ (same
        ∙ sym (ap (λ j. part (participant_in views j)) e ∙ ap part participant_was)))
    | inr n ↦ ap part (participant_else i n)
  ]

-- what a pass knows of epochs stays so where its announcements say the same, and the epoch is no less
pub holds_on : (s : Slots) (words words' : List ℕ) (u : Known)
    → ((q : ℕ) → HasAnnouncement u.participant q → get_or words' (announcement_word s q) 0 ≡ get_or words (announcement_word s q) 0)
    → get_or words (epoch_word s) 0 ≤ get_or words' (epoch_word s) 0
    → ParticipantHolds s words u → ParticipantHolds s words' u
holds_on s words words' u same later h = record {
  announcement = λ q is. (let at = h.announcement q is in (at.0, same q (own is) ∙ at.1));
  other = λ q is. (let at = h.other q is in (at.0, same q (spare is) ∙ at.1));
  two = h.two;
  none = h.none;
  epoch = λ n is. (let low = h.epoch n is in omega arith);
  surveyed = (let low = h.surveyed in omega arith);
  rests = h.rests;
  idle = h.idle;
}

-- a pass that knows the same of epochs, and is at rest if it announces nothing, knows what is so
pub holds_of : (s : Slots) (words : List ℕ) (k l : Known) → l.participant ≡ k.participant
    → (k.participant.announced ≡ None → IsAtRest l.tree) → ((c : ℕ) → k.participant.lost ≡ Some c → l.tree.worker.card ≡ None) → ParticipantHolds s words k → ParticipantHolds s words l
holds_of s words k l same rests idle h = record {
  announcement = λ q is. (let at = h.announcement q (sym (ap (λ (p : Participant). p.announcement) same) ∙ is) in
      (at.0, at.1 ∙ ap (λ (p : Participant). announcement_says p.announced) (sym same)));
  other = λ q is. (let at = h.other q (sym (ap (λ (p : Participant). p.other) same) ∙ is) in
      (at.0, at.1 ∙ ap (λ (p : Participant). announcement_says p.other_says) (sym same)));
  two = λ q is other. h.two q (sym (ap (λ (p : Participant). p.announcement) same) ∙ is) (sym (ap (λ (p : Participant). p.other) same) ∙ other);
  none = λ is. ap (λ (p : Participant). p.announced) same ∙ h.none (sym (ap (λ (p : Participant). p.announcement) same) ∙ is);
  epoch = λ n is. h.epoch n (sym (ap (λ (p : Participant). p.epoch) same) ∙ is);
  surveyed = (let low = h.surveyed in let now = ap (λ (p : Participant). p.surveyed.epoch) same in omega arith);
  rests = λ is. rests (sym (ap (λ (p : Participant). p.announced) same) ∙ is);
  idle = λ c is. idle c (sym (ap (λ (p : Participant). p.lost) same) ∙ is);
}
