use Rattle.std.proofs.Common.{◌≡◌, ◌≢◌, ℕ, ◌%◌, zero, suc, ◌+◌, ◌*◌, ◌-◌, ◌/◌, ◌<◌, ◌≤◌, ◌==◌, ◌&&◌, nat_lt, nat_le, if◌then◌else◌, Bool, true, false, Option, Some, None, List, [], ◌∷◌, ◌++◌, length, replicate, take, drop, append-nil, get_or, inl, inr, ◌⊎◌, refl, sym, ap, ◌∙◌, subst, arith, length-set, get_or-set_same, get_or-set_other, set, eqb-true, leb-true, ltb-true}
use Rattle.std.proofs.lemmas.Bool.{cases_eq, cases_lt, false≢true}
use Rattle.std.proofs.lemmas.List.{drop_all, take_all, length-append, length-replicate, get_or_past, get_or-replicate, get_or_append_left, get_or-append_right}
use Rattle.std.proofs.lemmas.Option.{same_Some}
use mathlib.Core.Option.{some, some-injective, some-ne-none}
use lib.ListN.{get_elem?}
use Rattle.atomic_table.specs.Table.{opening}
use Rattle.ell_core.proofs.lemmas.outcomes.Decide.{some_not_none}
use Rattle.ell_grace.proofs.lemmas.epochs.Grace.{grace_starts}
use Rattle.ell_word.specs.Node.{greatest_number, generation_size}
use Rattle.ell_layout.specs.Layout.{address, table_size}
use Rattle.ell_layout.specs.Words.{words_of, table_words}
use Rattle.ell_cards.specs.declared.view.Known.{Known}
use Rattle.ell_cards.specs.declared.view.Participant.{Participant}
use Rattle.ell_runs.specs.declared.view.Slots.{Slots}
use Rattle.ell_runs.specs.declared.view.View.{View}
use Rattle.ell_runs.specs.Plans.{TablePlan}
use Rattle.ell_cards.specs.Models.{last_slot, last_slot_of}
use Rattle.ell_runs.specs.Changes.{first_of}
use Rattle.ell_cards.specs.Epochs.{epoch_word, announcement_word, slot_word, slots_size, retire_epoch_at, pending_by, opening_word, words_of_free_slots, AreOpeningWords, AreWholeWords, size_by, whole_size, participant_by, announced_by, participant_in, ParticipantHolds, EpochsAreSound, grace_of}
use Rattle.ell_runs.specs.Touching.{IsAtRest}
use Rattle.ell_runs.specs.Discarded.{IsDiscarded}
use Rattle.ell_cards.specs.Ages.{is_beyond, ForgotWhen, AgesAreSound}
use Rattle.ell_runs.specs.RunLaws.{StartIsKept}
use Rattle.ell_runs.specs.Sights.{no_sight}
use Rattle.ell_cards.specs.SlotWords.{slot_of, card_by, free_word, freed_by, is_retired, taken_word}
use Rattle.ell_runs.specs.States.{TableState}
use Rattle.ell_runs.specs.Starts.{MayStart}
use Rattle.ell_runs.proofs.lemmas.runs.Alive.{start_uses}

-- so many zeros are as many
pub zeros_many : (n : ℕ) → length (replicate {A = ℕ} n 0) ≡ n
zeros_many n = length-replicate n 0

-- zeros are zeros, and so is what is behind them
zeros : (n i : ℕ) → get_or {A = ℕ} (replicate n 0) i 0 ≡ 0
zeros n i = elim (cases_lt i n) [
  | inl low ↦ get_or-replicate n i 0 0 low
  | inr past ↦ get_or_past (replicate n 0) i 0 (let many = zeros_many n in omega arith)
]

-- a list with zeros behind it has the same words
pub with_zeros : (l : List ℕ) (n i : ℕ) → get_or (l ++ replicate n 0) i 0 ≡ get_or l i 0
with_zeros l n i = elim (cases_lt i (length l)) [
  | inl low ↦ get_or_append_left l (replicate n 0) 0 i low
  | inr past ↦ get_or-append_right l (replicate n 0) (length l) i 0 refl (omega arith) ∙ (zeros n (i - length l) ∙ sym (get_or_past l i 0 (omega arith)))
]

-- lists that have the same words are the same words by their names
pub words_same : (l m : List ℕ) → ((i : ℕ) → get_or l i 0 ≡ get_or m i 0) → words_of l ≡ words_of m
unfolding words_of
words_same l m same = λ t. record (table_words (same 0 t) (λ c f. same (address c f) t)) { flat_from = same 1 t }

is_below : (a b : ℕ) → a < b → nat_lt a b ≡ true
is_below a b low = grind (arith, low)

not_below : (a b : ℕ) → b ≤ a → nat_lt a b ≡ false
not_below a b low = grind (arith, low)

-- a number that is greater than that of any card, and lies in the first slot
abbrev pub number_bound : ℕ
number_bound = 4611686018427387904

-- as a table opens with so many start keys, their cards lie in the slots of their numbers, and in each other slot one of a number that no card has
abbrev pub lies_opened : ℕ → ℕ → ℕ
lies_opened given slot = if nat_lt given slot then number_bound + slot else slot

-- and these alone are out
abbrev pub out_opened : ℕ → Bool
out_opened c = nat_lt greatest_number c

pub lies_as_given : (given slot : ℕ) → slot ≤ given → lies_opened given slot ≡ slot
lies_as_given given slot low = ap (λ b. if b then number_bound + slot else slot) (not_below given slot low)

pub lies_at_home : (given slot : ℕ) → slot < generation_size → slot_of (lies_opened given slot) ≡ slot
lies_at_home given slot low = by (nat_lt given slot)
  where
    by : (b : Bool) → slot_of (if b then number_bound + slot else slot) ≡ slot
    by true = omega (arith, low)
    by false = omega (arith, low)

-- a slot's word tells whether it is free
pub lies_or_free : (given slot : ℕ) → opening_word given slot % 8 ≢ 0 → lies_opened given slot ≡ card_by slot (opening_word given slot)
lies_or_free given slot = by (nat_lt given slot)
  where
    by : (b : Bool) → (if b then free_word 0 else taken_word 0) % 8 ≢ 0 → (if b then number_bound + slot else slot) ≡ card_by slot (if b then free_word 0 else taken_word 0)
    by true used = absurd (used refl)
    by false used = omega arith

-- and only nodes that no card has are retired by it
pub retired_opened : (given slot k : ℕ) → is_retired (opening_word given slot) k ≡ true → greatest_number < (4 * lies_opened given slot + k) / 4
retired_opened given slot k = by (nat_lt given slot) k
  where
    by : (b : Bool) (k : ℕ) → is_retired (if b then free_word 0 else taken_word 0) k ≡ true → greatest_number < (4 * (if b then number_bound + slot else slot) + k) / 4
    by true zero is = omega arith
    by true (suc zero) is = omega arith
    by true (suc (suc zero)) is = omega arith
    by true (suc (suc (suc k))) is = absurd (false≢true is)
    by false zero is = absurd (false≢true is)
    by false (suc zero) is = absurd (false≢true is)
    by false (suc (suc zero)) is = absurd (false≢true is)
    by false (suc (suc (suc k))) is = absurd (false≢true is)

-- the words of a table whose cards come back, as they are made: all slots free, and then the first ones used
module _ (s : Slots) (given : ℕ) (cards : List ℕ) (size : length cards ≡ table_size s.last) where
  abbrev before : List ℕ
  before = cards ++ replicate (slot_word s 0 - length cards) 0

  abbrev behind : List ℕ
  behind = before ++ replicate (slots_size s - slot_word s 0) (free_word 0)

  abbrev words_with_epochs : List ℕ
  words_with_epochs = words_of_free_slots s cards

  before_size : length before ≡ slot_word s 0
  before_size = length-append cards (replicate (slot_word s 0 - length cards) 0) ∙ (let many = zeros_many (slot_word s 0 - length cards) in omega arith)

  behind_size : length behind ≡ slots_size s
  behind_size =
      length-append before (replicate (slots_size s - slot_word s 0) (free_word 0))
      ∙ (let many = length-replicate (slots_size s - slot_word s 0) (free_word 0) in let long = before_size in omega arith)

  size_with_epochs : length words_with_epochs ≡ slots_size s
  size_with_epochs = length-set (set behind (epoch_word s) 1) (announcement_word s 0) 1 ∙ (length-set behind (epoch_word s) 1 ∙ behind_size)

  low_word : (i : ℕ) → i < slot_word s 0 → get_or behind i 0 ≡ get_or cards i 0
  low_word i low =
      get_or_append_left before (replicate (slots_size s - slot_word s 0) (free_word 0)) 0 i (let long = before_size in omega arith)
      ∙ with_zeros cards (slot_word s 0 - length cards) i

  free_slot : (slot : ℕ) → slot ≤ s.last → get_or behind (slot_word s slot) 0 ≡ free_word 0
  free_slot slot inside =
      let long = before_size in
      get_or-append_right before (replicate (slots_size s - slot_word s 0) (free_word 0)) (length before) (slot_word s slot) 0 refl (omega arith)
      ∙ get_or-replicate (slots_size s - slot_word s 0) (slot_word s slot - length before) (free_word 0) 0 (omega arith)

  other : (i : ℕ) → i ≢ epoch_word s → i ≢ announcement_word s 0 → get_or words_with_epochs i 0 ≡ get_or behind i 0
  other i no_epoch no_announcement =
      get_or-set_other (set behind (epoch_word s) 1) (announcement_word s 0) i 1 0 no_announcement
      ∙ get_or-set_other behind (epoch_word s) i 1 0 no_epoch

  opens_so : (words : List ℕ) → length words ≡ slots_size s → ((slot : ℕ) → slot ≤ given → get_or words (slot_word s slot) 0 ≡ taken_word 0)
      → ((i : ℕ) → ((slot : ℕ) → slot ≤ given → i ≢ slot_word s slot) → get_or words i 0 ≡ get_or words_with_epochs i 0) → AreOpeningWords s given cards words
  opens_so words long used same = record {
    size = long;
    cards_first = λ i low. same i (λ slot _ e. omega arith) ∙ (other i (λ e. omega arith) (λ e. omega arith) ∙ low_word i (omega arith));
    epoch =
        same (epoch_word s) (λ slot _ e. omega arith)
        ∙ (get_or-set_other (set behind (epoch_word s) 1) (announcement_word s 0) (epoch_word s) 1 0 (λ e. omega arith)
        ∙ get_or-set_same behind (epoch_word s) 1 0 (let all = behind_size in omega arith));
    announcement =
        same (announcement_word s 0) (λ slot _ e. omega arith)
        ∙ get_or-set_same (set behind (epoch_word s) 1) (announcement_word s 0) 1 0 (let all = length-set behind (epoch_word s) 1 ∙ behind_size in omega arith);
    others = λ i past low n.
        same i (λ slot _ e. omega arith)
        ∙ (other i (λ e. omega arith) n ∙ (low_word i (omega arith) ∙ get_or_past cards i 0 (omega arith)));
    slots = λ slot inside. by slot inside (cases_lt given slot);
  }
    where
      by : (slot : ℕ) → slot ≤ s.last → (given < slot) ⊎ (slot ≤ given) → get_or words (slot_word s slot) 0 ≡ opening_word given slot
      by slot inside (inl past) =
          same (slot_word s slot) (λ d low e. omega arith)
          ∙ (other (slot_word s slot) (λ e. omega arith) (λ e. omega arith)
          ∙ (free_slot slot inside ∙ sym (ap (λ b. if b then free_word 0 else taken_word 0) (is_below given slot past))))
      by slot inside (inr low) = used slot low ∙ sym (ap (λ b. if b then free_word 0 else taken_word 0) (not_below given slot low))

-- a list that was written over all of another one
written_back : (n : ℕ) (l m : List ℕ) → length l ≤ n → length m ≤ length l → take n (l ++ drop (length l) m) ≡ l
written_back n l m fits short = ap (λ k. take n (l ++ k)) (drop_all (length l) m short) ∙ (ap (take n) (append-nil l) ∙ take_all n l fits)

-- the slots below a number are marked as used, and all other words are as they were
pub record UsedBelow (s : Slots) (n : ℕ) (old words : List ℕ) : Type 0 where
  pub used : (slot : ℕ) → slot < n → get_or words (slot_word s slot) 0 ≡ taken_word 0
  pub same : (i : ℕ) → ((slot : ℕ) → slot < n → i ≢ slot_word s slot) → get_or words i 0 ≡ get_or old i 0

pub used_none : (s : Slots) (words : List ℕ) → UsedBelow s 0 words words
used_none s words = record { used = λ slot low. omega arith; same = λ i apart. refl }

pub used_more : (s : Slots) (n : ℕ) (old words : List ℕ) → UsedBelow s n old words → slot_word s n < length words
    → UsedBelow s (n + 1) old (set words (slot_word s n) (taken_word 0))
used_more s n old words h room = record {
  used = λ slot low. elim (cases_eq slot n) [
    | inl e ↦ subst (λ x. get_or (set words (slot_word s n) (taken_word 0)) (slot_word s x) 0 ≡ taken_word 0) (sym e) (get_or-set_same words (slot_word s n) (taken_word 0) 0 room)
    | inr other ↦ get_or-set_other words (slot_word s n) (slot_word s slot) (taken_word 0) 0 (λ e. other (omega arith)) ∙ h.used slot (omega arith)
  ];
  same = λ i apart.
      get_or-set_other words (slot_word s n) i (taken_word 0) 0 (apart n (omega arith))
      ∙ h.same i (λ slot low. apart slot (omega arith));
}

-- so a table opens where its slots are used that far
pub opens_used : (o : Option Slots) (s : Slots) (given n : ℕ) (cards free used : List ℕ) → o ≡ Some s → length cards ≡ table_size s.last → free ≡ words_of_free_slots s cards
    → n ≡ length free → length used ≡ slots_size s → ((slot : ℕ) → slot ≤ given → get_or used (slot_word s slot) 0 ≡ taken_word 0)
    → ((i : ℕ) → ((slot : ℕ) → slot ≤ given → i ≢ slot_word s slot) → get_or used i 0 ≡ get_or free i 0)
    → AreWholeWords o given cards (take n (used ++ drop (length used) free))
opens_used o s given n cards free used placed size are all long marked same =
    let whole = ap length are ∙ size_with_epochs s given cards size in
    subst (λ x. AreWholeWords x given cards (take n (used ++ drop (length used) free))) (sym placed)
    (subst (AreOpeningWords s given cards) (sym (written_back n used free (omega arith) (omega arith)))
    (opens_so s given cards size used long marked (λ i apart. same i apart ∙ ap (λ l. get_or l i 0) are)))

-- the words of a table whose cards come back, at its start
module _ (s : Slots) (given : ℕ) (cards all : List ℕ) (size : length cards ≡ table_size s.last) (h : AreOpeningWords s given cards all) where
  -- nothing is announced
  quiet : (q : ℕ) → announced_by (get_or all (announcement_word s q) 0) ≡ None
  quiet q = elim (cases_eq (announcement_word s q) (announcement_word s 0)) [
    | inl e ↦ ap (λ i. announced_by (get_or all i 0)) e ∙ ap announced_by h.announcement
    | inr n ↦ ap announced_by (h.others (announcement_word s q) (omega arith) (omega arith) n)
  ]

  -- what is free is out, with a past retire epoch
  free_is_out : (epoch c r : ℕ) → retire_epoch_at s (lies_opened given) all c ≡ Some r → (r ≤ epoch) × (out_opened c ≡ true)
  free_is_out epoch c r = inside (nat_le (slot_of c) s.last) refl
    where
      with_retire_epoch : (o : Bool) → lies_opened given (slot_of c) ≡ (if o then number_bound + slot_of c else slot_of c) → (there : Bool) → (lies_opened given (slot_of c) == c) ≡ there
          → (if there then freed_by (if o then free_word 0 else taken_word 0) else None) ≡ Some r → (r ≤ epoch) × (out_opened c ≡ true)
      with_retire_epoch true lies true here is =
          let same = eqb-true (lies_opened given (slot_of c)) c here in
          let retire_epoch = same_Some 0 r is in
          (omega arith, is_below greatest_number c (omega arith))
      with_retire_epoch true lies false here is = absurd (some_not_none is refl)
      with_retire_epoch false lies true here is = absurd (some_not_none is refl)
      with_retire_epoch false lies false here is = absurd (some_not_none is refl)

      inside : (b : Bool) → nat_le (slot_of c) s.last ≡ b
          → (if b && lies_opened given (slot_of c) == c then freed_by (get_or all (slot_word s (slot_of c)) 0) else None) ≡ Some r → (r ≤ epoch) × (out_opened c ≡ true)
      inside true low is =
          let word = h.slots (slot_of c) (leb-true (slot_of c) s.last low) in
          with_retire_epoch (nat_lt given (slot_of c)) refl (lies_opened given (slot_of c) == c) refl
          (sym (ap (λ n. if lies_opened given (slot_of c) == c then freed_by n else None) word) ∙ is)
      inside false low is = absurd (some_not_none is refl)

  module _ (v : View) (rest : IsAtRest v) (one : 1 ≤ s.announcements) where
    abbrev first : Known
    first = record { tree = v; participant = participant_by (Some s); sight = no_sight }

    first_holds : ParticipantHolds s all first
    first_holds = record {
      announcement = λ q is. (let same = same_Some 0 q is in (omega arith, ap (λ x. get_or all (announcement_word s x) 0) (sym same) ∙ h.announcement));
      other = λ q is. absurd (some_not_none is refl);
      two = λ q is other. some_not_none other refl;
      none = λ is. refl;
      epoch = λ n is. absurd (some_not_none is refl);
      surveyed = omega arith;
      rests = λ is. rest;
      idle = λ c is. absurd (some_not_none is refl);
    }

    pub alone : (P : ℕ → Known → Type 0) → P 0 first → (j : ℕ) (u : Known) → get_elem? (first ∷ []) j ≡ some u → P j u
    alone P h zero u at = subst (P 0) (some-injective first u at) h
    alone P h (suc j) u at = absurd (some-ne-none u (sym at))

    nothing : {A : Type 0} (part : Participant → A) (x : A) → part (participant_by (Some s)) ≡ x → part (participant_by None) ≡ x → (i : ℕ) → part (participant_in (first ∷ []) i) ≡ x
    nothing part x here there zero = here
    nothing part x here there (suc i) = there

    pub first_epochs : EpochsAreSound s (opening all [] first) (lies_opened given) out_opened (λ q. 0) (λ q x. false)
    first_epochs = record {
      sound = grace_starts s.announcements (grace_of s (opening all [] first) (lies_opened given) out_opened (λ q. 0) (λ q c. false)) (record {
        word = λ q. unsaid (nat_lt q s.announcements) q;
        pending = nothing (λ p. pending_by p.retire_epoch) None refl refl;
        least = nothing (λ p. p.least) 0 refl refl;
        seen = λ i q. nothing (λ p. nat_lt q p.looked) false (none q) (none q) i;
        safe_epoch = nothing (λ p. p.safe_epoch) 0 refl refl;
        free = free_is_out (get_or all (epoch_word s) 0);
      });
      low = let epoch = h.epoch in omega arith;
      each = alone (λ j u. ParticipantHolds s all u) first_holds;
      since = λ i q a k at. alone (λ j u. u.participant.announcement ≡ Some q → u.participant.announced ≡ Some a → 0 ≡ u.participant.began) (λ is an. refl) i k at;
      apart = λ i j q k l at at' has has'. alone (λ i u. i ≡ 0) refl i k at ∙ sym (alone (λ j u. j ≡ 0) refl j l at');
    }
      where
        none : (q : ℕ) → nat_lt q 0 ≡ false
        none q = not_below q 0 (omega arith)

        unsaid : (b : Bool) (q : ℕ) → (if b then announced_by (get_or all (announcement_word s q) 0) else None) ≡ None
        unsaid true q = quiet q
        unsaid false q = refl

-- what is out in it has numbers that no card has, and nobody is pinned
abbrev pub first_ages : (plan : TablePlan) (s : Slots) (tree : TableState) → StartIsKept plan tree → (given : ℕ) (cards all : List ℕ) (size : length cards ≡ table_size s.last) (h : AreOpeningWords s given cards all)
    → IsAtRest (first_of plan) → 1 ≤ s.announcements → plan.last_card ≤ greatest_number
    → AgesAreSound plan s tree (opening all [] (record { tree = first_of plan; participant = participant_by (Some s); sight = no_sight })) (lies_opened given) out_opened (λ q x. false)
first_ages plan s tree start given cards all size h rest one most = record {
  now = record { machine = start.kept; uses = start_uses plan tree start; same = refl; each = λ c k low is. is_beyond (let past = ltb-true greatest_number c is in omega arith) };
  still = λ q x is. absurd (false≢true is);
  since = λ i q a k at. alone s given cards all size h (first_of plan) rest one (λ j u. u.participant.announcement ≡ Some q → u.participant.announced ≡ Some a → IsAtRest u.tree ⊎ ForgotWhen plan tree j (λ x. false))
      (λ is an. inl rest) i k at;
  retired_out = λ slot k low is. is_beyond (let past = retired_opened given slot k (subst (λ n. is_retired n k ≡ true) (h.slots slot low) is) in omega arith);
  read = λ i k r at is. absurd (some_not_none is (alone s given cards all size h (first_of plan) rest one (λ j u. u.participant.read ≡ None) refl i k at));
  lost = λ i c k at. alone s given cards all size h (first_of plan) rest one (λ j u. u.participant.lost ≡ Some c → IsDiscarded start.kept.stages tree.views c) (λ is. absurd (some_not_none is refl)) i k at;
}

pub whole_by : (o p : Option Slots) (n m : ℕ) (cards words : List ℕ) → AreWholeWords o n cards words → o ≡ p → n ≡ m → AreWholeWords p m cards words
whole_by o p n m cards words are same count = subst (λ x. AreWholeWords x m cards words) same (subst (λ i. AreWholeWords o i cards words) count are)

-- and has as many words as it is to have
pub whole_length : (plan : TablePlan) → MayStart plan → (cards words : List ℕ) → length cards ≡ table_size (last_slot plan) → AreWholeWords plan.slots (length plan.start) cards words → length words ≡ whole_size plan
whole_length plan may cards words size are = by plan.slots size are
  where
    by : (o : Option Slots) → length cards ≡ table_size (last_slot_of o plan.last_card) → AreWholeWords o (length plan.start) cards words → length words ≡ size_by o plan.last_card
    by None size are = ap length are ∙ size
    by (Some s) size are = are.size
