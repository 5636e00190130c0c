-- No slot stays in use for nothing where a pass makes a step on the words of epochs or of slots.
use Rattle.std.proofs.Common.{◌≡◌, ◌≢◌, ℕ, ◌+◌, ◌*◌, ◌%◌, ◌<◌, ◌≤◌, Bool, true, false, Some, None, List, length, get_or, set, inl, inr, ◌⊎◌, refl, sym, ap, ◌∙◌, subst, arith, get_or-set_same, get_or-set_other}
use Rattle.std.proofs.lemmas.Bool.{cases_eq, false≢true}
use Rattle.std.proofs.lemmas.Option.{same_Some}
use mathlib.Core.Option.{some, some-injective}
use lib.ListN.{get_elem?}
use Rattle.atomic_table.proofs.Lists.{set_else}
use Rattle.ell_layout.specs.Words.{Words, put}
use Rattle.ell_layout.proofs.lemmas.Writes.{put_same, put_other}
use Rattle.ell_core.specs.history.Stages.{Stages}
use Rattle.ell_core.proofs.lemmas.outcomes.Decide.{some_not_none}
use Rattle.ell_cards.specs.declared.view.Known.{Known}
use Rattle.ell_cards.specs.declared.view.Participant.{Participant}
use Rattle.ell_runs.specs.declared.view.Slots.{Slots}
use Rattle.ell_runs.specs.declared.view.View.{View}
use Rattle.ell_runs.specs.Holding.{HoldsWaiting}
use Rattle.ell_cards.specs.Leaks.{Holds, IsHeld, IsInFlaggedHand, Kills, NothingLeaks}
use Rattle.ell_cards.specs.Leaks.Holds.{waiting, lost}
use Rattle.ell_cards.specs.Epochs.{WholeState, slot_word}
use Rattle.ell_cards.specs.SlotWords.{is_retired, slot_of, generation_of, taken_word}
use Rattle.ell_cards.specs.Refinement.{HasWon}
use Rattle.ell_runs.proofs.lemmas.seats.Seats.{set_there}
use Rattle.ell_cards.proofs.lemmas.words.RetiredBits.{none_is_retired}

-- a pass holds a slot by the card for which it took one last, and the one whose flag it lost
pub holds_so : (k : Known) (p : Participant) → p.slot ≡ k.participant.slot → p.lost ≡ k.participant.lost → (c : ℕ) → Holds k c → Holds (record k { participant = p }) c
holds_so k p slot same c (waiting at waits) = waiting (slot ∙ at) waits
holds_so k p slot same c (lost at) = lost (same ∙ at)

-- a slot that a pass holds it holds later, if each pass does that it holds
pub held_on : (views : List Known) (id : ℕ) (k now : Known) → get_elem? views id ≡ some k → (c : ℕ) → (Holds k c → Holds now c) → IsHeld views c → IsHeld (set views id now) c
held_on views id k now here c mine h = elim (cases_eq h.seat id) [
  | inl e ↦
      let same : k ≡ h.knows = some-injective k h.knows (sym here ∙ (ap (get_elem? views) (sym e) ∙ h.there)) in
      record { seat = id; knows = now; there = set_there views id now k here; holds = mine (subst (λ (x : Known). Holds x c) (sym same) h.holds) }
  | inr apart ↦ record { seat = h.seat; knows = h.knows; there = set_else views id h.seat now apart ∙ h.there; holds = h.holds }
]

module _ (s : Slots) (t : WholeState) (trees : List View) (w : Words) (stage : Stages) (lie : ℕ → ℕ) (h : NothingLeaks s t trees w stage lie) (id : ℕ) (k : Known)
    (here : get_elem? t.views id ≡ some k) (p : Participant) where
  abbrev now : Known
  now = record k { participant = p }

  -- where the words of slots are as they were, and the pass holds what it held
  pub leaks_same : (words : List ℕ) → ((slot : ℕ) → slot ≤ s.last → get_or words (slot_word s slot) 0 % 8 ≢ 0 → Holds k (lie slot) → Holds now (lie slot)) → ((slot : ℕ) → get_or words (slot_word s slot) 0 ≡ get_or t.words (slot_word s slot) 0)
      → NothingLeaks s (record { words = words; homes = t.homes; views = set t.views id now }) trees w stage lie
  leaks_same words holds same = record {
    used = λ slot low used. elim (h.used slot low (λ full. used (ap (λ n. n % 8) (same slot) ∙ full))) [
      | inl won ↦ inl won
      | inr held ↦ inr (held_on t.views id k now here (lie slot) (holds slot low used) held)
    ];
    bits = λ slot i low used is. h.bits slot i low (λ full. used (ap (λ n. n % 8) (same slot) ∙ full)) (subst (λ n. is_retired n i ≡ true) (same slot) is);
    owed = λ slot i c low used few is. h.owed slot i c low (λ full. used (ap (λ n. n % 8) (same slot) ∙ full)) few (subst (λ n. is_retired n i ≡ false) (same slot) is);
  }

  -- where the word of a slot becomes another one, by which all is retired that was so, or which sets the slot free
  module _ (slot n : ℕ) (inside : slot ≤ s.last) (room : slot_word s slot < length t.words) where
    abbrev W : List ℕ
    W = set t.words (slot_word s slot) n

    abbrev old : ℕ
    old = get_or t.words (slot_word s slot) 0

    at_slot : (other : ℕ) → other ≡ slot → get_or W (slot_word s other) 0 ≡ n
    at_slot other e = ap (λ x. get_or W (slot_word s x) 0) e ∙ get_or-set_same t.words (slot_word s slot) n 0 room

    at_other : (other : ℕ) → other ≤ s.last → other ≢ slot → get_or W (slot_word s other) 0 ≡ get_or t.words (slot_word s other) 0
    at_other other low apart = get_or-set_other t.words (slot_word s slot) (slot_word s other) n 0 (λ e. apart (omega arith))

    pub leaks_turned : ((other : ℕ) → other ≤ s.last → get_or W (slot_word s other) 0 % 8 ≢ 0 → Holds k (lie other) → Holds now (lie other)) → (n % 8 ≢ 0 → old % 8 ≢ 0)
        → (n % 8 ≢ 0 → (i : ℕ) → is_retired n i ≡ true → (is_retired old i ≡ true) ⊎ HasWon stage (lie slot))
        → (n % 8 ≢ 0 → (i : ℕ) → is_retired old i ≡ true → is_retired n i ≡ true)
        → NothingLeaks s (record { words = W; homes = t.homes; views = set t.views id now }) trees w stage lie
    leaks_turned holds was new more = record {
      used = used;
      bits = bits;
      owed = λ other i c low live few is. h.owed other i c low (used_at other low live) few (not_retired other i low live is);
    }
      where
        used_at : (other : ℕ) → other ≤ s.last → get_or W (slot_word s other) 0 % 8 ≢ 0 → get_or t.words (slot_word s other) 0 % 8 ≢ 0
        used_at other low live = elim (cases_eq other slot) [
          | inl e ↦ λ full. was (λ f. live (ap (λ m. m % 8) (at_slot other e) ∙ f)) (ap (λ x. get_or t.words (slot_word s x) 0 % 8) (sym e) ∙ full)
          | inr apart ↦ λ full. live (ap (λ m. m % 8) (at_other other low apart) ∙ full)
        ]

        used : (other : ℕ) → other ≤ s.last → get_or W (slot_word s other) 0 % 8 ≢ 0 → HasWon stage (lie other) ⊎ IsHeld (set t.views id now) (lie other)
        used other low live = elim (h.used other low (used_at other low live)) [
          | inl won ↦ inl won
          | inr held ↦ inr (held_on t.views id k now here (lie other) (holds other low live) held)
        ]

        bits : (other i : ℕ) → other ≤ s.last → get_or W (slot_word s other) 0 % 8 ≢ 0 → is_retired (get_or W (slot_word s other) 0) i ≡ true → HasWon stage (lie other)
        bits other i low live is = elim (cases_eq other slot) [
          | inl e ↦ elim (new (λ f. live (ap (λ m. m % 8) (at_slot other e) ∙ f)) i (subst (λ m. is_retired m i ≡ true) (at_slot other e) is)) [
            | inl is_so ↦ h.bits other i low (used_at other low live) (subst (λ x. is_retired (get_or t.words (slot_word s x) 0) i ≡ true) (sym e) is_so)
            | inr won ↦ subst (λ x. HasWon stage (lie x)) (sym e) won
          ]
          | inr apart ↦ h.bits other i low (used_at other low live) (subst (λ m. is_retired m i ≡ true) (at_other other low apart) is)
        ]

        -- what is not retired was not retired
        not_retired : (other i : ℕ) → other ≤ s.last → get_or W (slot_word s other) 0 % 8 ≢ 0 → is_retired (get_or W (slot_word s other) 0) i ≡ false
            → is_retired (get_or t.words (slot_word s other) 0) i ≡ false
        not_retired other i low live is = elim (cases_eq other slot) [
          | inl e ↦ by (is_retired (get_or t.words (slot_word s other) 0) i) refl (λ was_retired.
              false≢true (sym is ∙ subst (λ m. is_retired m i ≡ true) (sym (at_slot other e))
              (more (λ f. live (ap (λ m. m % 8) (at_slot other e) ∙ f)) i (subst (λ x. is_retired (get_or t.words (slot_word s x) 0) i ≡ true) e was_retired))))
          | inr apart ↦ subst (λ m. is_retired m i ≡ false) (at_other other low apart) is
        ]
          where
            by : (b : Bool) → is_retired (get_or t.words (slot_word s other) 0) i ≡ b → ((is_retired (get_or t.words (slot_word s other) 0) i ≡ true) → ⊥) → is_retired (get_or t.words (slot_word s other) 0) i ≡ false
            by true e never = absurd (never e)
            by false e never = e

  -- where a pass takes the slot of its card in hand, which is not flagged
  module _ (c : ℕ) (hand : HoldsWaiting k.tree c) (inside : slot_of c ≤ s.last) (room : slot_word s (slot_of c) < length t.words) (own : (slot : ℕ) → slot ≤ s.last → slot_of (lie slot) ≡ slot)
      (unlost : k.participant.lost ≡ None) (slotted : p.slot ≡ Some c) (fresh : (d i : ℕ) → i < 3 → Kills w stage d (4 * c + i) → ⊥) where
    abbrev V : List ℕ
    V = set t.words (slot_word s (slot_of c)) (taken_word (generation_of c))

    abbrev lie' : ℕ → ℕ
    lie' = put lie (slot_of c) c

    taken_at : (other : ℕ) → other ≡ slot_of c → get_or V (slot_word s other) 0 ≡ taken_word (generation_of c)
    taken_at other e = ap (λ x. get_or V (slot_word s x) 0) e ∙ get_or-set_same t.words (slot_word s (slot_of c)) (taken_word (generation_of c)) 0 room

    not_at : (other : ℕ) → other ≤ s.last → other ≢ slot_of c → get_or V (slot_word s other) 0 ≡ get_or t.words (slot_word s other) 0
    not_at other low apart = get_or-set_other t.words (slot_word s (slot_of c)) (slot_word s other) (taken_word (generation_of c)) 0 (λ e. apart (omega arith))

    lies_at : (other : ℕ) → other ≡ slot_of c → lie' other ≡ c
    lies_at other e = ap lie' e ∙ put_same lie (slot_of c) c

    -- it held no other slot
    held_no_other : (other : ℕ) → other ≤ s.last → other ≢ slot_of c → Holds k (lie other) → ⊥
    held_no_other other low apart (waiting at waits) =
        let same = same_Some c (lie other) (sym hand.0 ∙ waits.0) in apart (sym (own other low) ∙ ap slot_of (sym same))
    held_no_other other low apart (lost at) = some_not_none at unlost

    pub leaks_taken : NothingLeaks s (record { words = V; homes = t.homes; views = set t.views id now }) trees w stage lie'
    leaks_taken = record { used = used; bits = bits; owed = owed }
      where
        used : (other : ℕ) → other ≤ s.last → get_or V (slot_word s other) 0 % 8 ≢ 0 → HasWon stage (lie' other) ⊎ IsHeld (set t.views id now) (lie' other)
        used other low live = elim (cases_eq other (slot_of c)) [
          | inl e ↦ inr (subst (IsHeld (set t.views id now)) (sym (lies_at other e)) (record { seat = id; knows = now; there = set_there t.views id now k here; holds = waiting slotted hand }))
          | inr apart ↦ subst (λ d. HasWon stage d ⊎ IsHeld (set t.views id now) d) (sym (put_other lie (slot_of c) c other apart))
              (elim (h.used other low (λ full. live (ap (λ m. m % 8) (not_at other low apart) ∙ full))) [
                | inl won ↦ inl won
                | inr held ↦ inr (held_on t.views id k now here (lie other) (λ holds. absurd (held_no_other other low apart holds)) held)
              ])
        ]

        bits : (other i : ℕ) → other ≤ s.last → get_or V (slot_word s other) 0 % 8 ≢ 0 → is_retired (get_or V (slot_word s other) 0) i ≡ true → HasWon stage (lie' other)
        bits other i low live is = elim (cases_eq other (slot_of c)) [
          | inl e ↦ absurd (none_is_retired (generation_of c) i (subst (λ m. is_retired m i ≡ true) (taken_at other e) is))
          | inr apart ↦ subst (HasWon stage) (sym (put_other lie (slot_of c) c other apart))
              (h.bits other i low (λ full. live (ap (λ m. m % 8) (not_at other low apart) ∙ full)) (subst (λ m. is_retired m i ≡ true) (not_at other low apart) is))
        ]

        owed : (other i d : ℕ) → other ≤ s.last → get_or V (slot_word s other) 0 % 8 ≢ 0 → i < 3 → is_retired (get_or V (slot_word s other) 0) i ≡ false
            → Kills w stage d (4 * lie' other + i) → IsInFlaggedHand trees d
        owed other i d low live few is kills = elim (cases_eq other (slot_of c)) [
          | inl e ↦ absurd (fresh d i few (subst (λ x. Kills w stage d (4 * x + i)) (lies_at other e) kills))
          | inr apart ↦ h.owed other i d low (λ full. live (ap (λ m. m % 8) (not_at other low apart) ∙ full)) few (subst (λ m. is_retired m i ≡ false) (not_at other low apart) is)
              (subst (λ x. Kills w stage d (4 * x + i)) (put_other lie (slot_of c) c other apart) kills)
        ]
