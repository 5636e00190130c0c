-- A pass in whose seat the slot of a card was taken, if the slot's word was as it was read.
use Rattle.std.proofs.Common.{◌≡◌, ℕ, ◌%◌, ◌<◌, if◌then◌else◌, Bool, true, false, Some, refl, sym, ap, ◌∙◌, subst, arith}
use Rattle.std.proofs.lemmas.Bool.Decides.{nat_tests}
use Rattle.std.proofs.lemmas.Option.{same_Some}
use Rattle.atomic_table.specs.Seated.{TableId}
use Rattle.ell_word.specs.Node.{generation_size}
use Rattle.ell_runs.specs.declared.view.Sight.{Sight}
use Rattle.ell_runs.specs.declared.view.Slots.{Slots}
use Rattle.ell_runs.specs.declared.view.View.{View}
use Rattle.ell_runs.specs.Starts.{SlotsFit}
use Rattle.ell_cards.specs.declared.pass.Standing.{Standing}
use Rattle.ell_cards.specs.declared.view.Participant.{Participant}
use Rattle.ell_cards.specs.Claiming.{with_slot}
use Rattle.ell_cards.specs.Inside.{HasSlotThere, StandingFits}
use Rattle.ell_cards.specs.Models.{PassModel, TableModel, memory_of}
use Rattle.ell_cards.specs.Epochs.{after_read, after_taking, size_by, whole_size}
use Rattle.ell_cards.specs.SlotWords.{could_take, has_slot_in, retire_epoch_in}
use Rattle.ell_cards.proofs.lemmas.seats.Opened.{own_size}
use Rattle.ell_cards.proofs.lemmas.words.Slotted.{slot_inside}

-- a slot that a pass could take was set free with a retire epoch below its safe epoch
pub could_free : (n safe_epoch : ℕ) → could_take n safe_epoch ≡ true → n % 8 ≡ 0
could_free n safe_epoch could = grind (arith, nat_tests)

pub could_past : (n safe_epoch : ℕ) → could_take n safe_epoch ≡ true → retire_epoch_in n < safe_epoch
could_past n safe_epoch could = grind (arith, nat_tests)

-- what is known of epochs then
abbrev Then : Bool → ℕ → ℕ → ℕ → Participant → Participant
Then b c slot n p = if b then after_taking c p else after_read slot n p

-- a pass that contracts see, by what its seat knows of epochs
abbrev pub pass_of : TableId → View → ℕ → ℕ → Sight → Participant → PassModel
pass_of table view steps label sight p = record { table = table; view = view; steps = steps; label = label; memory = memory_of p; sight = sight }

-- so it has taken the slot, or is as it was
pub took_there : (table : TableId) (view : View) (steps label : ℕ) (sight : Sight) (b : Bool) (c slot n : ℕ) (p now : Participant) → now ≡ Then b c slot n p
    → pass_of table view steps label sight now ≡ (if b then with_slot c (pass_of table view steps label sight p) else pass_of table view steps label sight p)
took_there table view steps label sight b c slot n p now is = ap (pass_of table view steps label sight) is ∙ by b
  where
    by : (t : Bool) → pass_of table view steps label sight (Then t c slot n p)
        ≡ (if t then with_slot c (pass_of table view steps label sight p) else pass_of table view steps label sight p)
    by true = refl
    by false = refl

-- and its announcement fits as it did
pub taken_fits : (standing : Standing) (words : ℕ) (b : Bool) (c slot n : ℕ) (p now : Participant) → now ≡ Then b c slot n p → StandingFits standing words p → HasSlotThere words c
    → StandingFits standing words now
taken_fits standing words b c slot n p now is h has = subst (StandingFits standing words) (sym is) (by b)
  where
    by : (t : Bool) → StandingFits standing words (Then t c slot n p)
    by true = record {
      announcement = h.announcement;
      other = h.other;
      announces = h.announces;
      quiet = h.quiet;
      safe_epoch = h.safe_epoch;
      none = h.none;
      unsafe = h.unsafe;
      some = h.some;
      slot = λ d at. subst (HasSlotThere words) (same_Some c d at) has;
      lost = h.lost;
    }
    by false = record {
      announcement = h.announcement;
      other = h.other;
      announces = h.announces;
      quiet = h.quiet;
      safe_epoch = h.safe_epoch;
      none = h.none;
      unsafe = h.unsafe;
      some = h.some;
      slot = h.slot;
      lost = h.lost;
    }

-- a slot of a table has words
module _ (t u : TableModel) (p q : PassModel) (same_table : t ≡ u) (same_pass : p ≡ q) (own : q.table ≡ u.id) (size : t.id.words ≡ whole_size t.plan) (fit : SlotsFit t.plan t.plan.slots)
    (s : Slots) (placed : u.plan.slots ≡ Some s) where
  is_there : t.plan.slots ≡ Some s
  is_there = ap (λ (m : TableModel). m.plan.slots) same_table ∙ placed

  fits_there : SlotsFit t.plan (Some s)
  fits_there = subst (SlotsFit t.plan) is_there fit

  pub slots_low : s.last < generation_size
  slots_low = let low = fits_there.low in omega (arith, low)

  pub slot_has_words : (c : ℕ) → has_slot_in s.last c ≡ true → HasSlotThere p.table.words c
  slot_has_words c has =
      let all = own_size t u p q same_table same_pass own size fit ∙ ap (λ o. size_by o t.plan.last_card) is_there in
      record { last = s.last; low = fits_there.low; few = omega (arith, all); inside = slot_inside s.last c has }
