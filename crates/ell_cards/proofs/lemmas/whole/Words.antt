use Rattle.std.proofs.Common.{◌≡◌, ◌≢◌, ℕ, ◌<◌, ◌≤◌, Option, Some, None, true, refl, sym, ap, ◌∙◌, subst, arith}
use Rattle.ell_word.specs.Node.{greatest_card}
use Rattle.ell_runs.specs.declared.view.Slots.{Slots}
use Rattle.ell_runs.specs.Plans.{TablePlan}
use Rattle.ell_cards.specs.Models.{TableModel}
use Rattle.ell_cards.specs.Epochs.{epoch_word, announcement_word, size_by, slots_size, whole_size}
use Rattle.ell_runs.specs.Starts.{SlotsFit}

-- slots that fit a plan are of a flat tree
flat_by : (plan : TablePlan) (o : Option Slots) → SlotsFit plan o → o ≢ None → plan.flat ≡ true
flat_by plan None fit some = absurd (some refl)
flat_by plan (Some s) fit some = fit.flat

-- and so is the tree of a table of which contracts see this
pub flat_there : (t u : TableModel) → t ≡ u → SlotsFit t.plan t.plan.slots → u.plan.slots ≢ None → u.plan.flat ≡ true
flat_there t u same fit =
    subst (λ (m : TableModel). m.plan.slots ≢ None → m.plan.flat ≡ true) same (flat_by t.plan t.plan.slots fit)

-- The words of the epochs in a table whose cards come back, as its code keeps it and as callers see it.
module _ (t u : TableModel) (same : t ≡ u) (size : t.id.words ≡ whole_size t.plan) (fit : SlotsFit t.plan t.plan.slots) (s : Slots) where
  -- what the code keeps of its announcements is what the plan says
  pub kept_is : (o : Option Slots) → o ≡ t.plan.slots → o ≡ Some s → u.plan.slots ≡ Some s
  kept_is o kept is = ap (λ (m : TableModel). m.plan.slots) (sym same) ∙ (sym kept ∙ is)

  module _ (placed : u.plan.slots ≡ Some s) where
    planned : t.plan.slots ≡ Some s
    planned = ap (λ (m : TableModel). m.plan.slots) same ∙ placed

    fits : SlotsFit t.plan (Some s)
    fits = subst (SlotsFit t.plan) planned fit

    -- there are as many cards and announcements as there may be
    pub last_fits : s.last ≤ greatest_card
    last_fits = fits.low

    pub some_announcements : 1 ≤ s.announcements
    some_announcements = fits.some

    pub announcements_fit : s.announcements ≤ greatest_card
    announcements_fit = let few = fits.few in omega arith

    -- the table has so many words
    pub words_are : u.id.words ≡ slots_size s
    words_are = ap (λ (m : TableModel). m.id.words) (sym same) ∙ (size ∙ ap (λ o. size_by o t.plan.last_card) planned)

    pub epoch_inside : (word : ℕ) → word ≡ epoch_word s → word < u.id.words
    epoch_inside word is = let all = words_are in omega arith

    pub announcement_inside : (word q : ℕ) → word ≡ announcement_word s q → word < u.id.words
    announcement_inside word q is = let all = words_are in omega arith
