-- The epochs of a table are sound, and the word of each announcement says what its pass announces.
use Rattle.std.proofs.Common.{◌≡◌, ℕ, ◌<◌, nat_lt, if◌then◌else◌, true, Some, None, ap, ◌∙◌, subst, arith, get_or}
use Rattle.std.proofs.lemmas.Bool.Decides.{nat_tests}
use Rattle.ell_cards.specs.declared.view.Known.{Known}
use Rattle.ell_runs.specs.declared.view.Slots.{Slots}
use Rattle.ell_cards.specs.Ages.{HasEpochs}
use Rattle.ell_runs.specs.Plans.{TablePlan}
use Rattle.ell_runs.specs.States.{TableState}
use Rattle.ell_cards.specs.EpochLaws.{IsPinned, BeganSafely}
use Rattle.ell_cards.specs.Epochs.{WholeState, EpochsAreSound, announced_by, announcement_says, announcement_word, participant_of, word_at_announcement}
use Rattle.ell_cards.specs.Whole.{EpochsAre}
use Rattle.ell_cards.proofs.lemmas.whole.Steps.{announced_again}
use Rattle.ell_cards.proofs.lemmas.whole.Untouched.{free_slots_are_untouched}
use Rattle.ell_cards.proofs.lemmas.refinement.Touched.{calls_touch_no_discarded_card}
use Rattle.ell_cards.proofs.lemmas.whole.Retiring.{retired_nodes_stay_retired}
use Rattle.ell_cards.proofs.lemmas.whole.InUse.{slots_in_use_are_few}
use Rattle.ell_cards.proofs.laws.safe_epochs_are_safe.Goals as goal

module _ (plan : TablePlan) (s : Slots) (tree : TableState) (t : WholeState) (has : HasEpochs plan s tree t) (seat : ℕ) (k : Known) (is : IsPinned t seat k) where
  h : EpochsAreSound s t has.lie has.dead has.began has.was_dead
  h = has.epochs

  -- the announcement of a pinned pass says what it announces
  says : word_at_announcement s t.words is.announcement ≡ Some is.epoch
  says =
      let at = (h.each seat k is.there).announcement is.announcement is.has in
      let inside : is.announcement < s.announcements = at.0 in
      let there : nat_lt is.announcement s.announcements ≡ true = grind (arith, nat_tests) in
      ap (λ b. if b then announced_by (get_or t.words (announcement_word s is.announcement) 0) else None) there
      ∙ (ap announced_by (at.1 ∙ ap announcement_says is.announces) ∙ announced_again is.epoch)

  began_safely : BeganSafely s t k is.epoch
  began_safely =
      let began = h.since seat is.announcement is.epoch k is.there is.has is.announces in
      let sound = h.sound.announced is.announcement is.epoch says in
      record {
        safe_epoch = λ i other there. (let low = h.sound.safe_epoch i is.announcement is.epoch says in let mine = ap (λ x. (participant_of x).safe_epoch) there in omega arith);
        announced = let low = sound.0 in omega arith;
        past = let low = sound.1 in omega arith;
      }

pub returns : goal.returns
returns c = record {
  began = λ plan s t placed h seat k is. began_safely plan s h.tree t (subst (λ o. EpochsAre plan o h.tree t) placed h.epochs).0 seat k is;
  free = free_slots_are_untouched;
  discarded = calls_touch_no_discarded_card;
  retired = retired_nodes_stay_retired;
  leaks = λ plan s t placed h.
      let has = subst (λ o. EpochsAre plan o h.tree t) placed h.epochs in
      record { machine = has.0.ages.now.machine; lie = has.0.lie; lies = has.0.lies; leaks = has.1 };
  few = slots_in_use_are_few;
}
