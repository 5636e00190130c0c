-- Step calls go by what is shown of the knowledge of a pass as they go by that itself.
use Rattle.ell_cards.proofs.lemmas.shown.ShownSteps.{steps_are_shown}
use Rattle.ell_cards.proofs.lemmas.shown.ShownChanges.{claims_are_shown}
use Rattle.ell_cards.proofs.lemmas.shown.ShownCalls.{guards_are_lifted}
use Rattle.ell_cards.proofs.lemmas.shown.ShownStores.{stores_stay_whole}
use Rattle.ell_cards.proofs.lemmas.shown.ShownTellings.{tellings_are_shown}
use Rattle.ell_cards.proofs.lemmas.shown.ShownViews.{takings_are_shown, handovers_are_shown}
use Rattle.ell_cards.proofs.lemmas.shown.ShownActs.{calls_act_alike}
use Rattle.ell_cards.proofs.lemmas.shown.ShownKinds.{calls_can_be_shown}
use Rattle.ell_cards.proofs.laws.shown_views_step_alike.Goals as goal

pub returns : goal.returns
returns c = record {
  steps = steps_are_shown;
  claims = claims_are_shown;
  can = calls_can_be_shown;
  guards = guards_are_lifted;
  stores = stores_stay_whole;
  tellings = tellings_are_shown;
  takings = takings_are_shown;
  acts = calls_act_alike;
  handovers = handovers_are_shown;
}
