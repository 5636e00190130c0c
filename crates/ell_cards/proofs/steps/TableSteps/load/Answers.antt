-- A load that is counted.
use Rattle.std.proofs.Common.{ap, ◌∙◌}
use Rattle.ell_cards.specs.Models.{PassModel, some_more}
use Rattle.ell_cards.proofs.steps.TableSteps.load.Goals as goal

pub returns-clause-step : goal.returns-clause-step
returns-clause-step g c = c.count.ensures ∙ ap (λ (m : PassModel). record m { steps = some_more 1 m.steps }) c.see-found.ensures.step
