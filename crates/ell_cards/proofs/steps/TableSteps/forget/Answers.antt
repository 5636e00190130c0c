use Rattle.std.proofs.Common.{ap, ◌∙◌}
use Rattle.ell_cards.specs.Models.{PassModel, some_more}
use Rattle.ell_runs.specs.declared.call.Call.TheVariants as call
use Rattle.ell_cards.proofs.lemmas.seats.Taken.{taken_keeps, sees_by}
use Rattle.ell_cards.proofs.lemmas.shown.Reaching.{tells_known}
use Rattle.ell_cards.proofs.steps.TableSteps.forget.Goals as goal

pub load_as-requires-clause-tells : goal.load_as-requires-clause-tells
load_as-requires-clause-tells g c = tells_known c.args.self.table.now.plan c.args.pass.now.view

pub load_as-requires-clause-keeps : goal.load_as-requires-clause-keeps
load_as-requires-clause-keeps g c n w told = taken_keeps c.args.self.table.now.plan call.Rest c.args.pass.now.view n w told.0

pub returns-clause-known : goal.returns-clause-known
returns-clause-known g c = c.load_as.ensures.told.1

pub returns-clause-step : goal.returns-clause-step
returns-clause-step g c =
    c.count.ensures
    ∙ ap (λ (m : PassModel). record m { steps = some_more 1 m.steps })
    (sees_by c.args.pass.now c.load_as.new.pass _ c.load_as.ensures.step c.load_as.ensures.told.0.view)
