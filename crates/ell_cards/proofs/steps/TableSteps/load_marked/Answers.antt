use Rattle.std.proofs.Common.{sym, ap, ◌∙◌}
use Rattle.ell_runs.specs.Calls.{after}
use Rattle.ell_runs.specs.declared.view.Sight.{Sight}
use Rattle.ell_cards.specs.Models.{PassModel, some_more}
use Rattle.ell_cards.proofs.lemmas.seats.Taken.{taken_keeps, sees_on_by}
use Rattle.ell_cards.proofs.lemmas.shown.Reaching.{calls_tell}
use Rattle.ell_cards.proofs.lemmas.whole.Rests.{load_claims_none}
use Rattle.ell_cards.proofs.steps.TableSteps.load_marked.Goals as goal

pub load_marked_as-found-requires-clause-tells : goal.load_marked_as-found-requires-clause-tells
load_marked_as-found-requires-clause-tells g c = calls_tell c.args.self.table.now.plan c.args.call c.args.pass.now.view (load_claims_none c.args.call c.requires.atomic)

pub load_marked_as-found-requires-clause-keeps : goal.load_marked_as-found-requires-clause-keeps
load_marked_as-found-requires-clause-keeps g c = taken_keeps c.args.self.table.now.plan c.args.call c.args.pass.now.view

pub returns-clause-tells : goal.returns-clause-tells
returns-clause-tells g c = c.load_marked_as-found.ensures.told.tells

pub returns-clause-step : goal.returns-clause-step
returns-clause-step g c =
    c.count.ensures ∙ ap (λ (m : PassModel). record m { steps = some_more 1 m.steps }) (sees_on_by c.args.pass.now c.load_marked_as-found.new.pass _ c.load_marked_as-found.ensures.step c.load_marked_as-found.ensures.told.view)
    ∙ ap (λ (s : Sight). record c.args.pass.now { view = after c.args.call c.load_marked_as-found.result c.args.pass.now.view; steps = some_more 1 c.args.pass.now.steps; sight = s })
    (sym (ap (λ (m : PassModel). m.sight) c.count.ensures))
