use Rattle.ell_runs.specs.declared.call.Call.TheVariants as call
use Rattle.ell_cards.proofs.lemmas.shown.Reaching.{calls_tell}
use Rattle.ell_cards.proofs.lemmas.seats.Taken.{taken_keeps, sees_on_by}
use Rattle.ell_cards.proofs.lemmas.whole.Telling.{all_after}
use Rattle.ell_cards.proofs.table.CardTable.story.Goals as goal

pub load_all_as-requires-clause-tells : goal.load_all_as-requires-clause-tells
load_all_as-requires-clause-tells g c = calls_tell c.args.self.now.plan call.Next c.args.pass.now.view tt

pub load_all_as-requires-clause-keeps : goal.load_all_as-requires-clause-keeps
load_all_as-requires-clause-keeps g c = taken_keeps c.args.self.now.plan call.Next c.args.pass.now.view

pub returns-clause-all : goal.returns-clause-all
returns-clause-all g c = all_after c.args.self.now.plan c.args.pass.now.view _ _ c.load_all_as.result c.load_all_as.ensures.told.view c.load_all_as.ensures.all

pub returns-clause-step : goal.returns-clause-step
returns-clause-step g c = (c.load_all_as.result, sees_on_by c.args.pass.now c.load_all_as.new.pass _ c.load_all_as.ensures.step c.load_all_as.ensures.told.view)
