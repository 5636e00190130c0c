use Rattle.ell_cards.proofs.lemmas.seats.Taken.{taken_keeps, pins_by}
use Rattle.ell_cards.proofs.lemmas.shown.Reaching.{calls_tell}
use Rattle.ell_cards.proofs.lemmas.whole.Rests.{load_claims_none}
use Rattle.ell_cards.proofs.steps.TableSteps.see_pinned.Goals as goal

pub load_pinned_as-requires-clause-tells : goal.load_pinned_as-requires-clause-tells
load_pinned_as-requires-clause-tells g c = calls_tell c.args.self.table.now.plan c.args.call c.args.pass.now.view (load_claims_none c.args.call c.requires.atomic)

pub load_pinned_as-requires-clause-keeps : goal.load_pinned_as-requires-clause-keeps
load_pinned_as-requires-clause-keeps g c = taken_keeps c.args.self.table.now.plan c.args.call c.args.pass.now.view

pub returns-clause-step : goal.returns-clause-step
returns-clause-step g c = pins_by c.args.self.table.now.plan.slots c.args.call c.args.pass.now c.load_pinned_as.new.pass _ c.load_pinned_as.ensures.step c.load_pinned_as.ensures.told.view

pub returns-clause-tells : goal.returns-clause-tells
returns-clause-tells g c = c.load_pinned_as.ensures.told.tells

pub returns-clause-shallow : goal.returns-clause-shallow
returns-clause-shallow g c = c.load_pinned_as.ensures.told.shallow
