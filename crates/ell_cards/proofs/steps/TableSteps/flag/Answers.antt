use Rattle.ell_cards.proofs.lemmas.seats.Taken.{taken_keeps, steps_by}
use Rattle.ell_cards.proofs.lemmas.whole.Rests.{exchange_is_quiet, flag_claims_none}
use Rattle.ell_cards.proofs.lemmas.shown.Reaching.{calls_tell}
use Rattle.ell_cards.proofs.steps.TableSteps.flag.Goals as goal

pub flag_as-requires-clause-quiet : goal.flag_as-requires-clause-quiet
flag_as-requires-clause-quiet g c = exchange_is_quiet c.args.call c.args.expected c.args.value c.requires.atomic

pub flag_as-requires-clause-tells : goal.flag_as-requires-clause-tells
flag_as-requires-clause-tells g c = calls_tell c.args.self.table.now.plan c.args.call c.args.pass.now.view (flag_claims_none c.args.call c.args.card c.requires.flags)

pub flag_as-requires-clause-keeps : goal.flag_as-requires-clause-keeps
flag_as-requires-clause-keeps g c = taken_keeps c.args.self.table.now.plan c.args.call c.args.pass.now.view

pub returns-clause-step : goal.returns-clause-step
returns-clause-step g c = steps_by c.args.pass.now c.flag_as.new.pass _ c.flag_as.ensures.step c.flag_as.ensures.told.view

pub returns-clause-tells : goal.returns-clause-tells
returns-clause-tells g c = c.flag_as.ensures.told.tells
