use Rattle.ell_cards.proofs.lemmas.seats.Taken.{taken_keeps, steps_by}
use Rattle.ell_cards.proofs.lemmas.whole.Calling.{child_exchanges}
use Rattle.ell_cards.proofs.lemmas.whole.Rests.{exchange_is_quiet}
use Rattle.ell_cards.proofs.lemmas.shown.Reaching.{calls_tell}
use Rattle.ell_word.specs.Link.{linked}
use Rattle.ell_runs.specs.Calls.{next_link}
use Rattle.ell_cards.proofs.steps.TableSteps.exchange_child.Goals as goal

pub exchange_as-requires-clause-quiet : goal.exchange_as-requires-clause-quiet
exchange_as-requires-clause-quiet g c =
    exchange_is_quiet c.args.call (linked c.args.old) (linked (next_link c.args.old c.args.node)) c.requires.atomic

pub exchange_as-requires-clause-unflagging : goal.exchange_as-requires-clause-unflagging
exchange_as-requires-clause-unflagging g c = c.requires.unflagging

pub exchange_as-requires-clause-exchanges : goal.exchange_as-requires-clause-exchanges
exchange_as-requires-clause-exchanges g c =
    child_exchanges c.args.self.table.now.plan c.args.call c.args.old c.args.node _ _ c.word.ensures c.next_word.ensures c.requires.atomic c.requires.fits c.requires.few

pub exchange_as-requires-clause-tells : goal.exchange_as-requires-clause-tells
exchange_as-requires-clause-tells g c = calls_tell c.args.self.table.now.plan c.args.call c.args.pass.now.view c.requires.plain

pub exchange_as-requires-clause-keeps : goal.exchange_as-requires-clause-keeps
exchange_as-requires-clause-keeps g c = taken_keeps c.args.self.table.now.plan c.args.call c.args.pass.now.view

pub returns : goal.returns
returns g c = record { step = steps_by c.args.pass.now c.exchange_as.new.pass _ c.exchange_as.ensures.step c.exchange_as.ensures.told.view }
