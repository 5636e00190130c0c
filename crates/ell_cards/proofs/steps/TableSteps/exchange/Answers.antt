use Rattle.std.proofs.Common.{refl, sym, arith}
use Rattle.ell_cards.proofs.lemmas.shown.CutWords.{cut_same}
use Rattle.ell_cards.proofs.lemmas.seats.Taken.{taken_keeps, steps_by}
use Rattle.ell_cards.proofs.lemmas.whole.Rests.{exchange_is_quiet}
use Rattle.ell_cards.proofs.lemmas.shown.Reaching.{calls_tell}
use Rattle.ell_cards.proofs.steps.TableSteps.exchange.Goals as goal

pub exchange_as-requires-clause-quiet : goal.exchange_as-requires-clause-quiet
exchange_as-requires-clause-quiet g c = exchange_is_quiet c.args.call c.args.expected c.args.value c.requires.atomic

pub exchange_as-requires-clause-tells : goal.exchange_as-requires-clause-tells
exchange_as-requires-clause-tells g c = calls_tell c.args.self.table.now.plan c.args.call c.args.pass.now.view c.requires.plain

pub exchange_as-requires-clause-keeps : goal.exchange_as-requires-clause-keeps
exchange_as-requires-clause-keeps g c = taken_keeps c.args.self.table.now.plan c.args.call c.args.pass.now.view

pub exchange_as-requires-clause-exchanges : goal.exchange_as-requires-clause-exchanges
exchange_as-requires-clause-exchanges g c = record {
  whole = c.args.value;
  is = c.requires.atomic;
  cut = sym (cut_same c.args.value (omega arith));
  all = λ none. refl;
}

pub returns-clause-step : goal.returns-clause-step
returns-clause-step g c = steps_by c.args.pass.now c.exchange_as.new.pass _ c.exchange_as.ensures.step c.exchange_as.ensures.told.view

pub returns-clause-tells : goal.returns-clause-tells
returns-clause-tells g c = c.exchange_as.ensures.told.tells
