use Rattle.ell_runs.specs.declared.call.Call.TheVariants as call
use Rattle.ell_cards.proofs.lemmas.seats.Taken.{taken_keeps, steps_by}
use Rattle.ell_cards.proofs.lemmas.shown.Reaching.{fill_tells}
use Rattle.ell_cards.proofs.steps.TableSteps.store.Goals as goal

pub store_as-requires-clause-tells : goal.store_as-requires-clause-tells
store_as-requires-clause-tells g c = fill_tells c.args.self.table.now.plan c.args.card c.args.field c.args.value c.args.pass.now.view

pub store_as-requires-clause-keeps : goal.store_as-requires-clause-keeps
store_as-requires-clause-keeps g c = taken_keeps c.args.self.table.now.plan (call.Fill c.args.card c.args.field c.args.value) c.args.pass.now.view

pub returns : goal.returns
returns g c = record { step = steps_by c.args.pass.now c.store_as.new.pass _ c.store_as.ensures.step c.store_as.ensures.told.view }
