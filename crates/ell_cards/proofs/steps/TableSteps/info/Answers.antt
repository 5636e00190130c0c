use Rattle.ell_layout.specs.Cards.{says_by}
use Rattle.ell_runs.proofs.lemmas.seats.Staying.{known_by}
use Rattle.ell_cards.proofs.steps.TableSteps.info.Goals as goal

pub field_address-requires : goal.field_address-requires
field_address-requires g c = c.names.ensures.placed.facts c.args.card
    (known_by c.args.pass.now.view c.args.card c.args.field c.requires.may.knows)

pub returns-clause-shallow : goal.returns-clause-shallow
returns-clause-shallow g c =
    c.load.ensures.shallow (says_by c.args.field c.load.result)
