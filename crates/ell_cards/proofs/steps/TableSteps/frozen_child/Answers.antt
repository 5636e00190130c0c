use Rattle.ell_cards.proofs.steps.TableSteps.frozen_child.Goals as goal

pub returns-clause-shallow : goal.returns-clause-shallow
returns-clause-shallow g c = c.load.ensures.shallow c.of.result.node
