use Rattle.ell_cards.proofs.steps.TableSteps.down.Goals as goal

pub returns-clause-shallow : goal.returns-clause-shallow
returns-clause-shallow g c = c.see.ensures.shallow c.of.result.node
