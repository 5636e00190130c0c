use Rattle.ell_cards.proofs.steps.TableSteps.look.Goals as goal

pub returns-clause-shallow : goal.returns-clause-shallow
returns-clause-shallow g c = c.see_pinned.ensures.shallow c.of.result.node
