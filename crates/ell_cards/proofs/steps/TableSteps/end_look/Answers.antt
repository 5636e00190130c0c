use Rattle.std.proofs.Common.{refl, subst, sym}
use Rattle.ell_runs.specs.Changes.{after_rest}
use Rattle.ell_cards.specs.Models.{PassModel}
use Rattle.ell_runs.specs.Touching.{IsAtRest}
use Rattle.ell_cards.proofs.lemmas.whole.Rests.{is_at_rest}
use Rattle.ell_cards.proofs.steps.TableSteps.end_look.Goals as goal

-- a pass that has forgotten its look is at rest
pub unpin-requires-clause-rest : goal.unpin-requires-clause-rest
unpin-requires-clause-rest g c =
    subst (λ (p : PassModel). IsAtRest p.view) (sym c.forget.ensures.step)
    (is_at_rest (after_rest c.args.pass.now.view) refl refl refl refl refl)
