-- What a handle has seen of the history by a look that it has ended.
use Rattle.std.proofs.Common.{Option, Some, None, sym, ap, subst}
use Rattle.ell_runs.specs.declared.view.Sight.{Sight}
use Rattle.ell_runs.specs.declared.view.Slots.{Slots}
use Rattle.ell_cards.specs.Models.{PassModel}
use Rattle.ell_tree.specs.Looks.{EndsLooks}

-- it has seen what its pass had seen by the look
pub sees_ended : (IsSeen : Sight → Type 0) (slots : Option Slots) (looked new : PassModel) → EndsLooks slots looked new → IsSeen looked.sight → IsSeen new.sight
sees_ended IsSeen None looked new ends seen = subst (λ (m : PassModel). IsSeen m.sight) (sym ends) seen
sees_ended IsSeen (Some s) looked new ends seen = subst IsSeen (sym (ap (λ (m : PassModel). m.sight) ends)) seen
