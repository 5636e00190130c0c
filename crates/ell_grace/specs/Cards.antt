use Rattle.std.specs.Prelude.{◌≡◌, ℕ, ◌⊎◌, Bool, true, false}
use Rattle.ell_layout.specs.Words.{Words}
use Rattle.ell_layout.specs.Cards.{keeps_below}
use Rattle.ell_core.specs.history.Stages.{Stages, insert_won, is_changed, delete_won, is_marked}
use Rattle.ell_core.specs.statements.Since.{has_ended}
use Rattle.ell_grace.specs.Gone.{IsGone}

-- What the cards name that had not ended at these words and stages was not gone then, of each that has won its flag by now:
-- the parent of an insert, and the node where it goes, if that does not stay or the insert had not put its own node above it
-- by then; the grandparent and the parent of a delete; and once a delete was marked, its leaf and the children of its parent.
pub record CardsSince (w : Words) (stage : Stages) (now : Words) (after : Stages) : Type 0 where
  pub insert : (c : ℕ) → insert_won (after c) ≡ true → has_ended (stage c) ≡ false → ¬ IsGone w stage (now.p c)
  pub lower : (c : ℕ) → insert_won (after c) ≡ true → has_ended (stage c) ≡ false
      → (keeps_below now c ≡ false) ⊎ (is_changed (stage c) ≡ false) → ¬ IsGone w stage (now.l c)
  pub delete : (c : ℕ) → delete_won (after c) ≡ true → has_ended (stage c) ≡ false
      → (¬ IsGone w stage (now.gp c)) × (¬ IsGone w stage (now.p c))
  pub marked : (c : ℕ) → is_marked (after c) ≡ true → has_ended (stage c) ≡ false
      → (¬ IsGone w stage (now.l c)) × ((right : Bool) → ¬ IsGone w stage (now.child (now.p c) right))
