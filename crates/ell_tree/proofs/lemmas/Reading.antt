use Rattle.std.proofs.Common.{ℕ, Bool, refl, ap, ◌∙◌}
use Rattle.ell_layout.specs.declared.field.Field.{Field}
use Rattle.ell_cards.specs.Models.{PassModel, Counts, Sees, Steps, some_more}
use Rattle.ell_runs.proofs.lemmas.views.Afters.{after_key_of, after_info, after_frozen_child}
use Rattle.ell_tree.specs.Keeping.{KeepsAll}
use Rattle.ell_tree.proofs.lemmas.Keeping.{keeps_all_step, key_of_keeps, info_keeps, frozen_keeps}

-- a key is asked in a step, and so are a word of a card and a child of a marked parent
pub key_walks : (old seen new : PassModel) (x key : ℕ) → Sees old seen (after_key_of x key old.view) → Counts seen new 1 → KeepsAll old new 1
key_walks old seen new x key s counts =
    keeps_all_step old new (after_key_of x key old.view) (counts ∙ ap (λ (m : PassModel). record m { steps = some_more 1 m.steps }) s) (key_of_keeps x key old.view) refl refl refl refl refl refl

pub info_walks : (old new : PassModel) (c : ℕ) (f : Field) (x : ℕ) → Steps old new (after_info c f x old.view) → KeepsAll old new 1
info_walks old new c f x s = keeps_all_step old new (after_info c f x old.view) s (info_keeps c f x old.view) refl refl refl refl refl refl

pub child_walks : (old new : PassModel) (c p : ℕ) (right : Bool) (x : ℕ) → Steps old new (after_frozen_child c p right x old.view) → KeepsAll old new 1
child_walks old new c p right x s = keeps_all_step old new (after_frozen_child c p right x old.view) s (frozen_keeps c p right x old.view) refl refl refl refl refl refl
