-- Which words a card says: nobody reads another one of it.
use Rattle.std.specs.Prelude.{Bool, true, false, if◌then◌else◌}
use Rattle.ell_layout.specs.declared.field.Field.{Field}
use Rattle.ell_layout.specs.declared.field.Field.TheVariants.{Gp, P, L, Was}
use Rattle.ell_core.specs.history.Stages.{Stage, is_delete}

-- a delete's card says where it cuts, and what its search read at the parent
abbrev pub delete_says : Field → Bool
delete_says Gp = true
delete_says P = true
delete_says L = true
delete_says Was = true
delete_says _ = false

-- an insert's or a swap's card, and one of the opening tree, says all but the grandparent and what was read at the
-- parent
abbrev pub put_says : Field → Bool
put_says Gp = false
put_says Was = false
put_says _ = true

-- so this is said by a card at a stage
abbrev pub says : Stage → Field → Bool
says stage f = if is_delete stage then delete_says f else put_says f
