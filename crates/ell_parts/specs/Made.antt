use Rattle.std.specs.Prelude.{◌≡◌, ℕ, Bool, List, Some, length, map, slice_get}
use Rattle.ell_ops.specs.declared.op.Op.{Op}
use Rattle.ell_order.specs.Orders.{HasItsKeys, IsRunOrder}
use Rattle.ell_order.specs.declared.order.Part.{Part}
use Rattle.ell_parts.specs.PartedOps.{dealt}

-- the positions of numbered operations
abbrev pub positions_in : List (ℕ × Op) → List ℕ
positions_in items = map (λ item. item.0) items

-- the operations of parts, with their positions
abbrev pub items_of : {Z : Type 0} → List (Part Z) → List (List (ℕ × Op))
items_of parts = map (λ part. part.items.items) parts

-- a part is a worker's, in the order in which it is run, and has its keys
pub record IsPartOf {Z : Type 0} (reordered : Bool) (ops : List Op) (owners : List ℕ) (worker : ℕ) (part : Part Z)
    : Type 0 where
  pub order : IsRunOrder reordered (dealt ops owners worker) part.items.items
  pub keys : HasItsKeys part

-- the parts are those of so many workers, in their order
pub record AreParts {Z : Type 0} (reordered : Bool) (ops : List Op) (owners : List ℕ) (workers : ℕ) (parts : List (Part Z))
    : Type 0 where
  pub count : length parts ≡ workers
  pub each : (worker : ℕ) (part : Part Z) → slice_get parts worker ≡ Some part
      → IsPartOf reordered ops owners worker part
