use Rattle.std.specs.Prelude.{ℕ, Bool, Option}
use Rattle.ell_tree.specs.Op.TheVariants.{Find, Insert}
use Rattle.ell_tree.specs.Meaning.{found, yes_if}
use Rattle.ell_tree.specs.Models.{PassModel}
use Rattle.ell_tree.specs.Ends.{Answers}
use Rattle.ell_tree.specs.Ledgers.{TreeModel}

-- a pass has inserted a key with a value, and then a flag with it, and was told this
pub record Raises (t : TreeModel) (key flag value : ℕ) (added raised : Bool) (old new : PassModel) : Type 0 where
  pub between : PassModel
  pub first : Answers t (Insert key value) (yes_if added) old between
  pub second : Answers t (Insert flag value) (yes_if raised) between new

-- a pass has sought a flag, and then a key, and found this
pub record Looks (t : TreeModel) (key flag : ℕ) (seen there : Option ℕ) (old new : PassModel) : Type 0 where
  pub between : PassModel
  pub first : Answers t (Find flag) (found seen) old between
  pub second : Answers t (Find key) (found there) between new
