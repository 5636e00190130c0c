use Rattle.std.specs.Prelude.{ℕ, Bool, Option, []}
use Rattle.ell_tree.specs.Op.TheVariants.{Find, Insert}
use Rattle.ell_tree.specs.Meaning.{found, yes_if}
use Rattle.ell_tree.specs.Models.{PassModel}
use Rattle.ell_tree.specs.Ends.{Answers}
use Rattle.ell_tree.specs.Ledgers.{TreeModel}
use Rattle.ell_tree.specs.PassParts.{IsLeftPart, IsRightPart, IsUnion}

-- a pass has inserted a key with a value, and then a message was split off it
pub record Tells (t : TreeModel) (key value : ℕ) (old new message : PassModel) : Type 0 where
  pub added : Bool
  pub between : PassModel
  pub inserts : Answers t (Insert key value) (yes_if added) old between
  pub keeps : IsLeftPart [] between new
  pub hands : IsRightPart [] between message

-- a message was joined to a pass, which has then found this of a key
pub record Heard (t : TreeModel) (key : ℕ) (old message new : PassModel) (there : Option ℕ) : Type 0 where
  pub between : PassModel
  pub joins : IsUnion old message between
  pub finds : Answers t (Find key) (found there) between new
