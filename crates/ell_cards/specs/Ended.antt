-- A change that is over, whose card a pass still has in hand.
use Rattle.std.specs.Prelude.{◌≡◌, ℕ, Some, max, min}
use Rattle.ell_ops.specs.declared.op.Op.{Op}
use Rattle.ell_word.specs.Node.{IsInternal}
use Rattle.ell_core.specs.acts.Searching.{put_of}
use Rattle.ell_core.specs.declared.fact.Fact.TheVariants.{IOver, DOver}
use Rattle.ell_core.specs.declared.put.Put.{Put}
use Rattle.ell_layout.specs.declared.field.Field.TheVariants as field
use Rattle.ell_layout.specs.Words.{IsLeaf}
use Rattle.ell_runs.specs.declared.view.Told.TheVariants.{Info}
use Rattle.ell_runs.specs.declared.view.View.{View}
use Rattle.ell_runs.specs.Holding.{HasFlagged}
use Rattle.ell_runs.specs.Views.{IsTold, Knows, Does}

-- An insert or a swap has put this where its search ended, at a node of this key: its card, which is in hand, is over, and
-- it was told where the card went and which keys its leaves have. A node of the operation's key is a leaf.
pub record HasPut (what : Put) (node key : ℕ) (v : View) (c : ℕ) : Type 0 where
  pub op : Op
  pub puts : put_of op ≡ Some what
  pub busy : Does v op
  pub hand : HasFlagged v c
  pub over : Knows v (IOver c)
  pub below : IsTold v (Info c field.L node)
  pub left_key : IsTold v (Info c field.LeftLeafKey (min what.key key))
  pub right_key : IsTold v (Info c field.RightLeafKey (max what.key key))
  pub outer : key ≡ what.key → IsLeaf node

-- a delete has cut: its card, which is in hand, is over, and it was told which parent and which leaf the card took out
pub record HasCut (parent leaf : ℕ) (v : View) (c : ℕ) : Type 0 where
  pub hand : HasFlagged v c
  pub over : Knows v (DOver c)
  pub above : IsTold v (Info c field.P parent)
  pub below : IsTold v (Info c field.L leaf)
  pub inner : IsInternal parent
  pub outer : IsLeaf leaf
