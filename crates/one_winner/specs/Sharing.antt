use Rattle.std.specs.Prelude.{◌≡◌, ◌≢◌, ◌+◌, ◌%◌, ◌^◌, true, Some, List, [], ◌∷◌}
use Rattle.ell_tree.specs.Op.{Op}
use Rattle.ell_tree.specs.Reply.{Reply}
use Rattle.ell_tree.specs.Act.{Act}
use Rattle.ell_tree.specs.Models.{PassModel, SplitRefuses}
use Rattle.ell_tree.specs.Views.{whole_share}
use Rattle.ell_tree.specs.Ends.{NotDoneFor}
use Rattle.ell_tree.specs.Ledgers.{IsIdlePassOf, TreeModel}
use Rattle.one_winner.specs.declared.fault.RaceFault.{RaceFault}
use Rattle.one_winner.specs.declared.fault.RaceFault.TheVariants.{Insert, Memory, Split}
use Rattle.one_winner.specs.declared.sharing.TheConstants.{TRIES}

-- each key of a tree is shared, and it starts empty
pub record SharesEachKey (t : TreeModel) : Type 0 where
  pub keys : t.plan.keys ≡ []
  pub start : t.plan.start ≡ []
  pub shared : t.plan.shared ≡ true

-- a pass of the tree has nothing in hand, may find and change each key, and has made no call
pub record IsNew (t : TreeModel) (p : PassModel) : Type 0 where
  pub idle : IsIdlePassOf t p
  pub ownable : p.view.worker.shared ≡ Some []
  pub none : p.sight.mine ≡ []

-- two passes of a tree that starts empty and shares each key are new, and have the whole share together
pub record AreNew (t : TreeModel) (left right : PassModel) : Type 0 where
  pub shares : SharesEachKey t
  pub one : IsNew t left
  pub other : IsNew t right
  pub whole : (left.view.share + right.view.share) % 2 ^ 64 ≡ whole_share

-- what a pass was answered, it and the passes that were joined to it: each call with its answer, the last one first
abbrev pub answered : List Act → List (Op × Reply)
answered [] = []
answered (a ∷ mine) = (a.op, a.said) ∷ answered mine

-- why threads have no result, by the pass that comes back: its insert was not done, as the tree says; or it was not
-- split, or not joined to another one, after its call
abbrev pub Fails : TreeModel → PassModel → RaceFault → Type 0
Fails t p (Insert why) = (old : PassModel) × NotDoneFor t.plan TRIES old p why
Fails t p (Split fault) = SplitRefuses t.plan.slots p.view fault × (p.sight.mine ≢ [])
Fails t p (Memory no_memory) = p.sight.mine ≢ []
Fails t p _ = ⊥
