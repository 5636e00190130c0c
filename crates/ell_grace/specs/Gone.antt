use Rattle.std.specs.Prelude.{◌≡◌, ℕ, ◌⊎◌, true, false}
use Rattle.ell_layout.specs.Words.{Words}
use Rattle.ell_layout.specs.Cards.{keeps_below, sibling}
use Rattle.ell_core.specs.state.Machine.{Machine}
use Rattle.ell_core.specs.tree.Tree.{Reached}
use Rattle.ell_core.specs.history.Stages.{Stages, is_changed, is_cut, delete_open}
use Rattle.ell_core.specs.history.Invariant.{delete_side, Invariant}
use Rattle.ell_core.specs.statements.Since.{has_ended}
use Rattle.ell_core.specs.statements.RunLaws.{IsPassed}

-- A card has taken a node out of the tree: a swap, and in a tree that is not flat an insert, the leaf in whose place its node
-- came, and a delete its leaf and the leaf's parent. An insert takes nothing out if the node above which it goes stays, below
-- its own.
abbrev pub TakesOut : Words → Stages → ℕ → ℕ → Type 0
TakesOut w stage c x =
    ((is_changed (stage c) ≡ true) × (keeps_below w c ≡ false) × (w.l c ≡ x)) ⊎ ((is_cut (stage c) ≡ true) × ((w.p c ≡ x) ⊎ (w.l c ≡ x)))

-- a node is gone for good: a card that has ended has taken it out
pub record IsGone (w : Words) (stage : Stages) (x : ℕ) : Type 0 where
  pub taker : ℕ
  pub ended : has_ended (stage taker) ≡ true
  pub takes : TakesOut w stage taker x

-- what was taken out is not in the tree, and one card has taken it out; and while a delete that has cut has its flag, the
-- sibling of its leaf stands under the grandparent, in the parent's place
pub record OutsAreSound (w : Words) (stage : Stages) : Type 0 where
  pub out : (c x : ℕ) → TakesOut w stage c x → ¬ Reached w x
  pub once : (c d x : ℕ) → TakesOut w stage c x → TakesOut w stage d x → c ≡ d
  pub sibling : (c : ℕ) → is_cut (stage c) ≡ true → delete_open (stage c) ≡ true
      → w.child (w.gp c) (delete_side w c) ≡ sibling w c

-- a state of a run, with how far each card has come, and with what was taken out
pub record HasOuts (m : Machine) : Type 0 where
  pub stages : Stages
  pub invariant : Invariant m stages
  pub outs : OutsAreSound m.words stages

-- every state of every run is such a state
abbrev pub EveryStateHasOuts : Type 0
EveryStateHasOuts = (m : Machine) → IsPassed m → HasOuts m
