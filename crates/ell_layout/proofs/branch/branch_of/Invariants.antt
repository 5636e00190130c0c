use Rattle.std.proofs.Common.{◌-◌}
use Rattle.ell_layout.proofs.lemmas.Branches.{OnWay}
use Rattle.ell_layout.proofs.branch.branch_of.Given as goal

-- the branch is on the way to the card
abbrev pub invariant-loop-branch : goal.invariant-loop-branch
invariant-loop-branch l = OnWay l.leaves l.card l.branch

abbrev pub decreases-loop-branch : goal.decreases-loop-branch
decreases-loop-branch l = l.card - l.branch.card
