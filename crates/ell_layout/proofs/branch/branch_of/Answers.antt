-- Each step is one on the way to the card.
use Rattle.std.proofs.Common.{sym, subst}
use Rattle.ell_layout.proofs.lemmas.Branches.{OnWay, way_starts, way_left, way_right, way_ends}
use Rattle.ell_layout.proofs.branch.branch_of.Goals as goal

pub loop-branch-init : goal.loop-branch-init
loop-branch-init c = way_starts c.args.leaves c.args.card c.requires.card

pub loop-branch-preserved-then-card-branch : goal.loop-branch-preserved-then-card-branch
loop-branch-preserved-then-card-branch c =
    subst (OnWay c.args.leaves c.args.card) (sym c.halved-branch.ensures)
    (way_left c.args.leaves c.args.card c.loop-branch.branch c.loop-branch.invariant c.loop-branch-test.true c.if-card-branch.true)

pub loop-branch-preserved : goal.loop-branch-preserved
loop-branch-preserved c =
    subst (OnWay c.args.leaves c.args.card) (sym c.halved-branch-else-card-branch.ensures)
    (way_right c.args.leaves c.args.card c.loop-branch.branch c.loop-branch.invariant c.loop-branch-test.true c.if-card-branch.false)

pub returns : goal.returns
returns c = way_ends c.args.leaves c.args.card c.loop-branch.branch c.loop-branch.invariant c.loop-branch-test.false
