use Rattle.std.proofs.Common.{sym, subst, arith}
use Rattle.ell_block.specs.Blocks.{IsBranchOf}
use Rattle.ell_block.proofs.lemmas.Shifts.{branch_by_shifts, branch_above, within_word}
use Rattle.ell_block.proofs.branches.branch.Goals as goal

pub returns-clause-branch : goal.returns-clause-branch
returns-clause-branch c =
    subst (IsBranchOf c.args.lesser c.args.greater) (sym (within_word c.args.greater c.ilog2-bit.result c.ranges.greater.fits))
    (branch_by_shifts c.args.lesser c.args.greater c.ilog2-bit.result c.requires c.ilog2-bit.ensures.power_le c.ilog2-bit.ensures.next_power_gt)

pub returns-clause-above : goal.returns-clause-above
returns-clause-above c =
    let same = within_word c.args.greater c.ilog2-bit.result c.ranges.greater.fits in
    let above = branch_above c.args.lesser c.args.greater _ (branch_by_shifts c.args.lesser c.args.greater c.ilog2-bit.result c.requires c.ilog2-bit.ensures.power_le c.ilog2-bit.ensures.next_power_gt) in
    omega arith
