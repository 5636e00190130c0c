use Rattle.std.proofs.Common.{◌+◌, ◌-◌, sym, subst, arith}
use Rattle.std.specs.Int.{w64}
use Rattle.std.proofs.lemmas.Nat.Bits.{bit_at-trailing_zeros}
use Rattle.ell_block.specs.Blocks.{HasEnds}
use Rattle.ell_block.proofs.lemmas.Shifts.{ends_by_shifts, ends_in_word}
use Rattle.ell_block.proofs.branches.block_ends.Goals as goal

pub overflow_sub-result : goal.overflow_sub-result
overflow_sub-result c =
    let lowest = bit_at-trailing_zeros w64 c.args.branch c.requires c.ranges.branch.fits in
    let ends = ends_by_shifts c.args.branch _ lowest.1 lowest.2 in
    let word = ends_in_word c.args.branch _ lowest.1 lowest.2 c.ranges.branch.fits lowest.0 in
    omega (arith, ends.0, word.0)

pub overflow_add-result : goal.overflow_add-result
overflow_add-result c =
    let lowest = bit_at-trailing_zeros w64 c.args.branch c.requires c.ranges.branch.fits in
    let ends = ends_by_shifts c.args.branch _ lowest.1 lowest.2 in
    let word = ends_in_word c.args.branch _ lowest.1 lowest.2 c.ranges.branch.fits lowest.0 in
    record { fits = omega (arith, ends.0, word.0, word.1) }

pub returns : goal.returns
returns c =
    let lowest = bit_at-trailing_zeros w64 c.args.branch c.requires c.ranges.branch.fits in
    let ends = ends_by_shifts c.args.branch _ lowest.1 lowest.2 in
    let word = ends_in_word c.args.branch _ lowest.1 lowest.2 c.ranges.branch.fits lowest.0 in
    subst (λ half. HasEnds c.args.branch (c.args.branch - half) (c.args.branch + (half - 1))) (sym word.0) ends.1
