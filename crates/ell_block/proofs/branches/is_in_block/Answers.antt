use Rattle.std.proofs.Common.{◌<◌, rules}
use Rattle.std.specs.Int.{w64}
use Rattle.std.proofs.lemmas.Bool.{lt-ltb, ltb-true}
use Rattle.std.proofs.lemmas.Nat.Bits.{bit_at-trailing_zeros}
use Rattle.ell_block.proofs.lemmas.Shifts.{in_block_by_shifts}
use Rattle.ell_block.proofs.branches.is_in_block.Goals as goal

pub returns-then-branch-gt0 : goal.returns-then-branch-gt0
returns-then-branch-gt0 c =
    let some : 0 < c.args.branch = search rules in
    let lowest = bit_at-trailing_zeros w64 c.args.branch some c.ranges.branch.fits in
    let both = in_block_by_shifts c.args.branch c.args.key _ lowest.1 lowest.2 in
    (λ small. both.0 (ltb-true _ _ small), λ inside. lt-ltb _ _ (both.1 inside))
