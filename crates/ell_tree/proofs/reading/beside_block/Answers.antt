use Rattle.std.proofs.Common.{arith}
use Rattle.ell_block.proofs.lemmas.Middles.{within_ends}
use Rattle.ell_tree.proofs.reading.beside_block.Goals as goal

pub returns-then-key-first-clause-lacks : goal.returns-then-key-first-clause-lacks
returns-then-key-first-clause-lacks c = λ k low high inside.
    let ends = within_ends c.args.node_key _ _ k c.block_ends-first.ensures inside in
    let first = c.min.ensures in
    absurd (omega (arith, ends.0, high, first))

pub returns-else-key-first-clause-lacks : goal.returns-else-key-first-clause-lacks
returns-else-key-first-clause-lacks c = λ k low high inside.
    let ends = within_ends c.args.node_key _ _ k c.block_ends-first.ensures inside in
    let last = c.max.ensures in
    absurd (omega (arith, ends.1, low, last))
