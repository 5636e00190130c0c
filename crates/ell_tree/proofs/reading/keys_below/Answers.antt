use Rattle.std.proofs.Common.{◌≡◌, ◌<◌, ◌≤◌, true, sym, subst, arith, rules}
use Rattle.ell_layout.specs.Words.{has_block}
use Rattle.ell_core.specs.statements.Readers.{from_of, upto_of}
use Rattle.ell_core.proofs.lemmas.runs.Stretches.{key_from, key_upto}
use Rattle.ell_block.proofs.lemmas.Middles.{within_ends}
use Rattle.ell_runs.specs.Plans.{flat_from}
use Rattle.ell_tree.proofs.reading.keys_below.Goals as goal

pub returns-then-last-high-clause-with : goal.returns-then-last-high-clause-with
returns-then-last-high-clause-with g c = λ k low high side inside.
    let has : has_block (flat_from c.args.table.now.plan) c.args.here.node ≡ true = search rules in
    let ends = within_ends c.args.node_key _ _ k c.block_ends-first.ensures (inside has) in
    let from = subst (λ r. from_of r c.args.here.low c.args.node_key ≤ k) (sym side) (key_from c.args.node_key c.args.here.low k low) in
    let most = c.max.ensures in
    let first = c.on_side-low.ensures.low in
    (omega (arith, most, first, from, ends.0), omega (arith, ends.1))

pub returns-else-last-high-clause-with : goal.returns-else-last-high-clause-with
returns-else-last-high-clause-with g c = λ k low high side inside.
    let has : has_block (flat_from c.args.table.now.plan) c.args.here.node ≡ true = search rules in
    let ends = within_ends c.args.node_key _ _ k c.block_ends-first.ensures (inside has) in
    let from = subst (λ r. from_of r c.args.here.low c.args.node_key ≤ k) (sym side) (key_from c.args.node_key c.args.here.low k low) in
    let upto = subst (λ r. k < upto_of r c.args.here.high c.args.node_key) (sym side) (key_upto c.args.node_key c.args.here.high k high) in
    let most = c.max.ensures in
    let first = c.on_side-low.ensures.low in
    let last = c.on_side-low.ensures.high in
    (omega (arith, most, first, from, ends.0), omega (arith, last, upto))
