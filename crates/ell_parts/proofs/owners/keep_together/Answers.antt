use Rattle.std.proofs.Common.{rules, ◌≡◌, ◌<◌, nat_cmp, unwrap_or, arith, length}
use Rattle.std.specs.BTreeMap.{get}
use Rattle.ell_ops.specs.declared.op.Op.TheVariants.{Find}
use Rattle.ell_parts.proofs.lemmas.Splits.{AreFirsts-entry, first_known_at, first_split, together_more}
use Rattle.ell_parts.proofs.owners.keep_together.Goals as goal

pub offset_bounds-owners-first : goal.offset_bounds-owners-first
offset_bounds-owners-first g c =
    let first = c.or_insert-first.result.now in
    let known = first_known_at c.args.ops.now c.loop-second.second c.key.result first (Find 0) (get nat_cmp c.loop-second.firsts)
    c.loop-second.invariant.firsts c.loop-second-test.true c.key.ensures (search rules) in
    let within : first < length c.args.owners.now = omega (arith, known.1) in
    search rules

pub bounds-owners-first : goal.bounds-owners-first
bounds-owners-first g c =
    let known = first_known_at c.args.ops.now c.loop-second.second c.key.result c.or_insert-first.result.now (Find 0) (get nat_cmp c.loop-second.firsts)
    c.loop-second.invariant.firsts c.loop-second-test.true c.key.ensures (search rules) in
    omega (arith, known.1)

pub returns-then-owners-first-clause-err : goal.returns-then-owners-first-clause-err
returns-then-owners-first-clause-err g c =
    let first = c.or_insert-first.result.now in
    let known = first_known_at c.args.ops.now c.loop-second.second c.key.result first (Find 0) (get nat_cmp c.loop-second.firsts)
    c.loop-second.invariant.firsts c.loop-second-test.true c.key.ensures (search rules) in
    first_split _ c.args.owners.now _ _ first c.loop-second.invariant.together (known.1, known.2) known.0 c.if-owners-first.true

pub loop-second-preserved : goal.loop-second-preserved
loop-second-preserved g c =
    let first = c.or_insert-first.result.now in
    let firsts = get nat_cmp c.loop-second.firsts in
    let was : first ≡ unwrap_or (firsts c.key.result) c.loop-second.second = search rules in
    let known = first_known_at c.args.ops.now c.loop-second.second c.key.result first (Find 0) firsts
    c.loop-second.invariant.firsts c.loop-second-test.true c.key.ensures was in
    record {
      firsts = AreFirsts-entry _ _ _ first firsts _ c.loop-second.invariant.firsts known.0 was (λ q. search rules);
      together = together_more _ c.args.owners.now _ _ first c.loop-second.invariant.together known.2 known.0 c.if-owners-first.false;
    }
