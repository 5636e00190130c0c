use Rattle.std.proofs.Common.{◌≡◌, rules, ap, sym, subst, ◌∙◌}
use Rattle.std.proofs.lemmas.List.{drop_all}
use Rattle.std.proofs.lemmas.Map.Keys.{IsStrictlyIncreasing-from_sorted}
use Rattle.ell_ops.specs.Contents.{contents_of, ListsPairs}
use Rattle.ell_ops.specs.Meaning.{final}
use Rattle.ell_ops.proofs.one_thread.apply_from.Goals as goal

pub returns-clause-pairs : goal.returns-clause-pairs
returns-clause-pairs g c =
    let same : c.in_ok-pairs.pairs.items ≡ c.loop-op.map.entries = search rules in
    let whole : contents_of c.loop-op.map.entries ≡ final (contents_of c.args.start.now) c.args.ops.now =
    ap (final (contents_of c.loop-op.map.entries)) (sym (drop_all _ c.args.ops.now c.loop-op-test.false)) ∙ c.loop-op.invariant.left in
    subst (ListsPairs (final (contents_of c.args.start.now) c.args.ops.now)) (sym same)
    (record { ascending = IsStrictlyIncreasing-from_sorted _ c.iter.ensures.ordered; each = whole })
