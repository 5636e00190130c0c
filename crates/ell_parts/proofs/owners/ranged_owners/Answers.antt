use Rattle.std.proofs.Common.{◌≡◌, ◌/◌, ◌++◌, ◌∷◌, [], leb, length, get_or, take, arith, rules, ap, sym, subst, ◌∙◌, true}
use Rattle.std.specs.Int.{div_ceil}
use Rattle.std.proofs.lemmas.List.Sorted.{IsPartitionPoint-from_clause}
use Rattle.ell_ops.specs.declared.op.Op.TheVariants.{Find}
use Rattle.ell_ops.specs.Meaning.{key_of}
use Rattle.ell_order.specs.Rounds.{rank}
use Rattle.ell_parts.specs.PartedOps.{ranged}
use Rattle.ell_parts.specs.Ranges.{AreStarts}
use Rattle.ell_ops.specs.KeySet.{set_of}
use Rattle.ell_parts.proofs.lemmas.Ranges.{range_of, starts_parted}
use Rattle.ell_parts.proofs.lemmas.Ranks.{key_is_listed, rank-lt-length, ranged-take, share-pos}
use Rattle.ell_parts.proofs.owners.ranged_owners.Goals as goal

pub loop-op-preserved : goal.loop-op-preserved
loop-op-preserved g c =
    let keys = c.args.keys.now in
    let ops = c.args.ops.now in
    let i = c.loop-op.op-index in
    let starts = c.deref.result.now in
    let key = c.key-key.result in
    let p = c.partition_point-owner.result in
    let listed = key_is_listed ops keys i (Find 0) c.loop-op-test.true c.requires.keys in
    let member : set_of keys key ≡ true = ap (set_of keys) c.key-key.ensures ∙ listed in
    let any = rank-lt-length keys key member in
    let are_starts = subst (AreStarts keys (div_ceil (length keys) c.args.workers)) (sym c.deref.ensures.value) c.in_ok-starts.ensures.starts in
    let some = share-pos (length keys) c.args.workers c.requires.count.some (omega arith) in
    let point = IsPartitionPoint-from_clause (λ start. leb start key) starts p c.partition_point-owner.ensures.partitioned
    (starts_parted keys starts (div_ceil (length keys) c.args.workers) key c.requires.keys.ascending are_starts) (λ a r q k. search rules) in
    let owner : p ≡ rank keys (key_of (get_or ops i (Find 0))) / div_ceil (length keys) c.args.workers =
    sym (range_of keys starts (div_ceil (length keys) c.args.workers) key p c.requires.keys.ascending member some are_starts c.partition_point-owner.ensures.bound point.0 point.1)
    ∙ ap (λ k. rank keys k / div_ceil (length keys) c.args.workers) c.key-key.ensures in
    c.in_ok-push.ensures.items
    ∙ ap (λ owners. owners ++ p ∷ []) c.loop-op.invariant
    ∙ ap (λ owner. ranged keys (take i ops) c.args.workers ++ owner ∷ []) owner
    ∙ sym (ranged-take keys ops c.args.workers i (Find 0) c.loop-op-test.true)
