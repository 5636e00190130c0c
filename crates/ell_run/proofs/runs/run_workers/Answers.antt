use Rattle.std.proofs.Common.{All, map, ap, true≢false, sym, subst, ◌<◌, ◌≤◌, ◌∙◌}
use Rattle.ell_ops.specs.KeySet.{Lists}
use Rattle.ell_ops.specs.Contents.{contents_of}
use Rattle.ell_ops.specs.Meaning.{greatest_key}
use Rattle.ell_parts.specs.PartedOps.{keys_of_ops}
use Rattle.ell_tree.specs.Ledgers.{Owns}
use Rattle.ell_run.proofs.lemmas.Busy.{busy_known}
use Rattle.ell_run.proofs.lemmas.Closed.{left_behind}
use Rattle.ell_run.proofs.lemmas.Keys.{busy_listed}
use Rattle.ell_run.proofs.lemmas.Opened.{keys_fit, owns_all, unshared_stops}
use Rattle.ell_run.proofs.runs.run_workers.Goals as goal
use Rattle.ell_tree.specs.PassParts.{start_entry}

pub keys_for-requires : goal.keys_for-requires
keys_for-requires g c =
    subst (All (λ worker. worker < c.args.parts.now.workers)) (sym (c.deref.ensures.value ∙ c.in_ok-workers.ensures.busy)) (busy_known c.args.parts.now)

pub reserve-requires-clause-used_real : goal.reserve-requires-clause-used_real
reserve-requires-clause-used_real g c =
    let parting = c.args.parts.now in
    let listed = busy_listed parting c.deref.result.now c.in_ok-used.used.items c.in_ok-workers.ensures.lawful (c.deref.ensures.value ∙ c.in_ok-workers.ensures.busy)
    c.in_ok-used.ensures in
    subst (All (λ key. key ≤ greatest_key)) (sym c.deref-2.ensures.value) (keys_fit parting.ops c.in_ok-used.used.items listed c.requires.fits)

pub work_apart-worked-requires-clause-keys : goal.work_apart-worked-requires-clause-keys
work_apart-worked-requires-clause-keys g c = λ κs outlives.
    let parting = c.args.parts.now in
    subst (Lists (keys_of_ops parting.ops)) (sym c.deref-3.ensures.value)
    (busy_listed parting c.deref.result.now c.in_ok-used.used.items c.in_ok-workers.ensures.lawful (c.deref.ensures.value ∙ c.in_ok-workers.ensures.busy)
    c.in_ok-used.ensures)

pub work_apart-worked-requires-clause-owned : goal.work_apart-worked-requires-clause-owned
work_apart-worked-requires-clause-owned g c = λ κs outlives.
    subst (All (λ key. Owns c.in_ok-tree.pass key)) (c.deref-2.ensures.value ∙ sym c.deref-3.ensures.value) c.in_ok-tree.ensures.owned

pub close-requires-clause-all : goal.close-requires-clause-all
close-requires-clause-all g c =
    owns_all c.in_ok-tree.tree.plan.keys (start_entry c.in_ok-tree.tree.plan.start) c.in_ok-tree.pass c.in_ok-tree.ensures.pass.ledger c.in-Ok.done.0 c.in-Ok.ensures.worked.worked.owned

pub only_memory-requires : goal.only_memory-requires
only_memory-requires g c =
    unshared_stops c.in_ok-tree.tree c.in_ok-tree.pass c.in-Err.fault c.in_ok-tree.ensures.pass c.in_ok-tree.ensures.tree.unshared c.in_ok-tree.ensures.tree.plain c.in-Err.ensures.why

pub close-requires-clause-whole : goal.close-requires-clause-whole
close-requires-clause-whole g c = λ shared. absurd (true≢false (sym shared ∙ c.in_ok-tree.ensures.tree.unshared))

pub returns-in-Ok-close : goal.returns-in-Ok-close
returns-in-Ok-close g c =
    left_behind (contents_of c.args.start.now) c.in_ok-tree.tree c.args.limits.tries c.args.parts.now c.in_ok-tree.pass c.in-Ok.done.0
    (map (λ piece. piece.items) c.in-Ok.done.1.items) c.in-Ok-close.pairs.items
    c.in_ok-tree.ensures.tree.unshared
    (c.in_ok-tree.ensures.pass.present c.in_ok-tree.ensures.tree.unshared ∙ ap contents_of c.in_ok-tree.ensures.tree.begins)
    c.in-Ok.ensures.worked.worked c.in-Ok-close.ensures.pairs
