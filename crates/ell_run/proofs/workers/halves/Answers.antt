use Rattle.std.proofs.Common.{All, sym, subst}
use Rattle.ell_ops.specs.KeySet.{Lists}
use Rattle.ell_tree.specs.Ledgers.{Owns}
use Rattle.ell_run.specs.Work.{keys_for}
use Rattle.ell_run.proofs.lemmas.Halves.{keys_owned, ready_left, ready_right}
use Rattle.ell_run.proofs.workers.halves.Goals as goal

pub split-requires-clause-owned : goal.split-requires-clause-owned
split-requires-clause-owned g c =
    subst (All (λ key. Owns c.args.pass key)) (sym c.deref.ensures.value)
    (keys_owned c.args.tree.now c.args.parts.now c.args.low.now c.requires.0 c.args.pass c.in_ok-keys.keys.items c.requires.1 c.in_ok-keys.ensures)

pub returns-in-Ok-clause-left : goal.returns-in-Ok-clause-left
returns-in-Ok-clause-left g c =
    ready_left c.args.tree.now c.args.parts.now c.args.low.now c.requires.0 c.args.pass c.in-Ok.parted.0 c.in-Ok.parted.1 c.requires.1 (record {
      keys = c.deref.result.now;
      listed = subst (Lists (keys_for c.args.parts.now c.args.low.now)) (sym c.deref.ensures.value) c.in_ok-keys.ensures;
      on_left = c.in-Ok.ensures.left;
      on_right = c.in-Ok.ensures.right;
    })

pub returns-in-Ok-clause-right : goal.returns-in-Ok-clause-right
returns-in-Ok-clause-right g c = λ high ready.
    ready_right c.args.tree.now c.args.parts.now c.args.low.now high c.args.pass c.in-Ok.parted.0 c.in-Ok.parted.1 ready (record {
      keys = c.deref.result.now;
      listed = subst (Lists (keys_for c.args.parts.now c.args.low.now)) (sym c.deref.ensures.value) c.in_ok-keys.ensures;
      on_left = c.in-Ok.ensures.left;
      on_right = c.in-Ok.ensures.right;
    })
