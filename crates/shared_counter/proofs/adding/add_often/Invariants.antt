use Rattle.std.proofs.Common.{◌≡◌, ◌*◌}
use Rattle.shared_counter.specs.Adding.{HasAdded}
use Rattle.shared_counter.proofs.adding.add_often.Given as goal

abbrev pub invariant-loop-round : goal.invariant-loop-round
invariant-loop-round l =
    HasAdded l.tree l._round (l._round * l.addend) l.pass × (l.pass.view.share ≡ l.fn.pass.view.share)
