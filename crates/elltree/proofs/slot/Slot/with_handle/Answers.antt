use Rattle.std.proofs.Common.{refl, rules}
use Rattle.std.specs.Fn.{FnOnceReturnsAtMut}
use Rattle.elltree.proofs.lemmas.Calling.{answered}
use Rattle.elltree.proofs.slot.Slot.with_handle.Goals as goal
use Rattle.elltree.proofs.slot.Slot.with_handle.Goals.{in-Some, in-None}

-- what the call answers is returned, and its handle put back
pub returns-clause-called : goal.returns-clause-called
returns-clause-called g c = elim c.match-deref_mut.branch [
  | in-Some w ↦
      answered (λ said old new. FnOnceReturnsAtMut g.F.FnOnce c.args.call old said new) _ _ _ w.call.result w.in-Some.handle w.call.new.arg2
      w.said-is (search rules) (search rules) (record { shown = _; shows = refl; left = _; met = w.call.ensures; leaves = refl })
  | in-None w ↦ search rules
]
