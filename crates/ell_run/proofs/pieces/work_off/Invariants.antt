use Rattle.ell_run.specs.Steps.{IsPaid}
use Rattle.ell_run.proofs.lemmas.Fronts.{IsFrontDone}
use Rattle.ell_run.proofs.pieces.work_off.Given as goal

-- the operations so far are done, and paid for
abbrev pub invariant-loop-position : goal.invariant-loop-position
invariant-loop-position g l =
    IsFrontDone l.part l.position-index l.initial.pass l.pass l.piece.items
    × IsPaid l.tree.plan l.position-index l.initial.pass l.pass
