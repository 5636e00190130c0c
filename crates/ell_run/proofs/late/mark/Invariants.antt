use Rattle.std.proofs.Common.{ℕ, List, ◌++◌, take}
use Rattle.ell_run.specs.Late.{AreMarks}
use Rattle.ell_run.proofs.late.mark.Given as goal
use Rattle.ell_ops.specs.declared.reply.Reply.{Reply}

-- the items so far are marked, behind those that were
abbrev pub invariant-loop-position : goal.invariant-loop-position
invariant-loop-position l =
    (items : List (ℕ × Reply)) → AreMarks items l.initial.answered → AreMarks (items ++ take l.position-index l.piece) l.answered
