use Rattle.std.proofs.Common.{ℕ, List, ◌++◌, take}
use Rattle.ell_ops.specs.declared.reply.Reply.{Reply}
use Rattle.ell_parts.specs.Gathering.{IsPlaced}
use Rattle.ell_parts.proofs.gathering.place.Given as goal

-- the items so far are placed, behind those that were
abbrev pub invariant-loop-position : goal.invariant-loop-position
invariant-loop-position l =
    (before : List (ℕ × Reply)) → IsPlaced before l.initial.answered l.initial.replies → IsPlaced (before ++ take l.position-index l.piece) l.answered l.replies
