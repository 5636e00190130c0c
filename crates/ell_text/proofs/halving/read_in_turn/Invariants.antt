-- What the lines of the rest say, behind the operations so far, is what all lines say behind those before.
use Rattle.std.proofs.Common.{All, ◌++◌, List, length}
use Rattle.ell_ops.specs.Meaning.{Fits}
use Rattle.ell_ops.specs.declared.op.Op.{Op}
use Rattle.ell_text.specs.Lines.{lines}
use Rattle.ell_text.specs.Operations.{Follow, SayOperations}
use Rattle.ell_text.proofs.halving.read_in_turn.Given as goal

abbrev pub invariant-lines : goal.invariant-lines
invariant-lines g l = record {
  follow : (later : List Op) → SayOperations l.version (lines l.rest) later → Follow l.version l.before (lines l.text) (l.ops.items ++ later);
  fits : All Fits l.ops.items;
}

abbrev pub decreases-lines : goal.decreases-lines
decreases-lines g l = length l.rest
