use Rattle.std.specs.BTreeMap.{get}
use Rattle.std.specs.Ordering.{nat_cmp}
use Rattle.ell_parts.specs.Faults.{AreTogether}
use Rattle.ell_parts.proofs.lemmas.Splits.{AreFirsts}
use Rattle.ell_parts.proofs.owners.keep_together.Given as goal

-- the map has the first position of each key so far, and each key so far has one owner
abbrev pub invariant-loop-second : goal.invariant-loop-second
invariant-loop-second g l = record {
  firsts : AreFirsts l.ops l.second (get nat_cmp l.firsts);
  together : AreTogether l.ops l.owners l.second;
}
