use Rattle.std.proofs.Common.{◌≡◌, ◌++◌, map}
use Rattle.std.specs.Prelude.{Ok}
use Rattle.ell_parts.proofs.part.all_made.Given as goal

-- the parts so far, and the results that are left
abbrev pub invariant-loop-part : goal.invariant-loop-part
invariant-loop-part g l = map Ok l.parts.items ++ l.part-iterator.rest.items ≡ l.fn.made.items
