use Rattle.std.proofs.Common.{take}
use Rattle.std.specs.List.{flat_map}
use Rattle.ell_text.specs.Output.{Puts}
use Rattle.ell_text.proofs.listing.put_lines.Given as goal

-- the lines so far
abbrev pub invariant-loop-item : goal.invariant-loop-item
invariant-loop-item g l = Puts (g.W.Write.contents l.fn.out) (g.W.Write.contents l.out) l.fn.output l.output (flat_map (g.T.Listed.line l.fn.version) (take l.item-index l.items))
