use Rattle.std.proofs.Common.{◌≡◌}
use Rattle.ell_tree.proofs.cursor.Cursor.start.Given as goal

abbrev pub invariant-loop-self : goal.invariant-loop-self
invariant-loop-self l = (l.self.first ≡ l.fn.self.first) × (l.self.kept ≡ l.fn.self.kept)

abbrev pub decreases-loop-self : goal.decreases-loop-self
decreases-loop-self l = l.self.count
