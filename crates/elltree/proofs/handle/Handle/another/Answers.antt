use Rattle.elltree.proofs.lemmas.Rebuilt.{rebuilt}
use Rattle.elltree.proofs.handle.Handle.another.Goals as goal

-- the handle comes back as it was
pub returns-in-Err-clause-refused : goal.returns-in-Err-clause-refused
returns-in-Err-clause-refused c = let same = c.in-Err.ensures in rebuilt c.args.self c.in-Err.pass same.refused _ _ _ _ _ _
