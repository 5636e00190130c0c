-- Word 0 is the claim word.
use Rattle.std.proofs.Common.{arith}
use Rattle.ell_layout.proofs.lemmas.Listed.{claim_is_read}
use Rattle.ell_world.proofs.memory.Memory.next.Goals as goal

pub returns : goal.returns
returns g c = claim_is_read c.args.self.now.words.items c.index.result.now (omega (arith, c.requires.size)) c.index.ensures
