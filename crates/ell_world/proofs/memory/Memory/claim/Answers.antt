-- The card is filled, and then word 0 is the number after it.
use Rattle.std.proofs.Common.{arith}
use Rattle.ell_layout.proofs.lemmas.Listed.{words_after_filling}
use Rattle.ell_world.proofs.memory.Memory.claim.Goals as goal

pub returns-clause-words : goal.returns-clause-words
returns-clause-words g c =
    words_after_filling c.args.self.now.words.items c.fill.new.self.words.items c.args.filling.now c.next-card.result c.next-card.ensures
    c.fill.ensures.words (omega (arith, c.fill.ensures.same.size, c.requires.sized.size))
