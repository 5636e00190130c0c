-- The write in the list is the write in the words, since the address lies in it.
use Rattle.std.proofs.Common.{slice_set, ap, ◌∙◌}
use Rattle.ell_layout.specs.Words.{words_of}
use Rattle.ell_layout.proofs.lemmas.Listed.{address_inside, words_after_write}
use Rattle.ell_world.proofs.memory.Memory.write.Goals as goal

pub returns-clause-words : goal.returns-clause-words
returns-clause-words g c =
    ap (λ i. words_of (slice_set c.args.self.now.words.items i c.args.value)) c.address.ensures
    ∙ words_after_write c.args.self.now.words.items c.args.card c.args.field c.args.value
    (address_inside c.args.self.now.words.items c.args.self.now.last_card c.args.card c.args.field c.requires.sized.size c.requires.card)
