-- The word at the address is the word of the field.
use Rattle.ell_layout.proofs.lemmas.Listed.{word_is_read}
use Rattle.ell_world.proofs.memory.Memory.read.Goals as goal

pub returns : goal.returns
returns g c = word_is_read c.args.self.now.words.items c.args.self.now.last_card c.args.card c.args.field c.address.result c.index.result.now
    c.requires.sized.size c.requires.card c.address.ensures c.index.ensures
