-- The word at the key's field has no tag.
use Rattle.std.proofs.Common.{◌%◌, sym}
use Rattle.ell_word.specs.Node.{card}
use Rattle.ell_layout.specs.Words.{key_field}
use Rattle.ell_world.specs.Inside.{words_in}
use Rattle.ell_world.proofs.lemmas.Links.{plain_is_read}
use Rattle.ell_world.proofs.memory.Memory.key.Goals as goal
use Rattle.ell_layout.proofs.lemmas.Writes.{key_in_table}

pub returns : goal.returns
returns g c =
    let w = words_in c.args.self.now in
    let node = c.args.node in
    plain_is_read w c.read.result c.card_of.result (card node) (w.key node) c.key_field.result (key_field (node % 4))
    c.read.ensures c.card_of.ensures c.key_field.ensures.field (sym (key_in_table w (card node) (node % 4))) (c.key_field.ensures.word w c.requires.node.1)
