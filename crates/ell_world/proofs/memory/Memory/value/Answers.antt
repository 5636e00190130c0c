-- The word at the value's field has no tag.
use Rattle.std.proofs.Common.{◌%◌, sym}
use Rattle.ell_word.specs.Node.{card}
use Rattle.ell_layout.specs.Words.{value_field}
use Rattle.ell_world.specs.Inside.{words_in}
use Rattle.ell_world.proofs.lemmas.Links.{plain_is_read}
use Rattle.ell_world.proofs.memory.Memory.value.Goals as goal
use Rattle.ell_layout.proofs.lemmas.Writes.{value_in_table}

pub returns : goal.returns
returns g c =
    let w = words_in c.args.self.now in
    let leaf = c.args.leaf in
    plain_is_read w c.read.result c.card_of.result (card leaf) (w.value leaf) c.value_field.result (value_field (leaf % 4))
    c.read.ensures c.card_of.ensures c.value_field.ensures.field (sym (value_in_table w (card leaf) (leaf % 4))) (c.value_field.ensures.word w c.requires.node.1 c.requires.outer)
