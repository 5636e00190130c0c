-- The word at the child's field says the child and its tag.
use Rattle.std.proofs.Common.{ap, ◌∙◌}
use Rattle.ell_word.specs.Link.{link_in}
use Rattle.ell_layout.specs.Words.{table_word}
use Rattle.ell_world.specs.Inside.{words_in}
use Rattle.ell_world.proofs.lemmas.Links.{child_link_is}
use Rattle.ell_world.proofs.memory.Memory.child_link.Goals as goal

pub returns : goal.returns
returns g c =
    c.of.ensures.link ∙ ap link_in (c.read.ensures
    ∙ (λ t. table_word (words_in c.args.self.now) (c.card_of.ensures t) (c.child_field.ensures.field t)))
    ∙ child_link_is c.args.self.now.words.items c.args.node c.args.right c.requires.node.1
