-- The word of a child with its tag is written at the child's field.
use Rattle.std.proofs.Common.{◌<◌, arith}
use Rattle.ell_word.specs.Link.{node_bound}
use Rattle.ell_world.specs.Inside.{words_in}
use Rattle.ell_world.proofs.lemmas.Links.{child_is_written}
use Rattle.ell_world.proofs.memory.Memory.write_child.Goals as goal

pub returns-clause-words : goal.returns-clause-words
returns-clause-words g c =
    let small : c.args.child < node_bound = omega (arith, c.requires.child.0, c.requires.sized.limit) in
    child_is_written (words_in c.args.self.now) (words_in c.write.new.self) c.args.node c.args.right c.args.child c.args.tag
    c.card_of.result c.word.result c.child_field.result c.requires.node.1 small
    c.write.ensures.words c.card_of.ensures c.child_field.ensures.field c.word.ensures
