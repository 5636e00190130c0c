-- The word at the leaf's field says the leaf and the tag that the card expects.
use Rattle.std.proofs.Common.{ap, ◌∙◌}
use Rattle.ell_word.specs.Link.{link_in}
use Rattle.ell_world.proofs.lemmas.Links.{leaf_link_is}
use Rattle.ell_world.proofs.memory.Memory.leaf_link.Goals as goal

pub returns : goal.returns
returns g c = c.of.ensures.link ∙ ap link_in c.read.ensures ∙ leaf_link_is c.args.self.now.words.items c.args.card
