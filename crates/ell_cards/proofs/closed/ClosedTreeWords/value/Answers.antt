use Rattle.std.proofs.Common.{ap, ◌∙◌}
use Rattle.ell_layout.specs.Words.{word, words_of}
use Rattle.ell_cards.proofs.closed.ClosedTreeWords.value.Goals as goal

pub returns : goal.returns
returns g c =
    let words = c.args.self.now.words in
    c.word.ensures ∙ (ap (λ n. word (words_of words) n c.value_field.result) c.card_of.ensures ∙ c.value_field.ensures.word (words_of words) c.requires.read.1 c.requires.outer)
