use Rattle.std.proofs.Common.{ap, ◌∙◌}
use Rattle.ell_layout.specs.Words.{word, words_of}
use Rattle.ell_cards.proofs.closed.ClosedTreeWords.key.Goals as goal

pub returns : goal.returns
returns g c =
    let words = c.args.self.now.words in
    c.word.ensures ∙ (ap (λ n. word (words_of words) n c.key_field.result) c.card_of.ensures ∙ c.key_field.ensures.word (words_of words) c.requires.1)
