use Rattle.std.proofs.Common.{ap, sym, ◌∙◌, subst}
use Rattle.ell_cards.specs.CardNodes.{RetiresToo, retiring_second, retiring_third}
use Rattle.ell_cards.proofs.lemmas.words.RetiredBits.{retires_too}
use Rattle.ell_cards.proofs.card_nodes.CardNodes.retired_in.Goals as goal

pub returns : goal.returns
returns c =
    subst (RetiresToo c.args.self c.args.word)
    (sym (c.retiring_third.ensures ∙ ap (retiring_third c.args.self.right) (c.retiring_second-second.ensures ∙ ap (retiring_second c.args.self.left) c.retiring_first-first.ensures)))
    (retires_too c.args.self c.args.word)
