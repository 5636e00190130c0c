use Rattle.std.proofs.Common.{ap, ◌∙◌, sym}
use Rattle.ell_layout.specs.Words.{word}
use Rattle.ell_layout.specs.Cards.{says_by}
use Rattle.ell_layout.proofs.lemmas.Listed.{said_in_list, words_are_listed}
use Rattle.ell_world.specs.World.{WorldValue, machine_of}
use Rattle.ell_world.proofs.lemmas.Turns.{words_are}
use Rattle.ell_world.proofs.world.World.word.Goals as goal

pub returns : goal.returns
returns g c =
    let items = c.self.inside.memory.words.items in
    let words = words_are c.self.inside.memory c.self.inside.workers.items in
    c.says.ensures
    ∙ (ap (says_by c.args.field) (c.read.ensures ∙ words_are_listed items c.args.card c.args.field)
    ∙ (sym (said_in_list items c.args.card c.args.field)
    ∙ (ap (λ w. word w c.args.card c.args.field) words
    ∙ ap (λ (value : WorldValue). word (machine_of value).words c.args.card c.args.field) c.self.view_is)))
