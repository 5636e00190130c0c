use Rattle.std.proofs.Common.{ap, ◌∙◌}
use Rattle.ell_layout.specs.Words.{Words}
use Rattle.ell_world.specs.World.{WorldValue, machine_of}
use Rattle.ell_world.proofs.lemmas.Turns.{words_are}
use Rattle.ell_world.proofs.world.World.next.Goals as goal

pub returns : goal.returns
returns g c =
    let words = words_are c.self.inside.memory c.self.inside.workers.items in
    c.next.ensures ∙ (ap (λ (w : Words). w.next) words ∙ ap (λ (value : WorldValue). (machine_of value).words.next) c.self.view_is)
