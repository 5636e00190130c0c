use Rattle.std.proofs.Common.{◌≡◌, ℕ, sym, subst}
use Rattle.ell_core.specs.declared.event.Act.{Act}
use Rattle.ell_core.specs.declared.event.Stepped.{Stepped}
use Rattle.ell_core.specs.state.Machine.{Machine, Scene, with_scene}
use Rattle.ell_core.specs.history.Stages.{Stages}
use Rattle.ell_core.specs.history.Later.{Follows}

-- an act's answer and scene after may be told by what they equal
pub follows_as : (m : Machine) (stage : Stages) (a : Act) (i : ℕ) (said other : Stepped) (becomes after : Scene)
    → said ≡ other → becomes ≡ after → Follows m stage a i other (with_scene m i after) → Follows m stage a i said (with_scene m i becomes)
follows_as m stage a i said other becomes after says gives h =
    subst (λ s. Follows m stage a i s (with_scene m i becomes)) (sym says)
    (subst (λ b. Follows m stage a i other (with_scene m i b)) (sym gives) h)
