use Rattle.std.proofs.Common.{ℕ, ◌<◌}
use Rattle.ell_core.specs.declared.event.Act.{Act}
use Rattle.ell_core.specs.declared.event.Stepped.{Stepped}
use Rattle.ell_core.specs.state.Machine.{Machine, Scene, scene, with_scene}
use Rattle.ell_core.specs.acts.Events.{Happens}
use Rattle.ell_core.specs.history.Stages.{Stages}
use Rattle.ell_core.specs.history.Invariant.{Invariant}
use Rattle.ell_core.specs.history.Later.{Follows}

-- an act keeps the invariant, whoever does it and whatever it answers
abbrev pub KeepsInvariant : Act → Type 0
KeepsInvariant a =
    (m : Machine) (stage : Stages) (i : ℕ) (said : Stepped) (becomes : Scene) → i < m.count → Invariant m stage
    → Happens m.last_card a (scene m i) said becomes → Follows m stage a i said (with_scene m i becomes)
