-- The invariant is a part of the model of a world, and a state that it holds of is sound.
use Rattle.std.proofs.Common.{subst}
use Rattle.ell_core.specs.history.Invariant.{HasInvariant}
use Rattle.ell_world.specs.World.{WorldValue, machine_of}
use Rattle.ell_core.proofs.lemmas.following.Sound.{sound}
use Rattle.ell_world.proofs.world.World.laws_hold.Goals as goal

pub returns : goal.returns
returns g c =
    let has = subst (λ (value : WorldValue). HasInvariant (machine_of value)) c.self.view_is c.self.invariant.lawful in
    record { sound = sound (machine_of c.args.self.now) has.stages has.invariant; invariant = has }
