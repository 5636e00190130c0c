-- The laws of one event, in a world that the invariant holds of.
use Rattle.std.proofs.lemmas.Result.{IfOk-weaker}
use Rattle.ell_world.specs.World.{machine_of}
use Rattle.ell_test_command.proofs.tests.machine.given_worlds.step_lawfully.Goals as goal

pub returns : goal.returns
returns c =
    let old = machine_of c.args.world.now in
    let new = machine_of c.step.new.self in
    let has = c.laws_hold.ensures.invariant in
    IfOk-weaker c.step.result _ _
    (λ said steps. (c.events_are_lawful.ensures old has.stages c.args.event said new has.invariant steps).pairs) c.step.ensures.done
