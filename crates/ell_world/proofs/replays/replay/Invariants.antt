use Rattle.std.proofs.Common.{◌≡◌, take}
use Rattle.ell_core.specs.acts.Runs.{Run}
use Rattle.ell_world.specs.World.{machine_of}
use Rattle.ell_world.proofs.replays.replay.Given as goal

-- the events so far have shown what is shown so far, and there are as many cards as before
abbrev pub invariant-loop-event : goal.invariant-loop-event
invariant-loop-event g l =
    Run (machine_of l.fn.world) (take l.event-index l.events) l.shown.items (machine_of l.world) × (l.world.last_card ≡ l.fn.world.last_card)
