use Rattle.std.specs.Prelude.{map}
use Rattle.ell_world.specs.declared.world.World.TheInside.{Inside}
use Rattle.ell_world.specs.Inside.{view_of}
use Rattle.ell_world.specs.World.{WorldValue, WorldFits}

-- the lists that contracts see
abbrev pub value_in : {A : Type 0} → Inside A → WorldValue
value_in w =
    record { words = w.memory.words.items; workers = map view_of w.workers.items; last_card = w.memory.last_card }

abbrev pub InsideFits : {A : Type 0} → Inside A → Type 0
InsideFits w = WorldFits (value_in w)
