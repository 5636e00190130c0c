use Rattle.std.specs.Prelude.{◌≡◌, nat_le, if◌then◌else◌, None, List, [], ◌++◌, length}
use Rattle.ell_runs.specs.declared.view.Event.{Event}
use Rattle.ell_runs.specs.declared.view.Sight.{Sight}

-- a history that is a beginning of another one
abbrev pub IsPart : List Event → List Event → Type 0
IsPart seen history = (rest : List Event) × (history ≡ seen ++ rest)

-- a pass that has seen nothing
abbrev pub no_sight : Sight
no_sight = record { seen = []; begun = None; looked = None; mine = [] }

-- the right part of a pass has seen what the pass has, and made no call
abbrev pub given_sight : Sight → Sight
given_sight g = record { seen = g.seen; begun = None; looked = None; mine = [] }

-- the longer one of two histories
abbrev pub longer : List Event → List Event → List Event
longer seen seen' = if nat_le (length seen) (length seen') then seen' else seen

-- two passes as one have seen what either has, and made the calls of both
abbrev pub joined_sight : Sight → Sight → Sight
joined_sight g g' =
    record { seen = longer g.seen g'.seen; begun = g.begun; looked = g.looked; mine = g.mine ++ g'.mine }
