use Rattle.std.proofs.Common.{[], ◌∷◌, ◌++◌, refl}
use Rattle.ell_core.specs.statements.Premises.{OpeningsArePassed, OpeningsAreOpenings, EventsPassOn, StatesFollowThemselves, EventsAreFollowed}
use Rattle.ell_core.proofs.lemmas.runs.Runs.{run_more}

-- a run of no events leads to the opening
pub openings_passed : OpeningsArePassed
openings_passed setup can = record { setup = setup; can = can; schedule = []; answers = []; run = refl }

-- an opening is one
pub openings_open : OpeningsAreOpenings
openings_open setup can = record { setup = setup; can = can; opens = refl }

-- a run goes on by an event
pub passed_on : EventsPassOn
passed_on m e x m' passed shows = record {
  setup = passed.setup;
  can = passed.can;
  schedule = passed.schedule ++ e ∷ [];
  answers = passed.answers ++ x ∷ [];
  run = run_more _ passed.schedule passed.answers m m' e x passed.run shows;
}

-- by no events
pub follows_itself : StatesFollowThemselves
follows_itself m passed = record { passed = passed; events = []; answers = []; run = refl }

-- by one event more
pub followed_on : EventsAreFollowed
followed_on m m' e x m'' follow shows = record {
  passed = follow.passed;
  events = follow.events ++ e ∷ [];
  answers = follow.answers ++ x ∷ [];
  run = run_more m follow.events follow.answers m' m'' e x follow.run shows;
}
