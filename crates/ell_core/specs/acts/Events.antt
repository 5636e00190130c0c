use Rattle.std.specs.Prelude.{◌≡◌, ℕ, ◌<◌, ◌≤◌, ◌⊎◌, true, false, None}
use Rattle.ell_ops.specs.Meaning.{key_of}
use Rattle.ell_core.specs.declared.event.Event.{Event}
use Rattle.ell_core.specs.declared.event.Act.{Act}
use Rattle.ell_core.specs.declared.event.Act.TheVariants as act
use Rattle.ell_core.specs.declared.event.Stepped.{Stepped}
use Rattle.ell_core.specs.declared.event.CoreFault.{CoreFault}
use Rattle.ell_core.specs.declared.event.CoreFault.TheVariants.{NoSuchWorker, NotOwned, NotNow, NoCards, NoMemory}
use Rattle.ell_core.specs.declared.fact.Fact.{Fact}
use Rattle.ell_core.specs.state.Machine.{Worker, Machine, Scene, scene, with_scene}
use Rattle.ell_core.specs.acts.Searching.{Begin, Upd, Down, ClaimPut, ClaimDelete, Again, Leave, Answer}
use Rattle.ell_core.specs.acts.Exchanges.{IFlag, DFlag, IChild, IUnflag, Mark, DChild, DUnflag, Backtrack}

-- the event table, a row for each act: its guard holds of a scene, this is its answer, and this the scene after it
abbrev pub Row : Act → Scene → Stepped → Scene → Type 0
Row (act.Begin op) s said after = Begin op s said after
Row act.Upd s said after = Upd s said after
Row act.Down s said after = Down s said after
Row act.Claim s said after = ClaimPut s said after ⊎ ClaimDelete s said after
Row act.IFlag s said after = IFlag s said after
Row act.DFlag s said after = DFlag s said after
Row (act.IChild c) s said after = IChild c s said after
Row (act.IUnflag c) s said after = IUnflag c s said after
Row (act.Mark c) s said after = Mark c s said after
Row (act.DChild c) s said after = DChild c s said after
Row (act.DUnflag c) s said after = DUnflag c s said after
Row (act.Backtrack c) s said after = Backtrack c s said after
Row act.Again s said after = Again s said after
Row act.Leave s said after = Leave s said after
Row act.Answer s said after = Answer s said after

-- the guard of an act holds of a scene: its row has an answer for it
pub record Guard (a : Act) (s : Scene) : Type 0 where
  pub said : Stepped
  pub after : Scene
  pub row : Row a s said after

-- a begin of a key that the worker does not own, and that is not shared
abbrev pub LacksKey : Act → Worker → Type 0
LacksKey (act.Begin op) v = (v.ledger (key_of op) ≡ None) × (v.shared (key_of op) ≡ false)
LacksKey _ v = ⊥

-- a claim, though all cards are claimed
abbrev pub LacksCard : Act → ℕ → ℕ → Type 0
LacksCard act.Claim next cards = cards < next
LacksCard _ next cards = ⊥

-- an act is answered: the key may be changed, the guard holds, and there is a card if one is claimed
pub record Happens (cards : ℕ) (a : Act) (s : Scene) (said : Stepped) (after : Scene) : Type 0 where
  pub owned : ¬ LacksKey a s.worker
  pub row : Row a s said after
  pub room : ¬ LacksCard a s.words.next cards

-- an act is refused, for the first of the reasons that holds
abbrev pub Refused : ℕ → Act → Scene → CoreFault → Type 0
Refused cards a s NotOwned = LacksKey a s.worker
Refused cards a s NotNow = (¬ LacksKey a s.worker) × (¬ Guard a s)
Refused cards a s NoCards = (¬ LacksKey a s.worker) × Guard a s × LacksCard a s.words.next cards
Refused cards a s _ = ⊥

-- an act wants memory: it would be answered, and teaches a fact that the worker lacks
pub record WantsMemory (cards : ℕ) (a : Act) (s : Scene) : Type 0 where
  pub said : Stepped
  pub after : Scene
  pub happens : Happens cards a s said after
  pub fact : Fact
  pub lacks : s.worker.knows fact ≡ false
  pub learns : after.worker.knows fact ≡ true

-- an act is refused as above, or for want of memory
abbrev pub TurnRefused : ℕ → Act → Scene → CoreFault → Type 0
TurnRefused cards a s NoMemory = WantsMemory cards a s
TurnRefused cards a s fault = Refused cards a s fault

-- an event of the machine is answered: its worker is there, and the act happens to the words and to that worker alone
pub record Steps (m : Machine) (e : Event) (said : Stepped) (after : Machine) : Type 0 where
  pub there : e.worker < m.count
  pub becomes : Scene
  pub happens : Happens m.last_card e.act (scene m e.worker) said becomes
  pub gives : after ≡ with_scene m e.worker becomes

-- an event of the machine is refused, for the first of the reasons that holds
abbrev pub RefusesEvent : Machine → Event → CoreFault → Type 0
RefusesEvent m e NoSuchWorker = m.count ≤ e.worker
RefusesEvent m e fault = (e.worker < m.count) × Refused m.last_card e.act (scene m e.worker) fault
