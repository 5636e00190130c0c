use Rattle.std.specs.Prelude.{◌≡◌, ◌≢◌, ℕ, ◌<◌, ◌≤◌, ◌⊎◌, ◌||◌, if◌then◌else◌, Bool, Option, Some, None, List, [], ◌∷◌, true, false}
use Rattle.std.specs.List.{All}
use Rattle.std.specs.Map.{keys_of}
use Rattle.std.specs.List.Sorted.{IsStrictlyIncreasing}
use Rattle.ell_ops.specs.KeySet.{set_of}
use Rattle.ell_ops.specs.Meaning.{greatest_key}
use Rattle.ell_core.specs.declared.event.Event.{Event}
use Rattle.ell_core.specs.declared.event.Shown.{Shown}
use Rattle.ell_core.specs.state.Facts.{Knowledge}
use Rattle.ell_core.specs.state.Machine.{Ledger, Machine, idle, nobody}
use Rattle.ell_core.specs.state.Handovers.{WorkerIsIdle, AreParted, Split, Join}
use Rattle.ell_core.specs.state.Opening.{Setup, opening}
use Rattle.ell_core.specs.acts.Runs.{Shows}
use Rattle.ell_core.specs.history.Stages.{Stages}
use Rattle.ell_core.specs.history.Invariant.{Invariant, HasInvariant}
use Rattle.ell_core.specs.statements.StepLaws.{OwnsAll}
use Rattle.ell_core.specs.statements.RunLaws.{CanOpen, IsPassed, IsOpening, Follow}
use Rattle.ell_core.specs.declared.view.Entry.{Entry}
use Rattle.ell_core.specs.state.Opening.{opening_of_one}

-- any two real keys can open, of workers that are there, be they two or one, with no start keys
abbrev pub TwoKeysCanOpen : Type 0
TwoKeysCanOpen = (count i j first second cards : ℕ) (flat : Bool) → i < count → j < count → first ≢ second → first ≤ greatest_key
    → second ≤ greatest_key
    → CanOpen
    (record { count = count; owned = (i, first) ∷ (j, second) ∷ []; start = []; cards = cards; shared = λ _. false; flat = flat })

-- every opening is a state of a run
abbrev pub OpeningsArePassed : Type 0
OpeningsArePassed = (setup : Setup) → CanOpen setup → IsPassed (opening setup)

-- and is one that opens
abbrev pub OpeningsAreOpenings : Type 0
OpeningsAreOpenings = (setup : Setup) → CanOpen setup → IsOpening (opening setup)

-- what is shown of an event leads from a state of a run to a state of a run
abbrev pub EventsPassOn : Type 0
EventsPassOn = (m : Machine) (e : Event) (x : Shown) (m' : Machine) → IsPassed m → Shows m e x m' → IsPassed m'

-- a state of a run follows itself
abbrev pub StatesFollowThemselves : Type 0
StatesFollowThemselves = (m : Machine) → IsPassed m → Follow m m

-- what follows a state is followed by what any event makes of it
abbrev pub EventsAreFollowed : Type 0
EventsAreFollowed =
    (m m' : Machine) (e : Event) (x : Shown) (m'' : Machine) → Follow m m' → Shows m' e x m'' → Follow m m''

-- the entries of a ledger whose keys pass a test, and those whose keys fail it
abbrev pub passing : (ℕ → Bool) → Ledger → Ledger
passing test whole = λ key. if test key then whole key else None

abbrev pub failing : (ℕ → Bool) → Ledger → Ledger
failing test whole = λ key. if test key then None else whole key

-- every test of keys parts every ledger
abbrev pub EveryTestParts : Type 0
EveryTestParts = (whole : Ledger) (test : ℕ → Bool) → AreParted whole (passing test whole) (failing test whole)

-- a split of worker i, whose two workers have these ledgers and know what it knew
pub record SplitsInto (m : Machine) (i : ℕ) (left right : Ledger) : Type 0 where
  pub after : Machine
  pub split : Split m i after
  pub stays : after.worker i ≡ idle left (m.worker i).shared (m.worker i).knows
  pub comes : after.worker m.count ≡ idle right (m.worker i).shared (m.worker i).knows

-- each idle worker can be split, whichever way its ledger is parted
abbrev pub EveryPartingIsASplit : Type 0
EveryPartingIsASplit = (m : Machine) (i : ℕ) (left right : Ledger) → i < m.count → WorkerIsIdle (m.worker i)
    → AreParted (m.worker i).ledger left right → SplitsInto m i left right

-- an entry where there is one, and else another
abbrev pub entry_or : Option Entry → Option Entry → Option Entry
entry_or (Some entry) other = Some entry
entry_or None other = other

-- two ledgers in one
abbrev pub united : Ledger → Ledger → Ledger
united left right = λ key. entry_or (left key) (right key)

-- what is known by one or by the other
abbrev pub known_to_either : Knowledge → Knowledge → Knowledge
known_to_either first second = λ fact. first fact || second fact

-- a join of workers i and j, after which i has this ledger and knows what either knew, and nobody is at j
pub record JoinsInto (m : Machine) (i j : ℕ) (both : Ledger) : Type 0 where
  pub after : Machine
  pub join : Join m i j after
  pub stays : after.worker i ≡ idle both (λ key. (m.worker i).shared key || (m.worker j).shared key)
      (known_to_either (m.worker i).knows (m.worker j).knows)
  pub goes : after.worker j ≡ nobody

-- each two idle workers can be joined, whichever ledger theirs together are
abbrev pub EveryUnionIsAJoin : Type 0
EveryUnionIsAJoin = (m : Machine) (i j : ℕ) (both : Ledger) → i < m.count → j < m.count → i ≢ j
    → WorkerIsIdle (m.worker i) → WorkerIsIdle (m.worker j) → AreParted both (m.worker i).ledger (m.worker j).ledger
    → JoinsInto m i j both

-- so can each two of a state that the invariant holds of
abbrev pub IdleWorkersJoin : Type 0
IdleWorkersJoin = (m : Machine) (stage : Stages) (i j : ℕ) → Invariant m stage → i < m.count → j < m.count → i ≢ j
    → WorkerIsIdle (m.worker i) → WorkerIsIdle (m.worker j)
    → JoinsInto m i j (united (m.worker i).ledger (m.worker j).ledger)

-- the one worker of an opening owns every key that any worker owns
abbrev pub OneWorkerOwnsAll : Type 0
OneWorkerOwnsAll = (setup : Setup) → CanOpen setup → setup.count ≡ 1 → OwnsAll (opening setup) 0

-- so does the one worker of a state that the invariant holds of, where it has nothing in hand
abbrev pub IdleWorkerOwnsAll : Type 0
IdleWorkerOwnsAll =
    (m : Machine) (stage : Stages) → Invariant m stage → m.count ≡ 1 → WorkerIsIdle (m.worker 0) → OwnsAll m 0

-- it is an opening, and has the invariant
pub record OpensForOne (keys : List ℕ) (start : List (ℕ × ℕ)) (cards : ℕ) (shared : ℕ → Bool) (flat : Bool) : Type 0 where
  pub opens : IsOpening (opening_of_one keys start cards shared flat)
  pub lawful : HasInvariant (opening_of_one keys start cards shared flat)

-- so it is with every ascending list of real keys, real keys that are shared, none among them, and every ascending list
-- of start keys among these and those
abbrev pub OneWorkerOpens : Type 0
OneWorkerOpens = (keys : List ℕ) (start : List (ℕ × ℕ)) (cards : ℕ) (shared : ℕ → Bool) (flat : Bool) → IsStrictlyIncreasing keys
    → All (λ k. k ≤ greatest_key) keys
    → IsStrictlyIncreasing (keys_of start) → All (λ k. (set_of keys k ≡ true) ⊎ (shared k ≡ true)) (keys_of start)
    → ((k : ℕ) → shared k ≡ true → (k ≤ greatest_key) × (set_of keys k ≡ false)) → OpensForOne keys start cards shared flat
