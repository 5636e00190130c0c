-- The places of looks in the history of a table.
use Rattle.std.specs.Prelude.{◌≡◌, ◌≢◌, ℕ, ◌<◌, ◌≤◌, Option, Some, None, List, length, take}
use Rattle.ell_ops.specs.Contents.{Contents, contents_of}
use Rattle.ell_ops.specs.Meaning.{final}
use Rattle.ell_runs.specs.declared.view.Event.{Event}
use Rattle.ell_runs.specs.declared.view.Sight.{Sight}
use Rattle.ell_runs.specs.declared.view.View.{View}
use Rattle.ell_runs.specs.Histories.{IsCall, IsLinearizable}
use Rattle.ell_runs.specs.Linearizing.{Item, StandsIn, ops_of}
use Rattle.ell_runs.specs.Looking.{HasFound, HasFoundBetween}
use Rattle.ell_runs.specs.Plans.{TablePlan, flat_from}
use Rattle.ell_runs.specs.Seeing.{HasSeenMore, LookedAt}
use Rattle.ell_runs.specs.Sights.{IsPart}

-- a map has this at a key: a value, or nothing
abbrev pub IsThere : ℕ → Option ℕ → Contents → Type 0
IsThere key there map = map key ≡ there

-- of the keys from low on and below high it has this one with its value and no other, or none
abbrev pub IsOnlyThere : ℕ → ℕ → Option (ℕ × ℕ) → Contents → Type 0
IsOnlyThere low high None map = (key : ℕ) → low ≤ key → key < high → map key ≡ None
IsOnlyThere low high (Some pair) map = (map pair.0 ≡ Some pair.1)
    × ((key : ℕ) → low ≤ key → key < high → pair.0 ≢ key → map key ≡ None)

-- A look that began behind so many events of a history has a place in an order of its calls: one thread that has made
-- those before this place has left a map of which this is so. They are with each that had ended when the look began.
pub record HasPlaceIn (start : Contents) (history : List Event) (order : List Item) (began : ℕ)
    (what : Contents → Type 0) : Type 0 where
  pub place : ℕ
  pub so : what (final start (ops_of (take place order)))
  pub after : (i : ℕ) (x : Item) → StandsIn order i x → (end : ℕ) (took : Option ℕ)
      → IsCall history x.begin end x.op x.reply took → end < began → i < place

-- What a pass knows by a step of a look, by which it has seen all of its table's history up to now: the history is
-- linearizable by an order in which all that the look has found has its place, be it of a key or of a stretch of keys.
pub record FindsHavePlaces (plan : TablePlan) (v : View) (g : Sight) : Type 0 where
  pub linear : IsLinearizable (contents_of plan.start) g.seen
  pub keys : (began : ℕ) → g.looked ≡ Some began → (key : ℕ) (there : Option ℕ) → HasFound v key there
      → HasPlaceIn (contents_of plan.start) g.seen linear.order began (IsThere key there)
  pub stretches : (began : ℕ) → g.looked ≡ Some began → (low high : ℕ) (there : Option (ℕ × ℕ))
      → HasFoundBetween (flat_from plan) v low high there
      → HasPlaceIn (contents_of plan.start) g.seen linear.order began (IsOnlyThere low high there)

-- a pass has seen more in its look
pub record SeesMoreInLook (old new : Sight) : Type 0 where
  pub more : HasSeenMore old new
  pub begun : new.begun ≡ old.begun
  pub looked : new.looked ≡ old.looked

-- a pass has seen where its look began: behind all that it had seen before
pub record SawLookBegin (old new : Sight) : Type 0 where
  pub seat : ℕ
  pub began : ℕ
  pub looked : new.looked ≡ Some began
  pub there : LookedAt new.seen seat began
  pub behind : length old.seen ≤ began

-- What a pass has seen of a look: the look began behind all that the pass had seen before; the pass has seen more of
-- the history, which is linearizable, and has the calls that it had; and this is so of the order and of where the look
-- began.
pub record SeesLookSo (start : Contents) (so : List Event → List Item → ℕ → Type 0) (old new : Sight) : Type 0 where
  pub seat : ℕ
  pub began : ℕ
  pub behind : length old.seen ≤ began
  pub there : LookedAt new.seen seat began
  pub more : IsPart old.seen new.seen
  pub mine : new.mine ≡ old.mine
  pub linear : IsLinearizable start new.seen
  pub is : so new.seen linear.order began

-- what the look found has a place: what it found of one key, or of a stretch of keys, of all of which it is one place
abbrev pub SeesFound : Contents → (Contents → Type 0) → Sight → Sight → Type 0
SeesFound start what = SeesLookSo start (λ seen order began. HasPlaceIn start seen order began what)

-- or what it found of each key from one on and below another, each of which has a place
abbrev pub SeesEachFound : Contents → ℕ → ℕ → Contents → Sight → Sight → Type 0
SeesEachFound start from upto there =
    SeesLookSo start (λ seen order began. (key : ℕ) → from ≤ key → key < upto
    → HasPlaceIn start seen order began (IsThere key (there key)))
