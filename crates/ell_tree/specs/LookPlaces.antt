-- What a pass has seen of the history of a tree by a look or a scan.
use Rattle.std.specs.Prelude.{ℕ, ◌+◌, ◌<◌, ◌≤◌, Option, Some, None, List}
use Rattle.ell_ops.specs.Contents.{Contents, contents_of}
use Rattle.ell_ops.specs.Meaning.{greatest_key}
use Rattle.ell_runs.specs.declared.view.Event.{Event}
use Rattle.ell_runs.specs.declared.view.Sight.{Sight}
use Rattle.ell_runs.specs.Linearizing.{Item}
use Rattle.ell_runs.specs.LookPlaces.{HasPlaceIn, IsOnlyThere, IsThere, SeesEachFound, SeesFound, SeesLookSo}
use Rattle.ell_tree.specs.Ledgers.{PassModel, TreeModel}
use Rattle.ell_tree.specs.declared.cursor.About.{About}

-- of a look for a key, which found this there
abbrev pub SeesThere : TreeModel → ℕ → Option ℕ → PassModel → PassModel → Type 0
SeesThere t key there old new = SeesFound (contents_of t.plan.start) (IsThere key there) old.sight new.sight

-- of one that found this around a key: one place for all keys of the stretch
abbrev pub SeesAround : TreeModel → About → PassModel → PassModel → Type 0
SeesAround t about old new =
    SeesFound (contents_of t.plan.start) (IsOnlyThere about.low about.high about.found) old.sight new.sight

-- of a scan, which found these values of the keys from one on and below another, if it came by any
abbrev pub SeesScan : TreeModel → ℕ → ℕ → Contents → PassModel → PassModel → Type 0
SeesScan t from end there old new =
    from < end → SeesEachFound (contents_of t.plan.start) from end there old.sight new.sight

-- a key has its place with this value, and each key from one on and below another one as absent
abbrev pub StandsAmong : Contents → ℕ × ℕ → ℕ → ℕ → List Event → List Item → ℕ → Type 0
StandsAmong start pair from upto seen order began = HasPlaceIn start seen order began (IsThere pair.0 (Some pair.1))
    × ((key : ℕ) → from ≤ key → key < upto → HasPlaceIn start seen order began (IsThere key None))

-- the least present key from one on has a place where it is present, with its value, and each key before it has one
-- where that is absent
abbrev pub NextStands : Contents → ℕ → Option (ℕ × ℕ) → Sight → Sight → Type 0
NextStands start from None = SeesEachFound start from (greatest_key + 1) (λ key. None)
NextStands start from (Some pair) =
    SeesLookSo start (λ seen order began. (from ≤ pair.0) × StandsAmong start pair from pair.0 seen order began)

-- so the greatest present key below one, and each key after it
abbrev pub LastStands : Contents → ℕ → Option (ℕ × ℕ) → Sight → Sight → Type 0
LastStands start upto None = SeesEachFound start 0 upto (λ key. None)
LastStands start upto (Some pair) =
    SeesLookSo start (λ seen order began. (pair.0 < upto) × StandsAmong start pair (pair.0 + 1) upto seen order began)

-- What the pass has seen of the history is as after `scan`.
abbrev pub SeesNext : TreeModel → ℕ → Option (ℕ × ℕ) → PassModel → PassModel → Type 0
SeesNext t from there old new = NextStands (contents_of t.plan.start) from there old.sight new.sight

-- What the pass has seen of the history is as after `scan`.
abbrev pub SeesLast : TreeModel → ℕ → Option (ℕ × ℕ) → PassModel → PassModel → Type 0
SeesLast t upto there old new = LastStands (contents_of t.plan.start) upto there old.sight new.sight
