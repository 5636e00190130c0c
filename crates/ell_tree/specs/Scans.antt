use Rattle.std.specs.Prelude.{◌≡◌, ℕ, ◌+◌, ◌*◌, ◌==◌, ◌<◌, ◌≤◌, if◌then◌else◌, Option, Some, None, List, take, map, unwrap_or}
use Rattle.std.specs.Map.{keys_of}
use Rattle.std.specs.List.{All}
use Rattle.std.specs.List.Sorted.{IsStrictlyIncreasing}
use Rattle.ell_ops.specs.Contents.{Contents}
use Rattle.ell_ops.specs.Meaning.{greatest_key}
use Rattle.ell_runs.specs.declared.view.View.{View}
use Rattle.ell_runs.specs.Looking.{HasFound, HasBetween}
use Rattle.ell_cards.specs.InRuns.{IsFoundInRuns}
use Rattle.ell_tree.specs.declared.cursor.About.{About}
use Rattle.ell_tree.specs.declared.scanning.Pair.{Pair}
use Rattle.ell_tree.specs.declared.scanning.Scanned.{Scanned}
use Rattle.ell_tree.specs.Ledgers.{Owns, PassModel, TreeModel, present_in}
use Rattle.ell_tree.specs.Looks.{IsFoundIn, OnlyLooks, stretch_steps}
use Rattle.ell_runs.specs.Plans.{TablePlan}
use Rattle.ell_runs.specs.Depths.{deepest}

-- a key lies in the stretch of keys about which a look has found something, all of which are real
pub record IsAbout (key : ℕ) (about : About) : Type 0 where
  pub from : about.low ≤ key
  pub upto : key < about.high
  pub real : about.high ≤ greatest_key + 1

-- what a look has found of a stretch of keys was so, of all of them, in ONE state of the tree since it began, in every
-- run in which its pass now knows this
abbrev pub IsFoundAboutIn : TreeModel → View → About → Type 0
IsFoundAboutIn t v about = IsFoundInRuns t.plan v (HasBetween about.low about.high about.found)

-- what it says of a key of the stretch
abbrev pub value_there : Option (ℕ × ℕ) → Contents
value_there None key = None
value_there (Some pair) key = if pair.0 == key then Some pair.1 else None

-- For the keys of the pass, it tells what the pass has.
abbrev pub TellsItsOwn : PassModel → ℕ → ℕ → Contents → Type 0
TellsItsOwn p from upto there = (key : ℕ) → from ≤ key → key < upto → Owns p key → there key ≡ present_in p key

-- what a scan has written: the first pairs of the room that it was given
abbrev pub written : List Pair → Scanned → List (ℕ × ℕ)
written room said = map (λ pair. (pair.key, pair.value)) (take said.count room)

-- the key below which a scan has come: where it is to go on, or the end of its range
abbrev pub end_of : ℕ → Scanned → ℕ
end_of upto said = unwrap_or said.next upto

-- each key from one on and below another is answered as by a look at it: in some state since the look began it was
-- present with its value, if it is among these pairs, and else absent
abbrev pub AreFoundIn : TreeModel → View → ℕ → ℕ → Contents → Type 0
AreFoundIn t v from upto there = (key : ℕ) → from ≤ key → key < upto → IsFoundIn t v key (there key)

-- pairs are of the keys from one on and below another, and strictly ascend
pub record AreInOrder (from upto : ℕ) (pairs : List (ℕ × ℕ)) : Type 0 where
  pub ascending : IsStrictlyIncreasing (keys_of pairs)
  pub within : All (λ key. (from ≤ key) × (key < upto)) (keys_of pairs)

-- the most steps of a scan in a tree with this plan: one to begin, and for each stretch at most two for each inner
-- node beside the root, and two for a leaf; there are no more stretches than one for each card and one more
abbrev pub scan_steps : TablePlan → ℕ
scan_steps plan = (plan.last_card + 1) * stretch_steps (deepest plan) + 1

-- It only loads, and makes at most `(cards + 1) * (2 * depth + 2) + 1` steps. Otherwise the pass is unchanged.
abbrev pub OnlyScans : TreeModel → PassModel → PassModel → Type 0
OnlyScans t old new = OnlyLooks old new (scan_steps t.plan)

-- what a look has found of each key from one on and below another, of some state each
abbrev pub HaveFound : View → ℕ → ℕ → Contents → Type 0
HaveFound v from upto there = (key : ℕ) → from ≤ key → key < upto → HasFound v key (there key)

-- what it has found where it sought the least present key from one on, or the greatest below one
abbrev pub HasFoundNext : View → ℕ → Option (ℕ × ℕ) → Type 0
HasFoundNext v from None = HaveFound v from (greatest_key + 1) (λ key. None)
HasFoundNext v from (Some pair) =
    (from ≤ pair.0) × HasFound v pair.0 (Some pair.1) × HaveFound v from pair.0 (λ key. None)

abbrev pub HasFoundLast : View → ℕ → Option (ℕ × ℕ) → Type 0
HasFoundLast v upto None = HaveFound v 0 upto (λ key. None)
HasFoundLast v upto (Some pair) =
    (pair.0 < upto) × HasFound v pair.0 (Some pair.1) × HaveFound v (pair.0 + 1) upto (λ key. None)

-- the least present key from one on, with its value, or that there is none: it was present in a state since the look
-- began, and each key before it was absent in some state since
abbrev pub IsNextIn : TreeModel → View → ℕ → Option (ℕ × ℕ) → Type 0
IsNextIn t v from None = AreFoundIn t v from (greatest_key + 1) (λ key. None)
IsNextIn t v from (Some pair) =
    (from ≤ pair.0) × IsFoundIn t v pair.0 (Some pair.1) × AreFoundIn t v from pair.0 (λ key. None)

-- so the greatest present key below one, and each key after it
abbrev pub IsLastIn : TreeModel → View → ℕ → Option (ℕ × ℕ) → Type 0
IsLastIn t v upto None = AreFoundIn t v 0 upto (λ key. None)
IsLastIn t v upto (Some pair) =
    (pair.0 < upto) × IsFoundIn t v pair.0 (Some pair.1) × AreFoundIn t v (pair.0 + 1) upto (λ key. None)
