use Rattle.std.specs.Prelude.{◌≡◌, ℕ, ◌+◌, ◌*◌, ◌≤◌, Option, Some, None}
use Rattle.ell_runs.specs.declared.view.Slots.{Slots}
use Rattle.ell_runs.specs.declared.view.View.{View}
use Rattle.ell_runs.specs.Changes.{after_rest}
use Rattle.ell_runs.specs.Depths.{deepest}
use Rattle.ell_runs.specs.Looking.{HasThere}
use Rattle.ell_cards.specs.InRuns.{IsFoundInRuns}
use Rattle.ell_cards.specs.Models.{EndsBy, KeepsItsOwn, PassModel}
use Rattle.ell_runs.specs.Seeing.{HasSeenMore}
use Rattle.ell_tree.specs.Ledgers.{TreeModel}

-- a pass has at most so many steps more, by both its counts, and was told more, and all else that it has and knows of
-- operations is as it was, what it won, found and stored too: so it made no store and no exchange, won or lost, each of
-- which would add to one of these. And it owns what it owned, with the same values, and has nothing in hand if it had
-- nothing
pub record OnlyLooks (old new : PassModel) (n : ℕ) : Type 0 where
  pub own : KeepsItsOwn old new
  pub sight : HasSeenMore old.sight new.sight
  pub worker : new.view.worker ≡ old.view.worker
  pub answered : new.view.answered ≡ old.view.answered
  pub share : new.view.share ≡ old.view.share
  pub hindrances : new.view.hindrances ≡ old.view.hindrances
  pub met : new.view.met ≡ old.view.met
  pub hindered : new.view.hindered ≡ old.view.hindered
  pub next : new.view.next ≡ old.view.next
  pub knew_before : new.view.knew_before ≡ old.view.knew_before
  pub next_at_least : new.view.next_at_least ≡ old.view.next_at_least
  pub won : new.view.won ≡ old.view.won
  pub found : new.view.found ≡ old.view.found
  pub planned : new.view.planned ≡ old.view.planned
  pub stores : new.view.stores ≡ old.view.stores
  pub steps : new.steps ≤ old.steps + n
  pub made : new.view.made ≤ old.view.made + n

-- the most steps of a look, where no internal node is below more internal nodes than this
abbrev pub look_steps : ℕ → ℕ
look_steps most = 2 * most + 3

-- It only loads, and makes at most `2 * depth + 3` steps. Otherwise the pass is unchanged.
abbrev pub OnlyLooksOnce : TreeModel → PassModel → PassModel → Type 0
OnlyLooksOnce t old new = OnlyLooks old new (look_steps (deepest t.plan))

-- of these one begins the look, and the others go down
abbrev pub stretch_steps : ℕ → ℕ
stretch_steps most = 2 * most + 2

-- a pass ends its looks: where cards come back, by one step after which it knows no node any more that a look has told
-- it; in any other tree it is as it was
abbrev pub EndsLooks : Option Slots → PassModel → PassModel → Type 0
EndsLooks None old new = new ≡ old
EndsLooks (Some s) old new = EndsBy old new (after_rest old.view)

-- what a look found of a key was so in one state of the tree since it began, in every run in which its pass now knows
-- this
abbrev pub IsFoundIn : TreeModel → View → ℕ → Option ℕ → Type 0
IsFoundIn t v key there = IsFoundInRuns t.plan v (HasThere key there)
