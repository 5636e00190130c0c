use Rattle.std.specs.Prelude.{◌≡◌, ℕ, ◌<◌, ◌≤◌, Option, Some, None, List, [], ◌∷◌, length, slice_index}
use mathlib.Core.Option.{some}
use lib.ListN.{get_elem?}
use Rattle.ell_core.specs.declared.exchange.Exchange.TheVariants as exchange
use Rattle.ell_runs.specs.declared.view.Hindrance.{Hindrance}
use Rattle.ell_runs.specs.declared.view.Hindrance.TheVariants.{Claim, Found}
use Rattle.ell_runs.specs.declared.view.View.{View}
use Rattle.ell_runs.specs.Plans.{TablePlan}
use Rattle.ell_runs.specs.Views.{Has}
use Rattle.ell_runs.specs.States.{TableState}
use Rattle.ell_runs.specs.Starts.{IsReached}

-- each card whose claim was lost is below this
abbrev pub AreBelow : ℕ → List Hindrance → Type 0
AreBelow n [] = Unit {0}
AreBelow n (Claim c ∷ hs) = (c < n) × AreBelow n hs
AreBelow n (Found u ∷ hs) = AreBelow n hs

-- a reading of the claim word, if there is one, is at most this
abbrev pub IsRead : ℕ → Option ℕ → Type 0
IsRead n None = Unit {0}
IsRead n (Some k) = k ≤ n

-- what a pass knows of the claim word is past: the word is this now
pub record IsPast (n : ℕ) (v : View) : Type 0 where
  pub next : IsRead n v.next
  pub claims : AreBelow n v.hindrances

-- so it is of each pass, wherever turns have led a table
abbrev pub ReadingsArePast : Type 0
ReadingsArePast = (plan : TablePlan) (s : TableState) → IsReached plan s → (id : ℕ) (v : View)
    → get_elem? s.views id ≡ some v → IsPast (slice_index s.words 0) v

-- some pass has won the claim of a card
pub record IsClaimedBySome (s : TableState) (c : ℕ) : Type 0 where
  pub seat : ℕ
  pub view : View
  pub there : get_elem? s.views seat ≡ some view
  pub claimed : Has view.won (exchange.Claim, c)

-- so has some pass of each card that was claimed, wherever turns have led a table: the cards of the opening tree are
-- not claimed
abbrev pub ClaimsAreWon : Type 0
ClaimsAreWon = (plan : TablePlan) (s : TableState) → IsReached plan s → (c : ℕ) → length plan.start < c
    → c < slice_index s.words 0 → IsClaimedBySome s c
