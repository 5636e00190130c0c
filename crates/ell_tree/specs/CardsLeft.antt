use Rattle.std.specs.Prelude.{◌≡◌, ℕ, ◌+◌, ◌≤◌, slice_index}
use mathlib.Core.Option.{some}
use lib.ListN.{get_elem?}
use Rattle.ell_runs.specs.declared.view.View.{View}
use Rattle.ell_cards.specs.Models.{PassModel, Steps}
use Rattle.ell_runs.specs.Calls.{after}
use Rattle.ell_runs.specs.declared.call.Call.TheVariants as call
use Rattle.ell_runs.specs.States.{TableState}
use Rattle.ell_runs.specs.Starts.{IsReached}
use Rattle.ell_tree.specs.Ledgers.{TreeModel}

-- a pass read the claim word, which is the number of the card that is given out next, and did nothing else: so many
-- cards were not given out then, those from that number to the last one
pub record ReadsCardsLeft (last : ℕ) (old new : PassModel) (left : ℕ) : Type 0 where
  pub next : ℕ
  pub step : Steps old new (after call.Next next old.view)
  pub first : 1 ≤ next
  pub all : next + left ≡ last + 1

-- in every run, wherever turns have led the tree while a pass knows just this, so many cards at most are left, from the
-- claim word to the last one
abbrev pub AreLeftAtMost : TreeModel → View → ℕ → Type 0
AreLeftAtMost t v left =
    (s : TableState) → IsReached t.plan s → (seat : ℕ) → get_elem? s.views seat ≡ some v
    → t.plan.last_card + 1 ≤ slice_index s.words 0 + left
