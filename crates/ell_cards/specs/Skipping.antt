-- A pass takes the numbers of cards from one to another at once, where only the last one's slot is one that it may
-- take.
use Rattle.std.specs.Prelude.{◌≡◌, ◌≢◌, ℕ, zero, suc, ◌+◌, ◌-◌, ◌≤◌, [], if◌then◌else◌, Bool, true, false, Option, None, Some}
use Rattle.atomic_table.specs.Table.{Allows}
use Rattle.ell_runs.specs.declared.call.Call.TheVariants as call
use Rattle.ell_runs.specs.declared.call.NewNode.{NewNode}
use Rattle.ell_cards.specs.declared.view.Known.{Known}
use Rattle.ell_runs.specs.declared.view.View.{View}
use Rattle.ell_runs.specs.Plans.{TablePlan}
use Rattle.ell_cards.specs.Models.{PassModel}
use Rattle.ell_runs.specs.Changes.{after_claim}
use Rattle.ell_runs.specs.Calls.{after}
use Rattle.ell_cards.specs.Shown.{cut_planned, shown}
use Rattle.ell_cards.specs.Whole.{IsWhole}

-- what a pass knows once it has claimed a card, and then read the claim word
abbrev pub after_one : ℕ → NewNode → View → View
after_one c node v = after call.Next (c + 1) (after_claim true c node v)

-- and once it has claimed this card and so many after it, one after the other, and read the claim word between two
-- claims: it has discarded all of them but the last one, which is in hand
abbrev pub after_row : ℕ → ℕ → NewNode → View → View
after_row zero c node v = after_claim true c node v
after_row (suc n) c node v = after_row n (c + 1) node (after_one c node v)

-- once it has claimed all cards from a first one to a last one, by words of 64 bits, or else lost the claim
abbrev pub after_claimed_row : Bool → ℕ → ℕ → NewNode → View → View
after_claimed_row won first last node v =
    if won then cut_planned (after_row (last - first) first node v) else after_claim false first node v

-- cards of a table that may be taken at once: where each card has words of its own, one
pub record IsRow (plan : TablePlan) (first last : ℕ) : Type 0 where
  pub order : first ≤ last
  pub room : last ≤ plan.last_card
  pub one : plan.slots ≡ None → last ≡ first

-- Whatever the table is when a word becomes another one, and whatever a pass knows of which this is shown, where it
-- took a slot last for the card that contracts see: this holds of the word found and of what is shown of what the pass
-- knows of the tree after, and what it knows of epochs and of the history is as it was.
abbrev pub MayStepOn : TablePlan → PassModel → ℕ → (ℕ → ℕ) → (ℕ → View → Type 0) → Type 0
MayStepOn plan p i f told =
    (k : Known) → shown k.tree ≡ p.view → k.participant.slot ≡ p.memory.slot → k.participant.lost ≡ None
    → (id : ℕ) → Allows (IsWhole plan) 0 id (k, []) i f
    (λ n me. told n (shown me.0.tree) × (me.0.participant ≡ k.participant) × (me.1 ≡ []) × (me.0.sight ≡ k.sight))

-- a card that was claimed is none for which a slot was taken, if cards come back
abbrev pub IsFresh : TablePlan → Option ℕ → Bool → ℕ → Type 0
IsFresh plan slot won c = plan.slots ≢ None → won ≡ true → slot ≢ Some c
