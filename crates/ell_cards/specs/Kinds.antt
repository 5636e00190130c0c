use Rattle.std.specs.Prelude.{◌≡◌, ℕ, ◌≤◌, Bool, true, false, Option, Some, None, List}
use Rattle.std.specs.List.{All}
use Rattle.ell_ops.specs.KeySet.{set_of}
use Rattle.ell_ops.specs.Meaning.{greatest_key}
use Rattle.ell_word.specs.Node.{greatest_number}
use Rattle.ell_core.specs.state.Opening.{last_card}
use Rattle.ell_runs.specs.declared.view.Slots.{Slots}
use Rattle.ell_cards.specs.declared.kind.TreeKind.{TreeKind}
use Rattle.ell_cards.specs.declared.kind.TreeKind.TheVariants.{Owned, Shared, Flat, Reusing}
use Rattle.ell_runs.specs.Plans.{TablePlan}
use Rattle.ell_runs.specs.Starts.{most_announcements}

-- whether a tree of a kind shares every key that is not among its given keys
abbrev pub shares_others : TreeKind → Bool
shares_others Owned = false
shares_others Shared = true
shares_others Flat = true
shares_others (Reusing passes) = true

-- whether it is flat
abbrev pub is_flat : TreeKind → Bool
is_flat Owned = false
is_flat Shared = false
is_flat Flat = true
is_flat (Reusing passes) = true

-- the number of its last card, if this is the last one for which it has room at once
abbrev pub last_number : TreeKind → ℕ → ℕ
last_number Owned room = room
last_number Shared room = room
last_number Flat room = room
last_number (Reusing passes) room = greatest_number

-- and its slots and announcements, if its cards come back
abbrev pub slots_of : TreeKind → ℕ → Option Slots
slots_of Owned room = None
slots_of Shared room = None
slots_of Flat room = None
slots_of (Reusing passes) room = Some (record { last = room; announcements = passes })

-- the plan by which a tree of a kind opens, with these start pairs, these keys, and so many cards to be claimed
abbrev pub opened_plan : TreeKind → List (ℕ × ℕ) → List ℕ → ℕ → TablePlan
opened_plan kind start keys cards = record {
  keys = keys;
  start = start;
  last_card = last_number kind (last_card start cards);
  shared = shares_others kind;
  flat = is_flat kind;
  slots = slots_of kind (last_card start cards);
}

-- it may have these start keys beside its keys: they are among them, or, if it shares the others, real keys
abbrev pub MayStartWith : TreeKind → List ℕ → List ℕ → Type 0
MayStartWith Owned keys start = All (λ k. set_of keys k ≡ true) start
MayStartWith Shared keys start = All (λ k. k ≤ greatest_key) start
MayStartWith Flat keys start = All (λ k. k ≤ greatest_key) start
MayStartWith (Reusing passes) keys start = All (λ k. k ≤ greatest_key) start

-- it has room for so many passes: at least one, and no more than it may have announcements
abbrev pub HasRoomForPasses : TreeKind → Type 0
HasRoomForPasses Owned = Unit {0}
HasRoomForPasses Shared = Unit {0}
HasRoomForPasses Flat = Unit {0}
HasRoomForPasses (Reusing passes) = (1 ≤ passes) × (passes ≤ most_announcements)
