use Rattle.std.specs.Prelude.{◌≡◌, ℕ, ◌≤◌, Some}
use Rattle.ell_word.specs.Node.{card}
use Rattle.ell_layout.specs.declared.field.Field.TheVariants.{Gp, P}
use Rattle.ell_core.specs.declared.view.Seen.{Seen}
use Rattle.ell_runs.specs.declared.view.Told.{Told}
use Rattle.ell_runs.specs.declared.view.Told.TheVariants.{Met, Info}
use Rattle.ell_runs.specs.declared.view.View.{View}
use Rattle.ell_runs.specs.Views.{IsTold, KnowsCard}
use Rattle.ell_cards.specs.SlotWords.{slot_of}

-- what was told names nodes whose cards have slots up to a last one, where a call may touch them
abbrev pub EntryIsPlaced : ℕ → Told → Type 0
EntryIsPlaced last (Met x) = slot_of (card x) ≤ last
EntryIsPlaced last (Info c Gp x) = slot_of (card x) ≤ last
EntryIsPlaced last (Info c P x) = slot_of (card x) ≤ last
EntryIsPlaced last _ = Unit {0}

-- each node where a pass stands or stood, or that it has met, is of a card that has a slot up to a last one, and so is
-- each card that it knows flagged or marked
pub record IsPlaced (last : ℕ) (v : View) : Type 0 where
  pub node : (x : ℕ) → v.worker.search.node ≡ Some x → slot_of (card x) ≤ last
  pub parent : (x : ℕ) (seen : Seen) → v.worker.search.node ≡ Some x → v.worker.search.parent ≡ Some seen
      → slot_of (card seen.node) ≤ last
  pub grandparent : (x : ℕ) (seen above : Seen) → v.worker.search.node ≡ Some x → v.worker.search.parent ≡ Some seen
      → v.worker.search.grandparent ≡ Some above → slot_of (card above.node) ≤ last
  pub facts : (c : ℕ) → KnowsCard v c → slot_of c ≤ last
  pub entries : (e : Told) → IsTold v e → EntryIsPlaced last e
