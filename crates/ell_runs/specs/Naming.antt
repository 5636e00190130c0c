use Rattle.std.specs.Prelude.{◌≡◌, ℕ, ◌+◌, ◌≤◌, Some}
use Rattle.ell_word.specs.Node.{card}
use Rattle.ell_word.specs.Word.{unpacked}
use Rattle.ell_core.specs.declared.fact.Fact.{Fact}
use Rattle.ell_layout.specs.declared.field.Field.{Field}
use Rattle.ell_layout.specs.declared.field.Field.TheVariants.{Gp, P, L}
use Rattle.ell_core.specs.declared.view.Seen.{Seen}
use Rattle.ell_core.specs.state.Facts.{card_of_fact}
use Rattle.ell_runs.specs.declared.view.Told.{Told}
use Rattle.ell_runs.specs.declared.view.Told.TheVariants.{Met, Depth, Key, Value, Info, Frozen, Expects}
use Rattle.ell_runs.specs.declared.view.View.{View}
use Rattle.ell_runs.specs.Views.{IsTold, Knows}

-- a word of a card that is a node is one of the table
abbrev pub InfoIsNamed : ℕ → Field → ℕ → Type 0
InfoIsNamed last Gp x = card x ≤ last
InfoIsNamed last P x = card x ≤ last
InfoIsNamed last L x = card x ≤ last
InfoIsNamed last _ x = Unit {0}

-- what was told names nodes and cards of the table
abbrev pub EntryIsNamed : ℕ → Told → Type 0
EntryIsNamed last (Met x) = card x ≤ last
EntryIsNamed last (Depth x d) = card x ≤ last
EntryIsNamed last (Key x key) = card x ≤ last
EntryIsNamed last (Value x value) = card x ≤ last
EntryIsNamed last (Info c f x) = (c ≤ last) × InfoIsNamed last f x
EntryIsNamed last (Expects c tag) = (c ≤ last) × (tag ≤ last)
EntryIsNamed last (Frozen c right x) = (c ≤ last) × (card x ≤ last)

-- a node with an update word is one of the table, and so is the word's card; a tag is at most the number of cards
pub record SeenIsNamed (last : ℕ) (seen : Seen) : Type 0 where
  pub node : card seen.node ≤ last
  pub word : (unpacked seen.word).card ≤ last
  pub tag : seen.tag ≤ last

-- all that a pass names is in a table with this last card, and so is each card that its claims have shown to be given
-- out
pub record IsNamed (last : ℕ) (v : View) : Type 0 where
  pub node : (x : ℕ) → v.worker.search.node ≡ Some x → card x ≤ last
  pub parent : (x : ℕ) (seen : Seen) → v.worker.search.node ≡ Some x → v.worker.search.parent ≡ Some seen
      → SeenIsNamed last seen
  pub grandparent : (x : ℕ) (seen above : Seen) → v.worker.search.node ≡ Some x → v.worker.search.parent ≡ Some seen
      → v.worker.search.grandparent ≡ Some above → SeenIsNamed last above
  pub hand : (c : ℕ) → v.worker.card ≡ Some c → c ≤ last
  pub facts : (fact : Fact) → Knows v fact → card_of_fact fact ≤ last
  pub entries : (e : Told) → IsTold v e → EntryIsNamed last e
  pub next : v.next_at_least ≤ last + 1
