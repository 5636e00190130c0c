-- All that a pass names lies in slots that a table has words for.
use Rattle.std.proofs.Common.{◌≡◌, ℕ, ◌%◌, ◌<◌, ◌≤◌, None, subst, arith, false}
use Rattle.ell_word.specs.Node.{card}
use Rattle.ell_core.proofs.lemmas.outcomes.Decide.{some_not_none}
use Rattle.ell_layout.specs.declared.field.Field.{Field}
use Rattle.ell_layout.specs.declared.field.Field.TheVariants as field
use Rattle.ell_layout.specs.Words.{key_field, value_field, child_field}
use Rattle.ell_layout.specs.Layout.{table_size}
use Rattle.ell_layout.proofs.lemmas.Listed.{address_in_table}
use Rattle.ell_runs.specs.declared.call.Call.{Call}
use Rattle.ell_runs.specs.declared.call.Call.TheVariants as call
use Rattle.ell_runs.specs.declared.view.Told.{Told}
use Rattle.ell_runs.specs.declared.view.Told.TheVariants.{Met, Info}
use Rattle.ell_runs.specs.declared.view.View.{View}
use Rattle.ell_runs.specs.Calls.{May}
use Rattle.ell_cards.specs.Addresses.{slot_address, place_of}
use Rattle.ell_runs.specs.Changes.{forgotten}
use Rattle.ell_runs.specs.Plans.{TablePlan}
use Rattle.ell_runs.specs.Views.{Has, KnowsCard}
use Rattle.ell_runs.specs.Naming.{EntryIsNamed, IsNamed}
use Rattle.ell_cards.specs.InSlots.{EntryIsPlaced, IsPlaced}
use Rattle.ell_cards.specs.SlotWords.{slot_of}
use Rattle.ell_runs.proofs.lemmas.lifetimes.Idle.{root_alone}
use Rattle.ell_runs.proofs.lemmas.seats.Staying.{known_by, known_fits}

-- a card that is no later than the last slot has a slot up to that
low_slot : (last c : ℕ) → c ≤ last → slot_of c ≤ last
low_slot last c low = omega arith

-- so what is named up to there is placed
entry_placed : (last : ℕ) (e : Told) → EntryIsNamed last e → EntryIsPlaced last e
entry_placed last (Met x) h = low_slot last (card x) h
entry_placed last (Info c field.Gp x) h = low_slot last (card x) h.1
entry_placed last (Info c field.P x) h = low_slot last (card x) h.1
entry_placed last _ h = tt

pub named_placed : (last : ℕ) (v : View) → IsNamed last v → IsPlaced last v
named_placed last v h = record {
  node = λ x at. low_slot last (card x) (h.node x at);
  parent = λ x seen at behind. low_slot last (card seen.node) (h.parent x seen at behind).node;
  grandparent = λ x seen above at behind up. low_slot last (card above.node) (h.grandparent x seen above at behind up).node;
  facts = λ c knows. low_slot last c (known_fits last v c h knows);
  entries = λ e told. entry_placed last e (h.entries e told);
}

-- what is placed up to a slot is placed up to a later one
entry_more : (a b : ℕ) → a ≤ b → (e : Told) → EntryIsPlaced a e → EntryIsPlaced b e
entry_more a b low (Met x) h = omega arith
entry_more a b low (Info c field.Gp x) h = omega arith
entry_more a b low (Info c field.P x) h = omega arith
entry_more a b low _ h = tt

pub placed_more : (a b : ℕ) → a ≤ b → (v : View) → IsPlaced a v → IsPlaced b v
placed_more a b low v h = record {
  node = λ x at. (let most = h.node x at in omega arith);
  parent = λ x seen at behind. (let most = h.parent x seen at behind in omega arith);
  grandparent = λ x seen above at behind up. (let most = h.grandparent x seen above at behind up in omega arith);
  facts = λ c knows. (let most = h.facts c knows in omega arith);
  entries = λ e told. entry_more a b low e (h.entries e told);
}

-- a pass that stands nowhere and has forgotten what it was told names the cards that it knows
pub rest_placed : (last : ℕ) (v : View) → v.told ≡ forgotten → ((c : ℕ) → KnowsCard v c → slot_of c ≤ last) → v.worker.search.node ≡ None → IsPlaced last v
rest_placed last v told facts node = record {
  node = λ x at. absurd (some_not_none at node);
  parent = λ x seen at behind. absurd (some_not_none at node);
  grandparent = λ x seen above at behind up. absurd (some_not_none at node);
  facts = facts;
  entries = λ e has. root_alone (EntryIsPlaced last) (omega arith) e (subst (λ es. Has es e) told has);
}

-- a card that a call fills has a slot
abbrev pub FillIsPlaced : ℕ → Call → Type 0
FillIsPlaced last (call.Fill c f value) = slot_of c ≤ last
FillIsPlaced last _ = Unit {0}

module _ (last : ℕ) where
  -- a field of a slot is in the table
  at_card : (c : ℕ) (f : Field) → slot_of c ≤ last → slot_address c f < table_size last
  at_card c f low = (address_in_table last (slot_of c) f low).1

  -- the word that a call touches is one of the slots
  pub place_fits : (plan : TablePlan) (c : Call) (v : View) → May plan c v → FillIsPlaced last c → IsPlaced last v → place_of c < table_size last
  place_fits plan (call.Upd x) v may fill placed = at_card (card x) field.Update (placed.node x may.stands)
  place_fits plan (call.Down x right) v may fill placed = at_card (card x) (child_field right) (placed.node x may.stands)
  place_fits plan (call.KeyOf x) v may fill placed = at_card (card x) (key_field (x % 4)) (placed.entries (Met x) may)
  place_fits plan (call.ValueOf x) v may fill placed = at_card (card x) (value_field (x % 4)) (placed.entries (Met x) may.0)
  place_fits plan (call.Info c f) v may fill placed = at_card c f (placed.facts c (known_by v c f may.knows))
  place_fits plan (call.FrozenChild c p right) v may fill placed = at_card (card p) (child_field right) (placed.entries (Info c field.P p) may.place)
  place_fits plan call.Look v may fill placed = at_card 0 (child_field false) (omega arith)
  place_fits plan (call.LookDown from key right) v may fill placed = at_card (card from.node) (child_field right) (placed.entries (Met from.node) may.met)
  place_fits plan (call.Fill c f value) v may fill placed = at_card c f fill
  place_fits plan (call.IFlag c p from) v may fill placed = at_card (card p) field.Update
      (subst (λ y. slot_of (card y) ≤ last) may.node (placed.parent may.leaf _ may.stands may.behind))
  place_fits plan (call.IChild c p l replaces right) v may fill placed = at_card (card p) (child_field right) (placed.entries (Info c field.P p) may.parent)
  place_fits plan (call.IUnflag c p) v may fill placed = at_card (card p) field.Update (placed.entries (Info c field.P p) may.place)
  place_fits plan (call.DFlag c gp from) v may fill placed = at_card (card gp) field.Update
      (subst (λ y. slot_of (card y) ≤ last) may.node (placed.grandparent may.leaf may.parent _ may.stands may.behind may.above))
  place_fits plan (call.Mark c p was) v may fill placed = at_card (card p) field.Update (placed.entries (Info c field.P p) may.0.place)
  place_fits plan (call.DChild c gp p sibling right) v may fill placed =
      at_card (card gp) (child_field right) (placed.entries (Info c field.Gp gp) may.grandparent)
  place_fits plan (call.DUnflag c gp) v may fill placed = at_card (card gp) field.Update (placed.entries (Info c field.Gp gp) may.place)
  place_fits plan (call.Backtrack c gp) v may fill placed = at_card (card gp) field.Update (placed.entries (Info c field.Gp gp) may.place)
  place_fits plan _ v may fill placed = omega arith
