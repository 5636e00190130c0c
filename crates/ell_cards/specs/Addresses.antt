use Rattle.std.specs.Prelude.{ℕ}
use Rattle.ell_word.specs.Node.{card}
use Rattle.ell_layout.specs.declared.field.Field.{Field}
use Rattle.ell_layout.specs.Layout.{address}
use Rattle.ell_runs.specs.declared.call.Call.{Call}
use Rattle.ell_cards.specs.SlotWords.{slot_of}
use Rattle.ell_runs.specs.Calls.{OnCard, OnClaim, OnNode, OnRoot, Where, where_of}

-- The memory of a table has words for slots. A field of a card stands at that field of the card's slot; where cards do
-- not come back each card has a slot of its own.
abbrev pub slot_address : ℕ → Field → ℕ
slot_address c f = address (slot_of c) f

-- the word there, in the memory of a table
abbrev pub place_at : Where → ℕ
place_at OnClaim = 0
place_at (OnRoot f) = slot_address 0 f
place_at (OnNode x f) = slot_address (card x) f
place_at (OnCard c f) = slot_address c f

-- and that of the word that a call touches
abbrev pub place_of : Call → ℕ
place_of c = place_at (where_of c)
