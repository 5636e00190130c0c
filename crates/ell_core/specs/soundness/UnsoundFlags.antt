use Rattle.std.specs.Prelude.{ℕ, Some, false}
use Rattle.ell_layout.specs.Words.{Words, with_child, with_update}
use Rattle.ell_core.specs.state.Machine.{Machine}
use Rattle.ell_layout.specs.Cards.{iflag, dflag, marked, clean}
use Rattle.ell_layout.specs.Start.{opening_words}
use Rattle.ell_core.specs.soundness.Sound.{NamesAreSound, FlagsAreSound, IsSound}
use Rattle.ell_core.specs.soundness.SmallTrees.{five, five_linked, five_updated}
use Rattle.ell_core.specs.soundness.Unsound.{owner, holding, with_one}
use Rattle.ell_core.specs.declared.view.Entry.TheVariants.{Present, Absent}

-- a state is unsound by the cards that are named
abbrev pub BreaksNames : Machine → Type 0
BreaksNames m = (¬ NamesAreSound m.words) × (¬ IsSound m)

-- nodes: those of card 1 are in the tree, and card 1 was not claimed
abbrev pub node_not_claimed : Machine
node_not_claimed = with_one (record five_linked { next = 1 }) (owner 5 (Present 50))

-- numbers: the root's left child has the number that card 1 leaves out
abbrev pub number_left_out : Machine
number_left_out = with_one (with_child five 0 false 7) (owner 5 Absent)

-- updates: the root's update word names a card that was not claimed
abbrev pub card_not_claimed : Machine
card_not_claimed = with_one (with_update opening_words 0 (clean 1)) (owner 5 Absent)

-- a state is unsound by its flags
abbrev pub BreaksFlags : Machine → Type 0
BreaksFlags m = (¬ FlagsAreSound m) × (¬ IsSound m)

-- the opening tree, card 1 claimed, with its insert's flag on the root
abbrev pub root_flagged : Words
root_flagged = record (with_update opening_words 0 (iflag 1)) { next = 2 }

-- in hand: nobody has the flag's card in hand
abbrev pub flag_left_standing : Machine
flag_left_standing = with_one root_flagged (owner 5 Absent)

-- in hand, holds: the worker that won its flag has another card in hand
abbrev pub flag_of_another : Machine
flag_of_another = with_one root_flagged (holding 2 (owner 5 Absent))

-- in hand, flagged: the flag's card is in hand, and did not win its flag
abbrev pub flag_not_won : Machine
flag_not_won = with_one root_flagged (record (owner 5 Absent) { card = Some 1 })

-- place: card 2, whose grandparent is the root and whose parent is node 4, is in hand and flagged, with these update
-- words there
abbrev pub placed : ℕ → ℕ → Machine
placed above behind = with_one (five_updated above behind) (holding 2 (owner 5 (Present 50)))

-- place: an insert's flag at the grandparent
abbrev pub iflag_elsewhere : Machine
iflag_elsewhere = placed (iflag 2) (clean 0)

-- place: a delete's flag at the parent
abbrev pub dflag_elsewhere : Machine
dflag_elsewhere = placed (clean 1) (dflag 2)

-- place: a mark at the grandparent
abbrev pub mark_elsewhere : Machine
mark_elsewhere = placed (marked 2) (clean 0)
