use Rattle.std.specs.Prelude.{◌≡◌, ◌≢◌, ℕ, ◌<◌, ◌≤◌, ◌==◌, if◌then◌else◌, Bool, true, false, not, Option, Some, None}
use Rattle.ell_ops.specs.declared.op.Op.{Op}
use Rattle.ell_ops.specs.declared.op.Op.TheVariants.{Insert, Delete, Swap}
use Rattle.ell_ops.specs.Meaning.{key_of}
use Rattle.ell_core.specs.declared.fact.Fact.{Fact}
use Rattle.ell_core.specs.declared.fact.Fact.TheVariants as fact
use Rattle.ell_layout.specs.Words.{Words, put}
use Rattle.ell_core.specs.state.Machine.{Ledger, Worker}
use Rattle.ell_layout.specs.Cards.{iflag, dflag, marked, is_delete_card, card_tag}
use Rattle.ell_core.specs.declared.view.Entry.{Entry}
use Rattle.ell_core.specs.declared.view.Entry.TheVariants.{Present, Absent}

-- the insert's flag was set: the parent's update word is the flag, or past it
abbrev pub IFlagHolds : Words → ℕ → Type 0
IFlagHolds w c = (is_delete_card w c ≡ false) × (iflag c ≤ w.update (w.p c))

-- the insert's child exchange was made: the parent's child word on the card's side has not the tag any more that the card
-- expects
abbrev pub IChangeHolds : Words → ℕ → Type 0
IChangeHolds w c = IFlagHolds w c × (card_tag w c (w.p c) ≢ w.expects c)

-- the delete's flag was set: the grandparent's update word is the flag, or past it
abbrev pub DFlagHolds : Words → ℕ → Type 0
DFlagHolds w c = (is_delete_card w c ≡ true) × (dflag c ≤ w.update (w.gp c))

-- the delete's mark stands
abbrev pub MarkHolds : Words → ℕ → Type 0
MarkHolds w c = DFlagHolds w c × (w.update (w.p c) ≡ marked c)

-- the delete's mark can't stand any more: the parent's update word is past the one that the search read
abbrev pub UnmarkableHolds : Words → ℕ → Type 0
UnmarkableHolds w c = DFlagHolds w c × (w.was c < w.update (w.p c)) × (w.update (w.p c) ≢ marked c)

-- the delete's child exchange was made: the grandparent's child word on the card's side has not the tag any more that the
-- card expects
abbrev pub CutHolds : Words → ℕ → Type 0
CutHolds w c = MarkHolds w c × (card_tag w c (w.gp c) ≢ w.expects c)

-- what a fact says of the words
abbrev pub Holds : Words → Fact → Type 0
Holds w (fact.IFlagged c) = IFlagHolds w c
Holds w (fact.IChanged c) = IChangeHolds w c
Holds w (fact.IOver c) = IChangeHolds w c × (iflag c < w.update (w.p c))
Holds w (fact.DFlagged c) = DFlagHolds w c
Holds w (fact.Marked c) = MarkHolds w c
Holds w (fact.Unmarkable c) = UnmarkableHolds w c
Holds w (fact.Cut c) = CutHolds w c
Holds w (fact.DOver c) = CutHolds w c × (dflag c < w.update (w.gp c))
Holds w (fact.Backed c) = UnmarkableHolds w c × (dflag c < w.update (w.gp c))

-- what an operation has made of its key once its child exchange is made: a present value, or for a delete absence.
-- So insert 5 with value 50 has made nothing while its flag stands alone, and then Present 50
abbrev pub entry_made : Op → Bool → Bool → Option Entry
entry_made (Insert key value) true cut = Some (Present value)
entry_made (Delete key) changed true = Some Absent
entry_made (Swap key was value) true cut = Some (Present value)
entry_made _ _ _ = None

-- once an insert's flag was won: whether its child exchange was made, as the tag that it expects never comes back
abbrev pub is_changed_in : Words → ℕ → Bool
is_changed_in w c = not (card_tag w c (w.p c) == w.expects c)

-- once a delete's flag was won: whether it has cut, after its mark, as the tag that it expects never comes back
abbrev pub is_cut_in : Words → ℕ → Bool
is_cut_in w c = if w.update (w.p c) == marked c then not (card_tag w c (w.gp c) == w.expects c) else false

-- what an operation has made of its key by the words, once the flag of its card was won
abbrev pub made_in : Words → Op → ℕ → Option Entry
made_in w op c = entry_made op (is_changed_in w c) (is_cut_in w c)

-- a ledger where an operation has made this of its key, if anything
abbrev pub with_made : Ledger → ℕ → Option Entry → Ledger
with_made ledger key None = ledger
with_made ledger key (Some entry) = put ledger key (Some entry)

abbrev pub effective_of : Words → Ledger → Option Op → Option ℕ → Bool → Ledger
effective_of w ledger (Some op) (Some c) true = with_made ledger (key_of op) (made_in w op c)
effective_of w ledger _ _ _ = ledger

-- the effective ledger, in which the key of an operation whose card is flagged counts as what that card has made of it.
-- So after a helper has linked the node of insert 5 with value 50, 5 is absent in the ledger and Present 50 in this one
abbrev pub effective : Words → Worker → Ledger
effective w v = effective_of w v.ledger v.operation v.card v.flagged
