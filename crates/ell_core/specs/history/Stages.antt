use Rattle.std.specs.Prelude.{◌≡◌, ℕ, ◌%◌, ◌==◌, nat_le, Bool, true, false, Option, Some}
use Rattle.ell_ops.specs.declared.op.Op.{Op}
use Rattle.ell_ops.specs.Meaning.{key_of}
use Rattle.ell_word.specs.Node.{card}
use Rattle.ell_core.specs.declared.fact.Fact.{Fact}
use Rattle.ell_core.specs.declared.fact.Fact.TheVariants as fact
use Rattle.ell_core.specs.state.Machine.{Ledger, Worker}
use Rattle.ell_core.specs.soundness.Holds.{entry_made, with_made}
use Rattle.ell_core.specs.declared.view.Entry.{Entry}

-- a card's stage: not claimed; one of the opening tree's; claimed for an insert, and then as far as its flag, child
-- exchange and unflag were won, which brings in its nodes, or its right leaf alone, in the place of a leaf of its key;
-- the same for a delete, whose flag is followed by mark, child exchange and unflag, or, once the mark can't be set any
-- more, by the unflag that takes it back
pub data Stage : Type 0 where
  Unclaimed : Stage
  Opening : Stage
  IClaimed : Stage
  IFlagged : Stage
  IChanged : Stage
  IOver : Stage
  RChanged : Stage
  ROver : Stage
  DClaimed : Stage
  DFlagged : Stage
  DUnmarkable : Stage
  DMarked : Stage
  DCut : Stage
  DOver : Stage
  DBacked : Stage

-- the stages of all cards
abbrev pub Stages : Type 0
Stages = ℕ → Stage

-- the card was claimed, or is one of the opening tree's
abbrev pub is_claimed : Stage → Bool
is_claimed Unclaimed = false
is_claimed _ = true

-- one of the cards of the opening tree
abbrev pub is_start : Stage → Bool
is_start Opening = true
is_start _ = false

-- an insert's card
abbrev pub is_insert : Stage → Bool
is_insert IClaimed = true
is_insert IFlagged = true
is_insert IChanged = true
is_insert IOver = true
is_insert RChanged = true
is_insert ROver = true
is_insert _ = false

-- a delete's card
abbrev pub is_delete : Stage → Bool
is_delete DClaimed = true
is_delete DFlagged = true
is_delete DUnmarkable = true
is_delete DMarked = true
is_delete DCut = true
is_delete DOver = true
is_delete DBacked = true
is_delete _ = false

-- all the card's nodes came into the tree
abbrev pub is_born : Stage → Bool
is_born Opening = true
is_born IChanged = true
is_born IOver = true
is_born _ = false

-- one of the card's nodes came into the tree, by its place among them, of which there are three: of a card that
-- replaces a leaf its right leaf alone
abbrev pub is_node_born : Stage → ℕ → Bool
is_node_born Opening place = nat_le place 2
is_node_born IChanged place = nat_le place 2
is_node_born IOver place = nat_le place 2
is_node_born RChanged place = place == 2
is_node_born ROver place = place == 2
is_node_born _ place = false

-- a claimed card that has not won its flag
abbrev pub waits : Stage → Bool
waits IClaimed = true
waits DClaimed = true
waits _ = false

-- an insert's flag was won
abbrev pub insert_won : Stage → Bool
insert_won IFlagged = true
insert_won IChanged = true
insert_won IOver = true
insert_won RChanged = true
insert_won ROver = true
insert_won _ = false

-- an insert's flag stands
abbrev pub insert_open : Stage → Bool
insert_open IFlagged = true
insert_open IChanged = true
insert_open RChanged = true
insert_open _ = false

-- an insert's flag stands and its child exchange was not made yet
abbrev pub insert_waits : Stage → Bool
insert_waits IFlagged = true
insert_waits _ = false

-- an insert's child exchange was made
abbrev pub is_changed : Stage → Bool
is_changed IChanged = true
is_changed IOver = true
is_changed RChanged = true
is_changed ROver = true
is_changed _ = false

-- an insert's flag was taken away again
abbrev pub insert_over : Stage → Bool
insert_over IOver = true
insert_over ROver = true
insert_over _ = false

-- a delete's flag was won
abbrev pub delete_won : Stage → Bool
delete_won DFlagged = true
delete_won DUnmarkable = true
delete_won DMarked = true
delete_won DCut = true
delete_won DOver = true
delete_won DBacked = true
delete_won _ = false

-- a delete's flag stands
abbrev pub delete_open : Stage → Bool
delete_open DFlagged = true
delete_open DUnmarkable = true
delete_open DMarked = true
delete_open DCut = true
delete_open _ = false

-- a delete's flag stands and its child exchange was not made yet
abbrev pub delete_waits : Stage → Bool
delete_waits DFlagged = true
delete_waits DUnmarkable = true
delete_waits DMarked = true
delete_waits _ = false

-- a delete's flag stands, and it may still be marked
abbrev pub is_markable : Stage → Bool
is_markable DFlagged = true
is_markable _ = false

-- a delete's mark can't be set any more
abbrev pub is_unmarkable : Stage → Bool
is_unmarkable DUnmarkable = true
is_unmarkable DBacked = true
is_unmarkable _ = false

-- a delete's mark was set
abbrev pub is_marked : Stage → Bool
is_marked DMarked = true
is_marked DCut = true
is_marked DOver = true
is_marked _ = false

-- a delete's child exchange was made
abbrev pub is_cut : Stage → Bool
is_cut DCut = true
is_cut DOver = true
is_cut _ = false

-- a delete's flag was taken away again
abbrev pub delete_past : Stage → Bool
delete_past DOver = true
delete_past DBacked = true
delete_past _ = false

-- after its child exchange
abbrev pub delete_over : Stage → Bool
delete_over DOver = true
delete_over _ = false

-- after it had become unmarkable
abbrev pub is_backed : Stage → Bool
is_backed DBacked = true
is_backed _ = false

-- whether a fact of a card may be known at its stage
abbrev pub allows : Fact → Stage → Bool
allows (fact.IFlagged c) stage = insert_won stage
allows (fact.IChanged c) stage = is_changed stage
allows (fact.IOver c) stage = insert_over stage
allows (fact.DFlagged c) stage = delete_won stage
allows (fact.Marked c) stage = is_marked stage
allows (fact.Unmarkable c) stage = is_unmarkable stage
allows (fact.Cut c) stage = is_cut stage
allows (fact.DOver c) stage = delete_over stage
allows (fact.Backed c) stage = is_backed stage

-- a node came into the tree
abbrev pub Born : Stages → ℕ → Type 0
Born stage x = is_node_born (stage (card x)) (x % 4) ≡ true

-- what an operation has made of its key by its card's stage
abbrev pub made_by_stage : Op → Stage → Option Entry
made_by_stage op stage = entry_made op (is_changed stage) (is_cut stage)

abbrev pub effective_at_of : Stages → Ledger → Option Op → Option ℕ → Bool → Ledger
effective_at_of stage ledger (Some op) (Some c) true = with_made ledger (key_of op) (made_by_stage op (stage c))
effective_at_of stage ledger _ _ _ = ledger

-- the effective ledger of a worker, by the cards' stages: as by the words, while the words are sound at them
abbrev pub effective_at : Stages → Worker → Ledger
effective_at stage v = effective_at_of stage v.ledger v.operation v.card v.flagged
