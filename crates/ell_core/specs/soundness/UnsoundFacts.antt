use Rattle.std.specs.Prelude.{List, [], ◌∷◌}
use Rattle.ell_core.specs.declared.fact.Fact.{Fact}
use Rattle.ell_layout.specs.Words.{with_update, put}
use Rattle.ell_core.specs.state.Facts.{learned}
use Rattle.ell_core.specs.state.Machine.{Worker, Machine}
use Rattle.ell_layout.specs.Cards.{iflag, dflag, marked, clean}
use Rattle.ell_layout.specs.Start.{opening_words}
use Rattle.ell_core.specs.soundness.Sound.{FactsAreSound, IsSound}
use Rattle.ell_core.specs.soundness.SmallTrees.{five_filled, five_linked, five, five_updated, five_cut}
use Rattle.ell_core.specs.soundness.Unsound.{owner, holding, with_one}
use Rattle.ell_core.specs.declared.view.Entry.TheVariants.{Present, Absent}

-- a state is unsound by what is known
abbrev pub BreaksFacts : Machine → Type 0
BreaksFacts m = (¬ FactsAreSound m) × (¬ IsSound m)

-- the worker knows a fact more
abbrev pub taught : Fact → Worker → Worker
taught fact v = record v { knows = learned v.knows fact }

-- the state, if worker 0 knew a fact more
abbrev pub with_fact : Machine → Fact → Machine
with_fact m fact = record m { worker = put m.worker 0 (taught fact (m.worker 0)) }

-- each of these facts would make the state unsound
abbrev pub NoneHolds : Machine → List Fact → Type 0
NoneHolds m [] = Unit {0}
NoneHolds m (fact ∷ facts) = BreaksFacts (with_fact m fact) × NoneHolds m facts

-- card 1 was claimed and not filled as an insert's: with no left child it is a delete's
abbrev pub not_an_insert : Machine
not_an_insert = with_one (record (with_update opening_words 0 (clean 1)) { next = 2 }) (owner 5 Absent)

-- an insert's child exchange was made without its flag
abbrev pub linked_unflagged : Machine
linked_unflagged = with_one five_linked (owner 5 (Present 50))

-- an insert's flag was taken away, and the child is the leaf still
abbrev pub never_linked : Machine
never_linked = with_one (with_update five_filled 0 (clean 1)) (owner 5 Absent)

-- an insert's child exchange was made, and its flag stands still
abbrev pub insert_flag_stands : Machine
insert_flag_stands = with_one (with_update five 0 (iflag 1)) (holding 1 (owner 5 (Present 50)))

-- card 1 is an insert's, and is over
abbrev pub not_a_delete : Machine
not_a_delete = with_one five (owner 5 (Present 50))

-- card 1 is an insert's, and a mark of it stands
abbrev pub mark_of_an_insert : Machine
mark_of_an_insert = with_one (with_update five 0 (marked 1)) (holding 1 (owner 5 (Present 50)))

-- a delete marked and cut, and its flag was never set
abbrev pub cut_unflagged : Machine
cut_unflagged = with_one (five_cut (clean 1) (marked 2)) (owner 5 Absent)

-- a delete can't mark any more, and its flag was never set
abbrev pub passed_unflagged : Machine
passed_unflagged = with_one (five_updated (clean 1) (clean 1)) (owner 5 (Present 50))

-- a delete's flag was taken away, and the parent's update word is the one that its search read
abbrev pub never_marked : Machine
never_marked = with_one (five_updated (clean 2) (clean 0)) (owner 5 (Present 50))

-- a delete cut without a mark
abbrev pub cut_unmarked : Machine
cut_unmarked = with_one (five_cut (clean 2) (clean 0)) (owner 5 Absent)

-- a delete marked, its flag was taken away, and the child is the parent still
abbrev pub never_cut : Machine
never_cut = with_one (five_updated (clean 2) (marked 2)) (holding 2 (owner 5 (Present 50)))

-- a delete marked and cut, and its flag stands still
abbrev pub cut_flag_stands : Machine
cut_flag_stands = with_one (five_cut (dflag 2) (marked 2)) (holding 2 (owner 5 Absent))

-- a delete can't mark any more, and its flag stands still
abbrev pub passed_flag_stands : Machine
passed_flag_stands = with_one (five_updated (dflag 2) (clean 1)) (holding 2 (owner 5 (Present 50)))
