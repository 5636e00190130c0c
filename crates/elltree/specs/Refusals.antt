use Rattle.ell_cards.specs.declared.fault.CardFault.{CardFault}
use Rattle.ell_cards.specs.declared.fault.CardFault.TheVariants as fault
use Rattle.ell_cards.specs.declared.fault.SplitFault.{SplitFault}
use Rattle.ell_cards.specs.declared.fault.SplitFault.TheVariants as split_fault
use Rattle.ell_tree.specs.declared.operations.NotDone.{NotDone}
use Rattle.ell_tree.specs.declared.operations.NotDone.TheVariants as not_done
use Rattle.elltree.specs.declared.refusal.Refusal.{Refusal}
use Rattle.elltree.specs.declared.refusal.Refusal.TheVariants.{BadCards, Busy, NoMemory, Spent, TooManyHandles}

-- why a change of a tree was not done, as a refusal
abbrev pub of_not_done : NotDone → Refusal
of_not_done not_done.Busy = Busy
of_not_done not_done.Spent = Spent

-- a tree that is not made, as a refusal
abbrev pub of_fault : CardFault → Refusal
of_fault fault.BadCards = BadCards
of_fault fault.NoMemory = NoMemory

-- a pass that is not parted, as a refusal
abbrev pub of_split : SplitFault → Refusal
of_split split_fault.TooManyPasses = TooManyHandles
of_split split_fault.NoMemory = NoMemory
