use Rattle.std.proofs.Common.{◌≢◌, ℤ, Option, Some, None, subst}
use Rattle.ell_runs.specs.Views.{MayPart}
use Rattle.ell_cards.specs.Models.{SplitRefuses}
use Rattle.ell_cards.specs.declared.fault.SplitFault.{SplitFault}
use Rattle.ell_cards.specs.declared.fault.SplitFault.TheVariants as split_fault
use Rattle.ell_runs.specs.declared.view.Slots.{Slots}
use Rattle.ell_runs.specs.declared.view.View.{View}
use Rattle.elltree.specs.Handles.{AnotherRefuses, tree_of}
use Rattle.elltree.specs.Refusals.{of_split}
use Rattle.elltree.specs.declared.handle.Handle.{Handle}
use Rattle.elltree.specs.Codes.{said_yes}
use Rattle.elltree.specs.Told.{TellsAnother}

-- what tells why there is no other handle does so whatever the slots hold
pub another_refused : (said : ℤ) (whole kept other : Option Handle) → said ≢ said_yes
    → TellsAnother said whole None None → TellsAnother said whole kept other
another_refused said whole kept other differs why = record {
  codes = why.codes;
  another = λ yes. absurd (differs yes);
  closed = why.closed;
  none = why.none;
  too_many = why.too_many;
  may = why.may;
}

-- want of memory is told of a pass that may be parted
may_part : (slots : Option Slots) (v : View) → SplitRefuses slots v split_fault.NoMemory → MayPart v
may_part None v may = may
may_part (Some s) v may = may

-- for what a handle's pass is not parted, the handle makes no other one
pub split_refused : (h : Handle) (fault : SplitFault) → SplitRefuses (tree_of h).plan.slots h.pass.view fault
    → AnotherRefuses h (of_split fault)
split_refused h split_fault.TooManyPasses why = λ plain. subst (λ slots. SplitRefuses slots h.pass.view split_fault.TooManyPasses) plain why
split_refused h split_fault.NoMemory why = λ least. least (may_part (tree_of h).plan.slots h.pass.view why)
