use Rattle.std.specs.Prelude.{◌≡◌, ℕ, ◌⊎◌}
use mathlib.Core.Option.{some}
use lib.ListN.{get_elem?}
use Rattle.ell_ops.specs.Contents.{contents_of}
use Rattle.ell_cards.specs.declared.view.Known.{Known}
use Rattle.ell_runs.specs.Histories.{IsLinearizable, history_of}
use Rattle.ell_runs.specs.Plans.{TablePlan}
use Rattle.ell_cards.specs.Epochs.{WholeState}
use Rattle.ell_runs.specs.Seeing.{HasSeenAll}
use Rattle.ell_runs.specs.Sights.{IsPart}
use Rattle.ell_cards.specs.Whole.{IsWhole}

-- what each pass has seen of its table's history is linearizable
abbrev pub SeenIsLinearizable : Type 0
SeenIsLinearizable =
    (plan : TablePlan) (t : WholeState) → IsWhole plan t → (seat : ℕ) (k : Known) → get_elem? t.views seat ≡ some k
    → IsLinearizable (contents_of plan.start) k.sight.seen

-- and of what two passes have seen one is a beginning of the other
abbrev pub SeenIsInLine : Type 0
SeenIsInLine =
    (plan : TablePlan) (t : WholeState) → IsWhole plan t → (i j : ℕ) (k l : Known)
    → get_elem? t.views i ≡ some k → get_elem? t.views j ≡ some l
    → IsPart k.sight.seen l.sight.seen ⊎ IsPart l.sight.seen k.sight.seen

-- and what is said of a pass that has seen all of it is so of each
abbrev pub HistoriesAreTold : Type 0
HistoriesAreTold =
    (plan : TablePlan) (t : WholeState) (h : IsWhole plan t) → (seat : ℕ) (k : Known) → get_elem? t.views seat ≡ some k
    → HasSeenAll plan k.tree (record k.sight { seen = history_of h.reached.turns })
