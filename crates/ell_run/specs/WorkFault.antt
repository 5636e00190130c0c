use Rattle.std.specs.Prelude.{◌≡◌, ◌≢◌, None, ⊤}
use Rattle.ell_runs.specs.Plans.{TablePlan}
use Rattle.ell_cards.specs.declared.fault.SplitFault.{SplitFault}
use Rattle.ell_cards.specs.declared.fault.SplitFault.TheVariants as split
use Rattle.ell_tree.specs.Ledgers.{PassModel}
use Rattle.ell_run.specs.declared.faults.WorkFault.{WorkFault}
use Rattle.ell_run.specs.declared.faults.WorkFault.TheVariants.{TooManyPasses, NoMemory}

-- which fault of the workers a fault of a split is
abbrev pub of_split : SplitFault → WorkFault
of_split split.TooManyPasses = TooManyPasses
of_split split.NoMemory = NoMemory

-- workers that began with a pass did not come to their end: there were too many passes only if some keys of its tree
-- are shared, or cards lie in slots, so that there are places for so many passes only
abbrev pub StopsWork : TablePlan → PassModel → WorkFault → Type 0
StopsWork plan pass TooManyPasses = plan.slots ≡ None → pass.view.worker.shared ≢ None
StopsWork plan pass NoMemory = ⊤
