use Rattle.std.proofs.Common.{rules}
use Rattle.ell_run.specs.Settings.{IsPartedAs}
use Rattle.ell_run.proofs.asked.run_as_asked.Goals as goal

pub run-requires-clause-runnable : goal.run-requires-clause-runnable
run-requires-clause-runnable g c =
    let parted : IsPartedAs c.args.settings c.args.ops.now c.in_ok-parts.parts = c.in_ok-parts.ensures in
    λ _ _. record { begins = c.requires.start; fits = c.requires.fits; parted = parted.parted.all; allowed = search rules }
