use Rattle.std.proofs.Common.{ap, ◌∙◌}
use Rattle.ell_ops.specs.Contents.{contents_of}
use Rattle.ell_run.specs.Reservation.{counts_in}
use Rattle.ell_run.proofs.reservation.fn.counts_in_threads.count.Goals as goal

pub returns : goal.returns
returns g c = c.counts_in.ensures ∙ ap (counts_in (contents_of c.captures.start.now)) c.part.ensures
