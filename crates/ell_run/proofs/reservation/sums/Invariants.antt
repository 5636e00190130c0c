use Rattle.std.proofs.Common.{◌≡◌}
use Rattle.ell_run.proofs.lemmas.Counts.{summed}
use Rattle.ell_run.proofs.reservation.sums.Given as goal

-- the counts so far are summed
abbrev pub invariant-loop-count : goal.invariant-loop-count
invariant-loop-count l = (l.changes ≡ summed (λ count. count.0) l.counts l.count-index) × (l.keys ≡ summed (λ count. count.1) l.counts l.count-index)
