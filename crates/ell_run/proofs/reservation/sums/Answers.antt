use Rattle.std.proofs.Common.{ℕ, ◌∙◌}
use Rattle.ell_run.proofs.lemmas.Counts.{all_summed, none_summed, one_summed}
use Rattle.ell_run.proofs.reservation.sums.Goals as goal

pub loop-count-init : goal.loop-count-init
loop-count-init c = (none_summed (λ (count : ℕ × ℕ). count.0) c.args.counts.now, none_summed (λ (count : ℕ × ℕ). count.1) c.args.counts.now)

pub loop-count-preserved : goal.loop-count-preserved
loop-count-preserved c = (
  one_summed (λ (count : ℕ × ℕ). count.0) c.args.counts.now c.loop-count.count-index c.loop-count.changes c.saturating_add-changes.result (0, 0)
      c.loop-count-test.true c.loop-count.invariant.0 c.saturating_add-changes.ensures,
  one_summed (λ (count : ℕ × ℕ). count.1) c.args.counts.now c.loop-count.count-index c.loop-count.keys c.saturating_add-keys.result (0, 0)
      c.loop-count-test.true c.loop-count.invariant.1 c.saturating_add-keys.ensures,
)

pub returns-clause-changes : goal.returns-clause-changes
returns-clause-changes c =
    c.loop-count.invariant.0 ∙ all_summed (λ (count : ℕ × ℕ). count.0) c.args.counts.now c.loop-count.count-index c.loop-count-test.false

pub returns-clause-keys : goal.returns-clause-keys
returns-clause-keys c =
    c.loop-count.invariant.1 ∙ all_summed (λ (count : ℕ × ℕ). count.1) c.args.counts.now c.loop-count.count-index c.loop-count-test.false
