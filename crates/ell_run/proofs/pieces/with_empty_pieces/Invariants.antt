use Rattle.std.proofs.Common.{◌≡◌, ℕ, length, map}
use Rattle.ell_runs.specs.Plans.{TablePlan}
use Rattle.ell_tree.specs.Ledgers.{PassModel}
use Rattle.ell_run.specs.Pieces.{busy}
use Rattle.ell_run.specs.Work.{IsWorked}
use Rattle.ell_run.proofs.lemmas.Filling.{mixed}
use Rattle.ell_run.proofs.pieces.with_empty_pieces.Given as goal

-- the workers so far have their pieces, and the busy ones from here on
abbrev pub invariant-loop-worker : goal.invariant-loop-worker
invariant-loop-worker g l = record {
  count : length l.pieces.items ≡ length (mixed l.parts l.worker);
  worked : (plan : TablePlan) (tries : ℕ) (before after : PassModel) → IsWorked plan tries l.parts (busy l.parts) before after (map (λ piece. piece.items) l.initial.pieces.items) →
      IsWorked plan tries l.parts (mixed l.parts l.worker) before after (map (λ piece. piece.items) l.pieces.items);
}
