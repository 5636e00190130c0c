use Rattle.std.proofs.Common.{◌≡◌, ℕ, false, List, ap, subst, ◌∙◌}
use Rattle.ell_ops.specs.Contents.{Contents}
use Rattle.ell_ops.specs.Meaning.{final}
use Rattle.ell_parts.specs.PartedOps.{PartedOps}
use Rattle.ell_tree.specs.Closing.{ClosesTo}
use Rattle.ell_tree.specs.Ledgers.{PassModel, TreeModel, present_in}
use Rattle.ell_run.specs.Late.{AreLeft}
use Rattle.ell_run.specs.Pieces.{ArePieces, all_workers, ops_done}
use Rattle.ell_run.specs.Work.{IsWorked}
use Rattle.ell_ops.specs.declared.reply.Reply.{Reply}

-- what workers leave on a tree that is closed behind them
pub left_behind : (start : Contents) (tree : TreeModel) (tries : ℕ) (parting : PartedOps) (first last : PassModel) (pieces : List (List (ℕ × Reply))) (pairs : List (ℕ × ℕ)) →
    tree.plan.shared ≡ false → present_in first ≡ start → IsWorked tree.plan tries parting (all_workers parting) first last pieces → ClosesTo tree last pairs → AreLeft start parting pieces pairs
left_behind start tree tries parting first last pieces pairs unshared same did closes =
    let listed = closes.all unshared in record {
      told = subst (λ s. ArePieces s parting (all_workers parting) pieces) same did.told;
      listed = record {
        ascending = listed.ascending;
        each = listed.each ∙ did.map ∙ ap (λ s. final s (ops_done parting (all_workers parting) pieces)) same;
      };
    }
