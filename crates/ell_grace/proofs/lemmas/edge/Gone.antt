use Rattle.std.proofs.Common.{◌≡◌, inl, inr, true, false, refl, arith}
use Rattle.ell_core.specs.declared.fact.Fact.TheVariants.{IFlagged, DOver}
use Rattle.ell_core.specs.history.Stages.{Born, insert_won}
use Rattle.ell_core.specs.statements.Since.{has_ended}
use Rattle.ell_core.proofs.lemmas.stages.Ended.{delete_over-ended, over-cut, insert_open-unended}
use Rattle.ell_core.proofs.lemmas.stages.Waiting.{start-born}
use Rattle.ell_grace.specs.Gone.{IsGone, HasOuts}
use Rattle.ell_grace.specs.Edges.{EdgeNodeIsGone}
use Rattle.ell_grace.proofs.lemmas.edge.Run.{m31, p31}

module _ (has : HasOuts m31) where
  -- worker 1 knows that card 3 has its flag
  card_won : insert_won (has.stages 3) ≡ true
  card_won = (has.invariant.workers.each 1).facts (IFlagged 3) refl

  -- card 1 is of the opening tree
  first_born : Born has.stages 4
  first_born = start-born (has.stages 1) 0 (omega arith) ((has.invariant.words.flat (omega arith) 1).0 (omega arith))

  -- the flag of card 3 still stands at node 4
  card_going : has_ended (has.stages 3) ≡ false
  card_going = insert_open-unended (has.stages 3) ((has.invariant.words.updates 4 refl first_born).iflagged 3 refl).0

  -- worker 2 knows that card 4 has ended, which cut node 8
  node_gone : IsGone m31.words has.stages 8
  node_gone =
      let over = (has.invariant.workers.each 2).facts (DOver 4) refl in
      record { taker = 4; ended = delete_over-ended (has.stages 4) over; takes = inr (over-cut (has.stages 4) over, inl refl) }

-- so node 8 is gone, above which card 3 put its own
pub edge_node_is_gone : EdgeNodeIsGone
edge_node_is_gone = record { state = m31; passed = p31; card = 3; won = card_won; going = card_going; gone = node_gone }
