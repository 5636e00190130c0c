use Rattle.std.proofs.Common.{◌+◌, ◌-◌, ◌==◌, sym, ap, ◌∙◌, subst, arith}
use Rattle.ell_runs.specs.Plans.{new_node}
use prog.Atomic.{either}
use Rattle.ell_cards.specs.Skipping.{IsFresh, MayStepOn, after_claimed_row}
use Rattle.ell_cards.proofs.lemmas.seats.Taken.{steps_by}
use Rattle.ell_cards.proofs.lemmas.whole.Skipping.{one_back, row_goes_any, row_keeps_pass, RowTells}
use Rattle.ell_cards.proofs.steps.TableSteps.claim_row.Goals as goal

pub exchange_claim-requires-clause-rule : goal.exchange_claim-requires-clause-rule
exchange_claim-requires-clause-rule g c =
    let p = c.args.pass.now in
    let plan = c.args.self.table.now.plan in
    subst (λ last. MayStepOn plan p 0 (λ n. either (n == c.args.first) (c.args.last + 1) n) (RowTells plan c.args.first last (new_node c.args.self.table.now.plan c.args.node_key) p)) (sym (one_back c.args.last))
    (row_goes_any plan c.reusing_trees_are_flat.ensures p c.args.first c.args.last (new_node c.args.self.table.now.plan c.args.node_key) c.requires.row (omega (arith, c.requires.row.order, c.requires.row.room, c.names.ensures.room)) c.requires.may c.requires.kept)

pub exchange_claim-requires-clause-keeps : goal.exchange_claim-requires-clause-keeps
exchange_claim-requires-clause-keeps g c = row_keeps_pass c.args.self.table.now.plan c.args.pass.now c.args.first (c.args.last + 1 - 1) (new_node c.args.self.table.now.plan c.args.node_key)

pub returns : goal.returns
returns g c =
    let won = c.exchange_claim.result == c.args.first in
    let told = c.exchange_claim.ensures.told.0 ∙ ap (λ last. after_claimed_row won c.args.first last (new_node c.args.self.table.now.plan c.args.node_key) c.args.pass.now.view) (one_back c.args.last) in
    record {
      step = steps_by c.args.pass.now c.exchange_claim.new.pass _ c.exchange_claim.ensures.step told;
      fresh = subst (IsFresh c.args.self.table.now.plan c.args.pass.now.memory.slot won) (one_back c.args.last) c.exchange_claim.ensures.told.2;
    }
