use Rattle.std.proofs.Common.{true, ap, ◌∙◌, arith}
use Rattle.ell_core.proofs.lemmas.outcomes.Decide.{some_not_none}
use Rattle.ell_runs.specs.Plans.{new_node}
use Rattle.ell_cards.specs.Models.{PassModel}
use Rattle.ell_cards.proofs.lemmas.views.Claiming.{asks_on, claims_in_vain, holds_last, row_by, takes_card}
use Rattle.ell_cards.proofs.steps.TableSteps.claim_free.Goals as goal

-- the card is in hand
pub take_free-requires-clause-hand : goal.take_free-requires-clause-hand
take_free-requires-clause-hand g c =
    let plan = c.args.self.table.now.plan in
    let found = c.in-Some.ensures.found in
    let row = row_by plan c.args.slots c.requires.slots c.next-first.result c.in-Some.free.card found.0 found.1 in
    holds_last plan (new_node plan c.args.node_key) c.args.pass.now c.next-first.new.pass c.find_free.new.pass c.next-first.result c.next-first.ensures.step c.find_free.ensures.same c.next-first.ensures.least
    c.claim_row.new.pass c.in-Some.free.card row c.look_now_and_then.new.pass (ap (λ (p : PassModel). p.view) c.look_now_and_then.ensures.same) c.if-not-claim_row.ensures.step

pub returns-then-take_free-clause-asks : goal.returns-then-take_free-clause-asks
returns-then-take_free-clause-asks g c =
    let plan = c.args.self.table.now.plan in
    let found = c.in-Some.ensures.found in
    let row = row_by plan c.args.slots c.requires.slots c.next-first.result c.in-Some.free.card found.0 found.1 in
    asks_on plan (new_node plan c.args.node_key) c.args.pass.now c.next-first.new.pass c.find_free.new.pass c.next-first.result c.next-first.ensures.step c.find_free.ensures.same c.next-first.ensures.least
    c.claim_row.new.pass c.in-Some.free.card row true c.if-not-claim_row.ensures.step c.look_now_and_then.new.pass c.take_free.new.pass c.look_now_and_then.ensures.same c.take_free.result
    c.take_free.ensures.took

-- with its slot
pub returns-then-take_free-clause-comes : goal.returns-then-take_free-clause-comes
returns-then-take_free-clause-comes g c =
    let plan = c.args.self.table.now.plan in
    let found = c.in-Some.ensures.found in
    let row = row_by plan c.args.slots c.requires.slots c.next-first.result c.in-Some.free.card found.0 found.1 in
    let took = c.if-take_free.ensures.took in
    takes_card plan (new_node plan c.args.node_key) c.args.pass.now c.next-first.new.pass c.find_free.new.pass c.next-first.result c.next-first.ensures.step c.find_free.ensures.same c.next-first.ensures.least
    c.claim_row.new.pass c.in-Some.free.card row c.next-first.ensures.some (omega (arith, c.last_card.ensures.cards, c.last_card.ensures.limit)) c.take_free.new.pass
    (ap (λ (p : PassModel). p.view) took ∙ ap (λ (p : PassModel). p.view) c.look_now_and_then.ensures.same) c.if-not-claim_row.ensures.step
    (λ there. ap (λ (p : PassModel). p.memory.slot) took) (λ there. ap (λ (p : PassModel). p.memory.retired) took)

pub returns-else-take_free-clause-asks : goal.returns-else-take_free-clause-asks
returns-else-take_free-clause-asks g c =
    let plan = c.args.self.table.now.plan in
    let found = c.in-Some.ensures.found in
    let row = row_by plan c.args.slots c.requires.slots c.next-first.result c.in-Some.free.card found.0 found.1 in
    asks_on plan (new_node plan c.args.node_key) c.args.pass.now c.next-first.new.pass c.find_free.new.pass c.next-first.result c.next-first.ensures.step c.find_free.ensures.same c.next-first.ensures.least
    c.claim_row.new.pass c.in-Some.free.card row true c.if-not-claim_row.ensures.step c.look_now_and_then.new.pass c.take_free.new.pass c.look_now_and_then.ensures.same c.take_free.result
    c.take_free.ensures.took

-- or its slot is in use by now
pub returns-else-take_free-clause-comes : goal.returns-else-take_free-clause-comes
returns-else-take_free-clause-comes g c =
    let plan = c.args.self.table.now.plan in
    let found = c.in-Some.ensures.found in
    let row = row_by plan c.args.slots c.requires.slots c.next-first.result c.in-Some.free.card found.0 found.1 in
    let took = c.if-take_free.ensures.took in
    let looked = c.look_now_and_then.ensures.same in
    claims_in_vain plan (new_node plan c.args.node_key) c.args.pass.now c.next-first.new.pass c.find_free.new.pass c.next-first.result c.next-first.ensures.step c.find_free.ensures.same c.next-first.ensures.least
    c.claim_row.new.pass c.in-Some.free.card row (some_not_none c.requires.slots) c.take_free.new.pass (ap (λ (p : PassModel). p.view) took ∙ ap (λ (p : PassModel). p.view) looked)
    (ap (λ (p : PassModel). p.memory.slot) took ∙ ap (λ (p : PassModel). p.memory.slot) looked) (ap (λ (p : PassModel). p.memory.retired) took ∙ ap (λ (p : PassModel). p.memory.retired) looked)
    c.if-not-claim_row.ensures.step c.if-not-claim_row.ensures.fresh
