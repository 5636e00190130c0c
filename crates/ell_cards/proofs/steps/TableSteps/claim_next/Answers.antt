use Rattle.std.proofs.Common.{true, refl, arith}
use Rattle.ell_runs.specs.Plans.{new_node}
use Rattle.ell_cards.specs.Skipping.{IsRow}
use Rattle.ell_cards.proofs.lemmas.views.Claiming.{asks_there, takes_card}
use Rattle.ell_cards.proofs.steps.TableSteps.claim_next.Goals as goal

pub returns-then-claim_row-clause-asks : goal.returns-then-claim_row-clause-asks
returns-then-claim_row-clause-asks g c =
    let plan = c.args.self.table.now.plan in
    let b = c.next-card.new.pass in
    let card = c.next-card.result in
    let row : IsRow plan card card = record { order = omega arith; room = omega (arith, c.if-card-last_card.false, c.last_card.ensures.cards); one = λ empty. refl } in
    asks_there plan (new_node plan c.args.node_key) c.args.pass.now b b card c.next-card.ensures.step refl c.next-card.ensures.least c.claim_row.new.pass card row true c.if-claim_row.ensures.step

-- the card is in hand
pub returns-then-claim_row-clause-claimed : goal.returns-then-claim_row-clause-claimed
returns-then-claim_row-clause-claimed g c =
    let plan = c.args.self.table.now.plan in
    let b = c.next-card.new.pass in
    let d = c.claim_row.new.pass in
    let card = c.next-card.result in
    let row : IsRow plan card card = record { order = omega arith; room = omega (arith, c.if-card-last_card.false, c.last_card.ensures.cards); one = λ empty. refl } in
    takes_card plan (new_node plan c.args.node_key) c.args.pass.now b b card c.next-card.ensures.step refl c.next-card.ensures.least d card row c.next-card.ensures.some (omega (arith, c.last_card.ensures.cards, c.last_card.ensures.limit)) d refl c.if-claim_row.ensures.step
    (λ there. absurd (there c.requires.plain)) (λ there. absurd (there c.requires.plain))
