use Rattle.std.proofs.Common.{◌≡◌, ◌<◌, All, length, subst, sym, ◌∙◌}
use Rattle.ell_order.specs.Orders.{HasItsKeys, IsInRounds}
use Rattle.ell_order.specs.Places.{items_at}
use Rattle.ell_parts.specs.Made.{IsPartOf}
use Rattle.ell_parts.proofs.lemmas.Making.{if_ok_both, part_in_rounds, part_in_turn, within}
use Rattle.ell_parts.proofs.part.part_of.Goals as goal

pub in_rounds-requires : goal.in_rounds-requires
in_rounds-requires g c =
    let ops = c.args.ops.now in
    subst (All (λ position. position < length ops)) (sym (c.deref.ensures.value ∙ c.in_ok-positions.ensures ops c.requires)) (within ops c.args.owners.now c.args.worker)

pub returns-then-rounds : goal.returns-then-rounds
returns-then-rounds g c =
    let ops = c.args.ops.now in
    let owners = c.args.owners.now in
    let positions = c.deref.result.now in
    if_ok_both c.in_rounds.result (λ part. IsInRounds (items_at ops positions) part.items.items) HasItsKeys (IsPartOf c.args.rounds ops owners c.args.worker)
    (λ part is keys. part_in_rounds ops owners c.args.worker positions (c.deref.ensures.value ∙ c.in_ok-positions.ensures ops c.requires) part keys is c.args.rounds c.if-rounds.true)
    c.in_rounds.ensures.rounds c.in_rounds.ensures.keys

pub in_turn-requires : goal.in_turn-requires
in_turn-requires g c =
    let ops = c.args.ops.now in
    subst (All (λ position. position < length ops)) (sym (c.deref-else-rounds.ensures.value ∙ c.in_ok-positions.ensures ops c.requires)) (within ops c.args.owners.now c.args.worker)

pub returns : goal.returns
returns g c =
    let ops = c.args.ops.now in
    let owners = c.args.owners.now in
    let positions = c.deref-else-rounds.result.now in
    if_ok_both c.in_turn.result (λ part. part.items.items ≡ items_at ops positions) HasItsKeys (IsPartOf c.args.rounds ops owners c.args.worker)
    (λ part is keys. part_in_turn ops owners c.args.worker positions (c.deref-else-rounds.ensures.value ∙ c.in_ok-positions.ensures ops c.requires) part keys is c.args.rounds c.if-rounds.false)
    c.in_turn.ensures.items c.in_turn.ensures.keys
