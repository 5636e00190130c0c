use Rattle.std.proofs.Common.{rules, ◌≡◌, ℕ, ◌+◌, ◌*◌, ◌^◌, ◌<◌, Some, refl, ◌∙◌, subst, arith}
use Rattle.ell_tree.specs.Computing.{IsSum, UpdatesValue}
use Rattle.shared_counter.specs.Adding.{HasAdded}
use Rattle.shared_counter.specs.declared.adding.TheConstants.{COUNTER}
use Rattle.shared_counter.proofs.lemmas.Additions.{added_once}
use Rattle.shared_counter.proofs.adding.add_often.Goals as goal

pub loop-round-init : goal.loop-round-init
loop-round-init c =
    let none : 0 ≡ 0 * c.args.addend = omega arith in
    (subst (λ (n : ℕ). HasAdded c.args.tree.now 0 n c.args.pass) none c.requires, refl)

-- each round adds the addend
pub loop-round-preserved : goal.loop-round-preserved
loop-round-preserved c =
    let t = c.args.tree.now in
    let addend = c.args.addend in
    let round = c.loop-round._round in
    let was = c.in-Ok-Some._was in
    let adds : UpdatesValue t COUNTER (IsSum addend) c.loop-round.pass c.fetch_add.new.pass (Some was) =
    rw c.in-Ok-Some.field-0-is at c.in-Ok-Some.ensures.adds in
    let few : was < 2 ^ 64 = search rules in
    let fits : addend < 2 ^ 64 = omega arith in
    let h = added_once t round (round * addend) was addend c.loop-round.pass c.fetch_add.new.pass few fits adds c.loop-round.invariant.0 in
    let more : round * addend + addend ≡ (round + 1) * addend = omega arith in
    (subst (λ (n : ℕ). HasAdded t (round + 1) n c.fetch_add.new.pass) more h, adds.2.share.share ∙ c.loop-round.invariant.1)
