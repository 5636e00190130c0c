use Rattle.std.proofs.Common.{rules, ◌≡◌, ℕ, ◌+◌, ◌*◌, subst, arith}
use Rattle.shared_counter.specs.Adding.{HasAdded}
use Rattle.shared_counter.proofs.lemmas.Additions.{added_both}
use Rattle.shared_counter.proofs.counting.add_by_two.Goals as goal

-- both passes as one have added what each has
pub returns-in-Ok-clause-added : goal.returns-in-Ok-clause-added
returns-in-Ok-clause-added g c =
    let t = c.args.tree.now in
    let rounds = c.args.rounds in
    let one = rounds * c.args.addends.0 in
    let other = rounds * c.args.addends.1 in
    let left : HasAdded t rounds one c.in_ok-left.field-0 = search rules in
    let right : HasAdded t rounds other c.in_ok-right.field-0 = search rules in
    let all : one + other ≡ rounds * (c.args.addends.0 + c.args.addends.1) = omega arith in
    subst (λ (n : ℕ). HasAdded t rounds n c.in-Ok.both) all
    (added_both t rounds one other c.in_ok-left.field-0 c.in_ok-right.field-0 c.in-Ok.both left right c.in-Ok.ensures.joined)
