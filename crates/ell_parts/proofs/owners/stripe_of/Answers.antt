use Rattle.std.proofs.Common.{◌≡◌, ◌%◌, ◌^◌, ◌-◌, arith, subst, sym}
use Rattle.std.specs.Prelude.{bit_and}
use Rattle.std.proofs.lemmas.Nat.{and_mask}
use Rattle.ell_parts.proofs.owners.stripe_of.Goals as goal

pub returns-then-count-ilog2 : goal.returns-then-count-ilog2
returns-then-count-ilog2 c =
    let key = c.args.key in
    let is : c.args.count ≡ 2 ^ c.ilog2.result = omega (arith, c.if-count-ilog2.true) in
    subst (λ count. bit_and key (count - 1) ≡ key % count) (sym is) (and_mask key c.ilog2.result)
