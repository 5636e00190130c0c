use Rattle.std.proofs.Common.{arith}
use Rattle.std.proofs.lemmas.Result.{IfOk-weaker}
use Rattle.ell_parts.specs.Made.{AreParts}
use Rattle.ell_parts.proofs.lemmas.Making.{all_are}
use Rattle.ell_parts.proofs.part.parts_in_threads.Goals as goal

pub returns : goal.returns
returns g c =
    let ops = c.args.ops.now in
    let owners = c.args.owners.now in
    IfOk-weaker c.all_made.result _ (λ parts. AreParts c.args.rounds ops owners c.args.workers parts.items)
    (λ parts same. all_are c.args.rounds ops owners c.args.workers c.in_ok-made.made.items parts.items same
    (omega (arith, c.in_ok-made.made.ok, c.in_ok-made.ensures.len))
    (λ i d below. (c.in_ok-made.ensures.each i d below).1.met))
    c.all_made.ensures
