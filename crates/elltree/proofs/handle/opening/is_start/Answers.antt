use Rattle.std.proofs.Common.{◌≤◌, arith, length, subst, sym}
use Rattle.std.proofs.lemmas.List.{length-map}
use Rattle.ell_tree.specs.Node.{most_start}
use Rattle.ell_tree.specs.declared.scanning.Pair.{Pair}
use Rattle.elltree.proofs.lemmas.HostPairs.{host_ascends}
use Rattle.elltree.proofs.handle.opening.is_start.Goals as goal

pub returns-then-start-le-START_MAX : goal.returns-then-start-le-START_MAX
returns-then-start-le-START_MAX c =
    let same = host_ascends c.args.start.now in
    let low : length c.args.start.now ≤ most_start = omega arith in (
      λ yes. record { ascending = same.0 (c.ascend.ensures.0 yes); few = subst (λ n. n ≤ most_start) (sym (length-map c.args.start.now (λ (p : Pair). (p.key, p.value)))) low },
      λ begins. c.ascend.ensures.1 (same.1 begins.ascending),
    )
