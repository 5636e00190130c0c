use Rattle.elltree.proofs.lemmas.HostPairs.{real_pairs}
use Rattle.elltree.proofs.handle.opening.are_keys.Goals as goal

pub returns : goal.returns
returns c =
    let same = real_pairs c.args.start.now in (
      λ yes. same.0 (c.all_fit.ensures.0 yes),
      λ keys. c.all_fit.ensures.1 (same.1 keys),
    )
