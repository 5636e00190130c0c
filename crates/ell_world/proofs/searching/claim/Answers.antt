use Rattle.std.proofs.Common.{rules}
use Rattle.ell_world.specs.Inside.{scene_in}
use Rattle.ell_world.proofs.lemmas.Puts.{no_claim}
use Rattle.ell_world.proofs.searching.claim.Goals as goal

pub returns-in_default : goal.returns-in_default
returns-in_default g c =
    let s = scene_in c.args.memory.now c.args.worker.now in record {
      done = search rules;
      refused = (λ h. h, no_claim s c.requires.plain (search rules));
      unchanged = search rules;
      words = search rules;
      same = search rules;
    }
