use Rattle.std.proofs.Common.{◌≡◌, subst, rules}
use Rattle.ell_core.specs.acts.Searching.{HasAnswer}
use Rattle.ell_world.specs.Inside.{scene_in}
use Rattle.ell_world.proofs.searching.answer.Goals as goal

pub returns-in_default-answer_of : goal.returns-in_default-answer_of
returns-in_default-answer_of g c =
    let s = scene_in c.args.memory.now c.args.worker.now in record {
      done = search rules;
      refused = (
        λ h. h,
        λ g.
            let same : g.row.op ≡ c.in-Some.op = cc in
            c.in_default-answer_of.ensures.none g.row.reply (subst (λ op. HasAnswer s op g.row.reply) same g.row.answers),
      );
      unchanged = search rules;
      words = search rules;
      same = search rules;
    }
