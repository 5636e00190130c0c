use Rattle.std.proofs.Common.{rules, ◌≡◌, ℕ, Some, None, refl, ap, subst, ◌∙◌}
use Rattle.std.proofs.lemmas.Result.{err_from_is_err_and}
use Rattle.ell_word.specs.Node.{IsInternal}
use Rattle.ell_core.specs.declared.event.Act.TheVariants as act
use Rattle.ell_core.specs.declared.event.Stepped.TheVariants.{Moved}
use Rattle.ell_core.specs.state.Facts.{told_by}
use Rattle.ell_core.specs.state.Machine.{Scene}
use Rattle.ell_core.specs.acts.Events.{WantsMemory}
use Rattle.ell_world.specs.Inside.{LacksAny, worker_in, scene_in}
use Rattle.ell_world.proofs.lemmas.Wants.{any_is_learned}
use Rattle.ell_world.proofs.searching.upd.Goals as goal

wants : (cards node : ℕ) (s : Scene) → s.worker.search.node ≡ Some node → IsInternal node → s.worker.search.read ≡ None
    → LacksAny s.worker.knows (told_by (s.words.update node)) → WantsMemory cards act.Upd s
wants cards node s stands internal unread lacks =
    let new = any_is_learned s.worker.knows (told_by (s.words.update node)) lacks in record {
      said = Moved;
      after = _;
      fact = new.0;
      lacks = new.1;
      learns = new.2;
      happens = record {
        owned = λ h. h;
        room = λ h. h;
        row = record { node = node; stands = stands; internal = internal; unread = unread; says = refl; gives = refl };
      };
    }

pub returns-in_err-learn_any : goal.returns-in_err-learn_any
returns-in_err-learn_any g c =
    let p = err_from_is_err_and c.from_residual.result c.from_residual.ensures.1 in
    record {
      done = search rules;
      refused = rw (p.1, p.2) (wants c.args.memory.now.last_card c.in-Some.node (scene_in c.args.memory.now c.args.worker.now)
          (search rules) (search rules) (search rules)
          (subst (LacksAny (worker_in c.args.worker.now).knows) (c.told_by.ensures ∙ ap told_by c.update-update.ensures)
          c.in_err-learn_any.ensures.lacks));
      unchanged = search rules;
      words = search rules;
      same = search rules;
    }
