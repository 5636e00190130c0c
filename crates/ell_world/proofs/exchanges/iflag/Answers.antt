use Rattle.std.proofs.Common.{rules, ◌≡◌, ℕ, false, Some, refl, inl, inr}
use Rattle.ell_ops.specs.declared.op.Op.{Op}
use Rattle.ell_core.specs.acts.Searching.{put_of}
use Rattle.ell_core.proofs.lemmas.outcomes.Decide.{cases_put}
use Rattle.ell_core.specs.declared.event.Act.TheVariants as act
use Rattle.ell_core.specs.declared.fact.Fact.TheVariants.{IFlagged}
use Rattle.ell_core.specs.declared.put.Put.{Put}
use Rattle.ell_core.specs.declared.view.Seen.{Seen}
use Rattle.ell_layout.specs.Cards.{iflag}
use Rattle.ell_core.specs.state.Machine.{Scene}
use Rattle.ell_core.specs.acts.Exchanges.{flag_tells}
use Rattle.ell_core.specs.acts.Events.{WantsMemory}
use Rattle.ell_world.specs.Inside.{LacksAny, scene_in}
use Rattle.ell_world.proofs.lemmas.Wants.{flag_is_learned, refused_for_memory}
use Rattle.ell_world.proofs.exchanges.iflag.Goals as goal

wants : (cards : ℕ) (op : Op) (what : Put) (card : ℕ) (seen : Seen) (s : Scene) → s.worker.operation ≡ Some op → put_of op ≡ Some what → s.worker.card ≡ Some card
    → s.worker.flagged ≡ false → s.worker.search.parent ≡ Some seen
    → LacksAny s.worker.knows (flag_tells seen s.words (IFlagged card)) → WantsMemory cards act.IFlag s
wants cards op what card seen s busy puts holds unflagged behind lacks =
    let new = flag_is_learned s seen (iflag card) (IFlagged card) lacks in record {
      said = _;
      after = _;
      fact = new.0;
      lacks = new.1;
      learns = new.2;
      happens = record {
        owned = λ h. h;
        room = λ h. h;
        row = record {
          op = op;
          what = what;
          card = card;
          parent = seen;
          busy = busy;
          puts = puts;
          holds = holds;
          unflagged = unflagged;
          behind = behind;
          says = refl;
          gives = refl;
        };
      };
    }

pub returns : goal.returns
returns g c =
    let found = c.in-Some-Some-false-Some in
    let s = scene_in c.args.memory.now c.args.worker.now in
    let busy : s.worker.operation ≡ Some found.op = search rules in
    let puts : (what : Put) × (put_of found.op ≡ Some what) = elim (cases_put found.op) [ inl t ↦ t | inr n ↦ absurd (search rules) ] in
    record {
      done = search rules;
      refused = refused_for_memory c.args.memory.now.last_card act.IFlag s
          (LacksAny s.worker.knows (flag_tells found.parent s.words (IFlagged found.card)))
          c.flag.result c.flag.ensures.refused c.flag.ensures.lacks
          (λ lacks. wants c.args.memory.now.last_card found.op puts.0 found.card found.parent s
          busy puts.1 found.is-1 found.is-2 found.is-3 lacks);
      unchanged = search rules;
      words = search rules;
      same = search rules;
    }
