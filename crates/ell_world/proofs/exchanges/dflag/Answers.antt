use Rattle.std.proofs.Common.{rules, ◌≡◌, ℕ, false, Some, refl}
use Rattle.ell_ops.specs.declared.op.Op.TheVariants.{Delete}
use Rattle.ell_core.specs.declared.event.Act.TheVariants as act
use Rattle.ell_core.specs.declared.fact.Fact.TheVariants.{DFlagged}
use Rattle.ell_core.specs.declared.view.Seen.{Seen}
use Rattle.ell_layout.specs.Cards.{dflag}
use Rattle.ell_core.specs.state.Machine.{Scene}
use Rattle.ell_core.specs.acts.Exchanges.{flag_tells}
use Rattle.ell_core.specs.acts.Events.{WantsMemory}
use Rattle.ell_world.specs.Inside.{LacksAny, scene_in}
use Rattle.ell_world.proofs.lemmas.Wants.{flag_is_learned, refused_for_memory}
use Rattle.ell_world.proofs.exchanges.dflag.Goals as goal

wants : (cards key card : ℕ) (seen : Seen) (s : Scene) → s.worker.operation ≡ Some (Delete key) → s.worker.card ≡ Some card
    → s.worker.flagged ≡ false → s.worker.search.grandparent ≡ Some seen
    → LacksAny s.worker.knows (flag_tells seen s.words (DFlagged card)) → WantsMemory cards act.DFlag s
wants cards key card seen s deletes holds unflagged above lacks =
    let new = flag_is_learned s seen (dflag card) (DFlagged card) lacks in record {
      said = _;
      after = _;
      fact = new.0;
      lacks = new.1;
      learns = new.2;
      happens = record {
        owned = λ h. h;
        room = λ h. h;
        row = record {
          key = key;
          card = card;
          grandparent = seen;
          deletes = deletes;
          holds = holds;
          unflagged = unflagged;
          above = above;
          says = refl;
          gives = refl;
        };
      };
    }

pub returns : goal.returns
returns g c =
    let found = c.in-Some-Delete-Some-false-Some in
    let s = scene_in c.args.memory.now c.args.worker.now in
    let with_key : (key : ℕ) × (s.worker.operation ≡ Some (Delete key)) = search rules in
    record {
      done = search rules;
      refused = refused_for_memory c.args.memory.now.last_card act.DFlag s
          (LacksAny s.worker.knows (flag_tells found.grandparent s.words (DFlagged found.card)))
          c.flag.result c.flag.ensures.refused c.flag.ensures.lacks
          (λ lacks. wants c.args.memory.now.last_card with_key.0 found.card found.grandparent s
          with_key.1 found.is-1 found.is-2 found.is-3 lacks);
      unchanged = search rules;
      words = search rules;
      same = search rules;
    }
