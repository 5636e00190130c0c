use Rattle.std.proofs.Common.{arith, rules, ◌<◌, ◌≤◌, ap, ◌∙◌, refl, inl, false, Some}
use Rattle.ell_core.specs.declared.event.Stepped.TheVariants.{Moved}
use Rattle.ell_layout.specs.Cards.{table_claimed, insert_filling}
use Rattle.ell_word.specs.Link.{node_bound, tag_unit}
use Rattle.ell_word.specs.Node.{right_leaf}
use Rattle.ell_layout.proofs.lemmas.Claims.{tables_claim}
use Rattle.ell_world.specs.Inside.{words_in, worker_in, scene_in}
use Rattle.ell_world.proofs.lemmas.Puts.{claims_at_leaf}
use Rattle.ell_world.proofs.searching.claim_for_put.Goals as goal

pub returns-then-card-memory : goal.returns-then-card-memory
returns-then-card-memory g c =
    let full : c.args.memory.now.last_card < (words_in c.args.memory.now).next = omega arith in record {
      done = search rules;
      refused = (
        λ h. h,
        record {
          said = Moved;
          after = _;
          row = inl (claims_at_leaf (scene_in c.args.memory.now c.args.worker.now) c.requires.ready.plain c.args.op c.args.what
              c.args.at.leaf c.args.at.parent _ c.requires.busy c.requires.puts c.requires.at (search rules) refl);
        },
        full,
      );
      unchanged = search rules;
      words = search rules;
      same = search rules;
    }

pub returns : goal.returns
returns g c =
    let w = words_in c.args.memory.now in
    let what = c.args.what in
    let at = c.args.at in
    let room : w.next ≤ c.args.memory.now.last_card = omega arith in
    let low : right_leaf w.next < tag_unit = omega (arith, c.requires.ready.sized.limit) in
    let small : at.leaf < node_bound = omega (arith, c.requires.ready.sized.limit, (c.requires.ready.fits.worker.node at.leaf c.requires.at.at.stands).0) in
    let filling = c.insert_filling.ensures
    ∙ (λ t. insert_filling (c.next-card.ensures t) what.key what.value at.parent.node (c.word.ensures t) (c.key-leaf_key.ensures t) (c.value-leaf_value.ensures t)) in
    let claim = (tables_claim w at.parent.node at.leaf at.parent.tag small).insert what.key what.value (w.key at.leaf) (w.value at.leaf) low in
    let words = c.claim.ensures.words ∙ (ap (table_claimed w) filling ∙ claim) in
    record {
      done = record {
        owned = λ h. h;
        row = inl (claims_at_leaf (scene_in c.args.memory.now c.args.worker.now) c.requires.ready.plain c.args.op what at.leaf
            at.parent _ c.requires.busy c.requires.puts c.requires.at (search rules) (λ t. record {
              words = words t;
              worker = record (worker_in c.args.worker.now) { card = Some (c.next-card.ensures t); flagged = false };
            }));
        room = λ full. (let past : c.args.memory.now.last_card < w.next = full in omega arith);
      };
      refused = search rules;
      unchanged = search rules;
      words = search rules;
      same = search rules;
    }
