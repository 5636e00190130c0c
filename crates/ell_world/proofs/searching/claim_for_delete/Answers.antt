use Rattle.std.proofs.Common.{rules, arith, ◌<◌, sym, ◌∙◌, refl, inl, inr}
use Rattle.ell_core.specs.declared.event.Stepped.TheVariants.{Moved}
use Rattle.ell_core.specs.acts.Searching.{IsClean}
use Rattle.ell_world.specs.Inside.{words_in}
use Rattle.ell_world.proofs.searching.claim_for_delete.Goals as goal

pub returns-then-card-memory : goal.returns-then-card-memory
returns-then-card-memory g c =
    let full : c.args.memory.now.last_card < (words_in c.args.memory.now).next = omega arith in
    let calm : IsClean c.in-Some.grandparent.word = search rules in record {
      done = search rules;
      refused = (
        λ h. h,
        record {
          said = Moved;
          after = _;
          row = inr (record {
            key = c.args.key;
            leaf = c.args.at.leaf;
            parent = c.args.at.parent;
            grandparent = c.in-Some.grandparent;
            deletes = c.requires.deletes;
            ready = inl c.requires.at.no_card;
            at = c.requires.at.at;
            present = sym c.key.ensures ∙ c.if-key.false;
            above = c.in-Some.is;
            calm = calm;
            says = refl;
            gives = refl;
          });
        },
        full,
      );
      unchanged = search rules;
      words = search rules;
      same = search rules;
    }
