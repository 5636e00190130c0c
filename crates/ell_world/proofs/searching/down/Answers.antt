use Rattle.std.proofs.Common.{rules, ◌≡◌, ℕ, Some, None, refl, ap, ◌∙◌}
use Rattle.ell_ops.specs.declared.op.Op.{Op}
use Rattle.ell_ops.specs.Meaning.{key_of}
use Rattle.ell_word.specs.Node.{IsInternal}
use Rattle.ell_word.specs.declared.link.Link.{Link}
use Rattle.ell_core.specs.declared.event.Act.TheVariants as act
use Rattle.ell_core.specs.declared.event.Stepped.TheVariants.{Moved}
use Rattle.ell_core.specs.declared.view.Seen.{Seen}
use Rattle.ell_layout.specs.Cards.{is_right, child_for, tag_for}
use Rattle.ell_core.specs.state.Machine.{Scene}
use Rattle.ell_core.specs.acts.Searching.{gone_down}
use Rattle.ell_core.specs.acts.Events.{Happens}
use Rattle.ell_world.specs.Inside.{words_in, scene_in}
use Rattle.ell_world.proofs.searching.down.Goals as goal

goes : (cards : ℕ) (s : Scene) (op : Op) (seen : Seen) (child : ℕ) → s.worker.operation ≡ Some op
    → s.worker.search.node ≡ Some seen.node → IsInternal seen.node → s.worker.search.read ≡ Some seen.word → s.worker.card ≡ None
    → seen.tag ≡ tag_for s.words (key_of op) seen.node → child ≡ child_for s.words (key_of op) seen.node
    → Happens cards act.Down s Moved (record s { worker = record (s.worker) { search = gone_down s.worker.search seen child } })
goes cards s op seen child busy stands internal read no_card tagged is = record {
  owned = λ h. h;
  room = λ h. h;
  row = record {
    op = op;
    seen = seen;
    busy = busy;
    stands = stands;
    internal = internal;
    read = read;
    no_card = no_card;
    tagged = tagged;
    says = refl;
    gives = ap (λ (n : ℕ). record s { worker = record (s.worker) { search = gone_down s.worker.search seen n } }) is;
  };
}

pub returns : goal.returns
returns g c =
    let words = words_in c.args.memory.now in
    let node = c.in-Some-Some-Some.node in
    let side = c.is_right.ensures ∙ ap (is_right words node) c.key.ensures in
    record {
      done = goes c.args.memory.now.last_card (scene_in c.args.memory.now c.args.worker.now) c.in-Some-Some-Some.op
          (record { node = node; word = c.in-Some-Some-Some.word; tag = c.child_link-child.result.tag }) c.child_link-child.result.node
          c.in-Some-Some-Some.is-0 c.in-Some-Some-Some.is-1 (search rules) c.in-Some-Some-Some.is-2 (search rules)
          (ap (λ (link : Link). link.tag) c.child_link-child.ensures ∙ ap (words.tag node) side)
          (ap (λ (link : Link). link.node) c.child_link-child.ensures ∙ ap (words.child node) side);
      refused = search rules;
      unchanged = search rules;
      words = search rules;
      same = search rules;
    }
