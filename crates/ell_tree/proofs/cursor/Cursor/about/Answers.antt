use Rattle.std.proofs.Common.{◌+◌, ◌%◌, nat_le, refl, ap, sym, ◌∙◌, subst, arith, rules}
use Rattle.ell_word.specs.Link.{linked}
use Rattle.ell_word.specs.Node.{IsInternal}
use Rattle.ell_runs.specs.declared.glance.Glance.{Glance}
use Rattle.ell_runs.specs.Looking.{KeysAreFixed}
use Rattle.ell_runs.specs.Plans.{flat_from}
use Rattle.ell_cards.specs.Models.{PassModel}
use Rattle.ell_runs.specs.declared.view.View.{View}
use Rattle.ell_tree.specs.Cursors.{AreKept, FindsAbout}
use Rattle.ell_tree.specs.Looks.{stretch_steps}
use Rattle.ell_tree.proofs.lemmas.Counts.{counted_all, uncounted_looked, uncounted_none, uncounted_one, uncounted_trans}
use Rattle.ell_tree.proofs.lemmas.Cursors.{GoesDown, all_on, asked_shallow, finds_about, keeps_first, kept_on, goes_down, child_deeper, keeps_found, on_counted, key_on, kept_still, may_go_down, one_kept, stands_still}
use Rattle.ell_tree.proofs.lemmas.LookPlaces.{places_counted}
use Rattle.ell_tree.proofs.lemmas.Links.{node_same}
use Rattle.ell_tree.proofs.cursor.Cursor.about.Goals as goal
use Rattle.ell_tree.proofs.cursor.Cursor.about.Goals.{then-not-right, else-not-right}
use Rattle.ell_runs.specs.Depths.{deepest, depth_of}

pub loop-steps-init : goal.loop-steps-init
loop-steps-init g c =
    let s = c.start-here in
    record {
      keeps = keeps_first c.args.steps.table.now.plan.last_card c.args.pass.now c.args.key s.result c.args.self.now s.new.self c.requires.kept s.ensures.among s.ensures.from s.ensures.upto
          s.ensures.first s.ensures.kept;
      uncounted = uncounted_none c.args.pass.now;
    }

pub look_down-child-requires-clause-may : goal.look_down-child-requires-clause-may
look_down-child-requires-clause-may g c =
    let l = c.loop-steps in
    let k = c.look_key-node_key in
    let inner : IsInternal l.here.node = search rules in
    let keys = c.on_side-keys in
    may_go_down c.args.steps.table.now.plan.last_card c.args.pass.now l.pass k.new.pass c.args.key l.here l.self k.result l.invariant.keeps k.ensures.step
    (flat_from c.args.steps.table.now.plan) keys.result (nat_le k.result c.args.key) inner keys.ensures.low keys.ensures.high keys.ensures.apart

pub loop-steps-preserved : goal.loop-steps-preserved
loop-steps-preserved g c =
    let l = c.loop-steps in
    let k = c.look_key-node_key in
    let d = c.look_down-child in
    let cards = c.args.steps.table.now.plan.last_card in
    let keys = c.on_side-keys in
    let inner : IsInternal l.here.node = search rules in
    let still = kept_still cards c.args.pass.now l.pass k.new.pass c.args.key l.here l.self k.result l.invariant.keeps k.ensures.step in
    let stands = stands_still cards c.args.pass.now l.pass k.new.pass c.args.key l.here l.self k.result l.invariant.keeps k.ensures.step in
    let kept : AreKept cards k.new.pass.view c.if-not-right.self = elim c.if-not-right.branch [
      | then-not-right w ↦
          subst (AreKept cards k.new.pass.view) (sym w.self-is)
          (one_kept cards k.new.pass.view l.self w.keep.new.self (l.self.count % 32) l.here (omega arith) w.keep.ensures.first w.keep.ensures.kept stands still)
      | else-not-right w ↦ subst (AreKept cards k.new.pass.view) (sym w.self-is) still
    ] in
    record {
      keeps = subst (λ h. GoesDown cards c.args.pass.now d.new.pass c.args.key h c.if-not-right.self) (sym c.at-here.ensures)
          (goes_down cards c.args.pass.now l.pass k.new.pass c.args.key l.here l.self k.result l.invariant.keeps k.ensures.step d.new.pass keys.result (nat_le k.result c.args.key)
          (linked d.result) d.result.node c.if-not-right.self (node_same d.result d.ensures.word) d.ensures.step inner d.ensures.below d.ensures.there refl
          keys.ensures.low keys.ensures.high keys.ensures.apart kept);
      uncounted = uncounted_trans c.args.pass.now l.pass d.new.pass l.made 2 l.invariant.uncounted
          (uncounted_trans l.pass k.new.pass d.new.pass 1 1 (uncounted_looked l.pass k.new.pass _ k.ensures.step refl) (uncounted_one k.new.pass d.new.pass _ d.ensures.step refl));
    }

pub loop-steps-smaller : goal.loop-steps-smaller
loop-steps-smaller g c =
    let d = c.look_down-child in
    let l = c.loop-steps in
    let k = c.look_key-node_key in
    let cards = c.args.steps.table.now.plan.last_card in
    let inner : IsInternal l.here.node = search rules in
    let room = (asked_shallow (deepest c.args.steps.table.now.plan) l.pass k.new.pass l.here.node k.result k.ensures.step (k.ensures.shallow l.here.node)).inner inner in
    let deeper = child_deeper cards c.args.pass.now l.pass k.new.pass c.args.key l.here l.self k.result l.invariant.keeps k.ensures.step d.new.pass c.on_side-keys.result (nat_le k.result c.args.key)
    (linked d.result) d.result.node (node_same d.result d.ensures.word) d.ensures.step in
    let is = ap (λ (h : Glance). depth_of d.new.pass.view h.node) c.at-here.ensures in
    omega arith

pub look_key-node_key-requires-clause-own : goal.look_key-node_key-requires-clause-own
look_key-node_key-requires-clause-own g c = c.loop-steps.invariant.keeps.on.only.own.table ∙ c.requires.own

pub look_key-node_key-requires-clause-met : goal.look_key-node_key-requires-clause-met
look_key-node_key-requires-clause-met g c = c.loop-steps.invariant.keeps.stands.met

pub look_down-child-requires-clause-own : goal.look_down-child-requires-clause-own
look_down-child-requires-clause-own g c =
    let l = c.loop-steps in
    let k = c.look_key-node_key in
    (key_on l.pass k.new.pass l.here.node k.result k.ensures.step).only.own.table ∙ (l.invariant.keeps.on.only.own.table ∙ c.requires.own)

pub returns : goal.returns
returns g c =
    let l = c.loop-steps in
    let f = c.found_at-at_the_leaf in
    let cards = c.args.steps.table.now.plan.last_card in
    let steps = l.made + f.result.1 in
    let all = uncounted_trans c.args.pass.now l.pass f.new.pass l.made f.result.1 l.invariant.uncounted f.ensures.uncounted in
    let view = ap (λ (m : PassModel). m.view) c.count.ensures in
    record {
      found = subst (λ (v : View). FindsAbout cards v c.args.key f.result.0) (sym view)
          (finds_about cards (flat_from c.args.steps.table.now.plan) f.new.pass.view c.args.key l.here f.result.0 f.ensures.tells f.ensures.low f.ensures.high
          (kept_on cards l.pass f.new.pass 2 l.here f.ensures.on l.invariant.keeps.stands) l.invariant.keeps.from l.invariant.keeps.upto f.ensures.mine);
      kept = subst (λ (v : View). AreKept cards v l.self) (sym view) (all_on cards l.pass f.new.pass 2 l.self f.ensures.on l.invariant.keeps.kept);
      fixed = subst KeysAreFixed (sym view) f.ensures.fixed;
      counted = counted_all c.args.pass.now f.new.pass c.count.new.self steps all c.count.ensures;
      places = places_counted c.args.steps.table.now.plan f.new.pass c.count.new.self steps c.count.ensures f.ensures.places;
      on = on_counted c.args.pass.now f.new.pass c.count.new.self (stretch_steps (deepest c.args.steps.table.now.plan)) steps
          (keeps_found cards (deepest c.args.steps.table.now.plan) c.args.pass.now l.pass f.new.pass c.args.key l.here l.self l.invariant.keeps f.ensures.shallow f.ensures.on) all c.count.ensures;
    }

pub overflow_add-made-2 : goal.overflow_add-made-2
overflow_add-made-2 g c =
    let i = c.loop-steps.invariant in
    let room = c.facts_stay_inside.ensures.deep in
    omega (arith, i.uncounted.made, i.keeps.on.only.made, i.keeps.few, c.found_at-at_the_leaf.ensures.shallow.any, c.found_at-at_the_leaf.ensures.few, room)

pub overflow_add-made : goal.overflow_add-made
overflow_add-made g c =
    let l = c.loop-steps in
    let i = l.invariant in
    let k = c.look_key-node_key in
    let room = c.facts_stay_inside.ensures.deep in
    let shallow = asked_shallow (deepest c.args.steps.table.now.plan) l.pass k.new.pass l.here.node k.result k.ensures.step (k.ensures.shallow l.here.node) in
    omega (arith, i.uncounted.made, i.keeps.on.only.made, i.keeps.few, shallow.any, room)
