use Rattle.std.proofs.Common.{◌≡◌, true, nat_le, refl, sym, ap, ◌∙◌, subst, arith, rules}
use Rattle.ell_word.specs.Link.{linked}
use Rattle.ell_word.specs.Node.{IsInternal}
use Rattle.ell_block.specs.Blocks.{InBlockOf}
use Rattle.ell_layout.specs.Words.{has_block}
use Rattle.ell_runs.specs.declared.glance.Glance.{Glance}
use Rattle.ell_runs.specs.Plans.{flat_from}
use Rattle.ell_runs.specs.Looking.{HasFoundBetween}
use Rattle.ell_runs.proofs.lemmas.views.Afters.{after_look, after_key_of}
use Rattle.ell_tree.proofs.lemmas.Counts.{look_uncounted, uncounted_looked, uncounted_one, uncounted_trans}
use Rattle.ell_tree.proofs.lemmas.Links.{node_same}
use Rattle.ell_tree.proofs.lemmas.Cursors.{come_on, found_between}
use Rattle.ell_tree.proofs.lemmas.Looks.{Comes, comes_first, comes_down, found_beside, may_down, only_none, saw_none}
use Rattle.ell_tree.proofs.lemmas.LookPlaces.{saw_on}
use Rattle.ell_tree.proofs.reading.walk_about.Goals as goal
use Rattle.ell_tree.proofs.reading.walk_about.Goals.{else-has_block-via-then-has_block+else-not-is_in_block, else-has_block-via-else-has_block}

pub loop-steps-init : goal.loop-steps-init
loop-steps-init g c =
    let f = c.look-first in
    record {
      comes = comes_first c.args.steps.table.now.plan c.args.pass.now f.new.pass c.args.key (linked f.result) f.result.node
          (node_same f.result f.ensures.word) c.requires.real f.ensures.step f.ensures.looks f.ensures.shallow f.ensures.there;
      whole = refl;
      uncounted = look_uncounted c.args.steps.table.now.plan.slots c.args.pass.now f.new.pass (after_look (linked f.result) c.args.pass.now.view) f.ensures.step refl;
    }

pub returns-then-not-is_in_block-clause-found : goal.returns-then-not-is_in_block-clause-found
returns-then-not-is_in_block-clause-found g c =
    let plan = c.args.steps.table.now.plan in
    let l = c.loop-steps in
    let k = c.look_key-node_key in
    let b = c.beside_block in
    let inner : IsInternal l.here.node = search rules in
    let has : has_block (flat_from plan) l.here.node ≡ true = search rules in
    subst (HasFoundBetween (flat_from plan) k.new.pass.view b.result.low b.result.high) (sym b.ensures.none)
    (found_beside plan c.args.pass.now l.pass k.new.pass c.args.key l.here k.result l.invariant.comes k.ensures.step b.result.low b.result.high l.invariant.whole inner has
    b.ensures.low.0 b.ensures.high.1 b.ensures.lacks)

pub returns-then-not-is_in_block-clause-only : goal.returns-then-not-is_in_block-clause-only
returns-then-not-is_in_block-clause-only g c =
    let l = c.loop-steps in
    let k = c.look_key-node_key in
    only_none c.args.steps.table.now.plan c.args.pass.now l.pass k.new.pass c.args.key l.here k.result l.invariant.comes k.ensures.step

pub returns-then-not-is_in_block-clause-saw : goal.returns-then-not-is_in_block-clause-saw
returns-then-not-is_in_block-clause-saw g c =
    let l = c.loop-steps in
    let k = c.look_key-node_key in
    saw_none c.args.steps.table.now.plan c.args.pass.now l.pass k.new.pass c.args.key l.here k.result l.invariant.comes k.ensures.step

pub returns-clause-saw : goal.returns-clause-saw
returns-clause-saw g c =
    let l = c.loop-steps in
    let f = c.found_at-at_the_leaf in
    saw_on c.args.pass.now.sight l.pass.sight f.new.pass.sight l.invariant.comes.saw f.ensures.on.sees

pub look_down-child-requires-clause-may : goal.look_down-child-requires-clause-may
look_down-child-requires-clause-may g c =
    let l = c.loop-steps in
    let k = c.look_key-node_key in
    let inner : IsInternal l.here.node = search rules in
    may_down c.args.steps.table.now.plan c.args.pass.now l.pass k.new.pass c.args.key l.here k.result l.invariant.comes k.ensures.step inner c.keys_below-keys.result
    (nat_le k.result c.args.key) (c.keys_below-keys.ensures.goes l.invariant.whole)

pub loop-steps-preserved : goal.loop-steps-preserved
loop-steps-preserved g c =
    let plan = c.args.steps.table.now.plan in
    let l = c.loop-steps in
    let k = c.look_key-node_key in
    let d = c.look_down-child in
    let keys = c.keys_below-keys in
    let inner : IsInternal l.here.node = search rules in
    let in_block : has_block (flat_from plan) l.here.node ≡ true → InBlockOf k.result c.args.key = elim c.else-has_block.branch [
      | else-has_block-via-then-has_block+else-not-is_in_block w ↦ (λ has. search rules)
      | else-has_block-via-else-has_block w ↦ (λ has. search rules)
    ] in
    let within = keys.ensures.with c.args.key l.invariant.comes.from l.invariant.comes.upto refl in_block in
    let real = l.invariant.comes.real in
    record {
      comes = subst (Comes plan c.args.pass.now d.new.pass c.args.key) (sym c.at-here.ensures)
          (comes_down plan c.args.pass.now l.pass k.new.pass c.args.key l.here k.result l.invariant.comes k.ensures.step d.new.pass keys.result (nat_le k.result c.args.key)
          (linked d.result) d.result.node (node_same d.result d.ensures.word) d.ensures.step inner d.ensures.shallow d.ensures.there
          within.0 within.1 (omega (arith, keys.ensures.high, real)));
      whole = ap (λ (h : Glance). h.whole) c.at-here.ensures ∙ keys.ensures.whole;
      uncounted = uncounted_trans c.args.pass.now l.pass d.new.pass l.made 2 l.invariant.uncounted
          (uncounted_trans l.pass k.new.pass d.new.pass 1 1 (uncounted_looked l.pass k.new.pass (after_key_of l.here.node k.result l.pass.view) k.ensures.step refl)
          (uncounted_one k.new.pass d.new.pass _ d.ensures.step refl));
    }

pub returns-clause-found : goal.returns-clause-found
returns-clause-found g c =
    let plan = c.args.steps.table.now.plan in
    let l = c.loop-steps in
    let f = c.found_at-at_the_leaf in
    let come = l.invariant.comes.as_one l.invariant.whole in
    found_between (flat_from plan) f.new.pass.view l.here f.result.0 f.ensures.tells f.ensures.low f.ensures.high
    (record { come = come_on l.pass f.new.pass 2 l.here.node l.here.low l.here.high f.ensures.on come.come; whole = come.whole })
