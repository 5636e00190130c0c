use Rattle.std.proofs.Common.{refl}
use Rattle.ell_runs.specs.Plans.{flat_from}
use Rattle.ell_cards.proofs.lemmas.views.Searches.{may_go_down}
use Rattle.ell_tree.proofs.lemmas.Searches.{descend_seeks, descend_uncounted, descend_search, descend_met, descend_passed, descend_unknown, descend_deeper, descend_fits}
use Rattle.ell_tree.proofs.searching.pass_by.Goals as goal

pub down-child-requires-clause-may : goal.down-child-requires-clause-may
down-child-requires-clause-may g c =
    may_go_down c.args.pass.now c.upd-update.new.pass c.args.op c.args.at.node c.upd-update.result c.args.at.key c.key.result
    c.upd-update.ensures.step c.key.ensures c.requires.busy c.requires.stands c.requires.node.inner c.requires.here c.requires.no_card

pub returns : goal.returns
returns g c =
    let a = c.args.pass.now in
    let b = c.upd-update.new.pass in
    let e = c.down-child.new.pass in
    let x = c.args.at.node in
    let u = c.upd-update.result in
    let l = c.down-child.result in
    let read = c.upd-update.ensures.step in
    let gone = c.down-child.ensures.step in
    let small = c.down-child.ensures.word in
    record {
      keeps_but_search = descend_seeks a b e x u l read gone;
      uncounted = descend_uncounted a b e x u l read gone;
      here = refl;
      deeper = descend_deeper a b e x u l read gone small;
      shallow = c.down-child.ensures.shallow;
      there = c.down-child.ensures.there;
      search = descend_search a b e x u l read gone small;
      met = descend_met a b e x u l read gone small;
      passed = descend_passed a b e x u l read gone c.args.steps.table.now.plan.last_card small c.requires.node c.upd-update.ensures.card;
      fits = descend_fits a b e x u l read gone (flat_from c.args.steps.table.now.plan) c.args.op c.args.at.key c.requires.told c.requires.may;
      unknown = descend_unknown a b e x u l read gone c.upd-update.ensures.unknown;
    }
