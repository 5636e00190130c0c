use Rattle.std.proofs.Common.{◌+◌, ◌*◌, refl, ap, ◌∙◌, arith, rules}
use Rattle.ell_layout.specs.Words.{IsLeaf}
use Rattle.ell_core.specs.declared.view.Search.{Search}
use Rattle.ell_runs.specs.Depths.{deepest, depth_of}
use Rattle.ell_runs.specs.Plans.{flat_from}
use Rattle.ell_runs.specs.declared.view.Told.TheVariants.{Met}
use Rattle.ell_runs.proofs.lemmas.views.Afters.{after_key_of}
use Rattle.ell_tree.specs.Searches.{below}
use Rattle.ell_tree.proofs.lemmas.Counts.{uncounted_one, uncounted_trans}
use Rattle.ell_tree.proofs.lemmas.Keeping.{keeps_but_search_trans}
use Rattle.ell_tree.proofs.lemmas.Searches.{key_seeks, value_seeks, root_asked, root_passes, stands_next, stands_asked, asked_there, asked_depth, search_ends, search_ends_above}
use Rattle.ell_tree.proofs.searching.walk.Goals as goal

pub pass_by-node-requires-clause-node : goal.pass_by-node-requires-clause-node
pass_by-node-requires-clause-node g c =
    let r = c.key_of-root_key in
    record {
      met = (key_seeks c.args.pass.now r.new.pass 0 r.result r.ensures.step).keeps.view.told (Met 0) c.requires.root.met;
      inner = refl;
      there = omega arith;
    }

pub pass_by-node-requires-clause-told : goal.pass_by-node-requires-clause-told
pass_by-node-requires-clause-told g c =
    let r = c.key_of-root_key in
    (root_asked (flat_from c.args.steps.table.now.plan) c.args.op c.args.pass.now r.new.pass r.result c.requires.root r.ensures.step r.ensures.leaf).0.told

pub pass_by-node-requires-clause-may : goal.pass_by-node-requires-clause-may
pass_by-node-requires-clause-may g c = root_passes (flat_from c.args.steps.table.now.plan) c.args.op c.key_of-root_key.result

pub loop-op-init : goal.loop-op-init
loop-op-init g c =
    let plan = c.args.steps.table.now.plan in
    let a = c.args.pass.now in
    let r = c.key_of-root_key in
    let d = c.pass_by-node in
    let x = d.result.1 in
    let root = root_asked (flat_from plan) c.args.op a r.new.pass r.result c.requires.root r.ensures.step r.ensures.leaf in
    record {
      same = (refl, refl);
      stands = record {
        search = d.ensures.search ∙ ap (λ (s : Search). below x d.result.0 s.parent) root.1;
        met = d.ensures.met;
        there = d.ensures.there;
        passed = d.ensures.passed;
        passed_above = tt;
        fits = d.ensures.fits;
        unknown = d.ensures.unknown;
        unknown_above = tt;
      };
      depth = depth_of r.new.pass.view 0;
      deep = d.ensures.deeper;
      shallow = d.ensures.shallow;
      keeps_but_search = keeps_but_search_trans a r.new.pass d.new.pass 1 2 (3 * depth_of r.new.pass.view 0 + 3)
          (key_seeks a r.new.pass 0 r.result r.ensures.step) d.ensures.keeps_but_search (omega arith);
      uncounted = uncounted_trans a r.new.pass d.new.pass 1 2 (uncounted_one a r.new.pass (after_key_of 0 r.result a.view) r.ensures.step refl) d.ensures.uncounted;
    }

pub pass_by-child-requires-clause-node : goal.pass_by-child-requires-clause-node
pass_by-child-requires-clause-node g c =
    let l = c.loop-op in
    let k = c.key_of-key in
    record {
      met = (key_seeks l.pass k.new.pass l.node k.result k.ensures.step).keeps.view.told (Met l.node) l.invariant.stands.met;
      inner = search rules;
      there = l.invariant.stands.there;
    }

pub pass_by-child-requires-clause-told : goal.pass_by-child-requires-clause-told
pass_by-child-requires-clause-told g c =
    let l = c.loop-op in
    let k = c.key_of-key in
    (asked_there (flat_from c.args.steps.table.now.plan) l.pass k.new.pass l.node k.result (ap (λ (s : Search). s.node) l.invariant.stands.search) k.ensures.step k.ensures.leaf).told

pub loop-op-preserved : goal.loop-op-preserved
loop-op-preserved g c =
    let plan = c.args.steps.table.now.plan in
    let l = c.loop-op in
    let i = l.invariant in
    let k = c.key_of-key in
    let d = c.pass_by-child in
    let x = d.result.1 in
    let same = asked_depth l.pass k.new.pass l.node k.result l.node k.ensures.step in
    rw (c.rebuild.ensures, c.rebuild-parent.ensures) (record {
      same = (refl, refl);
      stands = stands_next plan c.args.op k.new.pass.view d.new.pass.view l.node x l.parent d.result.0 l.grandparent d.ensures.keeps_but_search.keeps.view
          (stands_asked plan c.args.op l.pass k.new.pass l.node k.result l.parent l.grandparent k.ensures.step i.stands)
          d.ensures.search d.ensures.met d.ensures.there d.ensures.passed d.ensures.fits d.ensures.unknown;
      depth = depth_of l.pass.view l.node;
      deep = omega (arith, d.ensures.deeper, same);
      shallow = d.ensures.shallow;
      keeps_but_search = keeps_but_search_trans c.args.pass.now l.pass d.new.pass (3 * i.depth + 3) 3 (3 * depth_of l.pass.view l.node + 3) i.keeps_but_search
          (keeps_but_search_trans l.pass k.new.pass d.new.pass 1 2 3 (key_seeks l.pass k.new.pass l.node k.result k.ensures.step) d.ensures.keeps_but_search (omega arith))
          (let deep = i.deep in omega arith);
      uncounted = uncounted_trans c.args.pass.now l.pass d.new.pass l.made 3 i.uncounted
          (uncounted_trans l.pass k.new.pass d.new.pass 1 2 (uncounted_one l.pass k.new.pass (after_key_of l.node k.result l.pass.view) k.ensures.step refl) d.ensures.uncounted);
    })

pub returns-then-ends_at-clause-keeps_but_search : goal.returns-then-ends_at-clause-keeps_but_search
returns-then-ends_at-clause-keeps_but_search g c =
    let l = c.loop-op in
    let i = l.invariant in
    let k = c.key_of-key in
    keeps_but_search_trans c.args.pass.now l.pass k.new.pass (3 * i.depth + 3) 1 (3 * deepest c.args.steps.table.now.plan + 5) i.keeps_but_search
    (key_seeks l.pass k.new.pass l.node k.result k.ensures.step) (let deep = i.deep in let room = i.shallow.any in omega arith)

pub returns-then-ends_at-clause-ends : goal.returns-then-ends_at-clause-ends
returns-then-ends_at-clause-ends g c =
    let plan = c.args.steps.table.now.plan in
    let l = c.loop-op in
    let i = l.invariant in
    let k = c.key_of-key in
    let seeks = key_seeks l.pass k.new.pass l.node k.result k.ensures.step in
    search_ends_above plan k.new.pass.view c.args.op (record { node = l.node; key = k.result; value = 0; parent = l.parent; grandparent = l.grandparent })
    refl (seeks.keeps.view.operation ∙ i.keeps_but_search.keeps.view.operation ∙ c.requires.root.busy) (search rules)
    (stands_asked plan c.args.op l.pass k.new.pass l.node k.result l.parent l.grandparent k.ensures.step i.stands)
    (asked_there (flat_from plan) l.pass k.new.pass l.node k.result (ap (λ (s : Search). s.node) i.stands.search) k.ensures.step k.ensures.leaf)
    (c.ends_at.ensures.ends (search rules))

pub value_of-value-requires-clause-met : goal.value_of-value-requires-clause-met
value_of-value-requires-clause-met g c =
    let l = c.loop-op in
    let k = c.key_of-key-2 in
    (key_seeks l.pass k.new.pass l.node k.result k.ensures.step).keeps.view.told (Met l.node) l.invariant.stands.met

pub returns-clause-keeps_but_search : goal.returns-clause-keeps_but_search
returns-clause-keeps_but_search g c =
    let l = c.loop-op in
    let i = l.invariant in
    let k = c.key_of-key-2 in
    let v = c.value_of-value in
    keeps_but_search_trans c.args.pass.now l.pass v.new.pass (3 * i.depth + 3) 2 (3 * deepest c.args.steps.table.now.plan + 5) i.keeps_but_search
    (keeps_but_search_trans l.pass k.new.pass v.new.pass 1 1 2 (key_seeks l.pass k.new.pass l.node k.result k.ensures.step)
    (value_seeks k.new.pass v.new.pass l.node v.result v.ensures.step) (omega arith))
    (let deep = i.deep in let room = i.shallow.any in omega arith)

pub returns-clause-ends : goal.returns-clause-ends
returns-clause-ends g c =
    let plan = c.args.steps.table.now.plan in
    let l = c.loop-op in
    let i = l.invariant in
    let k = c.key_of-key-2 in
    let v = c.value_of-value in
    let seeks = key_seeks l.pass k.new.pass l.node k.result k.ensures.step in
    let outer : IsLeaf l.node = search rules in
    search_ends plan k.new.pass v.new.pass c.args.op (record { node = l.node; key = k.result; value = v.result; parent = l.parent; grandparent = l.grandparent })
    v.ensures.step (seeks.keeps.view.operation ∙ i.keeps_but_search.keeps.view.operation ∙ c.requires.root.busy) outer
    (stands_asked plan c.args.op l.pass k.new.pass l.node k.result l.parent l.grandparent k.ensures.step i.stands)
    (asked_there (flat_from plan) l.pass k.new.pass l.node k.result (ap (λ (s : Search). s.node) i.stands.search) k.ensures.step k.ensures.leaf)
    v.ensures.value
