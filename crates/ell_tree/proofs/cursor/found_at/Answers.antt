use Rattle.std.proofs.Common.{inl, inr, refl, arith, rules}
use Rattle.ell_runs.specs.Depths.{deepest}
use Rattle.ell_runs.specs.Plans.{flat_from}
use Rattle.ell_runs.specs.declared.view.Told.TheVariants.{Met}
use Rattle.ell_runs.proofs.lemmas.views.Afters.{after_key_of, after_value_of}
use Rattle.ell_tree.proofs.lemmas.Counts.{uncounted_looked, uncounted_trans}
use Rattle.ell_tree.proofs.lemmas.Cursors.{asked_shallow, tells_none, tells_one, key_on, on_more, on_trans, value_on}
use Rattle.ell_tree.proofs.cursor.found_at.Goals as goal

pub returns-then-leaf_key-low-clause-tells : goal.returns-then-leaf_key-low-clause-tells
returns-then-leaf_key-low-clause-tells g c =
    let k = c.look_key-leaf_key in
    tells_none (flat_from c.args.steps.table.now.plan) c.args.pass.now k.new.pass c.args.leaf k.result c.requires.outer k.ensures.step
    (elim c.then-leaf_key-low.either [ inl less ↦ inl less | inr h ↦ inr h.1 ])

pub returns-then-leaf_key-low-clause-shallow : goal.returns-then-leaf_key-low-clause-shallow
returns-then-leaf_key-low-clause-shallow g c =
    let k = c.look_key-leaf_key in
    asked_shallow (deepest c.args.steps.table.now.plan) c.args.pass.now k.new.pass c.args.leaf.node k.result k.ensures.step
    (k.ensures.shallow c.args.leaf.node)

pub returns-clause-shallow : goal.returns-clause-shallow
returns-clause-shallow g c =
    let k = c.look_key-leaf_key in
    asked_shallow (deepest c.args.steps.table.now.plan) c.args.pass.now k.new.pass c.args.leaf.node k.result k.ensures.step
    (k.ensures.shallow c.args.leaf.node)

pub returns-then-leaf_key-low-clause-on : goal.returns-then-leaf_key-low-clause-on
returns-then-leaf_key-low-clause-on g c =
    let k = c.look_key-leaf_key in
    on_more c.args.pass.now k.new.pass 1 2 (omega arith) (key_on c.args.pass.now k.new.pass c.args.leaf.node k.result k.ensures.step)

pub look_value-value-requires-clause-met : goal.look_value-value-requires-clause-met
look_value-value-requires-clause-met g c =
    let k = c.look_key-leaf_key in
    (key_on c.args.pass.now k.new.pass c.args.leaf.node k.result k.ensures.step).told (Met c.args.leaf.node) c.requires.met

pub returns-clause-tells : goal.returns-clause-tells
returns-clause-tells g c =
    let k = c.look_key-leaf_key in
    let v = c.look_value-value in
    tells_one (flat_from c.args.steps.table.now.plan) c.args.pass.now k.new.pass c.args.leaf k.result c.requires.outer k.ensures.step v.new.pass v.result v.ensures.step
    (search rules) (search rules)

pub returns-clause-on : goal.returns-clause-on
returns-clause-on g c =
    let k = c.look_key-leaf_key in
    let v = c.look_value-value in
    on_trans c.args.pass.now k.new.pass v.new.pass 1 1 2 (key_on c.args.pass.now k.new.pass c.args.leaf.node k.result k.ensures.step)
    (value_on k.new.pass v.new.pass c.args.leaf.node v.result v.ensures.step) (omega arith)

pub returns-then-leaf_key-low-clause-uncounted : goal.returns-then-leaf_key-low-clause-uncounted
returns-then-leaf_key-low-clause-uncounted g c =
    let k = c.look_key-leaf_key in
    uncounted_looked c.args.pass.now k.new.pass (after_key_of c.args.leaf.node k.result c.args.pass.now.view) k.ensures.step refl

pub returns-clause-uncounted : goal.returns-clause-uncounted
returns-clause-uncounted g c =
    let k = c.look_key-leaf_key in
    let v = c.look_value-value in
    uncounted_trans c.args.pass.now k.new.pass v.new.pass 1 1
    (uncounted_looked c.args.pass.now k.new.pass (after_key_of c.args.leaf.node k.result c.args.pass.now.view) k.ensures.step refl)
    (uncounted_looked k.new.pass v.new.pass (after_value_of c.args.leaf.node v.result k.new.pass.view) v.ensures.step refl)
