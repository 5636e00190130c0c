use Rattle.std.proofs.Common.{◌≡◌, ◌≢◌, ℕ, ◌+◌, nat_le, true, false, refl, sym, subst, Some, None, ◌∙◌, arith, rules}
use Rattle.ell_word.specs.Link.{linked}
use Rattle.ell_word.specs.Node.{IsInternal}
use Rattle.ell_layout.specs.Words.{IsLeaf}
use Rattle.ell_runs.proofs.lemmas.views.Afters.{after_look, after_key_of, after_value_of}
use Rattle.ell_tree.proofs.lemmas.Counts.{look_uncounted, uncounted_looked, uncounted_one, uncounted_trans}
use Rattle.ell_tree.proofs.lemmas.Looks.{comes_alone, comes_first, met_still, may_down, comes_down, down_deeper, found_none, only_none, found_some, only_some, one_none, one_some, key_only, reads_mine, saw_none, saw_some}
use Rattle.ell_tree.proofs.lemmas.Links.{node_same}
use Rattle.ell_ops.specs.Meaning.{greatest_key}
use Rattle.ell_runs.specs.declared.glance.Glance.{Glance}
use Rattle.ell_runs.specs.declared.glance.Stretch.{Stretch}
use Rattle.ell_runs.specs.Guards.{GoOnBy, MayLookDown}
use Rattle.ell_runs.specs.Plans.{flat_from}
use Rattle.ell_cards.specs.Models.{Sees}
use Rattle.ell_core.proofs.lemmas.runs.Stretches.{key_from, key_upto}
use Rattle.ell_runs.proofs.lemmas.views.Afters.{after_look_down}
use Rattle.std.proofs.lemmas.Bool.{false≢true}
use Rattle.ell_tree.proofs.reading.walk.Goals as goal

-- a node to which a look has come by one key, and the key alone
abbrev glance : ℕ → ℕ → Glance
glance node key = record { node = node; low = key; high = key + 1; whole = false }

abbrev alone : ℕ → Stretch
alone key = record { low = key; high = key + 1; whole = false }

-- it goes on by itself
goes_alone : (from node key k : ℕ) → GoOnBy from (glance node key) k (nat_le k key) (alone key)
goes_alone from node key k =
    let low = key_from k key key (omega arith) in
    let high = key_upto k (key + 1) key (omega arith) in
    record { low = low; high = omega arith; whole = λ is. absurd (false≢true is) }

pub loop-steps-init : goal.loop-steps-init
loop-steps-init g c =
    let f = c.look-first in
    record {
      comes = comes_alone c.args.steps.table.now.plan c.args.pass.now f.new.pass c.args.key f.result.node 0 (greatest_key + 1) true
          (comes_first c.args.steps.table.now.plan c.args.pass.now f.new.pass c.args.key (linked f.result) f.result.node
          (node_same f.result f.ensures.word) c.requires.real f.ensures.step f.ensures.looks f.ensures.shallow f.ensures.there);
      uncounted = look_uncounted c.args.steps.table.now.plan.slots c.args.pass.now f.new.pass (after_look (linked f.result) c.args.pass.now.view) f.ensures.step refl;
    }

pub look_key-node_key-requires-clause-own : goal.look_key-node_key-requires-clause-own
look_key-node_key-requires-clause-own g c = c.loop-steps.invariant.comes.only.own.table ∙ c.requires.may.0

pub look_key-node_key-requires-clause-met : goal.look_key-node_key-requires-clause-met
look_key-node_key-requires-clause-met g c = c.loop-steps.invariant.comes.met

pub look_down-child-requires-clause-own : goal.look_down-child-requires-clause-own
look_down-child-requires-clause-own g c =
    let l = c.loop-steps in
    let k = c.look_key-node_key in
    (key_only l.pass k.new.pass l.node k.result k.ensures.step).own.table ∙ (l.invariant.comes.only.own.table ∙ c.requires.may.0)

pub look_down-child-requires-clause-may : goal.look_down-child-requires-clause-may
look_down-child-requires-clause-may g c =
    let l = c.loop-steps in
    let k = c.look_key-node_key in
    let inner : IsInternal l.node = search rules in
    subst (λ h. MayLookDown (flat_from c.args.steps.table.now.plan) k.new.pass.view h (alone c.args.key) (nat_le k.result c.args.key)) (sym c.at.ensures)
    (may_down c.args.steps.table.now.plan c.args.pass.now l.pass k.new.pass c.args.key (glance l.node c.args.key) k.result l.invariant.comes k.ensures.step inner (alone c.args.key)
    (nat_le k.result c.args.key) (goes_alone (flat_from c.args.steps.table.now.plan) l.node c.args.key k.result))

pub loop-steps-smaller : goal.loop-steps-smaller
loop-steps-smaller g c =
    let d = c.look_down-child in
    let l = c.loop-steps in
    let k = c.look_key-node_key in
    let inner : IsInternal l.node = search rules in
    let room = l.invariant.comes.shallow.inner inner in
    let says = node_same d.result d.ensures.word in
    let deeper = down_deeper c.args.steps.table.now.plan c.args.pass.now l.pass k.new.pass c.args.key (glance l.node c.args.key) k.result l.invariant.comes k.ensures.step
    d.new.pass (alone c.args.key) (nat_le k.result c.args.key) (linked d.result) d.result.node says
    (subst (λ h. Sees k.new.pass d.new.pass (after_look_down h (alone c.args.key) (nat_le k.result c.args.key) (linked d.result) k.new.pass.view)) c.at.ensures d.ensures.step) in
    omega arith

pub loop-steps-preserved : goal.loop-steps-preserved
loop-steps-preserved g c =
    let l = c.loop-steps in
    let k = c.look_key-node_key in
    let d = c.look_down-child in
    let inner : IsInternal l.node = search rules in
    record {
      comes = comes_down c.args.steps.table.now.plan c.args.pass.now l.pass k.new.pass c.args.key (glance l.node c.args.key) k.result l.invariant.comes k.ensures.step
          d.new.pass (alone c.args.key) (nat_le k.result c.args.key) (linked d.result) d.result.node (node_same d.result d.ensures.word)
          (subst (λ h. Sees k.new.pass d.new.pass (after_look_down h (alone c.args.key) (nat_le k.result c.args.key) (linked d.result) k.new.pass.view)) c.at.ensures d.ensures.step)
          inner d.ensures.shallow d.ensures.there (omega arith) (omega arith) (let real = c.requires.real in omega arith);
      uncounted = uncounted_trans c.args.pass.now l.pass d.new.pass l.made 2 l.invariant.uncounted
          (uncounted_trans l.pass k.new.pass d.new.pass 1 1 (uncounted_looked l.pass k.new.pass (after_key_of l.node k.result l.pass.view) k.ensures.step refl)
          (uncounted_one k.new.pass d.new.pass _ d.ensures.step refl));
    }

pub look_key-leaf_key-requires-clause-own : goal.look_key-leaf_key-requires-clause-own
look_key-leaf_key-requires-clause-own g c = c.loop-steps.invariant.comes.only.own.table ∙ c.requires.may.0

pub look_key-leaf_key-requires-clause-met : goal.look_key-leaf_key-requires-clause-met
look_key-leaf_key-requires-clause-met g c = c.loop-steps.invariant.comes.met

pub returns-then-leaf_key-key-clause-found : goal.returns-then-leaf_key-key-clause-found
returns-then-leaf_key-key-clause-found g c =
    let l = c.loop-steps in
    let k = c.look_key-leaf_key in
    let outer : IsLeaf l.node = search rules in
    let other : k.result ≢ c.args.key = search rules in
    found_none c.args.steps.table.now.plan c.args.pass.now l.pass k.new.pass c.args.key (glance l.node c.args.key) k.result l.invariant.comes k.ensures.step outer other

pub returns-then-leaf_key-key-clause-only : goal.returns-then-leaf_key-key-clause-only
returns-then-leaf_key-key-clause-only g c =
    let l = c.loop-steps in
    let k = c.look_key-leaf_key in
    only_none c.args.steps.table.now.plan c.args.pass.now l.pass k.new.pass c.args.key (glance l.node c.args.key) k.result l.invariant.comes k.ensures.step

pub look_value-requires-clause-own : goal.look_value-requires-clause-own
look_value-requires-clause-own g c =
    let l = c.loop-steps in
    let k = c.look_key-leaf_key in
    (key_only l.pass k.new.pass l.node k.result k.ensures.step).own.table ∙ (l.invariant.comes.only.own.table ∙ c.requires.may.0)

pub look_value-requires-clause-met : goal.look_value-requires-clause-met
look_value-requires-clause-met g c =
    let l = c.loop-steps in
    let k = c.look_key-leaf_key in
    met_still c.args.steps.table.now.plan c.args.pass.now l.pass k.new.pass c.args.key (glance l.node c.args.key) k.result l.invariant.comes k.ensures.step

pub returns-clause-found : goal.returns-clause-found
returns-clause-found g c =
    let l = c.loop-steps in
    let k = c.look_key-leaf_key in
    let v = c.look_value in
    let outer : IsLeaf l.node = search rules in
    let same : k.result ≡ c.args.key = search rules in
    found_some c.args.steps.table.now.plan c.args.pass.now l.pass k.new.pass c.args.key (glance l.node c.args.key) k.result l.invariant.comes k.ensures.step
    v.new.pass v.result v.ensures.step outer same

pub returns-clause-only : goal.returns-clause-only
returns-clause-only g c =
    let l = c.loop-steps in
    let k = c.look_key-leaf_key in
    let v = c.look_value in
    only_some c.args.steps.table.now.plan c.args.pass.now l.pass k.new.pass c.args.key (glance l.node c.args.key) k.result l.invariant.comes k.ensures.step
    v.new.pass v.result v.ensures.step

pub returns-then-leaf_key-key-clause-saw : goal.returns-then-leaf_key-key-clause-saw
returns-then-leaf_key-key-clause-saw g c =
    let l = c.loop-steps in
    let k = c.look_key-leaf_key in
    saw_none c.args.steps.table.now.plan c.args.pass.now l.pass k.new.pass c.args.key (glance l.node c.args.key) k.result l.invariant.comes k.ensures.step

pub returns-clause-saw : goal.returns-clause-saw
returns-clause-saw g c =
    let l = c.loop-steps in
    let k = c.look_key-leaf_key in
    let v = c.look_value in
    saw_some c.args.steps.table.now.plan c.args.pass.now l.pass k.new.pass c.args.key (glance l.node c.args.key) k.result l.invariant.comes k.ensures.step
    v.new.pass v.result v.ensures.step

pub returns-then-leaf_key-key-clause-one : goal.returns-then-leaf_key-key-clause-one
returns-then-leaf_key-key-clause-one g c =
    let l = c.loop-steps in
    let k = c.look_key-leaf_key in
    one_none c.args.steps.table.now.plan c.args.pass.now l.pass k.new.pass c.args.key (glance l.node c.args.key) k.result l.invariant.comes k.ensures.step

pub returns-clause-one : goal.returns-clause-one
returns-clause-one g c =
    let l = c.loop-steps in
    let k = c.look_key-leaf_key in
    let v = c.look_value in
    one_some c.args.steps.table.now.plan c.args.pass.now l.pass k.new.pass c.args.key (glance l.node c.args.key) k.result l.invariant.comes k.ensures.step
    v.new.pass v.result v.ensures.step

pub returns-then-leaf_key-key-clause-mine : goal.returns-then-leaf_key-key-clause-mine
returns-then-leaf_key-key-clause-mine g c =
    let l = c.loop-steps in
    let k = c.look_key-leaf_key in
    let outer : IsLeaf l.node = search rules in
    let other : k.result ≢ c.args.key = search rules in
    reads_mine c.args.pass.now k.new.pass c.args.key None k.ensures.looked
    (found_none c.args.steps.table.now.plan c.args.pass.now l.pass k.new.pass c.args.key (glance l.node c.args.key) k.result l.invariant.comes k.ensures.step outer other)
    (only_none c.args.steps.table.now.plan c.args.pass.now l.pass k.new.pass c.args.key (glance l.node c.args.key) k.result l.invariant.comes k.ensures.step).worker

pub returns-clause-mine : goal.returns-clause-mine
returns-clause-mine g c =
    let l = c.loop-steps in
    let k = c.look_key-leaf_key in
    let v = c.look_value in
    let outer : IsLeaf l.node = search rules in
    let same : k.result ≡ c.args.key = search rules in
    reads_mine c.args.pass.now v.new.pass c.args.key (Some v.result) v.ensures.looked
    (found_some c.args.steps.table.now.plan c.args.pass.now l.pass k.new.pass c.args.key (glance l.node c.args.key) k.result l.invariant.comes k.ensures.step
    v.new.pass v.result v.ensures.step outer same)
    (only_some c.args.steps.table.now.plan c.args.pass.now l.pass k.new.pass c.args.key (glance l.node c.args.key) k.result l.invariant.comes k.ensures.step
    v.new.pass v.result v.ensures.step).worker

pub returns-then-leaf_key-key-clause-uncounted : goal.returns-then-leaf_key-key-clause-uncounted
returns-then-leaf_key-key-clause-uncounted g c =
    let l = c.loop-steps in
    let k = c.look_key-leaf_key in
    uncounted_trans c.args.pass.now l.pass k.new.pass l.made 1 l.invariant.uncounted
    (uncounted_looked l.pass k.new.pass (after_key_of l.node k.result l.pass.view) k.ensures.step refl)

pub returns-clause-uncounted : goal.returns-clause-uncounted
returns-clause-uncounted g c =
    let l = c.loop-steps in
    let k = c.look_key-leaf_key in
    let v = c.look_value in
    uncounted_trans c.args.pass.now l.pass v.new.pass l.made 2 l.invariant.uncounted
    (uncounted_trans l.pass k.new.pass v.new.pass 1 1 (uncounted_looked l.pass k.new.pass (after_key_of l.node k.result l.pass.view) k.ensures.step refl)
    (uncounted_looked k.new.pass v.new.pass (after_value_of l.node v.result k.new.pass.view) v.ensures.step refl))

pub overflow_add-result : goal.overflow_add-result
overflow_add-result g c =
    let i = c.loop-steps.invariant in
    let room = c.facts_stay_inside.ensures.deep in
    omega (arith, i.uncounted.made, i.comes.only.made, i.comes.few, i.comes.shallow.any, room)

pub overflow_add-result-2 : goal.overflow_add-result-2
overflow_add-result-2 g c =
    let i = c.loop-steps.invariant in
    let room = c.facts_stay_inside.ensures.deep in
    omega (arith, i.uncounted.made, i.comes.only.made, i.comes.few, i.comes.shallow.any, room)

pub overflow_add-made : goal.overflow_add-made
overflow_add-made g c =
    let i = c.loop-steps.invariant in
    let room = c.facts_stay_inside.ensures.deep in
    omega (arith, i.uncounted.made, i.comes.only.made, i.comes.few, i.comes.shallow.any, room)
