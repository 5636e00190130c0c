use Rattle.std.proofs.Common.{◌≡◌, ◌≢◌, ℕ, ◌+◌, ◌*◌, ◌<◌, ◌≤◌, Bool, true, false, inr, Option, Some, None, List, refl, sym, ap, ◌∙◌, subst, arith}
use Rattle.ell_ops.specs.Meaning.{greatest_key}
use Rattle.ell_word.specs.Link.{link_in}
use Rattle.ell_word.specs.Node.{IsInternal}
use Rattle.std.proofs.lemmas.Bool.{false≢true}
use Rattle.ell_block.specs.Blocks.{InBlockOf}
use Rattle.ell_layout.specs.Words.{IsLeaf, has_block}
use Rattle.ell_runs.specs.declared.view.Told.{Told}
use Rattle.ell_runs.specs.declared.view.Told.TheVariants.{Met, Key, Value}
use Rattle.ell_runs.specs.declared.glance.Glance.{Glance}
use Rattle.ell_runs.specs.declared.glance.Stretch.{Stretch}
use Rattle.ell_runs.specs.declared.view.View.{View}
use Rattle.ell_runs.specs.declared.view.Slots.{Slots}
use Rattle.ell_runs.specs.Plans.{TablePlan, flat_from}
use Rattle.ell_cards.specs.Models.{PassMemory, PassModel, Counts, Sees, some_more, LooksBy}
use Rattle.ell_runs.specs.Views.{HasCome, HasComeWhole, latest, earlier, IsTold, InTable}
use Rattle.ell_runs.proofs.lemmas.views.Afters.{after_look, after_look_down, after_key_of, after_value_of}
use Rattle.ell_runs.specs.Guards.{GoOnBy, MayLookDown}
use Rattle.ell_runs.specs.Looking.{HasFound, HasFoundBetween, ReadsItsOwn, MissesItsOwn, HasMissed}
use Rattle.ell_core.specs.state.Machine.{WorkerView}
use Rattle.ell_core.specs.state.Machine.{ledger_of}
use Rattle.ell_core.specs.statements.Effects.{contents_in}
use Rattle.ell_tree.specs.Counts.{HasUncounted}
use Rattle.ell_tree.proofs.lemmas.Counts.{took_counted}
use Rattle.ell_tree.specs.Ledgers.{Owns, present_in}
use Rattle.ell_cards.proofs.lemmas.views.Steps.{own_same, own_trans, view_seen}
use Rattle.ell_runs.specs.declared.view.Sight.{Sight}
use Rattle.ell_runs.specs.LookPlaces.{SawLookBegin}
use Rattle.ell_cards.specs.Models.{SeesInLook}
use Rattle.ell_runs.specs.Seeing.{HasSeenMore, SeesLook}
use Rattle.ell_tree.proofs.lemmas.LookPlaces.{look_more, saw_begin, saw_on, seen_more_trans, seen_no_more}
use Rattle.ell_tree.specs.Looks.{OnlyLooks, look_steps}
use Rattle.ell_runs.specs.Changes.{forgotten}
use Rattle.ell_runs.specs.Depths.{deepest, depth_of, IsShallow}
use Rattle.ell_runs.proofs.lemmas.views.Depths.{depth_more, went_deeper}

pub only_trans : (a b c : PassModel) (m n k : ℕ) → OnlyLooks a b m → OnlyLooks b c n → m + n ≤ k → OnlyLooks a c k
only_trans a b c m n k h h' le = record {
  own = own_trans a b c h.own h'.own;
  sight = seen_more_trans a.sight b.sight c.sight h.sight h'.sight;
  worker = h'.worker ∙ h.worker;
  answered = h'.answered ∙ h.answered;
  share = h'.share ∙ h.share;
  hindrances = h'.hindrances ∙ h.hindrances;
  met = h'.met ∙ h.met;
  hindered = h'.hindered ∙ h.hindered;
  next = h'.next ∙ h.next;
  knew_before = h'.knew_before ∙ h.knew_before;
  next_at_least = h'.next_at_least ∙ h.next_at_least;
  won = h'.won ∙ h.won;
  found = h'.found ∙ h.found;
  planned = h'.planned ∙ h.planned;
  stores = h'.stores ∙ h.stores;
  steps = omega (arith, h.steps, h'.steps, le);
  made = omega (arith, h.made, h'.made, le);
}

pub only_none_yet : (a : PassModel) → OnlyLooks a a 0
only_none_yet a = record {
  own = own_same a;
  sight = seen_no_more a.sight;
  worker = refl;
  answered = refl;
  share = refl;
  hindrances = refl;
  met = refl;
  hindered = refl;
  next = refl;
  knew_before = refl;
  next_at_least = refl;
  won = refl;
  found = refl;
  planned = refl;
  stores = refl;
  steps = omega arith;
  made = omega arith;
}

-- a step that moves no more than the look
only_step : (old new : PassModel) (told : List Told) (here : Option ℕ) (glances : List Glance) (looks : ℕ)
    → {memory : PassMemory} → new ≡ record old { view = record (old.view) { told = told; here = here; glances = glances; looks = looks; made = old.view.made + 1 }; memory = memory; sight = new.sight }
    → HasSeenMore old.sight new.sight → OnlyLooks old new 1
only_step old new told here glances looks s more = subst (λ (m : PassModel). OnlyLooks old m 1) (sym s) (record {
  own = own_same old;
  sight = more;
  worker = refl;
  answered = refl;
  share = refl;
  hindrances = refl;
  met = refl;
  hindered = refl;
  next = refl;
  knew_before = refl;
  next_at_least = refl;
  won = refl;
  found = refl;
  planned = refl;
  stores = refl;
  steps = omega arith;
  made = omega arith;
})

-- steps that are counted once they have been made
pub only_counted : (a b c : PassModel) (n k : ℕ) → OnlyLooks a b n → HasUncounted a b k → Counts b c k → OnlyLooks a c n
only_counted a b c n k h u s =
    let took = took_counted a b (record b { steps = some_more k b.steps }) n k (record { steps = h.steps; made = h.made }) u refl in
    subst (λ (m : PassModel). OnlyLooks a m n) (sym s) (record {
      own = own_trans a b _ h.own (own_same b);
      sight = h.sight;
      worker = h.worker;
      answered = h.answered;
      share = h.share;
      hindrances = h.hindrances;
      met = h.met;
      hindered = h.hindered;
      next = h.next;
      knew_before = h.knew_before;
      next_at_least = h.next_at_least;
      won = h.won;
      found = h.found;
      planned = h.planned;
      stores = h.stores;
      steps = took.steps;
      made = took.made;
    })

-- the steps of a look
pub look_only : (slots : Option Slots) (old new : PassModel) (n : ℕ) → LooksBy slots old new (after_look n old.view) → SeesLook old.sight new.sight → OnlyLooks old new 1
look_only slots old new n s looks = only_step old new _ _ _ _ s (look_more old.sight new.sight looks)

pub down_only : (old new : PassModel) (from : Glance) (to : Stretch) (right : Bool) (n : ℕ) → Sees old new (after_look_down from to right n old.view)
    → OnlyLooks old new 1
down_only old new from to right n s =
    let same = ap (λ (m : PassModel). m.sight) s in
    only_step old new _ _ _ _ (s ∙ ap (λ (g : Sight). record old { view = after_look_down from to right n old.view; sight = g }) (sym same))
    (subst (HasSeenMore old.sight) (sym same) (seen_no_more old.sight))

pub key_only : (old new : PassModel) (x key : ℕ) → SeesInLook old new (after_key_of x key old.view) → OnlyLooks old new 1
key_only old new x key s = only_step old new _ _ _ _ s.step s.sees.more

pub value_only : (old new : PassModel) (x value : ℕ) → SeesInLook old new (after_value_of x value old.view) → OnlyLooks old new 1
value_only old new x value s = only_step old new _ _ _ _ s.step s.sees.more

-- the view after a step of a look
pub view_looked : (old new : PassModel) (v : View) → SeesInLook old new v → new.view ≡ v
view_looked old new v s = ap (λ (m : PassModel). m.view) s.step

-- what was told stays told where a key or a value is asked
pub key_tells : (old new : PassModel) (x key : ℕ) → SeesInLook old new (after_key_of x key old.view) → (e : Told) → IsTold old.view e → IsTold new.view e
key_tells old new x key s e h = subst (λ (v : View). IsTold v e) (sym (view_looked old new (after_key_of x key old.view) s)) (earlier e _ _ h)

pub value_tells : (old new : PassModel) (x value : ℕ) → SeesInLook old new (after_value_of x value old.view) → (e : Told) → IsTold old.view e → IsTold new.view e
value_tells old new x value s e h = subst (λ (v : View). IsTold v e) (sym (view_looked old new (after_value_of x value old.view) s)) (earlier e _ _ h)

-- a look for a key has come to a node by it, and maybe others, in at most two steps for each internal node that there is down to it
pub record Comes (plan : TablePlan) (old new : PassModel) (key : ℕ) (here : Glance) : Type 0 where
  pub count : ℕ
  pub only : OnlyLooks old new count
  pub few : count + 1 ≤ 2 * depth_of new.view here.node
  pub shallow : IsShallow (deepest plan) new.view here.node
  pub come : HasCome new.view here.node here.low here.high
  pub as_one : here.whole ≡ true → HasComeWhole new.view here.node here.low here.high
  pub from : here.low ≤ key
  pub upto : key < here.high
  pub real : here.high ≤ greatest_key + 1
  pub met : IsTold new.view (Met here.node)
  pub there : InTable plan.last_card here.node
  pub one : new.view.looks ≡ old.view.looks + 1
  pub saw : SawLookBegin old.sight new.sight

pub comes_first : (plan : TablePlan) (old new : PassModel) (key n child : ℕ) → (link_in n).node ≡ child → key ≤ greatest_key → LooksBy plan.slots old new (after_look n old.view)
    → SeesLook old.sight new.sight → IsShallow (deepest plan) new.view child → InTable plan.last_card child
    → Comes plan old new key (record { node = child; low = 0; high = greatest_key + 1; whole = true })
comes_first plan old new key n child says real s looks shallow there =
    let view : new.view ≡ after_look n old.view = ap (λ (m : PassModel). m.view) s in
    let glance : Glance = record { node = (link_in n).node; low = 0; high = greatest_key + 1; whole = true } in
    record {
      count = 1;
      only = look_only plan.slots old new n s looks;
      few = (let deep = went_deeper (record (old.view) { told = forgotten }) new.view (after_look n old.view) 0 (link_in n).node child view says refl in omega arith);
      shallow = shallow;
      come = subst (λ (v : View). HasCome v child 0 (greatest_key + 1)) (sym view)
          (record { glance = glance; among = latest _ _; there = says; from = omega arith; upto = omega arith });
      as_one = λ whole. subst (λ (v : View). HasComeWhole v child 0 (greatest_key + 1)) (sym view)
          (record { come = record { glance = glance; among = latest _ _; there = says; from = omega arith; upto = omega arith }; whole = refl });
      from = omega arith;
      upto = omega arith;
      real = omega arith;
      met = subst (λ x. IsTold new.view (Met x)) says (subst (λ (v : View). IsTold v (Met (link_in n).node)) (sym view) (latest _ _));
      there = there;
      one = ap (λ (v : View). v.looks) view;
      saw = saw_begin old.sight new.sight looks;
    }

-- where a look has come by some keys it has come by a part of them
abbrev pub come_part : (v : View) (node low high from upto : ℕ) → low ≤ from → upto ≤ high → HasCome v node low high → HasCome v node from upto
come_part v node low high from upto a b c = record {
  glance = c.glance;
  among = c.among;
  there = c.there;
  from = (let f = c.from in omega arith);
  upto = (let u = c.upto in omega arith);
}

pub whole_part : (v : View) (node low high from upto : ℕ) → low ≤ from → upto ≤ high → HasComeWhole v node low high → HasComeWhole v node from upto
whole_part v node low high from upto a b c =
    record { come = come_part v node low high from upto a b c.come; whole = c.whole }

-- so it has come by the key alone
pub comes_alone : (plan : TablePlan) (old new : PassModel) (key node low high : ℕ) (whole : Bool)
    → Comes plan old new key (record { node = node; low = low; high = high; whole = whole })
    → Comes plan old new key (record { node = node; low = key; high = key + 1; whole = false })
comes_alone plan old new key node low high whole c =
    let from = c.from in
    let upto = c.upto in
    let real = c.real in record {
      count = c.count;
      only = c.only;
      few = c.few;
      shallow = c.shallow;
      come = come_part new.view node low high key (key + 1) from (omega arith) c.come;
      as_one = λ is. absurd (false≢true is);
      from = omega arith;
      upto = omega arith;
      real = omega arith;
      met = c.met;
      there = c.there;
      one = c.one;
      saw = c.saw;
    }

module _ (plan : TablePlan) (old a b : PassModel) (key : ℕ) (here : Glance) (k : ℕ) (at : Comes plan old a key here) (asked : SeesInLook a b (after_key_of here.node k a.view)) where
  asked_view : b.view ≡ after_key_of here.node k a.view
  asked_view = view_looked a b (after_key_of here.node k a.view) asked

  come_still : HasCome b.view here.node here.low here.high
  come_still = subst (λ (v : View). HasCome v here.node here.low here.high) (sym asked_view) (record {
    glance = at.come.glance;
    among = at.come.among;
    there = at.come.there;
    from = at.come.from;
    upto = at.come.upto;
  })

  pub one_still : here.whole ≡ true → HasComeWhole b.view here.node here.low here.high
  one_still whole =
      let c = at.as_one whole in
      subst (λ (v : View). HasComeWhole v here.node here.low here.high) (sym asked_view) (record {
        come = record {
          glance = c.come.glance;
          among = c.come.among;
          there = c.come.there;
          from = c.come.from;
          upto = c.come.upto;
        };
        whole = c.whole;
      })

  alone_still : HasCome b.view here.node key (key + 1)
  alone_still = let from = at.from in let upto = at.upto in come_part b.view here.node here.low here.high key (key + 1) from (omega arith) come_still

  pub told_key : IsTold b.view (Key here.node k)
  told_key = subst (λ (v : View). IsTold v (Key here.node k)) (sym asked_view) (latest (Key here.node k) a.view.told)

  pub met_still : IsTold b.view (Met here.node)
  met_still = key_tells a b here.node k asked (Met here.node) at.met

  pub deep_still : depth_of a.view here.node ≤ depth_of b.view here.node
  deep_still = depth_more a.view.told b.view.told (key_tells a b here.node k asked) here.node

  pub saw_none : SawLookBegin old.sight b.sight
  saw_none = saw_on old.sight a.sight b.sight at.saw asked.sees

  pub one_none : b.view.looks ≡ old.view.looks + 1
  one_none = ap (λ (v : View). v.looks) asked_view ∙ at.one

  pub may_down : IsInternal here.node → (to : Stretch) (right : Bool) → GoOnBy (flat_from plan) here k right to → MayLookDown (flat_from plan) b.view here to right
  may_down inner to right goes = record { come = come_still; as_one = one_still; met = met_still; inner = inner; key = k; told = told_key; goes = goes }

  -- the child to which it goes down is deeper
  pub down_deeper : (d : PassModel) (to : Stretch) (right : Bool) (n child : ℕ) → (link_in n).node ≡ child
      → Sees b d (after_look_down here to right n b.view) → depth_of a.view here.node < depth_of d.view child
  down_deeper d to right n child says s =
      let after = after_look_down here to right n b.view in
      let still = deep_still in
      let deep = went_deeper b.view d.view after here.node (link_in n).node child (view_seen b d after s) says refl in
      omega arith

  pub comes_down : (d : PassModel) (to : Stretch) (right : Bool) (n child : ℕ) → (link_in n).node ≡ child
      → Sees b d (after_look_down here to right n b.view) → IsInternal here.node → IsShallow (deepest plan) d.view child
      → InTable plan.last_card child → to.low ≤ key → key < to.high → to.high ≤ greatest_key + 1
      → Comes plan old d key (record { node = child; low = to.low; high = to.high; whole = to.whole })
  comes_down d to right n child says s inner shallow there low high real =
      let view = view_seen b d (after_look_down here to right n b.view) s in
      let next : Glance = record { node = (link_in n).node; low = to.low; high = to.high; whole = to.whole } in
      record {
        count = at.count + 2;
        only = only_trans old a d at.count 2 (at.count + 2) at.only
            (only_trans a b d 1 1 2 (key_only a b here.node k asked) (down_only b d here to right n s) (omega arith)) (omega arith);
        few = (let few = at.few in let deep = down_deeper d to right n child says s in omega arith);
        shallow = shallow;
        come = subst (λ (v : View). HasCome v child to.low to.high) (sym view)
            (record { glance = next; among = latest _ _; there = says; from = omega arith; upto = omega arith });
        as_one = λ whole. subst (λ (v : View). HasComeWhole v child to.low to.high) (sym view)
            (record { come = record { glance = next; among = latest _ _; there = says; from = omega arith; upto = omega arith }; whole = whole });
        from = low;
        upto = high;
        real = real;
        met = subst (λ x. IsTold d.view (Met x)) says (subst (λ (v : View). IsTold v (Met (link_in n).node)) (sym view) (latest _ _));
        there = there;
        one = ap (λ (v : View). v.looks) view ∙ one_none;
        saw = subst (SawLookBegin old.sight) (sym (ap (λ (m : PassModel). m.sight) s)) saw_none;
      }

  -- a stretch that the node's block lacks, around the key
  pub found_beside : (low high : ℕ) → here.whole ≡ true → IsInternal here.node → has_block (flat_from plan) here.node ≡ true → here.low ≤ low → high ≤ here.high
      → ((j : ℕ) → low ≤ j → j < high → ¬ InBlockOf k j) → HasFoundBetween (flat_from plan) b.view low high None
  found_beside low high whole inner has from upto lacks = record {
    node = here.node;
    node_key = k;
    comes = whole_part b.view here.node here.low here.high low high from upto (one_still whole);
    told = told_key;
    tells = inr (inner, has, lacks);
  }

  pub found_none : IsLeaf here.node → k ≢ key → HasFound b.view key None
  found_none outer other = record { leaf = here.node; leaf_key = k; comes = alone_still; outer = outer; told = told_key; tells = other }

  pub only_none : OnlyLooks old b (look_steps (deepest plan))
  only_none = only_trans old a b at.count 1 (look_steps (deepest plan)) at.only (key_only a b here.node k asked)
      (let few = at.few in let room = at.shallow.any in omega arith)

  pub found_some : (d : PassModel) (value : ℕ) → SeesInLook b d (after_value_of here.node value b.view) → IsLeaf here.node → k ≡ key → HasFound d.view key (Some value)
  found_some d value s outer same =
      let view = view_looked b d (after_value_of here.node value b.view) s in
      record {
        leaf = here.node;
        leaf_key = k;
        comes = subst (λ (v : View). HasCome v here.node key (key + 1)) (sym view) (record {
          glance = alone_still.glance;
          among = alone_still.among;
          there = alone_still.there;
          from = alone_still.from;
          upto = alone_still.upto;
        });
        outer = outer;
        told = value_tells b d here.node value s (Key here.node k) told_key;
        tells = (same, subst (λ (v : View). IsTold v (Value here.node value)) (sym view) (latest (Value here.node value) b.view.told));
      }

  pub only_some : (d : PassModel) (value : ℕ) → SeesInLook b d (after_value_of here.node value b.view) → OnlyLooks old d (look_steps (deepest plan))
  only_some d value s = only_trans old a d at.count 2 (look_steps (deepest plan)) at.only
      (only_trans a b d 1 1 2 (key_only a b here.node k asked) (value_only b d here.node value s) (omega arith))
      (let few = at.few in let room = at.shallow.any in omega arith)

  pub one_some : (d : PassModel) (value : ℕ) → SeesInLook b d (after_value_of here.node value b.view) → d.view.looks ≡ old.view.looks + 1
  one_some d value s = ap (λ (v : View). v.looks) (view_looked b d (after_value_of here.node value b.view) s) ∙ one_none

  pub saw_some : (d : PassModel) (value : ℕ) → SeesInLook b d (after_value_of here.node value b.view) → SawLookBegin old.sight d.sight
  saw_some d value s = saw_on old.sight b.sight d.sight saw_none s.sees

-- what a look has found of a key of the pass's own is what its ledger had
pub reads_mine : (old new : PassModel) (key : ℕ) (there : Option ℕ) → ReadsItsOwn new.view → HasFound new.view key there → new.view.worker ≡ old.view.worker
    → Owns old key → there ≡ present_in old key
reads_mine old new key there reads found same owns =
    reads key there found (subst (λ (w : WorkerView). ledger_of w.ledger key ≢ None) (sym same) owns)
    ∙ ap (λ (w : WorkerView). contents_in (ledger_of w.ledger) key) same

-- and what it has found missing of its own keys its ledger had absent
pub misses_mine : (from : ℕ) (old new : PassModel) (key : ℕ) → MissesItsOwn from new.view → HasMissed from new.view key → new.view.worker ≡ old.view.worker
    → Owns old key → None ≡ present_in old key
misses_mine from old new key misses missed same owns =
    misses key missed (subst (λ (w : WorkerView). ledger_of w.ledger key ≢ None) (sym same) owns)
    ∙ ap (λ (w : WorkerView). contents_in (ledger_of w.ledger) key) same
