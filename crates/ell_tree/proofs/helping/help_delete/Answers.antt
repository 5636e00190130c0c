use Rattle.std.proofs.Common.{rules, ◌≡◌, ◌⊎◌, ℕ, ◌+◌, ◌*◌, ◌-◌, ◌≤◌, inl, inr, refl, subst, arith}
use Rattle.ell_tree.specs.declared.helping.DeleteFlag.{DeleteFlag}
use Rattle.ell_tree.specs.declared.helping.Ending.{Ending}
use Rattle.ell_tree.specs.declared.helping.Ending.TheVariants.{Done, Backed, Behind}
use Rattle.ell_tree.specs.Ledgers.{PassModel}
use Rattle.ell_tree.specs.Helps.{HelpEnds, chain_steps}
use Rattle.ell_tree.specs.Hindrances.{Meets}
use Rattle.ell_tree.specs.Keeping.{KeepsAllButMet}
use Rattle.ell_tree.proofs.lemmas.Keeping.{keeps_but_met_trans}
use Rattle.ell_tree.proofs.lemmas.Meeting.{delete_ended_still, up_to_none, up_to_trans, up_to_end}
use Rattle.ell_tree.proofs.helping.help_delete.Goals as goal
use Rattle.ell_runs.specs.Depths.{deepest, depth_of}
use Rattle.ell_runs.specs.Plans.{TablePlan}
use Rattle.ell_runs.specs.Dead.{KnowsDeleteEnded}

pub loop-next-init : goal.loop-next-init
loop-next-init g c = record {
  same = refl;
  flag = c.requires.flag;
  down = omega arith;
  ended = inl refl;
  meets = up_to_none c.args.flag.card c.args.pass.now.view;
  keeps_but_met = search rules;
}

-- one delete more of the chain has ended
still_ended : (first flag : DeleteFlag) (v w : PassModel) (n : ℕ) → KeepsAllButMet v w n → (flag ≡ first) ⊎ KnowsDeleteEnded v.view first.card
    → KnowsDeleteEnded w.view flag.card → KnowsDeleteEnded w.view first.card
still_ended first flag v w n h (inl same) ended = subst (λ (f : DeleteFlag). KnowsDeleteEnded w.view f.card) same ended
still_ended first flag v w n h (inr before) ended = delete_ended_still v.view w.view first.card h.keeps.view.knows before

pub loop-next-preserved : goal.loop-next-preserved
loop-next-preserved g c =
    let i = c.loop-next.invariant in
    let h = c.in-Behind.ensures in
    record {
      same = i.same;
      flag = h.2;
      down = omega (arith, i.down, h.4);
      ended = inr (still_ended c.args.flag c.loop-next.flag c.loop-next.pass c.help_one_delete.new.pass 4 h.0 i.ended (inr h.5));
      meets = up_to_trans c.loop-next.flag.card c.in-Behind.next.card c.args.pass.now.view c.loop-next.pass.view c.help_one_delete.new.pass.view i.meets h.1
          (inr h.5);
      keeps_but_met = keeps_but_met_trans c.args.pass.now c.loop-next.pass c.help_one_delete.new.pass (4 * (depth_of c.loop-next.pass.view c.loop-next.flag.grandparent - depth_of c.args.pass.now.view c.args.flag.grandparent)) 4
          (4 * (depth_of c.help_one_delete.new.pass.view c.in-Behind.next.grandparent - depth_of c.args.pass.now.view c.args.flag.grandparent)) i.keeps_but_met h.0
          (omega (arith, i.down, h.4));
    }

pub loop-next-smaller : goal.loop-next-smaller
loop-next-smaller g c =
    let h = c.in-Behind.ensures in
    omega (arith, h.3, h.4)

-- the last delete of a chain
last_ends : (plan : TablePlan) (flag : DeleteFlag) (old new : PassModel) (r : Ending) → HelpEnds plan flag old new r → ((next : DeleteFlag) → r ≡ Behind next → ⊥)
    → KeepsAllButMet old new 12 × Meets old.view new.view × (depth_of old.view flag.grandparent + 1 ≤ deepest plan) × KnowsDeleteEnded new.view flag.card
last_ends plan flag old new Done h last = (h.0, h.1, h.2, inl h.3)
last_ends plan flag old new Backed h last = (h.0, h.1, h.2, inr h.3)
last_ends plan flag old new (Behind next) h last = absurd (last next refl)

pub returns : goal.returns
returns g c =
    let i = c.loop-next.invariant in
    let new = c.help_one_delete.new.pass in
    let last = last_ends c.args.steps.table.now.plan c.loop-next.flag c.loop-next.pass new c.help_one_delete.result c.help_one_delete.ensures c.in_default.not-Behind in
    record {
      keeps_but_met = keeps_but_met_trans c.args.pass.now c.loop-next.pass new (4 * (depth_of c.loop-next.pass.view c.loop-next.flag.grandparent - depth_of c.args.pass.now.view c.args.flag.grandparent)) 12
          (chain_steps (deepest c.args.steps.table.now.plan) (depth_of c.args.pass.now.view c.args.flag.grandparent)) i.keeps_but_met last.0 (omega (arith, i.down, last.2));
      meets = up_to_end c.loop-next.flag.card c.args.pass.now.view c.loop-next.pass.view new.view i.meets last.1 last.3;
      ended = still_ended c.args.flag c.loop-next.flag c.loop-next.pass new 12 last.0 i.ended last.3;
    }
