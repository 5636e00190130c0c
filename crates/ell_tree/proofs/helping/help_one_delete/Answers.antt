use Rattle.std.proofs.Common.{◌≡◌, ◌+◌, ◌<◌, ◌≤◌, ◌++◌, ℕ, inl, ap, ◌∙◌, arith}
use Rattle.ell_runs.specs.Depths.{deepest, depth_of}
use Rattle.ell_runs.proofs.lemmas.views.Depths.{depth_more, parent_deeper}
use Rattle.ell_tree.specs.declared.helping.DeleteFlag.{DeleteFlag}
use Rattle.ell_tree.specs.declared.helping.Ending.{Ending}
use Rattle.ell_tree.specs.declared.helping.Ending.TheVariants.{Done, Backed, Behind}
use Rattle.ell_tree.specs.Ledgers.{PassModel}
use Rattle.ell_tree.specs.Helps.{DeleteEnds, HelpEnds}
use Rattle.ell_tree.specs.Hindrances.{StillKnows}
use Rattle.ell_tree.specs.Keeping.{KeepsAllButMet}
use Rattle.ell_tree.proofs.lemmas.Keeping.{keeps_but_met_more, keeps_but_met_of, keeps_but_met_trans}
use Rattle.ell_tree.proofs.lemmas.Meeting.{meets_none, meets_trans}
use Rattle.ell_tree.proofs.helping.help_one_delete.Goals as goal
use Rattle.ell_runs.specs.Plans.{TablePlan}

-- how a delete ends after words of its card were read, which say that its parent is below its grandparent
help_ends : (plan : TablePlan) (flag : DeleteFlag) (p : ℕ) (a b d : PassModel) (r : Ending) → KeepsAllButMet a b 2 → b.view.hindrances ≡ a.view.hindrances
    → StillKnows a.view b.view → depth_of a.view flag.grandparent + 1 ≤ deepest plan → depth_of a.view flag.grandparent < depth_of b.view p → DeleteEnds plan.last_card flag.card p b d r → HelpEnds plan flag a d r
help_ends plan flag p a b d Done reads quiet still low deeper h = (
  keeps_but_met_trans a b d 2 8 12 reads h.0 (omega arith),
  meets_trans a.view b.view d.view (meets_none a.view b.view quiet still) h.1,
  low,
  h.2,
)
help_ends plan flag p a b d Backed reads quiet still low deeper h = (
  keeps_but_met_trans a b d 2 10 12 reads h.0 (omega arith),
  meets_trans a.view b.view d.view (meets_none a.view b.view quiet still) h.1,
  low,
  h.2.knows,
)
help_ends plan flag p a b d (Behind next) reads quiet still low deeper h = (
  keeps_but_met_trans a b d 2 2 4 reads h.0 (omega arith),
  record {
    met = h.1.met;
    list = h.1.list ∙ ap (λ hs. h.1.met ++ hs) quiet;
    over = h.1.over;
    knows = λ f k. h.1.knows f (still f k);
  },
  h.3,
  low,
  (let same = ap (depth_of d.view) h.4 in let more = depth_more b.view.told d.view.told h.0.keeps.view.told p in omega arith),
  h.2.knows,
)

pub returns : goal.returns
returns g c =
    let plan = c.args.steps.table.now.plan in
    let flag = c.args.flag in
    let first = c.read_info-parent in
    let second = c.read_info-was in
    let a = c.args.pass.now in
    let b = second.new.pass in
    let p = first.result in
    let under = parent_deeper a.view flag.card flag.grandparent (inl c.requires.flag.knows) c.requires.flag.told in
    let there = first.ensures.deeper in
    let more = depth_more first.new.pass.view.told b.view.told second.ensures.keeps_all.keeps.view.told p in
    let room = first.ensures.shallow.inner first.ensures.node.1 in
    help_ends plan flag p a b c.finish_delete.new.pass c.finish_delete.result
    (keeps_but_met_more a first.new.pass b 1 1 2 (keeps_but_met_of a first.new.pass 1 first.ensures.keeps_all) second.ensures.keeps_all (omega arith))
    (second.ensures.keeps_all.hindrances ∙ first.ensures.keeps_all.hindrances)
    (λ f h. second.ensures.keeps_all.keeps.view.knows f (first.ensures.keeps_all.keeps.view.knows f h))
    (omega arith) (omega arith) c.finish_delete.ensures
