use Rattle.std.proofs.Common.{◌≡◌, ◌≢◌, ◌<◌, ◌≤◌, ◌*◌, ◌+◌, None, Some}
use Rattle.ell_ops.specs.declared.op.Op.TheVariants.{Find}
use Rattle.ell_ops.specs.Meaning.{found}
use Rattle.ell_tree.specs.CardsTaken.{TakesAtMost, TakesByHindered}
use Rattle.ell_tree.specs.Computing.{Concludes, IsUntouched, LastChangesNothing, round_steps_in}
use Rattle.ell_tree.specs.Counts.{TookIn}
use Rattle.ell_tree.specs.Ends.{CountsTries, find_steps}
use Rattle.ell_tree.specs.Ledgers.{Owns, answers, present_in}
use Rattle.ell_tree.specs.Milestones.{milestones_known}
use Rattle.ell_tree.specs.Promises.{MayDo}
use Rattle.ell_tree.proofs.removing.remove_if.Given as goal
use Rattle.ell_runs.specs.Depths.{deepest}

-- each try so far was hindered, or another pass had changed the key; what was found last is there
abbrev pub invariant-loop-round : goal.invariant-loop-round
invariant-loop-round g l = record {
  same : (l.key ≡ l.fn.key) × (l.steps.table.now ≡ l.fn.steps.table.now) × (l.tries ≡ l.fn.tries) × (l.was ≡ l.fn.was);
  may : MayDo l.steps.table.now l.key l.pass;
  untouched : IsUntouched l.fn.pass l.pass;
  reads : l.there ≢ Some l.fn.was → Concludes l.fn.steps.table.now (Find l.fn.key) (found l.there) l.fn.pass l.pass;
  own : Owns l.fn.pass l.fn.key → present_in l.fn.pass l.fn.key ≡ l.there;
  last : 1 ≤ l._round → l.there ≡ Some l.fn.was → LastChangesNothing l.fn.steps.table.now l.fn.key l.pass.view;
  took : TookIn l.fn.steps.table.now.plan l.fn.pass l.pass (find_steps (deepest l.fn.steps.table.now.plan) + l._round * round_steps_in l.fn.steps.table.now.plan);
  counted : CountsTries l._round l.fn.pass l.pass;
  hindered : Owns l.fn.pass l.fn.key → l.pass.view.hindered ≡ l.fn.pass.view.hindered + l._round;
  milestones : Owns l.fn.pass l.fn.key
      → milestones_known l.fn.steps.table.now.plan.last_card l.fn.pass.view + l._round ≤ milestones_known l.fn.steps.table.now.plan.last_card l.pass.view;
  tried : Owns l.fn.pass l.fn.key → 1 ≤ l._round → l.there ≡ Some l.fn.was;
  made : l.fn.pass.view.hindered + answers l.fn.pass + l._round < l.pass.view.hindered + answers l.pass;
  cards : l.fn.steps.table.now.plan.slots ≡ None → TakesAtMost l._round l.fn.pass l.pass;
  few : l.fn.steps.table.now.plan.slots ≡ None → TakesByHindered l.fn.pass l.pass;
}
