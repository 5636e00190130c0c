use Rattle.std.proofs.Common.{◌≡◌, ◌+◌, ◌≤◌, None, length}
use Rattle.ell_ops.specs.Meaning.{key_of, reply_of}
use Rattle.ell_runs.specs.Changes.{tries_hindered}
use Rattle.ell_tree.specs.CardsTaken.{TakesAtMost}
use Rattle.ell_tree.specs.Ends.{try_steps_in}
use Rattle.ell_tree.specs.Hindrances.{AreOver, Meets, way_of}
use Rattle.ell_tree.specs.Ledgers.{Owns, present_in}
use Rattle.ell_runs.specs.Seeing.{SeesBegin}
use Rattle.ell_cards.specs.Models.{KeepsItsOwn}
use Rattle.ell_cards.specs.Stepping.{LetsGo}
use Rattle.ell_runs.specs.Views.{SameShare}
use Rattle.ell_tree.specs.Searches.{AtRoot}
use Rattle.ell_tree.specs.Tries.{Stops}
use Rattle.ell_tree.specs.Milestones.{milestones_known}
use Rattle.ell_tree.proofs.lemmas.Counts.{TookRounds}
use Rattle.ell_tree.proofs.operations.change.Given as goal
use Rattle.ell_core.specs.statements.Effects.{reply_of_change}

-- each try so far met something in its way
abbrev pub invariant-loop-round : goal.invariant-loop-round
invariant-loop-round g l = record {
  same : (l.op ≡ l.fn.op) × (l.steps.table.now ≡ l.fn.steps.table.now) × (l.tries ≡ l.fn.tries);
  own : KeepsItsOwn l.fn.pass l.pass;
  sight : SeesBegin l.op l.fn.pass.sight l.pass.sight;
  ledger : l.pass.view.worker.ledger ≡ l.fn.pass.view.worker.ledger;
  share : SameShare l.fn.pass.view l.pass.view;
  stops : Stops l.op l.pass.view;
  retired : LetsGo l.steps.table.now.plan l.pass;
  root : l.round ≡ 0 → AtRoot l.op l.pass.view;
  would : 1 ≤ l.round → Owns l.fn.pass (key_of l.op) → reply_of l.op (present_in l.fn.pass) ≡ reply_of_change l.op;
  meets : Meets l.fn.pass.view l.pass.view;
  way : AreOver l.pass.view (way_of l.op l.pass.view);
  hindrances : length l.fn.pass.view.hindrances + l.round ≤ length (way_of l.op l.pass.view) + length l.pass.view.hindrances;
  hindered : tries_hindered l.pass.view ≡ l.fn.pass.view.hindered + l.round;
  milestones : milestones_known l.steps.table.now.plan.last_card l.fn.pass.view + l.round ≤ milestones_known l.steps.table.now.plan.last_card l.pass.view;
  taken : l.steps.table.now.plan.slots ≡ None → TakesAtMost l.round l.fn.pass l.pass;
  rounds : TookRounds l.steps.table.now.plan l.round (try_steps_in l.steps.table.now.plan) l.fn.pass l.pass;
}
