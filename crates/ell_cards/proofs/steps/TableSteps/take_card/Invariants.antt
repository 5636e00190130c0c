use Rattle.std.proofs.Common.{◌≡◌, ◌+◌, ◌*◌, Some}
use Rattle.ell_runs.specs.Plans.{new_node}
use Rattle.ell_cards.specs.Claiming.{AsksForCard, ClaimsInVain}
use Rattle.ell_cards.proofs.steps.TableSteps.take_card.Given as goal

-- each card so far was claimed in vain
abbrev pub invariant-loop : goal.invariant-loop
invariant-loop g l = record {
  same : (l.self.table.now ≡ l.fn.self.table.now) × (l.node_key ≡ l.fn.node_key);
  slots : l.fn.self.table.now.plan.slots ≡ Some l.slots;
  end : l.end ≡ l.slots.last + 2;
  asks : AsksForCard l.fn.self.table.now.plan (new_node l.fn.self.table.now.plan l.fn.node_key) (2 * l.counter) l.fn.pass l.pass;
  vain : ClaimsInVain l.fn.pass l.pass;
}
