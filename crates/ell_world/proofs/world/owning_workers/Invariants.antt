use Rattle.std.proofs.Common.{◌≡◌, ℕ, length, take}
use Rattle.ell_core.specs.state.Machine.{nobody}
use Rattle.ell_world.specs.Inside.{worker_at}
use Rattle.ell_core.specs.state.Opening.{FaultlessBefore}
use Rattle.ell_world.proofs.lemmas.Workers.{HaveLedgers}
use Rattle.ell_world.proofs.lemmas.Faults.{HasKeys}
use Rattle.ell_world.proofs.world.owning_workers.Given as goal

-- so many workers so far, all of them nobody
abbrev pub invariant-loop : goal.invariant-loop
invariant-loop g l = record {
  count : length l.workers.items ≡ l.counter;
  new : (i : ℕ) → worker_at l.workers.items i ≡ nobody;
}

-- the workers have the ledgers of the entries so far, the set has their keys, and none of them has a fault
abbrev pub invariant-loop-worker : goal.invariant-loop-worker
invariant-loop-worker g l = record {
  count : length l.workers.items ≡ l.count;
  ledgers : HaveLedgers l.workers.items l.start (take l.worker-index l.owned);
  taken : HasKeys l.taken.keys (take l.worker-index l.owned);
  faultless : FaultlessBefore l.count l.owned l.worker-index;
}
