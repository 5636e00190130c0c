use Rattle.std.proofs.Common.{◌≡◌, ℕ, ◌+◌, ◌*◌, ◌<◌, length, get_or}
use Rattle.ell_parts.proofs.owners.range_starts.Given as goal

-- one first key for each worker so far but the first
abbrev pub invariant-loop-worker : goal.invariant-loop-worker
invariant-loop-worker g l = record {
  within : (m : ℕ) → m < length l.starts.items → (m + 1) * l.share < length l.keys;
  each : (m : ℕ) → m < length l.starts.items → get_or l.starts.items m 0 ≡ get_or l.keys ((m + 1) * l.share) 0;
  count : length l.starts.items + 1 ≡ l.worker;
}
