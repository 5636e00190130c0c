use Rattle.std.specs.Prelude.{◌≡◌, ℕ, ◌≤◌, List, All, length}
use Rattle.std.specs.List.Sorted.{IsStrictlyIncreasing}
use Rattle.std.specs.Map.{keys_of as keys_in}
use Rattle.ell_ops.specs.declared.op.Op.{Op}
use Rattle.ell_ops.specs.Meaning.{Fits, greatest_key}
use Rattle.ell_parts.specs.PartedOps.{PartedOps}
use Rattle.ell_word.specs.Node.{most_cards, most_start}
use Rattle.ell_run.specs.Settings.{IsAllowed, most_tries}
use Rattle.ell_run.specs.declared.runs.Limits.{Limits}

-- cards and tries are as many as there may be
pub record AreLimits (limits : Limits) : Type 0 where
  pub cards : IsAllowed most_cards limits.cards
  pub tries : IsAllowed most_tries limits.tries

-- pairs that a run can begin with: their keys strictly ascending, each of them one that may be, and no more than there
-- may be
pub record IsStart (start : List (ℕ × ℕ)) : Type 0 where
  pub ascending : IsStrictlyIncreasing (keys_in start)
  pub real : All (λ key. key ≤ greatest_key) (keys_in start)
  pub few : length start ≤ most_start

-- a list can be run from these pairs: its operations are on keys that may be, the parting is one of it, and the limits
-- are allowed
pub record IsRunnable (start : List (ℕ × ℕ)) (ops : List Op) (parting : PartedOps) (limits : Limits) : Type 0 where
  pub begins : IsStart start
  pub fits : All Fits ops
  pub parted : parting.ops ≡ ops
  pub allowed : AreLimits limits
