use Rattle.std.specs.Prelude.{◌≡◌, ℕ, ◌+◌, ◌-◌, ◌%◌, ◌^◌, ◌<◌, ◌≤◌, ◌==◌, if◌then◌else◌, Bool, true, false}
use Rattle.std.specs.Prelude.{nat_lt, Some, None, unwrap_or, List, [], ◌∷◌, length}
use Rattle.std.specs.List.{AllPass, sum_by}
use Rattle.ell_tree.specs.Op.{Op}
use Rattle.ell_tree.specs.Op.TheVariants.{Delete, Find, Insert, Swap}
use Rattle.ell_tree.specs.Reply.{Reply}
use Rattle.ell_tree.specs.Reply.TheVariants.{Yes, Found}
use Rattle.ell_tree.specs.Act.{Act}
use Rattle.ell_tree.specs.Called.{SeesRead}
use Rattle.ell_tree.specs.Computing.{AreTried, IsNotDone}
use Rattle.ell_tree.specs.Contents.{contents_of}
use Rattle.ell_tree.specs.Ledgers.{IsIdlePassOf, TreeModel}
use Rattle.ell_tree.specs.Models.{PassModel}
use Rattle.ell_tree.specs.Views.{whole_share}
use Rattle.ell_tree.specs.declared.operations.NotDone.TheVariants.{Busy}
use Rattle.shared_counter.specs.declared.adding.TheConstants.{COUNTER, TRIES}
use Rattle.shared_counter.specs.declared.fault.CountFault.{CountFault}
use Rattle.shared_counter.specs.declared.fault.CountFault.TheVariants.{Add, Memory, NoCounter}

-- the value that the counter has first
abbrev pub start_of : TreeModel → ℕ
start_of t = unwrap_or (contents_of t.plan.start COUNTER) 0

-- a tree that shares each key, and has the counter alone first, with this value
pub record StartsWith (value : ℕ) (t : TreeModel) : Type 0 where
  pub keys : t.plan.keys ≡ []
  pub start : t.plan.start ≡ (COUNTER, value) ∷ []
  pub shared : t.plan.shared ≡ true

-- a tree that shares its keys, and has a counter first
pub record IsCounter (t : TreeModel) : Type 0 where
  pub there : contents_of t.plan.start COUNTER ≡ Some (start_of t)
  pub fits : start_of t < 2 ^ 64
  pub shared : t.plan.shared ≡ true

-- what a call with this answer adds to the counter: a swap that finds its first value the difference of its values,
-- modulo 2^64
abbrev pub adds : Op → Reply → ℕ
adds (Swap key was value) (Found there) =
    if there == was then (if key == COUNTER then (value + 2 ^ 64 - was) % 2 ^ 64 else 0) else 0
adds _ _ = 0

-- at most, it gives a key of the map another value, of 64 bits
abbrev pub only_swaps : Op → Reply → Bool
only_swaps (Insert key value) Yes = false
only_swaps (Delete key) Yes = false
only_swaps (Swap key was value) (Found there) = if there == was then nat_lt value (2 ^ 64) else true
only_swaps _ _ = true

-- what the calls of a pass have added, its own and those of the passes that were joined to it
abbrev pub added_by : PassModel → ℕ
added_by p = sum_by (λ (a : Act). adds a.op a.said) p.sight.mine

-- a pass of a tree that has nothing in hand, and may add to each key, has made at least so many calls, which have added
-- this to the counter, and done nothing else
pub record HasAdded (t : TreeModel) (calls amount : ℕ) (p : PassModel) : Type 0 where
  pub idle : IsIdlePassOf t p
  pub ownable : p.view.worker.shared ≡ Some []
  pub many : calls ≤ length p.sight.mine
  pub added : added_by p ≡ amount
  pub only : AllPass (λ (a : Act). only_swaps a.op a.said) p.sight.mine

-- the last call of a pass found this value of the counter
abbrev pub LastFinds : ℕ → List Act → Type 0
LastFinds value [] = ⊥
LastFinds value (a ∷ mine) = (a.op ≡ Find COUNTER) × (a.said ≡ Found value)

-- two passes have together the share of one
abbrev pub joined_share : ℕ → ℕ → ℕ
joined_share one other = (one + other) % 2 ^ 64

-- four passes have made no call, and have the whole share together
pub record AreNew (t : TreeModel) (passes : (PassModel × PassModel) × (PassModel × PassModel)) : Type 0 where
  pub first : HasAdded t 0 0 passes.0.0
  pub second : HasAdded t 0 0 passes.0.1
  pub third : HasAdded t 0 0 passes.1.0
  pub fourth : HasAdded t 0 0 passes.1.1
  pub whole : joined_share (joined_share passes.0.0.view.share passes.0.1.view.share)
      (joined_share passes.1.0.view.share passes.1.1.view.share) ≡ whole_share

-- why a count has no result, by the pass that comes back: its last addition was not done, after all tries or since no
-- card was left; or it found no counter; or it was not joined to another one, after all its additions
abbrev pub Fails : TreeModel → ℕ → PassModel → CountFault → Type 0
Fails t rounds p (Add why) = (old : PassModel) × IsNotDone t COUNTER old p why × (why ≡ Busy → AreTried TRIES old p)
Fails t rounds p NoCounter = (old : PassModel) × SeesRead COUNTER None old p
Fails t rounds p (Memory no_memory) = rounds ≤ length p.sight.mine
Fails t rounds p _ = ⊥
