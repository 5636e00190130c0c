use Rattle.std.specs.Prelude.{◌≡◌, ◌≢◌, ℕ, ◌+◌, ◌*◌, ◌<◌, ◌≤◌, Bool, false, Result, Ok, Err}
use Rattle.ell_core.specs.state.Machine.{worker_of}
use Rattle.ell_core.specs.soundness.Sound.{MayChange}
use Rattle.ell_runs.specs.Contention.{AreHinderedByOthers}
use Rattle.ell_tree.specs.declared.operations.NotDone.{NotDone}
use Rattle.ell_tree.specs.declared.operations.NotDone.TheVariants.{Busy}
use Rattle.ell_tree.specs.CardsTaken.{TakesAtMost, TakesCards, TakesNoCard}
use Rattle.ell_tree.specs.Counts.{IsAmortized, TookIn}
use Rattle.ell_tree.specs.Ends.{CountsTries, change_steps_in}
use Rattle.ell_tree.specs.Hindrances.{Meets}
use Rattle.ell_tree.specs.Ledgers.{IsIdle, Owns, PassModel, TreeModel}
use Rattle.ell_tree.specs.Milestones.{milestones_known}

-- a pass may find or change a key of this tree: it is a pass of the tree, with nothing in hand, and owns the key, or
-- the key is shared
pub record MayDo (t : TreeModel) (key : ℕ) (p : PassModel) : Type 0 where
  pub own : p.table ≡ t.id
  pub idle : IsIdle p
  pub may : MayChange (worker_of p.view.worker) key

-- It makes at most `tries * (7 * depth + 27) + 1` steps, and also at most `7 * depth + 28`, and `7 * depth + 27` for
-- each milestone that the pass comes to know. It counts at most `tries` tries.
pub record IsWithin (t : TreeModel) (tries : ℕ) (old new : PassModel) : Type 0 where
  pub most : TookIn t.plan old new (change_steps_in t.plan tries)
  pub amortized : IsAmortized t.plan old new
  pub counted : CountsTries tries old new

-- With more than `2 * cards` tries it is never `Busy`.
abbrev pub HasEnough : {A : Type 0} → TreeModel → ℕ → Result A NotDone → Type 0
HasEnough t tries result = 2 * t.plan.last_card < tries → result ≢ Err Busy

-- On a key of the pass, it is never `Busy` with more than `2 * cards` tries.
abbrev pub HasEnoughForOwn : {A : Type 0} → TreeModel → ℕ → ℕ → PassModel → Result A NotDone → Type 0
HasEnoughForOwn t key tries old result = Owns old key → HasEnough t tries result

-- A `Busy` call counts each of its tries as hindered. Each shows the pass a milestone that it did not know, and in
-- every run they are no more than others' acts allow.
pub record IsOthersDoing (t : TreeModel) (tries : ℕ) (old new : PassModel) : Type 0 where
  pub each : new.view.hindered ≡ old.view.hindered + tries
  pub milestones : milestones_known t.plan.last_card old.view + tries ≤ milestones_known t.plan.last_card new.view
  pub by_others : AreHinderedByOthers t.plan old.view.hindered new.view tries

-- On a key of the pass, a `Busy` call counts each of its tries as hindered, because of what others did.
abbrev pub IsOthersDoingForOwn : {A : Type 0} → TreeModel → ℕ → ℕ → PassModel → PassModel → Result A NotDone → Type 0
IsOthersDoingForOwn t key tries old new result = Owns old key → result ≡ Err Busy → IsOthersDoing t tries old new

-- Where no card comes back, it takes one card if it changes the map, at most one more for each hindered try, and never
-- more than `tries`. If it changes nothing of a key of the pass, it takes none.
pub record SpendsCards {E : Type 0} (key tries : ℕ) (old new : PassModel) (result : Result Bool E) : Type 0 where
  pub most : TakesAtMost tries old new
  pub each : TakesCards old new result
  pub unchanged : Owns old key → result ≡ Ok false → TakesNoCard old new

-- Nothing is in its way, no try is counted as hindered, and the pass forgets no milestone.
pub record IsQuiet (t : TreeModel) (old new : PassModel) : Type 0 where
  pub calm : new.view.hindrances ≡ old.view.hindrances
  pub meets : Meets old.view new.view
  pub hindered : new.view.hindered ≡ old.view.hindered
  pub milestones : milestones_known t.plan.last_card old.view ≤ milestones_known t.plan.last_card new.view
