use Rattle.std.specs.Prelude.{◌≡◌, ◌⊎◌, ℕ, ◌+◌, ◌*◌, ◌<◌, ◌≤◌, ◌↔◌, false, None, Some, List, [], ◌∷◌, length, All, Vec}
use Rattle.std.specs.List.{list_any, sum_by}
use Rattle.std.specs.List.Sorted.{IsStrictlyIncreasing}
use Rattle.ell_ops.specs.declared.op.Op.{Op}
use Rattle.ell_ops.specs.KeySet.{KeySet, Lists}
use Rattle.ell_ops.specs.Meaning.{key_of, final}
use Rattle.ell_parts.specs.PartedOps.{PartedOps, IsLawful, part, keys_of_part}
use Rattle.ell_cards.specs.Models.{KeepsItsOwn}
use Rattle.ell_tree.specs.Ledgers.{PassModel, TreeModel, Owns, IsIdle, answers, hindrances, present_in}
use Rattle.ell_tree.specs.PassParts.{IsLeftPart, IsRightPart}
use Rattle.ell_run.specs.ByParts.{ops_in}
use Rattle.ell_runs.specs.Plans.{TablePlan}
use Rattle.ell_run.specs.Steps.{AreWithin, total_steps, work_steps}
use Rattle.ell_run.specs.Pieces.{ArePieces, IsPiece, all_not_done, all_workers, busy, front, lists_of, one_not_done, ops_done}
use Rattle.ell_ops.specs.declared.reply.Reply.{Reply}

-- the pass owns the keys of numbered operations
abbrev pub OwnsKeysOf : PassModel → List (ℕ × Op) → Type 0
OwnsKeysOf pass items = All (λ item. Owns pass (key_of item.1)) items

-- the keys of the parts of workers
abbrev pub keys_for : PartedOps → List ℕ → KeySet
keys_for parting workers = λ key. list_any (λ worker. keys_of_part (part parting worker) key) workers

-- the tree begins with these pairs, and shares no key; each card has words of its own
pub record IsUnsharedFrom (start : List (ℕ × ℕ)) (tree : TreeModel) : Type 0 where
  pub begins : tree.plan.start ≡ start
  pub unshared : tree.plan.shared ≡ false
  pub plain : tree.plan.slots ≡ None

-- workers can set to work on their parts with a pass
pub record AreReady (tree : TreeModel) (parting : PartedOps) (workers : List ℕ) (pass : PassModel) : Type 0 where
  pub lawful : IsLawful parting
  pub known : All (λ worker. worker < parting.workers) workers
  pub ascending : IsStrictlyIncreasing workers
  pub own : pass.table ≡ tree.id
  pub idle : IsIdle pass
  pub owned : All (λ worker. OwnsKeysOf pass (part parting worker)) workers

-- a pass was split: its left part has the keys of these workers, and its right part the rest
pub record AreHalves (parting : PartedOps) (low : List ℕ) (pass left right : PassModel) : Type 0 where
  pub keys : List ℕ
  pub listed : Lists (keys_for parting low) keys
  pub on_left : IsLeftPart keys pass left
  pub on_right : IsRightPart keys pass right

-- the pass has read in the claim word that all cards are given out
pub record HasNoCards (cards : ℕ) (pass : PassModel) : Type 0 where
  pub next : ℕ
  pub read : pass.view.next ≡ Some next
  pub past : cards < next

-- why so many operations were not done: something was in the way of each of them at each of its tries, or all cards are
-- given out, as the pass that comes back has read; where cards lie in slots, each slot may have been in use instead
abbrev pub AreNotDone : TablePlan → ℕ → ℕ → PassModel → PassModel → Type 0
AreNotDone plan tries count before after =
    (plan.slots ≡ None → HasNoCards plan.last_card after) ⊎ (hindrances before + tries * count ≤ hindrances after)

-- a front of numbered operations was done with a pass, and this piece answers it; the operation behind it, if there is
-- one, was not done
pub record IsWorkedOff (plan : TablePlan) (tries : ℕ) (items : List (ℕ × Op)) (before after : PassModel)
    (piece : List (ℕ × Reply)) : Type 0 where
  pub own : KeepsItsOwn before after
  pub idle : IsIdle after
  pub told : IsPiece (present_in before) items piece
  pub map : present_in after ≡ final (present_in before) (ops_in (front items piece))
  pub owned : (key : ℕ) → Owns after key ↔ Owns before key
  pub answers : answers after ≡ answers before + length piece
  pub not_done : AreNotDone plan tries (one_not_done items piece) before after

-- workers have worked with a pass, and left these pieces: the pass has the map that what they did leaves, one worker's
-- operations after the other's; each operation behind a piece was not done
pub record IsWorked (plan : TablePlan) (tries : ℕ) (parting : PartedOps) (workers : List ℕ) (before after : PassModel)
    (pieces : List (List (ℕ × Reply))) : Type 0 where
  pub table : after.table ≡ before.table
  pub idle : IsIdle after
  pub told : ArePieces (present_in before) parting workers pieces
  pub map : present_in after ≡ final (present_in before) (ops_done parting workers pieces)
  pub owned : (key : ℕ) → Owns after key ↔ Owns before key
  pub answers : answers after ≡ answers before + sum_by length pieces
  pub not_done : AreNotDone plan tries (all_not_done parting workers pieces) before after

-- the label of a pass that workers have worked with, each under its number: the first one's, or what it was if there is
-- none
abbrev pub label_after : PassModel → List ℕ → ℕ
label_after before [] = before.label
label_after before (worker ∷ workers) = worker

-- workers have worked with a pass, and made no more steps than they may
pub record IsWorkedWithin (plan : TablePlan) (tries : ℕ) (parting : PartedOps) (workers : List ℕ) (before after : PassModel)
    (pieces : List (List (ℕ × Reply))) : Type 0 where
  pub worked : IsWorked plan tries parting workers before after pieces
  pub within : AreWithin plan parting workers before after
  pub label : after.label ≡ label_after before workers

-- the same of a tree, where the pass that comes back and the pieces stand together
abbrev pub HaveWorked : {Z : Type 0} → TreeModel → ℕ → PartedOps → List ℕ → PassModel → PassModel
    × Vec (Vec (ℕ × Reply) Z) Z → Type 0
HaveWorked tree tries parting workers before done =
    IsWorkedWithin tree.plan tries parting workers before done.0 (lists_of done.1.items)

-- all workers of a parting have worked with a pass, and made at most `more` steps above those that the ones with
-- something to do may make
pub record AllHaveWorked {Z : Type 0} (tree : TreeModel) (tries more : ℕ) (parting : PartedOps) (before : PassModel)
    (done : PassModel × Vec (Vec (ℕ × Reply) Z) Z) : Type 0 where
  pub worked : IsWorked tree.plan tries parting (all_workers parting) before done.0 (lists_of done.1.items)
  pub bounded : done.0.steps ≤ before.steps + work_steps tree.plan parting (busy parting) + more
  pub total : tree.plan.slots ≡ None
      → done.0.view.made ≤ before.view.made + total_steps tree.plan parting (busy parting) + more
