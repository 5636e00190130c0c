use Rattle.std.specs.Prelude.{◌≡◌, ℕ, ◌+◌, ◌-◌, ◌%◌, ◌^◌, ◌≤◌, true, if◌then◌else◌, Some, None, List, max, false}
use Rattle.ell_ops.specs.KeySet.{set_of}
use Rattle.ell_ops.specs.Contents.{contents_of}
use Rattle.ell_cards.specs.Models.{KeepsItsOwn, PassModel, one_more}
use Rattle.ell_runs.specs.Views.{given_share, whole_share}
use Rattle.ell_runs.specs.Sights.{given_sight, joined_sight, no_sight}
pub use Rattle.ell_runs.specs.Changes.{later_reading, ownable_if}
pub use Rattle.std.specs.Option.{option_or}
use Rattle.ell_tree.specs.CardsTaken.{cards_taken}
use Rattle.ell_tree.specs.Milestones.{milestones_known}
use Rattle.ell_tree.specs.Ledgers.{TreeModel, ledger, present_in, answers, hindrances, IsIdle}
pub use Rattle.ell_core.specs.state.Opening.{start_entry}
use Rattle.ell_core.specs.statements.Premises.{entry_or}

-- the first pass of a tree: it owns the keys of the tree's plan, of which the start keys are present with their values,
-- and the others absent; it has the whole share, and has seen nothing of the tree's history
pub record IsFirst (t : TreeModel) (p : PassModel) : Type 0 where
  pub own : p.table ≡ t.id
  pub ledger : (k : ℕ) → ledger p k ≡ (if set_of t.plan.keys k then Some (start_entry t.plan.start k) else None)
  pub each : (k : ℕ) → set_of t.plan.keys k ≡ true → present_in p k ≡ contents_of t.plan.start k
  pub present : t.plan.shared ≡ false → present_in p ≡ contents_of t.plan.start
  pub answers : answers p ≡ 0
  pub hindrances : hindrances p ≡ 0
  pub hindered : p.view.hindered ≡ 0
  pub taken : cards_taken p ≡ 0
  pub steps : p.steps ≡ 0
  pub made : p.view.made ≡ 0
  pub label : p.label ≡ 0
  pub safe_epoch : p.memory.safe_epoch ≡ 0
  pub milestones : (last : ℕ) → milestones_known last p.view ≡ 0
  pub share : p.view.share ≡ whole_share
  pub ownable : p.view.worker.shared ≡ ownable_if t.plan.shared t.plan.keys
  pub idle : IsIdle p
  pub unpinned : p.memory.is_pinned ≡ false
  pub sight : p.sight ≡ no_sight

-- the left part of a pass: it has these keys as the pass had them, and keeps the counts, the safe epoch, and what the
-- pass knows of the history; of the steps made, the split is its own
pub record IsLeftPart (keys : List ℕ) (p part : PassModel) : Type 0 where
  pub own : KeepsItsOwn p part
  pub ledger : (k : ℕ) → ledger part k ≡ (if set_of keys k then ledger p k else None)
  pub answers : answers part ≡ answers p
  pub hindrances : hindrances part ≡ hindrances p
  pub hindered : part.view.hindered ≡ p.view.hindered
  pub taken : cards_taken part ≡ cards_taken p
  pub steps : part.steps ≡ one_more p.steps
  pub made : part.view.made ≡ p.view.made + 1
  pub safe_epoch : part.memory.safe_epoch ≡ p.memory.safe_epoch
  pub milestones : (last : ℕ) → milestones_known last part.view ≡ milestones_known last p.view
  pub share : part.view.share ≡ p.view.share - given_share p.view.share
  pub ownable : part.view.worker.shared ≡ p.view.worker.shared
  pub idle : IsIdle part
  pub pinned : part.memory.is_pinned ≡ p.memory.is_pinned
  pub sight : part.sight ≡ p.sight

-- the right part: it has the other keys, and counts anew; it is not pinned, has looked at no announcement yet, and has
-- seen of the history what the pass has, with no calls of its own
pub record IsRightPart (keys : List ℕ) (p part : PassModel) : Type 0 where
  pub own : KeepsItsOwn p part
  pub ledger : (k : ℕ) → ledger part k ≡ (if set_of keys k then None else ledger p k)
  pub answers : answers part ≡ 0
  pub hindrances : hindrances part ≡ 0
  pub hindered : part.view.hindered ≡ 0
  pub taken : cards_taken part ≡ 0
  pub steps : part.steps ≡ one_more p.steps
  pub made : part.view.made ≡ 0
  pub safe_epoch : part.memory.safe_epoch ≡ 0
  pub milestones : (last : ℕ) → milestones_known last part.view ≡ milestones_known last p.view
  pub share : part.view.share ≡ given_share p.view.share
  pub ownable : part.view.worker.shared ≡ p.view.worker.shared
  pub idle : IsIdle part
  pub unpinned : part.memory.is_pinned ≡ false
  pub sight : part.sight ≡ given_sight p.sight

-- two passes in one: it has the keys and the calls of both, adds the counts, and has the later reading of the claim
-- word, the left one's safe epoch, and the longer one of the beginnings of the history that they have seen
pub record IsUnion (left right both : PassModel) : Type 0 where
  pub own : KeepsItsOwn left both
  pub ledger : (k : ℕ) → ledger both k ≡ entry_or (ledger left k) (ledger right k)
  pub answers : answers both ≡ answers left + answers right
  pub hindrances : hindrances both ≡ hindrances left + hindrances right
  pub hindered : both.view.hindered ≡ left.view.hindered + right.view.hindered
  pub taken : cards_taken both ≡ cards_taken left + cards_taken right
  pub next : both.view.next ≡ later_reading left.view.next right.view.next
  pub steps : both.steps ≡ one_more (max left.steps right.steps)
  pub made : both.view.made ≡ left.view.made + right.view.made + 1
  pub safe_epoch : both.memory.safe_epoch ≡ left.memory.safe_epoch
  pub milestones : (last : ℕ) → (milestones_known last left.view ≤ milestones_known last both.view)
      × (milestones_known last right.view ≤ milestones_known last both.view)
  pub share : both.view.share ≡ (left.view.share + right.view.share) % 2 ^ 64
  pub ownable : both.view.worker.shared ≡ option_or left.view.worker.shared right.view.worker.shared
  pub idle : IsIdle both
  pub pinned : both.memory.is_pinned ≡ left.memory.is_pinned
  pub sight : both.sight ≡ joined_sight left.sight right.sight
