use Rattle.std.specs.Prelude.{◌≡◌, ℕ, ◌+◌, ◌*◌, ◌≤◌, ◌↔◌, ◌==◌, Bool, false, Option, None, Some, is_some, IfSome, Result, Ok, Err}
use Rattle.ell_core.specs.statements.Effects.{reply_of_change}
use Rattle.ell_ops.specs.declared.op.Op.{Op}
use Rattle.ell_ops.specs.declared.op.Op.TheVariants.{Find, Insert, Delete, Swap}
use Rattle.ell_ops.specs.declared.reply.Reply.{Reply}
use Rattle.ell_ops.specs.Meaning.{key_of, yes_if, reply_of, after, found}
use Rattle.ell_cards.specs.InRuns.{IsAnsweredInRuns}
use Rattle.ell_cards.specs.InRuns.{IsGivenUpInRuns}
use Rattle.ell_cards.specs.InRuns.{IsTakenInRuns}
use Rattle.ell_runs.specs.declared.view.Sight.{Sight}
use Rattle.ell_runs.specs.declared.view.Slots.{Slots}
use Rattle.ell_runs.specs.Depths.{deepest}
use Rattle.ell_cards.specs.Models.{KeepsItsOwn, PassModel}
use Rattle.ell_runs.specs.Plans.{TablePlan}
use Rattle.ell_runs.specs.Seeing.{HasSeenMore, SeesCall}
use Rattle.ell_runs.specs.Views.{SameShare}
use Rattle.ell_tree.specs.declared.operations.NotDone.{NotDone}
use Rattle.ell_tree.specs.declared.operations.NotDone.TheVariants.{Busy, Spent}
use Rattle.ell_tree.specs.Called.{ByItsTake, SeesTake}
use Rattle.ell_tree.specs.Hindrances.{Meets}
use Rattle.ell_tree.specs.Ledgers.{TreeModel, present_in, ledger, Owns, answers, hindrances, IsIdle}

-- an operation was answered. On a key of the pass's own: as a map answers it that has the pass's keys present with
-- their values, which becomes the map after it; on a shared key the ledger stays. Whoever may change the key, the call
-- had its point: in every run of the tree in which the pass now knows this, its answer is that of one thread that made
-- all operations by which the tree was changed till then
pub record AnswersAs (Sees : Op → Reply → Option ℕ → Sight → Sight → Type 0) (t : TreeModel) (op : Op) (said : Reply)
    (old new : PassModel) : Type 0 where
  pub own : KeepsItsOwn old new
  pub says : Owns old (key_of op) → said ≡ reply_of op (present_in old)
  pub map : Owns old (key_of op) → (key : ℕ) → present_in new key ≡ after op (present_in old) key
  pub stays : ¬ Owns old (key_of op) → ledger new ≡ ledger old
  pub point : IsAnsweredInRuns t.plan new.view op said
  pub owned : (key : ℕ) → Owns new key ↔ Owns old key
  pub answered : answers new ≡ answers old + 1
  pub share : SameShare old.view new.view
  pub idle : IsIdle new
  pub unpinned : new.memory.is_pinned ≡ false
  pub sees : ByItsTake op (λ took. Sees op said took old.sight new.sight)

-- an operation that the pass began, too: it is a call of the tree's history, as the pass has seen it
abbrev pub Answers : TreeModel → Op → Reply → PassModel → PassModel → Type 0
Answers = AnswersAs SeesCall

-- an operation was given up without an answer: the ledger is as it was, nothing is in hand, the pass is not pinned, and
-- of an own key it would change the map. Whoever may change the key, in every run of the tree in which the pass now
-- knows this, the call changes nothing, neither before nor later
pub record GivenUp (t : TreeModel) (op : Op) (old new : PassModel) : Type 0 where
  pub own : KeepsItsOwn old new
  pub ledger : new.view.worker.ledger ≡ old.view.worker.ledger
  pub answered : answers new ≡ answers old
  pub share : SameShare old.view new.view
  pub would : Owns old (key_of op) → reply_of op (present_in old) ≡ reply_of_change op
  pub nothing : IsGivenUpInRuns t.plan new.view op
  pub idle : IsIdle new
  pub unpinned : new.memory.is_pinned ≡ false
  pub no_card : new.view.worker.card ≡ None
  pub sees : HasSeenMore old.sight new.sight

-- No card is left, if each has words of its own: the claim word, as the pass read it last, says that all are given out.
-- Where cards lie in slots, it says nothing of when a pass found none to take.
abbrev pub NoneIsLeft : TablePlan → PassModel → Type 0
NoneIsLeft plan p = plan.slots ≡ None → p.view.next ≡ Some (plan.last_card + 1)

-- why: something was in its way at each try; or its last try got no card, and was given up by the next step call
abbrev pub NotDoneFor : TablePlan → ℕ → PassModel → PassModel → NotDone → Type 0
NotDoneFor plan tries old new Busy = hindrances old + tries ≤ hindrances new
NotDoneFor plan tries old new Spent = NoneIsLeft plan new

-- of so many tries at most, those that something hindered which was over by then are counted
pub record CountsTries (tries : ℕ) (old new : PassModel) : Type 0 where
  pub least : old.view.hindered ≤ new.view.hindered
  pub most : new.view.hindered ≤ old.view.hindered + tries

-- what an insert or a delete says, as a reply
abbrev pub replied : Result Bool NotDone → Result Reply NotDone
replied (Ok said) = Ok (yes_if said)
replied (Err why) = Err why

-- whether it changes the map, by the value that it adds or takes away
abbrev pub whether : Result (Option ℕ) NotDone → Result Bool NotDone
whether (Ok had) = Ok (is_some had)
whether (Err why) = Err why

-- what a swap says, as a reply
abbrev pub found_or_not_done : Result (Option ℕ) NotDone → Result Reply NotDone
found_or_not_done (Ok there) = Ok (found there)
found_or_not_done (Err why) = Err why

-- whether it swapped: it found its first value
abbrev pub is_value : ℕ → Option ℕ → Bool
is_value was None = false
is_value was (Some there) = there == was

abbrev pub whether_swapped : ℕ → Result (Option ℕ) NotDone → Result Bool NotDone
whether_swapped was (Ok there) = Ok (is_value was there)
whether_swapped was (Err why) = Err why

-- what an operation says by a value: an insert by the one that it adds, a delete by the one that it takes away, if it
-- changes the map, and a swap by the one that it finds
abbrev pub reply_by : Op → Option ℕ → Reply
reply_by (Swap key was value) there = found there
reply_by _ had = yes_if (is_some had)

abbrev pub replied_by : Op → Result (Option ℕ) NotDone → Result Reply NotDone
replied_by op (Ok had) = Ok (reply_by op had)
replied_by op (Err why) = Err why

-- and whether it changes the map
abbrev pub changes_by : Op → Option ℕ → Bool
changes_by (Swap key was value) there = is_value was there
changes_by _ had = is_some had

abbrev pub changed_by : Op → Result (Option ℕ) NotDone → Result Bool NotDone
changed_by op (Ok had) = Ok (changes_by op had)
changed_by op (Err why) = Err why

-- The value is the one that it took: for a key of the pass, the value that the pass had; for any key, the one that it
-- had at the call's point, in every run.
pub record TakesValue (t : TreeModel) (key : ℕ) (old new : PassModel) (taken : Option ℕ) : Type 0 where
  pub mine : Owns old key → taken ≡ present_in old key
  pub took : IfSome taken (IsTakenInRuns t.plan new.view key)

-- the value that a change added, took or found: what is promised of a delete's, which is what the history has of it
abbrev pub TakesIfDelete : TreeModel → Op → PassModel → PassModel → Option ℕ → Type 0
TakesIfDelete t (Find key) old new had = Unit {0}
TakesIfDelete t (Insert key value) old new had = Unit {0}
TakesIfDelete t (Delete key) old new had = TakesValue t key old new had × SeesTake key old new (Ok had)
TakesIfDelete t (Swap key was value) old new there = Unit {0}

-- On a key of the pass, it answers as a map that has the pass's keys, which becomes the map after the call. On any key,
-- the answer is that of one thread at one point of the call, in every run. A call without an answer changes nothing in
-- any run: `Busy` is returned only after as many hindrances as tries, and `Spent` only if no card is left, as the claim
-- word says, or, where cards come back, no slot was found. What was in its way is over.
abbrev pub Ends : TreeModel → ℕ → Op → PassModel → PassModel → Result Reply NotDone → Type 0
Ends t tries op old new (Ok said) = Answers t op said old new × Meets old.view new.view
Ends t tries op old new (Err why) =
    GivenUp t op old new × NotDoneFor t.plan tries old new why × Meets old.view new.view

-- the most steps of a find, where no internal node is below more internal nodes than this
abbrev pub find_steps : ℕ → ℕ
find_steps most = 3 * most + 7

-- the most steps of one try of an insert, a delete or a swap, helping included
abbrev pub try_steps : ℕ → ℕ
try_steps most = 7 * most + 27

-- the most steps of what one try does after its search
abbrev pub rest_steps : ℕ → ℕ
rest_steps most = 4 * most + 22

-- the most steps of so many tries
abbrev pub change_steps : ℕ → ℕ → ℕ
change_steps most tries = tries * try_steps most + 1

-- how many steps more a try takes at most where cards lie in slots
abbrev pub slot_steps : Option Slots → ℕ
slot_steps None = 0
slot_steps (Some s) = 2 * s.last + 2

-- the most steps of a try in a table, of what it does after its search, and of so many tries
abbrev pub try_steps_in : TablePlan → ℕ
try_steps_in plan = try_steps (deepest plan) + slot_steps plan.slots

abbrev pub rest_steps_in : TablePlan → ℕ
rest_steps_in plan = rest_steps (deepest plan) + slot_steps plan.slots

abbrev pub change_steps_in : TablePlan → ℕ → ℕ
change_steps_in plan tries = tries * try_steps_in plan + 1

-- these bounds are at most 64 (c + 2), and with t tries 64 (t + 1) (c + 2), where no internal node is below more than c
abbrev pub FindsAreShort : Type 0
FindsAreShort = (last : ℕ) → find_steps last ≤ 64 * (last + 2)

abbrev pub ChangesAreShort : Type 0
ChangesAreShort = (last tries : ℕ) → change_steps last tries ≤ 64 * (tries + 1) * (last + 2)
