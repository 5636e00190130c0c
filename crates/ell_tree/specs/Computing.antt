use Rattle.std.specs.Prelude.{◌≡◌, ◌≢◌, ℕ, ◌+◌, ◌*◌, ◌<◌, ◌≤◌, ◌↔◌, ◌⊎◌, ◌%◌, ◌^◌, true, false, Bool, Option, Some, None, is_some, Result, Ok, Err}
use Rattle.ell_ops.specs.declared.op.Op.{Op}
use Rattle.ell_ops.specs.declared.op.Op.TheVariants.{Delete, Find, Swap}
use Rattle.ell_ops.specs.declared.reply.Reply.{Reply}
use Rattle.ell_ops.specs.declared.reply.Reply.TheVariants.{Yes}
use Rattle.ell_ops.specs.Meaning.{key_of, reply_of, after, found}
use Rattle.ell_core.specs.statements.Effects.{reply_of_change}
use Rattle.ell_cards.specs.InRuns.{IsAnsweredInRuns}
use Rattle.ell_cards.specs.InRuns.{IsGivenUpInRuns}
use Rattle.ell_runs.specs.declared.view.View.{View}
use Rattle.ell_runs.specs.Depths.{deepest}
use Rattle.ell_cards.specs.Models.{KeepsItsOwn, PassModel}
use Rattle.ell_runs.specs.Plans.{TablePlan}
use Rattle.ell_runs.specs.Views.{SameShare}
use Rattle.ell_tree.specs.declared.computing.Computed.{Computed}
use Rattle.ell_tree.specs.declared.computing.Replaced.{Replaced}
use Rattle.ell_tree.specs.declared.computing.Replaced.TheVariants.{Done, Lost}
use Rattle.ell_tree.specs.declared.operations.NotDone.{NotDone}
use Rattle.ell_tree.specs.declared.operations.NotDone.TheVariants.{Busy, Spent}
use Rattle.ell_tree.specs.Called.{ByItsTake, SeesLast, SeesNoChange, SeesTake, put_by, tries_in}
use Rattle.ell_tree.specs.Ends.{Answers, GivenUp, NoneIsLeft, TakesValue, find_steps, slot_steps, try_steps}
use Rattle.ell_tree.specs.Ledgers.{TreeModel, present_in, Owns, answers, IsIdle}

-- a pass has the keys that it had, present with their values or absent as they were, and nothing in hand; and it is not
-- pinned if it was not
pub record IsUntouched (old new : PassModel) : Type 0 where
  pub own : KeepsItsOwn old new
  pub map : (key : ℕ) → present_in new key ≡ present_in old key
  pub owned : (key : ℕ) → Owns new key ↔ Owns old key
  pub answered : answers old ≤ answers new
  pub share : SameShare old.view new.view
  pub idle : IsIdle new
  pub unpinned : old.memory.is_pinned ≡ false → new.memory.is_pinned ≡ false
  pub sees : SeesNoChange old.sight new.sight

-- a call that is made of several operations has ended by this one, which was answered so, and those before it have
-- changed nothing of what the pass has. On a key of the pass's own: as a map answers it that has the pass's keys
-- present with their values, which becomes the map after it. Whoever may change the key, this last operation had its
-- point: in every run of the tree in which the pass now knows this, its answer is that of one thread that made all
-- operations by which the tree was changed till then
pub record Concludes (t : TreeModel) (op : Op) (said : Reply) (old new : PassModel) : Type 0 where
  pub own : KeepsItsOwn old new
  pub says : Owns old (key_of op) → said ≡ reply_of op (present_in old)
  pub map : Owns old (key_of op) → (key : ℕ) → present_in new key ≡ after op (present_in old) key
  pub stays : ¬ Owns old (key_of op) → (key : ℕ) → present_in new key ≡ present_in old key
  pub point : IsAnsweredInRuns t.plan new.view op said
  pub owned : (key : ℕ) → Owns new key ↔ Owns old key
  pub answered : answers old < answers new
  pub share : SameShare old.view new.view
  pub idle : IsIdle new
  pub unpinned : new.memory.is_pinned ≡ false
  pub sees : ByItsTake op (λ took. SeesLast op said took old.sight new.sight)

-- the key had this value, or none, at the point of a find, or of a swap of another value, which changes nothing
abbrev pub ReadsValue : TreeModel → ℕ → Option ℕ → PassModel → PassModel → Type 0
ReadsValue t key was old new = Concludes t (Find key) (found was) old new
    ⊎ ((other value : ℕ) × (was ≢ Some other) × Concludes t (Swap key other value) (found was) old new)

-- The key had the value that is returned, or none, and has this one instead, by one step. On a key of the pass, this
-- holds in the pass's map, and on any key as of one thread at the point of the last operation, in every run.
abbrev pub PutsValue : TreeModel → ℕ → ℕ → PassModel → PassModel → Option ℕ → Type 0
PutsValue t key value old new was = Concludes t (put_by key value was) (reply_of_change (put_by key value was)) old new

-- what was found of a key has become this, if it has become anything
abbrev pub Computes : TreeModel → ℕ → PassModel → PassModel → Option ℕ → Option ℕ → Type 0
Computes t key old new was None = ReadsValue t key was old new
Computes t key old new was (Some value) = PutsValue t key value old new was

-- The key had the value that is returned, and has what the closure made of it instead, by one step; an absent key stays
-- absent. As for `put`, this holds in the pass's map, and as of one thread.
abbrev pub UpdatesValue : TreeModel → ℕ → (ℕ → ℕ → Type 0) → PassModel → PassModel → Option ℕ → Type 0
UpdatesValue t key makes old new None = ReadsValue t key None old new
UpdatesValue t key makes old new (Some was) = (value : ℕ) × makes was value × PutsValue t key value old new (Some was)

-- a key was removed, in one step, which took just this value
pub record RemovesValue (t : TreeModel) (key value : ℕ) (old new : PassModel) : Type 0 where
  pub removes : Concludes t (Delete key) Yes old new
  pub took : TakesValue t key old new (Some value)
  pub sees : SeesLast (Delete key) Yes (Some value) old.sight new.sight

-- If the answer is `was`, the key was deleted, and the value that it had at that point is `was`. Otherwise the answer
-- is what the key had at the point of a find, and the call has changed nothing. As for `put`, this holds in the pass's
-- map, and as of one thread.
pub record RemovesIf (t : TreeModel) (key was : ℕ) (old new : PassModel) (there : Option ℕ) : Type 0 where
  pub removed : there ≡ Some was → RemovesValue t key was old new
  pub left : there ≢ Some was → Concludes t (Find key) (found there) old new

-- a sum of 64 bits, which starts again at 0 past its greatest
abbrev pub wrapping_sum : ℕ → ℕ → ℕ
wrapping_sum one other = (one + other) % 2 ^ 64

abbrev pub IsSum : ℕ → ℕ → ℕ → Type 0
IsSum addend was value = value ≡ wrapping_sum was addend

-- the last operation of a call on a key has changed nothing, and never will: it was given up, or answered by what is no
-- change's answer
pub record LastChangesNothing (t : TreeModel) (key : ℕ) (v : View) : Type 0 where
  pub op : Op
  pub on : key_of op ≡ key
  pub nothing : IsGivenUpInRuns t.plan v op
      ⊎ ((said : Reply) × (said ≢ reply_of_change op) × IsAnsweredInRuns t.plan v op said)

-- why a call of several operations has no answer, of which this was the last one: all its tries were made, or the last
-- one got no card
abbrev pub RanOut : TablePlan → PassModel → NotDone → Type 0
RanOut plan new Busy = Unit {0}
RanOut plan new Spent = NoneIsLeft plan new

-- A call without an answer changes nothing of what the pass has, and has nothing in hand. Its last operation changes
-- nothing in any run. `Spent` is returned only if no card is left, as by an insert or a delete.
pub record IsNotDone (t : TreeModel) (key : ℕ) (old new : PassModel) (not_done : NotDone) : Type 0 where
  pub untouched : IsUntouched old new
  pub last : LastChangesNothing t key new.view
  pub why : RanOut t.plan new not_done

-- what comes of one try to put a value in the place of what was found of a key
abbrev pub Replaces : TreeModel → ℕ → Option ℕ → ℕ → PassModel → PassModel → Result Replaced NotDone → Type 0
Replaces t key was value old new (Ok Done) =
    Answers t (put_by key value was) (reply_of_change (put_by key value was)) old new
Replaces t key was value old new (Ok (Lost there)) =
    IsUntouched old new × ReadsValue t key there old new × (Owns old key → present_in old key ≢ was)
    × (tries_in old.sight.mine < tries_in new.sight.mine)
Replaces t key was value old new (Err why) =
    GivenUp t (put_by key value was) old new × RanOut t.plan new why

-- what comes of one try to remove a key that has a value
abbrev pub RemovesOnce : TreeModel → ℕ → ℕ → PassModel → PassModel → Result Bool NotDone → Type 0
RemovesOnce t key was old new (Ok true) =
    Answers t (Delete key) Yes old new × TakesValue t key old new (Some was) × SeesTake key old new (Ok (Some was))
RemovesOnce t key was old new (Ok false) = IsUntouched old new × (Owns old key → present_in old key ≢ Some was)
RemovesOnce t key was old new (Err why) = GivenUp t (Delete key) old new × RanOut t.plan new why

-- and what the key was found to have, if that was another value
abbrev pub RemovesOrReads : TreeModel → ℕ → ℕ → PassModel → PassModel → Result Replaced NotDone → Type 0
RemovesOrReads t key was old new (Ok Done) =
    Answers t (Delete key) Yes old new × TakesValue t key old new (Some was) × SeesTake key old new (Ok (Some was))
RemovesOrReads t key was old new (Ok (Lost there)) =
    IsUntouched old new × Concludes t (Find key) (found there) old new × (Owns old key → present_in old key ≢ Some was)
RemovesOrReads t key was old new (Err why) = GivenUp t (Delete key) old new × RanOut t.plan new why

-- `Busy` is returned only after all tries: each was hindered, or answered by what another pass had changed.
abbrev pub AreTried : ℕ → PassModel → PassModel → Type 0
AreTried tries old new =
    old.view.hindered + tries_in old.sight.mine + tries ≤ new.view.hindered + tries_in new.sight.mine

-- `Busy` is returned only after all tries: each was hindered, or the key was read anew.
abbrev pub AreTriedOrRead : ℕ → PassModel → PassModel → Type 0
AreTriedOrRead tries old new = old.view.hindered + answers old + tries < new.view.hindered + answers new

-- whether it put it
abbrev pub is_done : Replaced → Bool
is_done Done = true
is_done (Lost there) = false

abbrev pub whether_done : Result Replaced NotDone → Result Bool NotDone
whether_done (Ok replaced) = Ok (is_done replaced)
whether_done (Err why) = Err why

-- whether a call has put anything
abbrev pub whether_made : Result Computed NotDone → Result Bool NotDone
whether_made (Ok computed) = Ok (is_some computed.made)
whether_made (Err why) = Err why

-- whether a call has put what it always puts
abbrev pub whether_put : Result (Option ℕ) NotDone → Result Bool NotDone
whether_put (Ok was) = Ok true
whether_put (Err why) = Err why

-- the most steps of one round: a try with its end, and a find
abbrev pub round_steps : ℕ → ℕ
round_steps most = try_steps most + find_steps most + 1

-- the most steps of a call that tries so often: a find, and its rounds
abbrev pub update_steps : ℕ → ℕ → ℕ
update_steps most tries = find_steps most + tries * round_steps most

-- the same in a table
abbrev pub round_steps_in : TablePlan → ℕ
round_steps_in plan = round_steps (deepest plan) + slot_steps plan.slots

abbrev pub update_steps_in : TablePlan → ℕ → ℕ
update_steps_in plan tries = find_steps (deepest plan) + tries * round_steps_in plan

-- this bound is at most 64 (t + 1) (c + 2) with t tries, where no internal node is below more than c
abbrev pub UpdatesAreShort : Type 0
UpdatesAreShort = (last tries : ℕ) → update_steps last tries ≤ 64 * (tries + 1) * (last + 2)
