use Rattle.std.specs.Prelude.{◌≡◌, ℕ, ◌+◌, ◌≤◌, ◌++◌, true, false, Some, None, List, [], ◌∷◌, Result, Ok, Err, length, Option, is_some}
use Rattle.ell_ops.specs.declared.op.Op.{Op}
use Rattle.ell_ops.specs.declared.op.Op.TheVariants.{Find, Insert, Delete, Swap}
use Rattle.ell_ops.specs.Meaning.{key_of, reply_of, yes_if}
use Rattle.ell_ops.specs.declared.reply.Reply.{Reply}
use Rattle.ell_ops.specs.declared.reply.Reply.TheVariants.{Yes}
use Rattle.ell_ops.specs.declared.reply.Reply.TheVariants as replaced
use Rattle.ell_core.specs.declared.put.Put.{Put}
use Rattle.ell_core.specs.acts.Searching.{put_of}
use Rattle.ell_layout.specs.Cards.{put_filling}
use Rattle.ell_core.specs.statements.Effects.{reply_of_change}
use Rattle.ell_word.specs.declared.update.Update.{Update}
use Rattle.ell_core.specs.declared.fact.Fact.{Fact}
use Rattle.ell_core.specs.declared.fact.Fact.TheVariants as fact
use Rattle.ell_layout.specs.declared.field.Field.{Field}
use Rattle.ell_runs.specs.declared.view.Told.{Told}
use Rattle.ell_runs.specs.declared.view.Told.TheVariants.{Expects}
use Rattle.ell_runs.specs.declared.view.Hindrance.{Hindrance}
use Rattle.ell_runs.specs.declared.view.Hindrance.TheVariants.{Found}
use Rattle.ell_runs.specs.declared.view.View.{View}
use Rattle.ell_cards.specs.Models.{KeepsItsOwn, PassModel}
use Rattle.ell_runs.specs.Views.{Has, IsTold, Knows, Does, StandsAt}
use Rattle.ell_runs.specs.Changes.{told_filling, tagged, with_stores, tries_hindered}
use Rattle.ell_runs.specs.Guards.{IsFilled, MayFill}
use Rattle.ell_runs.specs.Seeing.{SeesEnd}
use Rattle.ell_cards.specs.Shown.{shown_words}
use Rattle.ell_tree.specs.declared.searching.Place.{Place}
use Rattle.ell_tree.specs.declared.trying.Tried.{Tried}
use Rattle.ell_tree.specs.declared.trying.Tried.TheVariants as tried
use Rattle.ell_tree.specs.Ledgers.{TreeModel, Owns, present_in, IsIdle}
use Rattle.ell_cards.specs.Stepping.{LetsGo}
use Rattle.ell_runs.specs.Views.{SameShare}
use Rattle.ell_tree.specs.Counts.{Took}
use Rattle.ell_tree.specs.CardsTaken.{TakesNoCard}
use Rattle.ell_tree.specs.Ends.{AnswersAs, NoneIsLeft, TakesValue, reply_by}
use Rattle.ell_tree.specs.Hindrances.{AreOver, Meets, StillKnows, way_of}
use Rattle.ell_tree.specs.Keeping.{IsSeenAt}
use Rattle.ell_tree.specs.Milestones.{SeesMilestone}
use Rattle.ell_tree.specs.Searches.{AtRoot, seen, seen_any, there_at}
use Rattle.ell_runs.specs.declared.call.NewNode.{NewNode}

-- an operation that may change the map: an insert, a delete or a swap
abbrev pub IsChange : Op → Type 0
IsChange (Find key) = ⊥
IsChange (Insert key value) = Unit {0}
IsChange (Delete key) = Unit {0}
IsChange (Swap key was value) = Unit {0}

-- an operation starts, or starts anew, at the root; what came to be in its way before, and how many tries were hindered
pub record Begins (op : Op) (met : List Hindrance) (tries : ℕ) (old new : PassModel) : Type 0 where
  pub own : KeepsItsOwn old new
  pub ledger : new.view.worker.ledger ≡ old.view.worker.ledger
  pub calls : new.sight.mine ≡ old.sight.mine
  pub share : SameShare old.view new.view
  pub hindrances : new.view.hindrances ≡ met ++ old.view.hindrances
  pub hindered : new.view.hindered ≡ tries
  pub knows : StillKnows old.view new.view
  pub before : new.view.knew_before ≡ old.view.worker.knows
  pub least : new.view.next_at_least ≡ old.view.next_at_least
  pub root : AtRoot op new.view
  pub taken : TakesNoCard old new
  pub took : Took old new 1

-- an operation may start anew, or be given up: its card, if that is flagged, is known backed
pub record Stops (op : Op) (v : View) : Type 0 where
  pub busy : Does v op
  pub backed : (c : ℕ) → v.worker.card ≡ Some c → v.worker.flagged ≡ true → Knows v (fact.Backed c)

-- an operation is given up: nothing is in hand any more
pub record GivesUp (op : Op) (old new : PassModel) : Type 0 where
  pub given_up : new.view.given_up ≡ Some op
  pub own : KeepsItsOwn old new
  pub sight : new.sight ≡ old.sight
  pub ledger : new.view.worker.ledger ≡ old.view.worker.ledger
  pub share : SameShare old.view new.view
  pub hindrances : new.view.hindrances ≡ way_of op old.view ++ old.view.hindrances
  pub hindered : new.view.hindered ≡ tries_hindered old.view
  pub knows : StillKnows old.view new.view
  pub next : new.view.next ≡ old.view.next
  pub facts : new.view.worker.knows ≡ old.view.worker.knows
  pub least : new.view.next_at_least ≡ old.view.next_at_least
  pub idle : IsIdle new
  pub unpinned : new.memory.is_pinned ≡ false
  pub no_card : new.view.worker.card ≡ None
  pub taken : TakesNoCard old new
  pub took : Took old new 1

-- a try ended without an answer, though the operation would change the map; nothing of it is under way, and whatever
-- was in its way is over, what its search has read too; it met all that came to be in the way meanwhile
pub record Halts (op : Op) (old new : PassModel) : Type 0 where
  pub own : KeepsItsOwn old new
  pub sight : new.sight ≡ old.sight
  pub ledger : new.view.worker.ledger ≡ old.view.worker.ledger
  pub share : SameShare old.view new.view
  pub meets : Meets old.view new.view
  pub in_try : new.view.hindrances ≡ new.view.met ++ old.view.hindrances
  pub way : AreOver new.view (way_of op new.view)
  pub would : Owns old (key_of op) → reply_of op (present_in old) ≡ reply_of_change op
  pub stops : Stops op new.view

-- how a try ends: if it has no answer, the pass may let its card in hand go, if it has one
abbrev pub TryEnds : TreeModel → Op → PassModel → PassModel → Tried → Type 0
TryEnds t op old new (tried.Answered had) =
    AnswersAs SeesEnd t op (reply_by op had) old new × Meets old.view new.view
    × (new.view.next_at_least ≤ t.plan.last_card + 1)
TryEnds t op old new tried.Spent = Halts op old new × NoneIsLeft t.plan new × LetsGo t.plan new
TryEnds t op old new tried.Hindered =
    Halts op old new × (length old.view.hindrances + 1 ≤ length (way_of op new.view) + length new.view.hindrances)
    × SeesMilestone t.plan.last_card old.view new.view × LetsGo t.plan new

-- what a try of a delete took
abbrev pub TryTook : TreeModel → ℕ → PassModel → PassModel → Tried → Type 0
TryTook t key old new (tried.Answered taken) = TakesValue t key old new taken
    × SeesEnd (Delete key) (yes_if (is_some taken)) taken old.sight new.sight
TryTook t key old new tried.Spent = Unit {0}
TryTook t key old new tried.Hindered = Unit {0}

-- a try of a delete that was answered took this value
abbrev pub TryTookThis : ℕ → Tried → Type 0
TryTookThis value (tried.Answered taken) = taken ≡ Some value
TryTookThis value tried.Spent = Unit {0}
TryTookThis value tried.Hindered = Unit {0}

-- what a try added, took or found
abbrev pub TryTakesValue : TreeModel → Op → PassModel → PassModel → Tried → Type 0
TryTakesValue t (Find key) old new ended = Unit {0}
TryTakesValue t (Insert key value) old new ended = Unit {0}
TryTakesValue t (Delete key) old new ended = TryTook t key old new ended
TryTakesValue t (Swap key was value) old new ended = Unit {0}

-- a card was taken for an operation whose search ended at a place: it is to say this, by words of 64 bits, and to expect
-- this tag; nothing of it was stored, and what it says that never changes is told
pub record HasCard (op : Op) (place : Place) (tag : ℕ) (filling : List (Field × ℕ)) (v : View) (c : ℕ) : Type 0 where
  pub busy : Does v op
  pub may : MayFill v c
  pub stands : StandsAt v place.node
  pub behind : v.worker.search.parent ≡ Some (seen place.parent)
  pub above : v.worker.search.grandparent ≡ seen_any place.grandparent
  pub says : v.planned ≡ shown_words (tagged tag filling)
  pub empty : v.stores ≡ []
  pub told : (e : Told) → Has (told_filling c filling []) e → IsTold v e
  pub expects : IsTold v (Expects c tag)

abbrev pub found_for : Option ℕ → Option ℕ → Option ℕ
found_for None there = None
found_for (Some was) there = there

-- what is told of its key to whoever puts this, where a search ended: to a swap its value, if it is there; to an insert
-- nothing
abbrev pub told_of_put : Put → Place → Option ℕ
told_of_put what place = found_for what.was (there_at place what.key)

-- and what is said once it is done: yes, or the value that was replaced
abbrev pub put_reply : Option ℕ → Reply
put_reply None = Yes
put_reply (Some was) = replaced.Found was

-- one was taken for an insert or a swap, that puts this; its node is to be this
pub record HasCardToPut (what : Put) (place : Place) (node : NewNode) (v : View) (c : ℕ) : Type 0 where
  pub op : Op
  pub puts : put_of op ≡ Some what
  pub card : HasCard op place place.parent.tag
      (put_filling node.flat c what.key what.value node.key place.parent.node place.node place.key place.value) v c

-- the card in hand was filled in so many steps, and nothing else was done
pub record Fills (old new : PassModel) (n : ℕ) : Type 0 where
  pub own : KeepsItsOwn old new
  pub sight : new.sight ≡ old.sight
  pub slot : new.memory.slot ≡ old.memory.slot
  pub took : Took old new n
  pub view : new.view ≡ with_stores new.view.stores old.view
  pub filled : IsFilled new.view

-- a flag was set: the card in hand is flagged, and its flag known
pub record IsFlagged (flag : ℕ → Fact) (c : ℕ) (v w : View) : Type 0 where
  pub knows : Knows w (flag c)
  pub card : w.worker.card ≡ Some c
  pub flagged : w.worker.flagged ≡ true
  pub nowhere : w.worker.search.node ≡ None
  pub hindrances : w.hindrances ≡ v.hindrances

-- a flag was lost: the card was discarded, and what was found at the node was in the way
pub record LosesFlag (last x : ℕ) (found : Update) (v w : View) : Type 0 where
  pub seen : IsSeenAt last w x found
  pub no_card : w.worker.card ≡ None
  pub nowhere : w.worker.search.node ≡ None
  pub hindrances : w.hindrances ≡ Found found ∷ v.hindrances

-- a flag was set or lost
abbrev pub Flags : ℕ → (ℕ → Fact) → ℕ → ℕ → PassModel → PassModel → Result (Unit {0}) Update → Type 0
Flags last flag c x old new (Ok won) = IsFlagged flag c old.view new.view
Flags last flag c x old new (Err found) = LosesFlag last x found old.view new.view
