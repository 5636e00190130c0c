use Rattle.std.specs.Prelude.{◌≡◌, ℕ, ◌≤◌, ◌++◌, List}
use Rattle.ell_word.specs.declared.update.Update.{Update}
use Rattle.ell_word.specs.declared.update.State.{State}
use Rattle.ell_word.specs.declared.update.State.TheVariants as state
use Rattle.ell_word.specs.Node.{IsInternal}
use Rattle.ell_core.specs.declared.fact.Fact.{Fact}
use Rattle.ell_core.specs.declared.fact.Fact.TheVariants as fact
use Rattle.ell_layout.specs.declared.field.Field.TheVariants as field
use Rattle.ell_runs.specs.declared.view.Told.{Told}
use Rattle.ell_runs.specs.declared.view.Told.TheVariants.{Met, Info}
use Rattle.ell_runs.specs.declared.view.Hindrance.{Hindrance}
use Rattle.ell_runs.specs.declared.view.View.{View}
use Rattle.ell_cards.specs.Models.{KeepsItsOwn, PassModel}
use Rattle.ell_runs.specs.Views.{InTable, IsTold, Knows}
use Rattle.ell_runs.specs.Views.{SameShare}
use Rattle.ell_tree.specs.Counts.{Took}
use Rattle.ell_tree.specs.CardsTaken.{TakesNoCard}

-- ledger, operation and share stay, and nothing is forgotten; no try is given up, so what was in the way
-- before the one in hand is the same
pub record LosesNothing (v w : View) : Type 0 where
  pub ledger : w.worker.ledger ≡ v.worker.ledger
  pub operation : w.worker.operation ≡ v.worker.operation
  pub share : SameShare v w
  pub knows : (f : Fact) → Knows v f → Knows w f
  pub told : (e : Told) → IsTold v e → IsTold w e
  pub before : w.knew_before ≡ v.knew_before
  pub least : v.next_at_least ≤ w.next_at_least
  pub hindered : w.hindered ≡ v.hindered
  pub earlier : (hs : List Hindrance) → v.hindrances ≡ v.met ++ hs → w.hindrances ≡ w.met ++ hs

-- a pass made at most so many steps, and kept these, the slot that it took last, and what it knows of the history
pub record Keeps (old new : PassModel) (n : ℕ) : Type 0 where
  pub own : KeepsItsOwn old new
  pub slot : new.memory.slot ≡ old.memory.slot
  pub sight : new.sight ≡ old.sight
  pub view : LosesNothing old.view new.view
  pub took : Took old new n

-- and took no card, has the same card in hand, and met nothing in its way
pub record KeepsAllButSearch (old new : PassModel) (n : ℕ) : Type 0 where
  pub keeps : Keeps old new n
  pub taken : TakesNoCard old new
  pub card : new.view.worker.card ≡ old.view.worker.card
  pub flagged : new.view.worker.flagged ≡ old.view.worker.flagged
  pub hindrances : new.view.hindrances ≡ old.view.hindrances

-- or took no card, has the same card in hand, and its search stands where it stood
pub record KeepsAllButMet (old new : PassModel) (n : ℕ) : Type 0 where
  pub keeps : Keeps old new n
  pub taken : TakesNoCard old new
  pub card : new.view.worker.card ≡ old.view.worker.card
  pub flagged : new.view.worker.flagged ≡ old.view.worker.flagged
  pub search : new.view.worker.search ≡ old.view.worker.search

-- and met nothing in its way either
pub record KeepsAll (old new : PassModel) (n : ℕ) : Type 0 where
  pub keeps : Keeps old new n
  pub taken : TakesNoCard old new
  pub card : new.view.worker.card ≡ old.view.worker.card
  pub flagged : new.view.worker.flagged ≡ old.view.worker.flagged
  pub search : new.view.worker.search ≡ old.view.worker.search
  pub hindrances : new.view.hindrances ≡ old.view.hindrances

-- an internal node of the table that the pass has met
pub record IsInnerMet (last : ℕ) (v : View) (x : ℕ) : Type 0 where
  pub met : IsTold v (Met x)
  pub inner : IsInternal x
  pub there : InTable last x

-- a flag or a mark at a node: its card is known so far, and goes there
abbrev pub TellsPlace : View → ℕ → State → ℕ → Type 0
TellsPlace v x state.IFlag c = Knows v (fact.IFlagged c) × IsTold v (Info c field.P x)
TellsPlace v x state.DFlag c = Knows v (fact.DFlagged c) × IsTold v (Info c field.Gp x)
TellsPlace v x state.Mark c = Knows v (fact.Marked c) × IsTold v (Info c field.P x)
TellsPlace v x state.Clean c = Unit {0}

-- an update that was read or found at a node
pub record IsSeenAt (last : ℕ) (v : View) (x : ℕ) (u : Update) : Type 0 where
  pub node : IsInnerMet last v x
  pub named : u.card ≤ last
  pub place : TellsPlace v x u.state u.card
