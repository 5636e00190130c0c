use Rattle.std.specs.Prelude.{◌≡◌, ◌≢◌, ℕ, ◌⊎◌, Bool, true, false}
use Rattle.ell_word.specs.Node.{IsInternal, internal, card}
use Rattle.ell_core.specs.declared.event.Event.{Event}
use Rattle.ell_core.specs.declared.event.Stepped.{Stepped}
use Rattle.ell_layout.specs.Words.{Words, IsLeaf}
use Rattle.ell_layout.specs.Cards.{brought, keeps_below}
use Rattle.ell_core.specs.state.Machine.{Machine}
use Rattle.ell_core.specs.acts.Events.{Steps}
use Rattle.ell_core.specs.tree.Tree.{Reached}
use Rattle.ell_core.specs.history.Stages.{Stages, Born, is_start, insert_open, is_changed}
use Rattle.ell_core.specs.history.Invariant.{insert_side, Invariant}
use Rattle.ell_core.specs.history.Later.{StagesLater}
use Rattle.ell_core.specs.statements.Since.{has_ended}
use Rattle.ell_core.specs.statements.RunLaws.{IsPassed}
use Rattle.ell_grace.specs.Gone.{TakesOut, IsGone, HasOuts}
use Rattle.ell_grace.specs.Since.{ComesFrom}

-- The leaf of an insert's card that nobody uses: the node above which the insert went stays, in the leaf's place, and the
-- leaf would have its key.
abbrev pub IsUnused : Words → Stages → ℕ → Type 0
IsUnused w stage x =
    (is_changed (stage (card x)) ≡ true) × (keeps_below w (card x) ≡ true) × IsLeaf x × (w.key x ≡ w.key (w.l (card x)))

-- A node never comes into the tree: its card has ended and has not brought it, or nobody uses it.
abbrev pub NeverComes : Words → Stages → ℕ → Type 0
NeverComes w stage x = (has_ended (stage (card x)) ≡ true) × ((¬ Born stage x) ⊎ IsUnused w stage x)

-- A node is dead: it is gone, or it never comes.
abbrev pub IsDead : Words → Stages → ℕ → Type 0
IsDead w stage x = IsGone w stage x ⊎ NeverComes w stage x

-- a node is a child of an internal node that came into the tree, and that no card has taken out
pub record IsChildStill (w : Words) (stage : Stages) (x : ℕ) : Type 0 where
  pub parent : ℕ
  pub inner : IsInternal parent
  pub born : Born stage parent
  pub still : (c : ℕ) → ¬ TakesOut w stage c parent
  pub right : Bool
  pub child : w.child parent right ≡ x

-- such is each leaf that a card brought which is not of the opening tree, if it is used, or a card has taken it out
abbrev pub LeavesAreKept : Words → Stages → Type 0
LeavesAreKept w stage =
    (x : ℕ) → is_start (stage (card x)) ≡ false → IsLeaf x → Born stage x → ¬ IsUnused w stage x
    → IsChildStill w stage x ⊎ ((c : ℕ) × TakesOut w stage c x)

-- no child of an internal node that came into the tree is a leaf that nobody uses, nor is anything that was taken out;
-- while an insert that has made its child exchange has its flag, the node that it brought stands under the parent; and
-- leaves are kept that are used
pub record UsesAreSound (w : Words) (stage : Stages) : Type 0 where
  pub used : (x : ℕ) → IsInternal x → Born stage x → (right : Bool) → ¬ IsUnused w stage (w.child x right)
  pub taken : (c x : ℕ) → TakesOut w stage c x → ¬ IsUnused w stage x
  pub stands : (c : ℕ) → is_changed (stage c) ≡ true → insert_open (stage c) ≡ true
      → w.child (w.p c) (insert_side w c) ≡ brought w c
  pub kept : LeavesAreKept w stage

-- a state of a run, with what was taken out, and with what is used
pub record HasUses (m : Machine) : Type 0 where
  pub outs : HasOuts m
  pub uses : UsesAreSound m.words outs.stages

-- every state of every run is such a state
abbrev pub EveryStateHasUses : Type 0
EveryStateHasUses = (m : Machine) → IsPassed m → HasUses m

-- such a state comes from itself, with what is used
abbrev pub UsesBegin : Type 0
UsesBegin = (m : Machine) (has : HasUses m)
    → (from : ComesFrom m has.outs.stages m) × UsesAreSound m.words from.stages

-- each event leads on, the cards go on, and what is used is sound after it
abbrev pub EventsKeepUses : Type 0
EventsKeepUses = (m : Machine) (stage : Stages) → Invariant m stage → (old : Machine) (from : ComesFrom m stage old)
    → UsesAreSound old.words from.stages → (e : Event) (said : Stepped) (new : Machine) → Steps old e said new
    → (to : ComesFrom m stage new) × StagesLater from.stages to.stages × UsesAreSound new.words to.stages

-- what was dead is dead later
abbrev pub DeadStaysDead : Type 0
DeadStaysDead = (m : Machine) (stage : Stages) → Invariant m stage → (now : Machine) (from : ComesFrom m stage now)
    → (x : ℕ) → IsDead m.words stage x → IsDead now.words from.stages x

-- a card whose internal node is dead has ended, or is one of the opening tree's
abbrev pub DeadCardsHaveEnded : Type 0
DeadCardsHaveEnded = (m : Machine) (has : HasUses m) (c : ℕ) → IsDead m.words has.outs.stages (internal c)
    → (is_start (has.outs.stages c) ≡ true) ⊎ (has_ended (has.outs.stages c) ≡ true)

-- a node that never comes is not in the tree, is no internal node that came into it, and is no child of one
pub record StaysOut (w : Words) (stage : Stages) (x : ℕ) : Type 0 where
  pub out : ¬ Reached w x
  pub apart : IsInternal x → ¬ Born stage x
  pub below : (y : ℕ) (right : Bool) → IsInternal y → Born stage y → w.child y right ≢ x

abbrev pub NeverComesStaysOut : Type 0
NeverComesStaysOut = (m : Machine) (has : HasUses m) (x : ℕ) → NeverComes m.words has.outs.stages x
    → StaysOut m.words has.outs.stages x

-- no node dies twice: what a card has taken out is no node that never comes
abbrev pub TakenOutHadCome : Type 0
TakenOutHadCome = (m : Machine) (has : HasUses m) (c x : ℕ) → TakesOut m.words has.outs.stages c x
    → ¬ NeverComes m.words has.outs.stages x

-- a child of an internal node that was not dead was not dead, whatever child it has by now
abbrev pub ChildrenWereNotDead : Type 0
ChildrenWereNotDead = (m : Machine) (stage : Stages) → Invariant m stage
    → (now : Machine) (from : ComesFrom m stage now) → UsesAreSound now.words from.stages
    → (x : ℕ) → IsInternal x → Born from.stages x → ¬ IsDead m.words stage x
    → (right : Bool) → ¬ IsDead m.words stage (now.words.child x right)

-- a node is in the tree, or a card has taken it out, or nobody uses it
abbrev pub IsInOrOut : Words → Stages → ℕ → Type 0
IsInOrOut w stage x = Reached w x ⊎ (((c : ℕ) × TakesOut w stage c x) ⊎ IsUnused w stage x)

-- so is each node that came into the tree with a card that is not of the opening tree
abbrev pub WhatCameIsInOrOut : Type 0
WhatCameIsInOrOut = (m : Machine) (has : HasUses m) (x : ℕ) → is_start (has.outs.stages (card x)) ≡ false
    → Born has.outs.stages x → IsInOrOut m.words has.outs.stages x
