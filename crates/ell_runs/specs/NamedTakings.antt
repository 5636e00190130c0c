-- Calls that are made by names, and cards that are taken by name and get their numbers when they are flagged.
use Rattle.std.specs.Prelude.{◌≡◌, ℕ, ◌+◌, true, Some, None, List, nat_lt}
use Rattle.ell_ops.specs.declared.op.Op.{Op}
use Rattle.ell_layout.specs.declared.field.Field.{Field}
use Rattle.ell_layout.specs.Words.{has_block}
use Rattle.ell_core.specs.declared.view.Seen.{Seen}
use Rattle.ell_core.specs.acts.Searching.{IsClean}
use Rattle.ell_runs.specs.declared.call.Call.{Call}
use Rattle.ell_runs.specs.declared.call.Call.TheVariants as call
use Rattle.ell_runs.specs.declared.call.NewNode.{NewNode}
use Rattle.ell_runs.specs.declared.view.View.{View}
use Rattle.ell_runs.specs.Calls.{May, after}
use Rattle.ell_runs.specs.Changes.{after_claim, with_stores}
use Rattle.ell_runs.specs.Guards.{Wants}
use Rattle.ell_runs.specs.Named.{named_call, named_node}
use Rattle.ell_runs.specs.Plans.{TablePlan}
use Rattle.ell_runs.specs.Views.{Does, StandsAt}

-- names tell which nodes have blocks, in a tree that is flat from a card on
abbrev pub BlocksAreNamed : ℕ → (ℕ → ℕ) → Type 0
BlocksAreNamed from name = (x : ℕ) → has_block from (named_node name x) ≡ has_block from x

-- a call that builds no card: it neither claims, fills nor flags one
abbrev pub BuildsNoCard : Call → Type 0
BuildsNoCard (call.Claim c node) = ⊥
BuildsNoCard (call.Fill c f value) = ⊥
BuildsNoCard (call.IFlag c p from) = ⊥
BuildsNoCard (call.DFlag c gp from) = ⊥
BuildsNoCard c = Unit {0}

-- a call is the one by names of a call that may be made
pub record IsFromNumbers (name : ℕ → ℕ) (plan : TablePlan) (c : Call) (v : View) : Type 0 where
  pub origin : Call
  pub is : named_call name origin ≡ c
  pub may : May plan origin v

-- What a pass has to know to take a card: what it has to know to claim one, but for the reading of the claim word. It
-- has no card in hand.
pub record MayTakeCard (from : ℕ) (v : View) (node : NewNode) : Type 0 where
  pub op : Op
  pub below : ℕ
  pub key : ℕ
  pub parent : Seen
  pub empty : v.worker.card ≡ None
  pub busy : Does v op
  pub stands : StandsAt v below
  pub told : v.here ≡ Some key
  pub behind : v.worker.search.parent ≡ Some parent
  pub calm : IsClean parent.word
  pub wants : Wants from v op parent.node below key node.key
  pub shape : node.flat ≡ nat_lt 0 from

-- the number of the card in hand has become known: so many numbers were given at least
abbrev pub numbered : ℕ → View → View
numbered c v = record v { next_at_least = c + 1 }

-- what a pass knows once it has read the claim word, has claimed this card, which that named, and has filled it with
-- these words
abbrev pub claimed_and_filled : ℕ → NewNode → List (Field × ℕ) → View → View
claimed_and_filled c node stores v = with_stores stores (after_claim true c node (after call.Next c v))

-- what a pass knows, by names, once it has taken a card of this name and has filled it with these words: as many steps
-- as if it had claimed the card
abbrev pub taken_and_filled : ℕ → NewNode → List (Field × ℕ) → View → View
taken_and_filled new node stores w = with_stores stores (after_claim true new node (record w { made = w.made + 1 }))
