-- How a pass asks for a card, and what comes of that.
use Rattle.std.specs.Prelude.{◌≡◌, ◌≢◌, ℕ, ◌+◌, ◌*◌, ◌<◌, ◌≤◌, ◌⊎◌, ◌++◌, true, false, Option, Some, None, List, [], ◌∷◌}
use Rattle.ell_ops.specs.declared.op.Op.{Op}
use Rattle.ell_word.specs.Node.{greatest_number}
use Rattle.ell_core.specs.declared.exchange.Exchange.{Exchange}
use Rattle.ell_core.specs.declared.exchange.Exchange.TheVariants as exchange
use Rattle.ell_core.specs.declared.view.Seen.{Seen}
use Rattle.ell_core.specs.acts.Searching.{IsClean}
use Rattle.ell_runs.specs.declared.call.NewNode.{NewNode}
use Rattle.ell_runs.specs.declared.view.Hindrance.{Hindrance}
use Rattle.ell_runs.specs.declared.view.Hindrance.TheVariants.{Claim}
use Rattle.ell_runs.specs.declared.view.Slots.{Slots}
use Rattle.ell_runs.specs.declared.view.Told.{Told}
use Rattle.ell_runs.specs.declared.view.Told.TheVariants.{Expects}
use Rattle.ell_runs.specs.declared.view.View.{View}
use Rattle.ell_runs.specs.Changes.{expected_tag, filling_of, tagged, told_filling, value_told}
use Rattle.ell_runs.specs.Guards.{MayFill, Wants}
use Rattle.ell_runs.specs.Plans.{TablePlan, flat_from}
use Rattle.ell_runs.specs.Views.{Does, Has, IsTold, SameShare, StandsAt}
use Rattle.ell_cards.specs.declared.taking.Claimed.{Claimed}
use Rattle.ell_cards.specs.declared.taking.Claimed.TheVariants as claimed
use Rattle.ell_cards.specs.declared.taking.Free.{Free}
use Rattle.ell_cards.specs.Models.{KeepsItsOwn, PassModel}
use Rattle.ell_cards.specs.Retiring.{none_retired}
use Rattle.ell_cards.specs.Shown.{shown_words}
use Rattle.ell_cards.specs.SlotWords.{could_take, has_slot_in}
use Rattle.ell_cards.specs.Stepping.{HasSlotOf, LetsGo}

-- A pass may ask for a card whose node gets this key: the pass stands at a node whose key it was told, behind a clean
-- parent, where the operation in hand wants one.
pub record MayAskForCard (plan : TablePlan) (v : View) (node_key : ℕ) : Type 0 where
  pub op : Op
  pub below : ℕ
  pub key : ℕ
  pub parent : Seen
  pub busy : Does v op
  pub stands : StandsAt v below
  pub told : v.here ≡ Some key
  pub behind : v.worker.search.parent ≡ Some parent
  pub calm : IsClean parent.word
  pub wants : Wants (flat_from plan) v op parent.node below key node_key

-- the most steps in which a pass asks for a card: two, where each card has words of its own; where cards lie in slots,
-- two for each time that another pass may take the slot first, two more times than the number of the last slot
abbrev pub claim_steps : Option Slots → ℕ
claim_steps None = 2
claim_steps (Some s) = 2 * s.last + 4

-- what is told of a card that is claimed
abbrev pub told_of_claim : ℕ → NewNode → View → List Told
told_of_claim c node v = Expects c (expected_tag v) ∷ told_filling c (filling_of c node v) []

-- something was told of a card, from a first one to before an end, when that was claimed
pub record IsToldOfClaims (first end : ℕ) (node : NewNode) (v : View) (e : Told) : Type 0 where
  pub card : ℕ
  pub from : first ≤ card
  pub before : card < end
  pub among : Has (told_of_claim card node v) e

-- What a pass knows once it has asked for a card whose node is to be this is what it knew, but for the card in hand,
-- which cards are given out, and what was in the way of the try in hand. All that was told beside is of cards that it
-- knows since then to be given out, as claims tell it.
pub record KnowsBeside (node : NewNode) (v w : View) : Type 0 where
  pub operation : w.worker.operation ≡ v.worker.operation
  pub search : w.worker.search ≡ v.worker.search
  pub knows : w.worker.knows ≡ v.worker.knows
  pub ledger : w.worker.ledger ≡ v.worker.ledger
  pub share : SameShare v w
  pub here : w.here ≡ v.here
  pub found : w.found ≡ v.found
  pub looks : w.looks ≡ v.looks
  pub glances : w.glances ≡ v.glances
  pub answered : w.answered ≡ v.answered
  pub given_up : w.given_up ≡ v.given_up
  pub before : w.knew_before ≡ v.knew_before
  pub hindered : w.hindered ≡ v.hindered
  pub earlier : (hs : List Hindrance) → v.hindrances ≡ v.met ++ hs → w.hindrances ≡ w.met ++ hs
  pub least : v.next_at_least ≤ w.next_at_least
  pub won : (e : Exchange × ℕ) → Has v.won e → Has w.won e
  pub told : (e : Told) → IsTold v e → IsTold w e
  pub only : (e : Told) → IsTold w e → IsTold v e ⊎ IsToldOfClaims v.next_at_least w.next_at_least node v e
  pub values : value_told w.told ≡ value_told v.told

-- A pass asked for a card whose node is to be this, in at most so many steps. Where cards lie in slots, a step may
-- stand for many claims, which are as many steps among all.
pub record AsksForCard (plan : TablePlan) (node : NewNode) (n : ℕ) (old new : PassModel) : Type 0 where
  pub own : KeepsItsOwn old new
  pub sight : new.sight ≡ old.sight
  pub inside : new.memory.is_pinned ≡ old.memory.is_pinned
  pub view : KnowsBeside node old.view new.view
  pub steps : new.steps ≤ old.steps + n
  pub made : plan.slots ≡ None → new.view.made ≤ old.view.made + n

-- A card of the table is in hand, not flagged, which no claim of the pass had shown to be given out before. Nothing of
-- it is stored; it is to say what the operation in hand wants of it, by words of 64 bits, with the tag that it is to
-- expect; and what of that never changes is told. Where cards lie in slots, its slot is taken, and nothing is retired
-- for it; else it is the one card that was taken.
pub record TakesCard (plan : TablePlan) (node : NewNode) (c : ℕ) (old new : PassModel) : Type 0 where
  pub first : 0 < c
  pub last : c ≤ plan.last_card
  pub limit : plan.last_card ≤ greatest_number
  pub before : old.view.next_at_least ≤ c
  pub after : new.view.next_at_least ≡ c + 1
  pub may : MayFill new.view c
  pub planned : new.view.planned ≡ shown_words (tagged (expected_tag old.view) (filling_of c node old.view))
  pub stores : new.view.stores ≡ []
  pub told : (e : Told) → Has (told_of_claim c node old.view) e → IsTold new.view e
  pub hindrances : new.view.hindrances ≡ old.view.hindrances
  pub slot : HasSlotOf plan c new
  pub unretired : plan.slots ≢ None → new.memory.retired ≡ none_retired
  pub won : Has new.view.won (exchange.Claim, c)
  pub one : plan.slots ≡ None → new.view.won ≡ (exchange.Claim, c) ∷ old.view.won

-- no card was taken, but some that were discarded, of which the last may be in hand: that may be let go
pub record TakesNone (plan : TablePlan) (old new : PassModel) : Type 0 where
  pub unflagged : (c : ℕ) → new.view.worker.card ≡ Some c → new.view.worker.flagged ≡ false
  pub go : LetsGo plan new
  pub slot : new.memory.slot ≡ old.memory.slot
  pub retired : new.memory.retired ≡ old.memory.retired
  pub none : plan.slots ≡ None → new.view.won ≡ old.view.won

-- another pass took a card of the table first, which no claim of the pass had shown to be given out before
pub record LosesCard (last : ℕ) (v w : View) : Type 0 where
  pub card : ℕ
  pub first : 0 < card
  pub room : card ≤ last
  pub before : v.next_at_least ≤ card
  pub after : w.next_at_least ≡ card + 1
  pub hindrances : w.hindrances ≡ Claim card ∷ v.hindrances

-- What comes of asking for a card whose node is to be this. Where each card has words of its own, none is left once the
-- claim word says that all are given out.
abbrev pub ComesOf : TablePlan → NewNode → PassModel → PassModel → Claimed → Type 0
ComesOf plan node old new (claimed.Card c) = TakesCard plan node c old new
ComesOf plan node old new claimed.NoneLeft =
    TakesNone plan old new × (new.view.hindrances ≡ old.view.hindrances)
    × (plan.slots ≡ None → new.view.next ≡ Some (plan.last_card + 1))
ComesOf plan node old new claimed.Lost = TakesNone plan old new × LosesCard plan.last_card old.view new.view

-- a card in hand, if there is one, may be discarded: it is not flagged, the pass knows that it is given out, and has
-- not taken its slot
pub record HoldsDiscardable (p : PassModel) : Type 0 where
  pub unflagged : (c : ℕ) → p.view.worker.card ≡ Some c → p.view.worker.flagged ≡ false
  pub below : (c : ℕ) → p.view.worker.card ≡ Some c → c < p.view.next_at_least
  pub discarded : (c : ℕ) → p.view.worker.card ≡ Some c → p.memory.slot ≢ Some c

-- a card was claimed in vain, as its slot was in use: it may be discarded
pub record ClaimsInVain (old new : PassModel) : Type 0 where
  pub hand : HoldsDiscardable new
  pub hindrances : new.view.hindrances ≡ old.view.hindrances
  pub slot : new.memory.slot ≡ old.memory.slot
  pub retired : new.memory.retired ≡ old.memory.retired

-- what comes of claiming the next card whose slot could be taken
abbrev pub ComesOfOne : TablePlan → NewNode → PassModel → PassModel → Option Claimed → Type 0
ComesOfOne plan node old new None = ClaimsInVain old new
ComesOfOne plan node old new (Some said) = ComesOf plan node old new said

-- a card has a slot, and by the slot's word as it was read a pass with this safe epoch could take it
pub record CouldTake (slots : Slots) (safe_epoch : ℕ) (free : Free) : Type 0 where
  pub slot : has_slot_in slots.last free.card ≡ true
  pub could : could_take free.word safe_epoch ≡ true

-- a pass that has taken the slot of a card, for which it has retired nothing yet
abbrev pub with_slot : ℕ → PassModel → PassModel
with_slot c p = record p { memory = record (p.memory) { slot = Some c; retired = none_retired } }
