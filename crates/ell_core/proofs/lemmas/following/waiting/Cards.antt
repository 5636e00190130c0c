use Rattle.std.proofs.Common.{◌≡◌, ℕ, ◌<◌, inl, inr, Bool, true, false, Some, [], refl, ap, arith, ◌%◌}
use Rattle.ell_word.specs.Node.{card, internal}
use Rattle.ell_ops.specs.declared.op.Op.{Op}
use Rattle.ell_ops.specs.declared.op.Op.TheVariants.{Find, Insert, Delete, Swap}
use Rattle.ell_layout.specs.Words.{Words, word, table_word}
use Rattle.ell_core.specs.state.Machine.{Worker, Machine}
use Rattle.ell_core.specs.history.Stages.{Stages, is_claimed, is_start, waits}
use Rattle.ell_core.specs.history.Invariant.{Unflagged, Flagged, WorkerIsSound, Invariant}
use Rattle.ell_core.specs.history.Later.{wins_of}
use Rattle.ell_core.specs.statements.Waiting.{IsUnflagged, StagesTellWaiting, ClaimedCardsSay}
use Rattle.ell_core.proofs.lemmas.outcomes.Decide.{cases_option, some_not_none}
use Rattle.ell_core.proofs.lemmas.stages.Order.{insert-claimed, delete-claimed, insert_won-insert, delete_won-delete}
use Rattle.ell_core.proofs.lemmas.stages.Waiting.{insert-waits, delete-waits, insert_won-settled, delete_won-settled, born-settled, waits-claimed, waits-no_start, waits-wins, kind-waits}
use Rattle.ell_layout.proofs.lemmas.Stored.{claimed_stored}
use Rattle.ell_core.proofs.lemmas.following.facts.Claimed.{not_claimed}
use Rattle.ell_word.specs.Link.{linked}
use Rattle.ell_layout.specs.declared.field.Field.{Field}
use Rattle.ell_layout.specs.declared.field.Field.TheVariants.{Gp, P, L, Was, Key, Left, Right, Update, LeftLeafKey, RightLeafKey, LeftValue, RightValue}
use Rattle.ell_layout.specs.Cards.{claimed, stored, tagged_for}
use Rattle.ell_layout.proofs.lemmas.Writes.{put_same}
use Rattle.ell_core.proofs.lemmas.keeping.claim.Filling.{filled_tags}

-- a card in hand that is not flagged waits
by_operation : (w : Words) (stage : Stages) (v : Worker) (op : Op) (c : ℕ) → Unflagged w stage v op c → waits (stage c) ≡ true
by_operation w stage v (Find k) c h = absurd h
by_operation w stage v (Insert k value) c h = insert-waits (stage c) h.claimed.0 h.claimed.1
by_operation w stage v (Swap k was value) c h = insert-waits (stage c) h.claimed.0 h.claimed.1
by_operation w stage v (Delete k) c h = delete-waits (stage c) h.claimed.0 h.claimed.1

-- one that is flagged does not
by_flag : (w : Words) (stage : Stages) (v : Worker) (op : Op) (c : ℕ) → Flagged w stage v op c → waits (stage c) ≡ false
by_flag w stage v (Find k) c h = absurd h
by_flag w stage v (Insert k value) c h = insert_won-settled (stage c) h.0
by_flag w stage v (Swap k was value) c h = insert_won-settled (stage c) h.0
by_flag w stage v (Delete k) c h = delete_won-settled (stage c) h.0

-- a worker with a card in hand has an operation in hand
pub busy : (w : Words) (stage : Stages) (v : Worker) (c : ℕ) → WorkerIsSound w stage v → v.card ≡ Some c → (op : Op) × (v.operation ≡ Some op)
busy w stage v c sound holds = elim (cases_option v.operation) [
  | inl op ↦ op
  | inr e ↦ absurd (some_not_none holds (ap (λ (u : Worker). u.card) (sound.free e)))
]

-- a card in a worker's hand that is not flagged waits
pub hand_waits : (w : Words) (stage : Stages) (v : Worker) (c : ℕ) → WorkerIsSound w stage v → v.card ≡ Some c → v.flagged ≡ false
    → waits (stage c) ≡ true
hand_waits w stage v c sound holds unflagged =
    let op = busy w stage v c sound holds in by_operation w stage v op.0 c (sound.unflagged op.0 c op.1 holds unflagged)

-- a flagged one does not
pub flagged_made : (w : Words) (stage : Stages) (v : Worker) (c : ℕ) → WorkerIsSound w stage v → v.card ≡ Some c → v.flagged ≡ true
    → waits (stage c) ≡ false
flagged_made w stage v c sound holds flagged =
    let op = busy w stage v c sound holds in by_flag w stage v op.0 c (sound.flagged op.0 c op.1 holds flagged).0

-- a card that won its flag was claimed
won_claimed : (w : Words) (stage : Stages) (v : Worker) (op : Op) (c : ℕ) → Flagged w stage v op c → is_claimed (stage c) ≡ true
won_claimed w stage v (Find k) c h = absurd h
won_claimed w stage v (Insert k value) c h = insert-claimed (stage c) (insert_won-insert (stage c) h.0)
won_claimed w stage v (Swap k was value) c h = insert-claimed (stage c) (insert_won-insert (stage c) h.0)
won_claimed w stage v (Delete k) c h = delete-claimed (stage c) (delete_won-delete (stage c) h.0)

-- so was every card in a worker's hand
pub hand_claimed : (w : Words) (stage : Stages) (v : Worker) (c : ℕ) → WorkerIsSound w stage v → v.card ≡ Some c → is_claimed (stage c) ≡ true
hand_claimed w stage v c sound holds = by v.flagged refl
  where
    by : (b : Bool) → v.flagged ≡ b → is_claimed (stage c) ≡ true
    by true flagged = let op = busy w stage v c sound holds in won_claimed w stage v op.0 c (sound.flagged op.0 c op.1 holds flagged).0
    by false unflagged = waits-claimed (stage c) (hand_waits w stage v c sound holds unflagged)

module _ (m : Machine) (stage : Stages) (invariant : Invariant m stage) where
  -- a card that is not flagged is in one hand
  pub one_hand : (i j c : ℕ) → IsUnflagged m i c → (m.worker j).card ≡ Some c → i ≡ j
  one_hand i j c h holds = invariant.workers.one_hand i j c h.holds holds

  -- a claimed card that is none of the opening tree's and has won nothing waits
  pub claimed_waits : (c : ℕ) → c < m.words.next → is_start (stage c) ≡ false → wins_of (stage c) ≡ [] → waits (stage c) ≡ true
  claimed_waits c below n none = kind-waits (stage c) (invariant.kinds.kinds c below n) none

-- which cards wait
pub stages_tell_waiting : StagesTellWaiting
stages_tell_waiting m stage invariant = record {
  which = λ c. (
    λ h. ((invariant.words.cards c).claimed.0 (waits-claimed (stage c) h), waits-no_start (stage c) h, waits-wins (stage c) h),
    λ h. claimed_waits m stage invariant c h.0 h.1 h.2,
  );
  born = λ x h. born-settled (stage (card x)) (x % 4) h;
  hand = λ i c h. hand_waits m.words stage (m.worker i) c (invariant.workers.each i) h.holds h.unflagged;
  alone = one_hand m stage invariant;
  flagged = λ i c holds flagged. flagged_made m.words stage (m.worker i) c (invariant.workers.each i) holds flagged;
}

-- what a table has at a field of a card whose leaf's field has the tag that it expects, and whose children have tag 0
table_says : (w : Words) (c tag value : ℕ) (field : Field) → w.expects c ≡ tag → ((right : Bool) → w.tag (internal c) right ≡ 0)
    → word w c field ≡ value → table_word w c field ≡ tagged_for field tag value
table_says w c tag value L expects tags is = λ t. linked (record { node = is t; tag = expects t })
table_says w c tag value Left expects tags is = λ t. linked (record { node = is t; tag = tags false t })
table_says w c tag value Right expects tags is = λ t. linked (record { node = is t; tag = tags true t })
table_says w c tag value Gp expects tags is = is
table_says w c tag value P expects tags is = is
table_says w c tag value Was expects tags is = is
table_says w c tag value Key expects tags is = is
table_says w c tag value Update expects tags is = is
table_says w c tag value LeftLeafKey expects tags is = is
table_says w c tag value RightLeafKey expects tags is = is
table_says w c tag value LeftValue expects tags is = is
table_says w c tag value RightValue expects tags is = is

-- the words of a claimed card are those of its filling
pub claimed_cards_say : ClaimedCardsSay
claimed_cards_say m stage tag filling field invariant =
    let blank = (invariant.words.cards m.words.next).blank (not_claimed m.words stage invariant.words m.words.next (omega arith)) in
    table_says (claimed m.words tag filling) m.words.next tag (stored filling field 0) field (put_same m.words.expects m.words.next tag)
    (filled_tags m.words m.words.next filling blank.tags)
    (claimed_stored m.words tag filling field (blank.words field))
