use Rattle.std.proofs.Common.{◌≡◌, ℕ, Option, Some, None, refl, sym, ap, ◌∙◌, subst, arith}
use Rattle.std.proofs.lemmas.Option.{same_Some}
use Rattle.ell_ops.specs.declared.op.Op.{Op}
use Rattle.ell_ops.specs.declared.op.Op.TheVariants.{Find, Insert, Delete, Swap}
use Rattle.ell_ops.specs.Meaning.{key_of}
use Rattle.ell_core.specs.declared.put.Put.{Put}
use Rattle.ell_layout.specs.Words.{Words}
use Rattle.ell_core.specs.state.Machine.{Worker}
use Rattle.ell_core.specs.acts.Searching.{put_of}
use Rattle.ell_core.specs.history.Stages.{Stages}
use Rattle.ell_core.specs.history.Invariant.{InsertInHand, FlaggedPut, IsPutting, Unflagged, Flagged}

-- what an insert and what a swap put
abbrev pub added : ℕ → ℕ → Put
added key value = record { key = key; value = value; was = None }

abbrev pub replacing : ℕ → ℕ → ℕ → Put
replacing key was value = record { key = key; value = value; was = Some was }

-- what an operation puts is put at its key
pub put_key : (op : Op) (what : Put) → put_of op ≡ Some what → key_of op ≡ what.key
put_key (Find key) what e = absurd cc
put_key (Insert key value) what e = ap (λ (t : Put). t.key) (same_Some (added key value) what e)
put_key (Delete key) what e = absurd cc
put_key (Swap key was value) what e = ap (λ (t : Put). t.key) (same_Some (replacing key was value) what e)

module _ (w : Words) (stage : Stages) (v : Worker) (what : Put) (c : ℕ) where
  -- a card in hand of such an operation, that is not flagged
  pub putting_hand : (op : Op) → put_of op ≡ Some what → Unflagged w stage v op c → InsertInHand w stage v what c
  putting_hand (Find key) e h = absurd h
  putting_hand (Insert key value) e h = subst (λ t. InsertInHand w stage v t c) (same_Some (added key value) what e) h
  putting_hand (Delete key) e h = absurd cc
  putting_hand (Swap key was value) e h = subst (λ t. InsertInHand w stage v t c) (same_Some (replacing key was value) what e) h

  -- and the other way round
  pub hand_putting : (op : Op) → put_of op ≡ Some what → InsertInHand w stage v what c → Unflagged w stage v op c
  hand_putting (Find key) e h = absurd cc
  hand_putting (Insert key value) e h = subst (λ t. InsertInHand w stage v t c) (sym (same_Some (added key value) what e)) h
  hand_putting (Delete key) e h = absurd cc
  hand_putting (Swap key was value) e h = subst (λ t. InsertInHand w stage v t c) (sym (same_Some (replacing key was value) what e)) h

  -- one that is flagged
  pub putting_flag : (op : Op) → put_of op ≡ Some what → FlaggedPut w stage v what c → Flagged w stage v op c
  putting_flag (Find key) e h = absurd cc
  putting_flag (Insert key value) e h = subst (λ t. FlaggedPut w stage v t c) (sym (same_Some (added key value) what e)) h
  putting_flag (Delete key) e h = absurd cc
  putting_flag (Swap key was value) e h = subst (λ t. FlaggedPut w stage v t c) (sym (same_Some (replacing key was value) what e)) h

  -- and the other way round
  pub flag_putting : (op : Op) → put_of op ≡ Some what → Flagged w stage v op c → FlaggedPut w stage v what c
  flag_putting (Find key) e h = absurd h
  flag_putting (Insert key value) e h = subst (λ t. FlaggedPut w stage v t c) (same_Some (added key value) what e) h
  flag_putting (Delete key) e h = absurd cc
  flag_putting (Swap key was value) e h = subst (λ t. FlaggedPut w stage v t c) (same_Some (replacing key was value) what e) h

-- the operation that puts this
abbrev putter : ℕ → ℕ → Option ℕ → Op
putter key value None = Insert key value
putter key value (Some was) = Swap key was value

putter_of : (op : Op) (what : Put) → put_of op ≡ Some what → op ≡ putter what.key what.value what.was
putter_of (Find key) what e = absurd cc
putter_of (Insert key value) what e = ap (λ (t : Put). putter t.key t.value t.was) (same_Some (added key value) what e)
putter_of (Delete key) what e = absurd cc
putter_of (Swap key was value) what e = ap (λ (t : Put). putter t.key t.value t.was) (same_Some (replacing key was value) what e)

-- a card puts in one way
one_way : (w : Words) (c : ℕ) (was had : Option ℕ) → IsPutting w c was → IsPutting w c had → was ≡ had
one_way w c None None g h = refl
one_way w c None (Some had) g h = absurd (let same = h.0 in omega arith)
one_way w c (Some was) None g h = absurd (let same = g.0 in omega arith)
one_way w c (Some was) (Some had) g h = ap Some (sym g.1 ∙ h.1)

-- two operations whose card is this one, and which put its key and value, are one
pub one_putter : (w : Words) (c : ℕ) (op other : Op) (what then : Put) → put_of op ≡ Some what → put_of other ≡ Some then → what.key ≡ then.key
    → what.value ≡ then.value → IsPutting w c what.was → IsPutting w c then.was → op ≡ other
one_putter w c op other what then e f key value g h =
    putter_of op what e ∙ ((λ t. putter (key t) (value t) (one_way w c what.was then.was g h t)) ∙ sym (putter_of other then f))
