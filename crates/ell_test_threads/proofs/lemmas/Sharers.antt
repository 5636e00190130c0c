use Rattle.std.proofs.Common.{◌≡◌, ◌≤◌, ℕ, true, false, not, List, Option, None, Some, ap, subst, inl, inr, refl, sym, ◌∙◌, ◌&&◌}
use Rattle.std.proofs.lemmas.Bool.{le-leb}
use Rattle.ell_ops.specs.declared.op.Op.{Op}
use Rattle.ell_ops.specs.declared.reply.Reply.{Reply}
use Rattle.ell_ops.specs.KeySet.{set_of}
use Rattle.ell_ops.specs.Meaning.{greatest_key}
use Rattle.ell_runs.specs.declared.view.Slots.{Slots}
use Rattle.ell_core.specs.state.Machine.{shared_of}
use Rattle.ell_core.specs.state.Machine.{WorkerView}
use Rattle.ell_tree.proofs.lemmas.Removing.{that_or_other}
use Rattle.ell_tree.specs.Computing.{Concludes, IsNotDone, PutsValue, RemovesIf, UpdatesValue}
use Rattle.ell_tree.specs.declared.operations.NotDone.{NotDone}
use Rattle.ell_tree.specs.Ends.{Answers, GivenUp}
use Rattle.ell_tree.specs.Ledgers.{TreeModel, PassModel, Owns}
use Rattle.ell_tree.specs.Looks.{EndsLooks, OnlyLooks}
use Rattle.ell_tree.specs.PassParts.{IsLeftPart, IsRightPart, IsUnion}
use Rattle.std.specs.Option.{option_or}
use Rattle.ell_tree.specs.Promises.{MayDo}
use Rattle.ell_test_threads.specs.Sharing.{IsMember}

-- a member may change a key of its own
pub may_own : (owned : List ℕ) (t : TreeModel) (p : PassModel) (key : ℕ) → IsMember owned t p → Owns p key → MayDo t key p
may_own owned t p key h own = record { own = h.own; idle = h.idle; may = inl own }

-- and one that can have no owner
pub may_share : (owned : List ℕ) (t : TreeModel) (p : PassModel) (key : ℕ) → IsMember owned t p → key ≤ greatest_key → set_of owned key ≡ false
    → MayDo t key p
may_share owned t p key h real other = record {
  own = h.own;
  idle = h.idle;
  may = inr (subst (λ (o : Option (List ℕ)). shared_of o key ≡ true) (sym h.ownable)
      (ap (λ b. b && not (set_of owned key)) (le-leb key greatest_key real) ∙ ap not other));
}

-- after an answer it is a member still
pub member_answered : (owned : List ℕ) (t : TreeModel) (op : Op) (said : Reply) (p q : PassModel) → IsMember owned t p → Answers t op said p q
    → IsMember owned t q
member_answered owned t op said p q h a = record { own = a.own.table ∙ h.own; idle = a.idle; ownable = a.share.ownable ∙ h.ownable }

-- and without one
pub member_given_up : (owned : List ℕ) (t : TreeModel) (op : Op) (p q : PassModel) → IsMember owned t p → GivenUp t op p q → IsMember owned t q
member_given_up owned t op p q h l = record { own = l.own.table ∙ h.own; idle = l.idle; ownable = l.share.ownable ∙ h.ownable }

-- and after a call of several operations, of which the last one was answered
member_concluded : (owned : List ℕ) (t : TreeModel) (op : Op) (said : Reply) (p q : PassModel) → IsMember owned t p → Concludes t op said p q
    → IsMember owned t q
member_concluded owned t op said p q h a = record { own = a.own.table ∙ h.own; idle = a.idle; ownable = a.share.ownable ∙ h.ownable }

pub member_put : (owned : List ℕ) (t : TreeModel) (key value : ℕ) (p q : PassModel) (was : Option ℕ) → IsMember owned t p
    → PutsValue t key value p q was → IsMember owned t q
member_put owned t key value p q was h a = member_concluded owned t _ _ p q h a

pub member_updated : (owned : List ℕ) (t : TreeModel) (key : ℕ) (makes : ℕ → ℕ → Type 0) (p q : PassModel) (was : Option ℕ) → IsMember owned t p
    → UpdatesValue t key makes p q was → IsMember owned t q
member_updated owned t key makes p q None h (inl a) = member_concluded owned t _ _ p q h a
member_updated owned t key makes p q None h (inr (other, value, differs, a)) = member_concluded owned t _ _ p q h a
member_updated owned t key makes p q (Some was) h (value, made, a) = member_concluded owned t _ _ p q h a

pub member_removed : (owned : List ℕ) (t : TreeModel) (key was : ℕ) (p q : PassModel) (there : Option ℕ) → IsMember owned t p
    → RemovesIf t key was p q there → IsMember owned t q
member_removed owned t key was p q there h r = elim (that_or_other was there) [
  | inl that ↦ member_concluded owned t _ _ p q h (r.removed that).removes
  | inr other ↦ member_concluded owned t _ _ p q h (r.left other)
]

-- and one that has changed nothing
pub member_not_done : (owned : List ℕ) (t : TreeModel) (key : ℕ) (p q : PassModel) (why : NotDone) → IsMember owned t p
    → IsNotDone t key p q why → IsMember owned t q
member_not_done owned t key p q why h b = record {
  own = b.untouched.own.table ∙ h.own;
  idle = b.untouched.idle;
  ownable = b.untouched.share.ownable ∙ h.ownable;
}

-- and after a look
pub member_looking : (owned : List ℕ) (t : TreeModel) (n : ℕ) (p q : PassModel) → IsMember owned t p → OnlyLooks p q n → IsMember owned t q
member_looking owned t n p q h l = record {
  own = l.own.table ∙ h.own;
  idle = ap (λ (w : WorkerView). w.operation) l.worker ∙ h.idle;
  ownable = ap (λ (w : WorkerView). w.shared) l.worker ∙ h.ownable;
}

-- and once its looks are ended
member_ended : (owned : List ℕ) (t : TreeModel) (slots : Option Slots) (p q : PassModel) → IsMember owned t p
    → EndsLooks slots p q → IsMember owned t q
member_ended owned t None p q h e = subst (λ (r : PassModel). IsMember owned t r) (sym e) h
member_ended owned t (Some s) p q h e =
    let rests : IsMember owned t _ = record { own = h.own; idle = refl; ownable = h.ownable } in
    subst (λ (r : PassModel). IsMember owned t r) (sym e) rests

pub member_resting : (owned : List ℕ) (t : TreeModel) (p q : PassModel) → IsMember owned t p
    → EndsLooks t.plan.slots p q → IsMember owned t q
member_resting owned t p q = member_ended owned t t.plan.slots p q

-- so are the parts of one
pub member_left : (owned : List ℕ) (t : TreeModel) (keys : List ℕ) (p q : PassModel) → IsMember owned t p → IsLeftPart keys p q
    → IsMember owned t q
member_left owned t keys p q h l = record { own = l.own.table ∙ h.own; idle = l.idle; ownable = l.ownable ∙ h.ownable }

pub member_right : (owned : List ℕ) (t : TreeModel) (keys : List ℕ) (p q : PassModel) → IsMember owned t p → IsRightPart keys p q
    → IsMember owned t q
member_right owned t keys p q h r = record { own = r.own.table ∙ h.own; idle = r.idle; ownable = r.ownable ∙ h.ownable }

-- and two that are, in one
pub member_joined : (owned : List ℕ) (t : TreeModel) (p q r : PassModel) → IsMember owned t p → IsMember owned t q → IsUnion p q r
    → IsMember owned t r
member_joined owned t p q r h k u = record {
  own = u.own.table ∙ h.own;
  idle = u.idle;
  ownable = u.ownable ∙ ap (λ (o : Option (List ℕ)). option_or o q.view.worker.shared) h.ownable;
}
