use Rattle.std.proofs.Common.{◌≡◌, ◌≢◌, ℕ, true, false, not, Ok, Option, Some, None, is_some, inl, inr, refl, sym, ap, subst, ◌∙◌, arith, List, length}
use Rattle.std.proofs.lemmas.Bool.{ne_eqb, eq-eqb, eqb-true, false≢true}
use Rattle.std.proofs.Common.{eqb}
use Rattle.std.specs.Option.{option_eq}
use Rattle.ell_ops.specs.declared.op.Op.{Op}
use Rattle.ell_ops.specs.declared.op.Op.TheVariants.{Find, Insert, Swap}
use Rattle.ell_ops.specs.declared.reply.Reply.{Reply}
use Rattle.ell_ops.specs.declared.reply.Reply.TheVariants.{No, Yes}
use Rattle.ell_ops.specs.Contents.{Contents}
use Rattle.ell_ops.specs.Meaning.{key_of, reply_of, after, found, yes_if}
use Rattle.ell_core.specs.state.Machine.{ledger_of, shared_of}
use Rattle.ell_core.specs.statements.Effects.{contents_in, reply_of_change}
use Rattle.ell_core.proofs.lemmas.outcomes.Decide.{cases_option, some_not_none}
use Rattle.ell_core.proofs.lemmas.following.AnswerMeaning.{key_kept, swap_lacked, swap_other}
use Rattle.ell_runs.specs.declared.view.Act.{Act}
use Rattle.ell_cards.specs.Models.{KeepsItsOwn, PassModel, ledger}
use Rattle.ell_runs.specs.Seeing.{HasSeenMore, SeesCall}
use Rattle.ell_runs.specs.Views.{SameShare}
use Rattle.ell_tree.specs.Ledgers.{TreeModel, present_in, Owns, IsIdle}
use Rattle.ell_tree.specs.Ends.{Answers, GivenUp}
use Rattle.ell_tree.specs.Called.{SeesLast, SeesPut, SeesRead, SeesUpdate, put_by}
use Rattle.ell_tree.specs.Computing.{IsUntouched, Concludes, LastChangesNothing, PutsValue, ReadsValue, UpdatesValue}
use Rattle.ell_tree.specs.Promises.{MayDo}
use Rattle.ell_cards.proofs.lemmas.views.Steps.{own_same, own_trans}
use Rattle.ell_tree.proofs.lemmas.Called.{its_take, by_take}
use Rattle.ell_tree.proofs.lemmas.Keeping.{share_trans}
use Rattle.ell_tree.proofs.lemmas.Sights.{no_change_call, no_change_more, no_change_self, no_change_trans, sees_last, sees_last_after}

-- an operation that leaves what a pass has, if the key is its own
abbrev pub LeavesOwn : Op → PassModel → Type 0
LeavesOwn op p = Owns p (key_of op) → (key : ℕ) → after op (present_in p) key ≡ present_in p key

-- a value is found in one way
pub found_one : (a b : Option ℕ) → found a ≡ found b → a ≡ b
found_one None None e = refl
found_one None (Some y) e = absurd cc
found_one (Some x) None e = absurd cc
found_one (Some x) (Some y) e = let same : x ≡ y = cc in ap Some same

-- a find is no change's answer, and neither is what a swap finds that is not its first value
pub found_not_yes : (o : Option ℕ) → found o ≢ Yes
found_not_yes None e = absurd cc
found_not_yes (Some v) e = absurd cc

-- a pass that answers such an operation is left as it was
pub untouched_by : (t : TreeModel) (op : Op) (said : Reply) (p q : PassModel) → LeavesOwn op p → said ≢ reply_of_change op → Answers t op said p q → IsUntouched p q
untouched_by t op said p q leaves other h = let last = its_take op (λ took. SeesCall op said took p.sight q.sight) h.sees in record {
  own = h.own;
  map = λ key. elim (cases_option (ledger p (key_of op))) [
    | inl is ↦ (let owns : Owns p (key_of op) = λ none. some_not_none is.1 none in h.map owns key ∙ leaves owns key)
    | inr none ↦ ap (λ f. contents_in f key) (h.stays (λ owns. owns none))
  ];
  owned = h.owned;
  answered = let one = h.answered in omega arith;
  share = h.share;
  idle = h.idle;
  unpinned = λ was. h.unpinned;
  sees = no_change_call op said last.0 p.sight q.sight other last.1;
}

-- so is one whose ledger is as it was
pub untouched_still : (p q : PassModel) → KeepsItsOwn p q → q.view.worker.ledger ≡ p.view.worker.ledger → SameShare p.view q.view
    → IsIdle q → q.memory.is_pinned ≡ false → HasSeenMore p.sight q.sight → IsUntouched p q
untouched_still p q own ledgers share idle unpinned sees = let same : ledger q ≡ ledger p = ap ledger_of ledgers in record {
  own = own;
  map = λ key. ap (λ f. contents_in f key) same;
  owned = λ key. (λ owns none. owns (ap (λ f. f key) same ∙ none), λ owns none. owns (sym (ap (λ f. f key) same) ∙ none));
  answered = let count = ap (λ (l : List Act). length l) sees.mine in omega (arith, count);
  share = share;
  idle = idle;
  unpinned = λ was. unpinned;
  sees = no_change_more p.sight q.sight sees;
}

-- and one that gives an operation up
pub untouched_given_up : (t : TreeModel) (op : Op) (p q : PassModel) → GivenUp t op p q → IsUntouched p q
untouched_given_up t op p q h = untouched_still p q h.own h.ledger h.share h.idle h.unpinned h.sees

pub untouched_trans : (p q r : PassModel) → IsUntouched p q → IsUntouched q r → IsUntouched p r
untouched_trans p q r g h = record {
  own = own_trans p q r g.own h.own;
  map = λ key. h.map key ∙ g.map key;
  owned = λ key. (λ owns. (g.owned key).0 ((h.owned key).0 owns), λ owns. (h.owned key).1 ((g.owned key).1 owns));
  answered = let one = g.answered in let more = h.answered in omega arith;
  share = share_trans p.view q.view r.view g.share h.share;
  idle = h.idle;
  unpinned = λ was. h.unpinned (g.unpinned was);
  sees = no_change_trans p.sight q.sight r.sight g.sees h.sees;
}

-- an operation after others that have changed nothing concludes a call
pub concludes : (t : TreeModel) (op : Op) (said : Reply) (p q r : PassModel) → IsUntouched p q → Answers t op said q r → Concludes t op said p r
concludes t op said p q r g h =
    let there : present_in q ≡ present_in p = λ i key. g.map key i in record {
      own = own_trans p q r g.own h.own;
      says = λ owns. h.says ((g.owned (key_of op)).1 owns) ∙ ap (reply_of op) there;
      map = λ owns key. h.map ((g.owned (key_of op)).1 owns) key ∙ ap (λ m. after op m key) there;
      stays = λ other key. ap (λ f. contents_in f key) (h.stays (λ owns. other ((g.owned (key_of op)).0 owns))) ∙ g.map key;
      point = h.point;
      owned = λ key. (λ owns. (g.owned key).0 ((h.owned key).0 owns), λ owns. (h.owned key).1 ((g.owned key).1 owns));
      answered = let one = h.answered in let more = g.answered in omega arith;
      share = share_trans p.view q.view r.view g.share h.share;
      idle = h.idle;
      unpinned = h.unpinned;
      sees = by_take op (λ took. SeesCall op said took q.sight r.sight) (λ took. SeesLast op said took p.sight r.sight)
          (λ took. sees_last op said took p.sight q.sight r.sight g.sees) h.sees;
    }

-- so does one before which others have changed nothing
pub concludes_after : (t : TreeModel) (op : Op) (said : Reply) (p q r : PassModel) → IsUntouched p q → Concludes t op said q r → Concludes t op said p r
concludes_after t op said p q r g h =
    let there : present_in q ≡ present_in p = λ i key. g.map key i in record {
      own = own_trans p q r g.own h.own;
      says = λ owns. h.says ((g.owned (key_of op)).1 owns) ∙ ap (reply_of op) there;
      map = λ owns key. h.map ((g.owned (key_of op)).1 owns) key ∙ ap (λ m. after op m key) there;
      stays = λ other key. h.stays (λ owns. other ((g.owned (key_of op)).0 owns)) key ∙ g.map key;
      point = h.point;
      owned = λ key. (λ owns. (g.owned key).0 ((h.owned key).0 owns), λ owns. (h.owned key).1 ((g.owned key).1 owns));
      answered = let one = h.answered in let more = g.answered in omega arith;
      share = share_trans p.view q.view r.view g.share h.share;
      idle = h.idle;
      unpinned = h.unpinned;
      sees = by_take op (λ took. SeesLast op said took q.sight r.sight) (λ took. SeesLast op said took p.sight r.sight)
          (λ took. sees_last_after op said took p.sight q.sight r.sight g.sees) h.sees;
    }

pub reads_after : (t : TreeModel) (key : ℕ) (was : Option ℕ) (p q r : PassModel) → IsUntouched p q → ReadsValue t key was q r → ReadsValue t key was p r
reads_after t key was p q r g (inl h) = inl (concludes_after t (Find key) (found was) p q r g h)
reads_after t key was p q r g (inr h) = inr (h.0, h.1, h.2, concludes_after t (Swap key h.0 h.1) (found was) p q r g h.3)

-- a find leaves everything
pub find_leaves : (key : ℕ) (p : PassModel) → LeavesOwn (Find key) p
find_leaves key p owns k = refl

-- an insert that answers no, and a swap that found another value
kept_by : (there : Contents) (key value : ℕ) (o : Option ℕ) → there key ≡ o → No ≡ yes_if (not (is_some o)) → (k : ℕ) → after (Insert key value) there k ≡ there k
kept_by there key value None is says k = absurd cc
kept_by there key value (Some had) is says k = sym (key_kept there key value had is k)

pub insert_leaves : (t : TreeModel) (key value : ℕ) (p q : PassModel) → Answers t (Insert key value) No p q → LeavesOwn (Insert key value) p
insert_leaves t key value p q h owns k = kept_by (present_in p) key value (present_in p key) refl (h.says owns) k

left_by : (there : Contents) (key was value : ℕ) (o : Option ℕ) → there key ≡ o → o ≢ Some was → (k : ℕ) → after (Swap key was value) there k ≡ there k
left_by there key was value None is other k = sym (swap_lacked there key was value is k)
left_by there key was value (Some had) is other k = sym (swap_other there key was value had is (ne_eqb had was (λ e. other (ap Some e))) k)

pub swap_leaves : (t : TreeModel) (key was value : ℕ) (o : Option ℕ) (p q : PassModel) → o ≢ Some was → Answers t (Swap key was value) (found o) p q
    → LeavesOwn (Swap key was value) p
swap_leaves t key was value o p q other h owns k =
    left_by (present_in p) key was value (present_in p key) refl
    (λ e. other (found_one o (present_in p key) (h.says owns) ∙ e)) k

-- what was found of an own key is what the pass has
pub found_own : (t : TreeModel) (key : ℕ) (was : Option ℕ) (p q : PassModel) → Concludes t (Find key) (found was) p q → Owns p key → present_in p key ≡ was
found_own t key was p q h owns = sym (found_one was (present_in p key) (h.says owns))

pub reads_own : (t : TreeModel) (key : ℕ) (was : Option ℕ) (p q : PassModel) → ReadsValue t key was p q → Owns p key → present_in p key ≡ was
reads_own t key was p q (inl h) owns = found_own t key was p q h owns
reads_own t key was p q (inr h) owns = sym (found_one was (present_in p key) (h.3.says owns))

-- a pass is as it is
pub untouched_self : (p : PassModel) → IsIdle p → IsUntouched p p
untouched_self p idle = record {
  own = own_same p;
  map = λ key. refl;
  owned = λ key. (λ owns. owns, λ owns. owns);
  answered = omega arith;
  share = record { share = refl; ownable = refl };
  idle = idle;
  unpinned = λ was. was;
  sees = no_change_self p.sight;
}

-- where an insert of an own key answers no, the key was there
is_there : (o : Option ℕ) → No ≡ yes_if (not (is_some o)) → o ≢ None
is_there None says e = absurd cc
is_there (Some had) says e = absurd cc

pub not_there : (t : TreeModel) (key value : ℕ) (p q : PassModel) → Answers t (Insert key value) No p q → Owns p key → present_in p key ≢ None
not_there t key value p q h owns = is_there (present_in p key) (h.says owns)

-- a test that finds an option to be no certain value
pub not_one : (o : Option ℕ) (was : ℕ) → option_eq eqb o (Some was) ≡ false → o ≢ Some was
not_one o was test e = false≢true (sym test ∙ (ap (λ a. option_eq eqb a (Some was)) e ∙ eq-eqb was was refl))

-- and one that finds it to be that value
pub is_one : (o : Option ℕ) (was : ℕ) → option_eq eqb o (Some was) ≡ true → o ≡ Some was
is_one None was test = absurd (false≢true test)
is_one (Some v) was test = ap Some (eqb-true v was test)

-- so a swap has put its value
pub swapped : (t : TreeModel) (key value : ℕ) (before there : Option ℕ) (was : ℕ) (p q : PassModel) → before ≡ Some was → there ≡ Some was
    → Answers t (Swap key was value) (found there) p q → Answers t (put_by key value before) (reply_of_change (put_by key value before)) p q
swapped t key value before there was p q is same said =
    subst (λ o. Answers t (put_by key value o) (reply_of_change (put_by key value o)) p q) (sym is)
    (subst (λ o. Answers t (Swap key was value) (found o) p q) same said)

-- what a pass may change it still may
pub may_still : (t : TreeModel) (key : ℕ) (p q : PassModel) → IsUntouched p q → MayDo t key p → MayDo t key q
may_still t key p q g h = record {
  own = g.own.table ∙ h.own;
  idle = g.idle;
  may = elim h.may [
    | inl owns ↦ inl ((g.owned key).1 owns)
    | inr shared ↦ inr (ap (λ o. shared_of o key) g.share.ownable ∙ shared)
  ];
}

pub found_last : (t : TreeModel) (key : ℕ) (was : Option ℕ) (p q : PassModel) → Concludes t (Find key) (found was) p q → LastChangesNothing t key q.view
found_last t key was p q h = record { op = Find key; on = refl; nothing = inr (found was, found_not_yes was, h.point) }

pub reads_last : (t : TreeModel) (key : ℕ) (was : Option ℕ) (p q : PassModel) → ReadsValue t key was p q → LastChangesNothing t key q.view
reads_last t key was p q (inl h) = found_last t key was p q h
reads_last t key was p q (inr h) =
    record { op = Swap key h.0 h.1; on = refl; nothing = inr (found was, λ e. h.2 (found_one was (Some h.0) e), h.3.point) }

-- what puts a value at a key is on that key
pub put_on : (key value : ℕ) (was : Option ℕ) → key_of (put_by key value was) ≡ key
put_on key value None = refl
put_on key value (Some was) = refl

pub given_up_at_last : (t : TreeModel) (key value : ℕ) (was : Option ℕ) (p q : PassModel) → GivenUp t (put_by key value was) p q → LastChangesNothing t key q.view
given_up_at_last t key value was p q h = record { op = put_by key value was; on = put_on key value was; nothing = inl h.nothing }

-- what a pass has seen of a call that only reads, that updates a value, or that puts one
pub reads_seen : (t : TreeModel) (key : ℕ) (was : Option ℕ) (p q : PassModel) → ReadsValue t key was p q → SeesRead key was p q
reads_seen t key was p q (inl h) = inl h.sees
reads_seen t key was p q (inr h) = inr (h.0, h.1, h.2, h.3.sees)

pub updates_seen : (t : TreeModel) (key : ℕ) (makes : ℕ → ℕ → Type 0) (p q : PassModel) (was : Option ℕ) → UpdatesValue t key makes p q was
    → SeesUpdate key makes p q (Ok was)
updates_seen t key makes p q None h = reads_seen t key None p q h
updates_seen t key makes p q (Some was) h = (h.0, h.1, h.2.sees)

pub puts_seen : (t : TreeModel) (key value : ℕ) (p q : PassModel) (was : Option ℕ) → PutsValue t key value p q was → SeesPut key value p q (Ok was)
puts_seen t key value p q None h = h.sees
puts_seen t key value p q (Some was) h = h.sees
