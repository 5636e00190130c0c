-- What a pass sees of the history in a call.
use Rattle.std.proofs.Common.{◌≡◌, ◌≢◌, ℕ, ◌<◌, ◌≤◌, nat_le, if◌then◌else◌, Bool, true, false, ◌⊎◌, inl, inr, Option, List, [], ◌∷◌, ◌++◌, length, refl, sym, ap, ◌∙◌, subst, arith, append-nil}
use Rattle.std.proofs.lemmas.List.{append_assoc}
use Rattle.std.proofs.lemmas.Bool.Decides.{nat_tests}
use Rattle.ell_ops.specs.declared.op.Op.{Op}
use Rattle.ell_ops.specs.declared.reply.Reply.{Reply}
use Rattle.ell_core.specs.statements.Effects.{reply_of_change}
use Rattle.ell_runs.specs.declared.view.Act.{Act}
use Rattle.ell_runs.specs.declared.view.Event.{Event}
use Rattle.ell_runs.specs.declared.view.Event.TheVariants.{Begins, Ends}
use Rattle.ell_runs.specs.declared.view.Sight.{Sight}
use Rattle.ell_runs.specs.Histories.{IsCall}
use Rattle.ell_runs.specs.Views.{Has, latest, earlier}
use Rattle.ell_runs.specs.Seeing.{HasSeenMore, SeesBegin, SeesCall, SeesEnd}
use Rattle.ell_runs.specs.Sights.{IsPart, longer}
use Rattle.ell_cards.proofs.lemmas.whole.Seeing.{at_inside, call_more}
use Rattle.ell_tree.specs.Called.{SeesLast, SeesNoChange}

-- a beginning of a beginning of a history is one of the history, and no longer
pub part_trans : (a b c : List Event) → IsPart a b → IsPart b c → IsPart a c
part_trans a b c one other = (one.0 ++ other.0, other.1 ∙ (ap (λ l. l ++ other.0) one.1 ∙ append_assoc a one.0 other.0))

pub part_short : (a b : List Event) → IsPart a b → length a ≤ length b
part_short a b one = let more = longer a one.0 in let same = ap length one.1 in omega arith
  where
    longer : (a b : List Event) → length a ≤ length (a ++ b)
    longer [] b = omega arith
    longer (x ∷ xs) b = (let rest = longer xs b in omega arith)

-- what was seen when an operation was begun or answered
begun_part : (op : Op) (p q : Sight) → SeesBegin op p q → IsPart p.seen q.seen
begun_part op p q b = part_trans p.seen b.before q.seen b.more (Begins b.seat op ∷ [], b.seen)

ended_part : (op : Op) (said : Reply) (took : Option ℕ) (q r : Sight) → SeesEnd op said took q r → IsPart q.seen r.seen
ended_part op said took q r e = part_trans q.seen e.before r.seen e.more (Ends e.seat said took ∷ [], e.seen)

-- what a pass sees by an answer goes by what it had seen when it was answered
pub ends_from : (op : Op) (said : Reply) (took : Option ℕ) (p q r : Sight) → q ≡ p → SeesEnd op said took q r → SeesEnd op said took p r
ends_from op said took p q r same end = subst (λ (g : Sight). SeesEnd op said took g r) same end

-- an operation that was begun and then answered is a call
pub sees_call : (op : Op) (said : Reply) (took : Option ℕ) (p q m r : Sight) → SeesBegin op p q → m ≡ q → SeesEnd op said took m r → SeesCall op said took p r
sees_call op said took p q m r b same end =
    let e = ends_from op said took q m r same end in
    let start = part_short p.seen b.before b.more in
    let late = e.last (length b.before) b.begun in
    record {
      begin = e.begin;
      end = length e.before;
      after = omega arith;
      more = part_trans p.seen q.seen r.seen (begun_part op p q b) (ended_part op said took q r e);
      call = e.call;
      mine = e.mine ∙ ap (λ (l : List Act). record { begin = e.begin; end = length e.before; op = op; said = said; took = took } ∷ l) b.mine;
    }

-- and one that was given up is none
pub sees_none : (op : Op) (p q m : Sight) → SeesBegin op p q → m ≡ q → HasSeenMore p m
sees_none op p q m b same = subst (HasSeenMore p) (sym same) (record { more = begun_part op p q b; mine = b.mine })

-- lists of calls
none_has : (a : Act) → Has [] a → ⊥
none_has a h = elim h [ ]

has_one : (x a : Act) → Has (x ∷ []) a → x ≡ a
has_one x a (latest _ _) = refl
has_one x a (earlier _ _ _ h) = absurd (none_has a h)

has_either : (xs ys : List Act) (a : Act) → Has (xs ++ ys) a → Has xs a ⊎ Has ys a
has_either [] ys a h = inr h
has_either (x ∷ xs) ys a (latest _ _) = inl (latest x xs)
has_either (x ∷ xs) ys a (earlier _ _ _ h) = elim (has_either xs ys a h) [
  | inl one ↦ inl (earlier a x xs one)
  | inr one ↦ inr one
]

-- a call of a beginning of a history is one of the history
call_on : (h l : List Event) (a : Act) → IsPart h l → IsCall h a.begin a.end a.op a.said a.took → IsCall l a.begin a.end a.op a.said a.took
call_on h l a part c = subst (λ (k : List Event). IsCall k a.begin a.end a.op a.said a.took) (sym part.1) (call_more h part.0 a.begin a.end a.op a.said a.took c)

-- a pass that has seen more, and was answered nothing
pub no_change_more : (p q : Sight) → HasSeenMore p q → SeesNoChange p q
no_change_more p q h = record { more = h.more; calls = []; mine = h.mine; each = λ a has. absurd (none_has a has) }

pub no_change_self : (p : Sight) → SeesNoChange p p
no_change_self p = no_change_more p p (record { more = ([], sym (append-nil p.seen)); mine = refl })

-- or a call that has changed nothing
pub no_change_call : (op : Op) (said : Reply) (took : Option ℕ) (p q : Sight) → said ≢ reply_of_change op → SeesCall op said took p q → SeesNoChange p q
no_change_call op said took p q other h =
    let one : Act = record { begin = h.begin; end = h.end; op = op; said = said; took = took } in
    record {
      more = h.more;
      calls = one ∷ [];
      mine = h.mine;
      each = λ a has. subst (λ (x : Act). (length p.seen ≤ x.begin) × IsCall q.seen x.begin x.end x.op x.said x.took × (x.said ≢ reply_of_change x.op))
          (has_one one a has) (h.after, h.call, other);
    }

pub no_change_trans : (p q r : Sight) → SeesNoChange p q → SeesNoChange q r → SeesNoChange p r
no_change_trans p q r g h = record {
  more = part_trans p.seen q.seen r.seen g.more h.more;
  calls = h.calls ++ g.calls;
  mine = h.mine ∙ (ap (λ (l : List Act). h.calls ++ l) g.mine ∙ sym (append_assoc h.calls g.calls p.mine));
  each = λ a has. elim (has_either h.calls g.calls a has) [
    | inl later ↦ (let c = h.each a later in let short = part_short p.seen q.seen g.more in let late = c.0 in (omega arith, c.1, c.2))
    | inr before ↦ (let c = g.each a before in (c.0, call_on q.seen r.seen a h.more c.1, c.2))
  ];
}

-- and then this call
pub sees_last : (op : Op) (said : Reply) (took : Option ℕ) (p q r : Sight) → SeesNoChange p q → SeesCall op said took q r → SeesLast op said took p r
sees_last op said took p q r g h = record { between = q; before = g; last = h }

pub sees_last_after : (op : Op) (said : Reply) (took : Option ℕ) (p q r : Sight) → SeesNoChange p q → SeesLast op said took q r → SeesLast op said took p r
sees_last_after op said took p q r g h = record { between = h.between; before = no_change_trans p q h.between g h.before; last = h.last }

-- a call has ended in the history of which it is one
pub ends_inside : (h : List Event) (begin end : ℕ) (op : Op) (said : Reply) (took : Option ℕ) → IsCall h begin end op said took → end < length h
ends_inside h begin end op said took c = at_inside h end (Ends c.seat said took) c.ends

-- the longer one of two histories is no shorter than either
pub longer_left : (a b : List Event) → length a ≤ length (longer a b)
longer_left a b = by (nat_le (length a) (length b)) refl
  where
    by : (c : Bool) → nat_le (length a) (length b) ≡ c → length a ≤ length (if c then b else a)
    by true less = grind (arith, nat_tests)
    by false more = omega arith

pub longer_right : (a b : List Event) → length b ≤ length (longer a b)
longer_right a b = by (nat_le (length a) (length b)) refl
  where
    by : (c : Bool) → nat_le (length a) (length b) ≡ c → length b ≤ length (if c then b else a)
    by true less = omega arith
    by false more = grind (arith, nat_tests)
