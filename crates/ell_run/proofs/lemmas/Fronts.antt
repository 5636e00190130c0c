use Rattle.std.proofs.Common.{◌≡◌, ◌↔◌, ℕ, ◌+◌, ◌<◌, ◌≤◌, List, [], ◌∷◌, ◌++◌, length, get_or, take, arith, refl, ap, sym, subst, ◌∙◌}
use Rattle.std.specs.Prelude.{nat_lt}
use Rattle.std.proofs.Math.Nat.{add-zero}
use Rattle.std.proofs.lemmas.Bool.{cond-true, cond-false, le-ltb, lt-ltb}
use Rattle.std.proofs.lemmas.List.{append-nil, length_push, map-append, take_more}
use Rattle.std.proofs.lemmas.Option.{slice_get_within, get_or_from_slice_get}
use Rattle.ell_ops.specs.declared.op.Op.{Op}
use Rattle.ell_ops.specs.Contents.{Contents}
use Rattle.ell_ops.specs.Meaning.{key_of, reply_of, final}
use Rattle.ell_runs.specs.Plans.{TablePlan}
use Rattle.ell_cards.proofs.lemmas.views.Steps.{own_trans}
use Rattle.ell_cards.specs.Models.{KeepsItsOwn}
use Rattle.ell_tree.specs.Effects.{reply_of_change}
use Rattle.ell_ops.specs.Meaning.{after as after_op}
use Rattle.ell_tree.specs.declared.operations.NotDone.{NotDone}
use Rattle.ell_tree.specs.Ends.{Answers, NotDoneFor, GivenUp}
use Rattle.ell_tree.specs.Hindrances.{Meets}
use Rattle.ell_tree.specs.Ledgers.{PassModel, TreeModel, Owns, IsIdle, answers, hindrances, present_in}
use Rattle.ell_parts.specs.PartedOps.{PartedOps, part}
use Rattle.ell_run.specs.ByParts.{ops_in}
use Rattle.ell_run.specs.Pieces.{front, one_not_done, piece_from}
use Rattle.ell_run.specs.Work.{AreNotDone, IsWorked, IsWorkedOff, OwnsKeysOf, label_after}
use Rattle.ell_run.proofs.lemmas.NotDone.{hindrances_grow, none_not_done, once_not_done}
use Rattle.ell_order.proofs.lemmas.OnKey.{final-append}
use Rattle.ell_ops.specs.declared.reply.Reply.{Reply}

-- so many operations of a part were done with a pass
pub record IsFrontDone (items : List (ℕ × Op)) (i : ℕ) (before after : PassModel) (piece : List (ℕ × Reply)) : Type 0 where
  pub own : KeepsItsOwn before after
  pub idle : IsIdle after
  pub few : i ≤ length items
  pub count : length piece ≡ i
  pub told : piece ≡ piece_from (present_in before) (take i items)
  pub map : present_in after ≡ final (present_in before) (ops_in (take i items))
  pub owned : (key : ℕ) → Owns after key ↔ Owns before key
  pub answered : answers after ≡ answers before + i
  pub grows : hindrances before ≤ hindrances after

-- one operation more has its reply on the set behind those before it
pub piece_from-push : (s : Contents) (items : List (ℕ × Op)) (item : ℕ × Op) →
    piece_from s (items ++ item ∷ []) ≡ piece_from s items ++ (item.0, reply_of item.1 (final s (ops_in items))) ∷ []
piece_from-push s [] item = refl
piece_from-push s (x ∷ items) item = ap (λ l. (x.0, reply_of x.1 s) ∷ l) (piece_from-push (after_op x.1 s) items item)

-- one operation further
pub front_more : (tree : TreeModel) (items : List (ℕ × Op)) (i : ℕ) (d : ℕ × Op) (before mid after : PassModel) (piece : List (ℕ × Reply)) (reply : Reply) → i < length items →
    OwnsKeysOf before items → IsFrontDone items i before mid piece → Answers tree (get_or items i d).1 reply mid after → Meets mid.view after.view →
    IsFrontDone items (i + 1) before after (piece ++ ((get_or items i d).0, reply) ∷ [])
front_more tree items i d before mid after piece reply below owned h a meets =
    let item = get_or items i d in
    let s = present_in before in
    let more : take (i + 1) items ≡ take i items ++ item ∷ [] = take_more items i d below in
    let own = (h.owned (key_of item.1)).1 (owned i d below) in
    let says : reply ≡ reply_of item.1 (final s (ops_in (take i items))) = a.says own ∙ ap (reply_of item.1) h.map in
    let few = h.few in
    let one = a.answered in
    let others = h.answered in
    let same : present_in after ≡ after_op item.1 (present_in mid) = λ j key. a.map own key j in
    record {
      own = own_trans before mid after h.own a.own;
      idle = a.idle;
      few = omega arith;
      count = length_push piece (item.0, reply) ∙ ap (λ n. n + 1) h.count;
      told = ap (λ r. piece ++ (item.0, r) ∷ []) says
          ∙ ap (λ l. l ++ (item.0, reply_of item.1 (final s (ops_in (take i items)))) ∷ []) h.told
          ∙ sym (piece_from-push s (take i items) item) ∙ ap (piece_from s) (sym more);
      map = same ∙ ap (after_op item.1) h.map ∙ sym (final-append (ops_in (take i items)) (item.1 ∷ []) s)
          ∙ ap (final s) (sym (ap ops_in more ∙ map-append (λ (x : ℕ × Op). x.1) (take i items) (item ∷ [])));
      owned = λ key. let old = h.owned key in let new = a.owned key in (λ o. old.0 (new.0 o), λ o. new.1 (old.1 o));
      answered = omega arith;
      grows = let old = h.grows in let new = hindrances_grow mid after meets in omega arith;
    }

-- all operations are done
pub front_all : (plan : TablePlan) (tries : ℕ) (items : List (ℕ × Op)) (i : ℕ) (before after : PassModel) (piece : List (ℕ × Reply)) → length items ≤ i →
    IsFrontDone items i before after piece → IsWorkedOff plan tries items before after piece
front_all plan tries items i before after piece all h =
    let few = h.few in
    let count = h.count in
    let answered = h.answered in
    let same : take i items ≡ take (length piece) items = ap (λ n. take n items) (sym count) in
    record {
      own = h.own;
      idle = h.idle;
      told = record {
        few = omega arith;
        done = h.told ∙ ap (piece_from (present_in before)) same;
        not_done = λ position op e. absurd (let within = slice_get_within items (length piece) (position, op) e in omega arith);
      };
      map = h.map ∙ ap (λ l. final (present_in before) (ops_in l)) same;
      owned = h.owned;
      answers = omega arith;
      not_done =
          let whole : length items ≤ length piece = omega arith in
          none_not_done plan tries (one_not_done items piece) before after
          (cond-false (nat_lt (length piece) (length items)) 1 0 (le-ltb (length piece) (length items) whole)) h.grows;
    }

-- the next operation is not done
pub front_not_done : (tree : TreeModel) (tries : ℕ) (items : List (ℕ × Op)) (i : ℕ) (d : ℕ × Op) (before mid after : PassModel) (piece : List (ℕ × Reply)) (why : NotDone) →
    i < length items → OwnsKeysOf before items → IsFrontDone items i before mid piece → GivenUp tree (get_or items i d).1 mid after → NotDoneFor tree.plan tries mid after why →
    IsWorkedOff tree.plan tries items before after piece
front_not_done tree tries items i d before mid after piece why below owned h l not_done_for =
    let few = h.few in
    let count = h.count in
    let answered = h.answered in
    let none = l.answered in
    let same : take i items ≡ take (length piece) items = ap (λ n. take n items) (sym count) in
    let kept : present_in after ≡ present_in mid = rw l.ledger refl in
    record {
      own = own_trans before mid after h.own l.own;
      idle = l.idle;
      told = record {
        few = omega arith;
        done = h.told ∙ ap (piece_from (present_in before)) same;
        not_done = λ position op e.
            let here : get_or items i d ≡ (position, op) =
            ap (λ n. get_or items n d) (sym count) ∙ get_or_from_slice_get items (length piece) (position, op) d e in
            ap (λ l. reply_of op (final (present_in before) (ops_in l))) (sym same) ∙ ap (reply_of op) (sym h.map)
            ∙ ap (λ (x : ℕ × Op). reply_of x.1 (present_in mid)) (sym here)
            ∙ (l.would ((h.owned (key_of (get_or items i d).1)).1 (owned i d below)) ∙ ap (λ (x : ℕ × Op). reply_of_change x.1) here);
      };
      map = kept ∙ h.map ∙ ap (λ l. final (present_in before) (ops_in l)) same;
      owned = λ key. let old = h.owned key in rw l.ledger old;
      answers = omega arith;
      not_done =
          let short : length piece < length items = omega arith in
          once_not_done tree.plan tries (one_not_done items piece) before mid after why
          (cond-true (nat_lt (length piece) (length items)) 1 0 (lt-ltb (length piece) (length items) short)) h.grows not_done_for;
    }

-- one worker has worked its part off, by a pass that got another label
pub one_worked : (plan : TablePlan) (tries : ℕ) (parting : PartedOps) (workers : List ℕ) (d label : ℕ) (before told after : PassModel) (items : List (ℕ × Op)) (piece : List (ℕ × Reply))
    (pieces : List (List (ℕ × Reply))) → 0 < length workers → length workers < 2 → told ≡ record before { label = label } →
    items ≡ part parting (get_or workers 0 d) → IsWorkedOff plan tries items told after piece → pieces ≡ piece ∷ [] →
    IsWorked plan tries parting workers before after pieces
one_worked plan tries parting [] d label before told after items piece pieces some few same own h is = absurd (omega arith)
one_worked plan tries parting (w ∷ v ∷ ws) d label before told after items piece pieces some few same own h is = absurd (omega arith)
one_worked plan tries parting (w ∷ []) d label before told after items piece pieces some few same own h is =
    let off : IsWorkedOff plan tries (part parting w) (record before { label = label }) after piece =
    subst (λ all. IsWorkedOff plan tries all (record before { label = label }) after piece) own
    (subst (λ p. IsWorkedOff plan tries items p after piece) same h) in
    subst (IsWorked plan tries parting (w ∷ []) before after) (sym is) (record {
      table = off.own.table;
      idle = off.idle;
      told = (off.told, tt);
      map = off.map ∙ ap (final (present_in before)) (sym (append-nil (ops_in (front (part parting w) piece))));
      owned = off.owned;
      answers = let counted = off.answers in omega arith;
      not_done = subst (λ n. AreNotDone plan tries n before after) (sym (add-zero (one_not_done (part parting w) piece))) off.not_done;
    })

-- the label after workers, of whom there are some, is the first one's number
pub first_label : (before : PassModel) (workers : List ℕ) (d : ℕ) → 0 < length workers → get_or workers 0 d ≡ label_after before workers
first_label before [] d some = absurd (omega arith)
first_label before (worker ∷ workers) d some = refl

-- and so it is if others come after these
pub label_both : (before left : PassModel) (low high : List ℕ) → 0 < length low → label_after left low ≡ label_after before (low ++ high)
label_both before left [] high some = absurd (omega arith)
label_both before left (worker ∷ low) high some = refl
