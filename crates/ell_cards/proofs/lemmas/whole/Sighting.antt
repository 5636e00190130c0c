-- What a pass may know of the history after a step call.
use Rattle.std.proofs.Common.{◌≡◌, ◌≢◌, ℕ, Option, List, [], ◌∷◌, ◌++◌, length, set, inl, inr, sym, ap, ◌∙◌, subst, arith}
use mathlib.Core.Option.{some}
use lib.ListN.{get_elem?}
use Rattle.ell_ops.specs.declared.reply.Reply.{Reply}
use Rattle.ell_runs.specs.declared.call.Call.{Call}
use Rattle.ell_runs.specs.declared.call.Call.TheVariants as call
use Rattle.ell_runs.specs.declared.view.Act.{Act}
use Rattle.ell_runs.specs.declared.view.Event.{Event}
use Rattle.ell_runs.specs.declared.view.Event.TheVariants.{Ends}
use Rattle.ell_cards.specs.declared.view.Known.{Known}
use Rattle.ell_runs.specs.declared.view.Sight.{Sight}
use Rattle.ell_runs.specs.declared.view.View.{View}
use Rattle.ell_runs.specs.Calls.{May, after}
use Rattle.ell_runs.specs.Histories.{IsCall, event_of, history_of}
use Rattle.ell_runs.specs.Plans.{TablePlan}
use Rattle.ell_runs.specs.Views.{Has, IsFree}
use Rattle.ell_cards.specs.AllSeen.{AllHaveSeen, AreAllApart, AreMade, AreSilent}
use Rattle.ell_runs.specs.Seeing.{AreApart, HasSeen, IsCalm, IsSpentIn}
use Rattle.ell_runs.specs.Starts.{IsReached}
use Rattle.ell_runs.specs.States.{TableState}
use Rattle.ell_runs.specs.Turns.{Makes}
use Rattle.ell_runs.proofs.lemmas.runs.Histories.{answered_of, lin}
use Rattle.ell_runs.proofs.lemmas.runs.LinearizingPoints.{one_end}
use Rattle.ell_runs.proofs.lemmas.runs.Reaching.{call_on}
use Rattle.ell_runs.proofs.lemmas.runs.Spent.{spent_are_spent}
use Rattle.ell_cards.proofs.lemmas.whole.OwnCalls.{apart_set}
use Rattle.ell_cards.proofs.lemmas.whole.Seeing.{act_of, at_inside, call_more, ends_call, has_first, history_snoc, made_by, made_quiet, made_set, marked_seen, seen_on, silent_call, spent_before, whole_part, marked}

-- two calls of a run that begin together end together
begin_once : (plan : TablePlan) (s : TableState) (h : IsReached plan s) (a b : Act) → IsCall (history_of h.turns) a.begin a.end a.op a.said a.took → IsCall (history_of h.turns) b.begin b.end b.op b.said b.took
    → a.begin ≡ b.begin → a.end ≡ b.end
begin_once plan s h a b one other same =
    let answers = (lin plan h.first h.starts h.turns s h.run).answers in
    one_end plan h.first h.starts h.turns s h.run a.begin a.end b.end a.op b.op a.said b.said (answered_of h.turns answers a.begin a.end a.op a.said a.took one)
    (answered_of h.turns answers a.begin b.end b.op b.said b.took (subst (λ n. IsCall (history_of h.turns) n b.end b.op b.said b.took) (sym same) other))

module _ (plan : TablePlan) (s : TableState) (h : IsReached plan s) (id : ℕ) (v : View) (here : get_elem? s.views id ≡ some v) where
  abbrev past : List Event
  past = history_of h.turns

  -- by this the table's rule is kept
  pub record Sighted (views : List Known) (c : Call) (g : Sight) : Type 0 where
    pub seen : HasSeen (past ++ event_of (Makes id c) ∷ []) id g
    pub made : (now : Known) → now.sight ≡ g → AreMade (past ++ event_of (Makes id c) ∷ []) (set views id now)
    pub silent : (n : ℕ) → IsSpentIn plan (after c n v) → g.mine ≡ []
    pub apart : (now : Known) → now.sight ≡ g → AreAllApart (set views id now)

  -- a call that a pass answers now began where none of those began that were answered before
  new_begin : (said : Reply) (took : Option ℕ) (may : May plan (call.Answer said took) v) (g : Sight) (is : HasSeen past id g) (a : Act) → IsCall past a.begin a.end a.op a.said a.took
      → a.begin ≢ (ends_call plan s h id v here said took may.op may.busy g is).begin
  new_begin said took may g is a was same =
      let e = ends_call plan s h id v here said took may.op may.busy g is in
      let on = call_on plan s h id (call.Answer said took) v here may in
      let b = act_of plan s h id v here said took may.op e.begin in
      let its = history_snoc h.turns (Makes id (call.Answer said took)) in
      let one = subst (λ l. IsCall l a.begin a.end a.op a.said a.took) (sym its) (call_more past (Ends id said took ∷ []) a.begin a.end a.op a.said a.took was) in
      let other = subst (λ l. IsCall l e.begin (length past) may.op said took) (sym its) e.call in
      let end = begin_once plan _ on a b one other same in
      let inside = at_inside past a.end (Ends was.seat a.said a.took) was.ends in
      omega arith

  module _ (views : List Known) (k : Known) (at : get_elem? views id ≡ some k) (tree : k.tree ≡ v) (seen : AllHaveSeen past views) (made : AreMade past views) (silent : AreSilent plan views) (apart : AreAllApart views) where
    its_silence : IsSpentIn plan v → k.sight.mine ≡ []
    its_silence spent = silent id k at (spent.0, ap (λ (u : View). u.worker.shared) tree ∙ spent.1)

    -- a pass that has nothing left has nothing in hand
    its_rest : IsSpentIn plan v → IsFree v
    its_rest spent = (spent_are_spent plan s spent.0 h id v here spent.1).free

    -- no other call
    same_apart : (now : Known) → now.sight.mine ≡ k.sight.mine → AreAllApart (set views id now)
    same_apart now same = apart_set views id k now at apart (subst AreApart (sym same) (apart.each id k at)) (λ a has. inl (subst (λ l. Has l a) same has))

    marked_apart : (c : Call) → May plan c v → (now : Known) → now.sight ≡ marked c id past k.sight → AreAllApart (set views id now)
    marked_apart (call.Answer said took) may now is =
        let e = ends_call plan s h id v here said took may.op may.busy k.sight (seen id k at) in
        let new = act_of plan s h id v here said took may.op e.begin in
        let its : now.sight.mine ≡ new ∷ k.sight.mine = ap (λ (g : Sight). g.mine) is ∙ e.mine in
        let fresh = new_begin said took may k.sight (seen id k at) in
        apart_set views id k now at apart
        (subst AreApart (sym its) (λ a has. fresh a ((seen id k at).mine a has), apart.each id k at))
        (λ a has. elim (has_first new k.sight.mine a (subst (λ l. Has l a) its has)) [
          | inl same ↦ inr (λ j l other there b theirs e'. fresh b ((seen j l there).mine b theirs) (sym (ap (λ (x : Act). x.begin) same ∙ e')))
          | inr was ↦ inl was
        ])
    marked_apart (call.Begin op) may now is = same_apart now (ap (λ (g : Sight). g.mine) is)
    marked_apart call.Look may now is = same_apart now (ap (λ (g : Sight). g.mine) is)
    marked_apart _ may now is = same_apart now (ap (λ (g : Sight). g.mine) is)

    -- what the call lets the pass see
    pub sighted : (c : Call) → May plan c v → Sighted views c (marked c id past k.sight)
    sighted c may = record {
      seen = marked_seen plan s h id v here c may k.sight (seen id k at);
      made = λ now is. made_by plan s h id v here c may views k at now is (seen id k at) made;
      silent = λ n. silent_call plan c n v id past k.sight may its_rest its_silence;
      apart = marked_apart c may;
    }

    -- or all of the history
    abbrev pub sees_all : Call → Sight
    sees_all c = record k.sight { seen = past ++ event_of (Makes id c) ∷ [] }

    all_seen : (c : Call) → IsCalm c → HasSeen (past ++ event_of (Makes id c) ∷ []) id (sees_all c)
    all_seen c calm = (let was = seen_on past (event_of (Makes id c) ∷ []) id k.sight (seen id k at) in
        record { part = whole_part (past ++ event_of (Makes id c) ∷ []); began = was.began; looks = was.looks; mine = was.mine })

    all_made : (c : Call) → IsCalm c → (now : Known) → now.sight ≡ sees_all c → AreMade (past ++ event_of (Makes id c) ∷ []) (set views id now)
    all_made (call.Begin op) calm now is = absurd calm
    all_made (call.Answer said took) calm now is = absurd calm
    all_made call.Look calm now is = absurd calm
    all_made _ calm now is = made_quiet past (set views id now) (made_set past views id k now at (λ a has. subst (λ l. Has l a) (sym (ap (λ (g : Sight). g.mine) is)) has) made)

    pub sighted_all : (c : Call) → IsCalm c → Sighted views c (sees_all c)
    sighted_all c calm = record {
      seen = all_seen c calm;
      made = all_made c calm;
      silent = λ n spent. its_silence (spent_before plan c n v spent);
      apart = λ now is. same_apart now (ap (λ (g : Sight). g.mine) is);
    }
