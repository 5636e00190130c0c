use Rattle.std.proofs.Common.{◌≡◌, ℕ, ◌==◌, if◌then◌else◌, inl, inr, Bool, true, false, Option, Some, None, nat_le, refl, sym, ap, ◌∙◌, subst, arith}
use Rattle.std.proofs.lemmas.Bool.{cases_eq}
use Rattle.std.proofs.lemmas.Option.{same_Some}
use Rattle.ell_ops.specs.declared.op.Op.{Op}
use Rattle.ell_ops.specs.Meaning.{key_of}
use Rattle.ell_word.specs.Node.{IsInternal}
use Rattle.ell_word.specs.Word.{unpacked}
use Rattle.ell_core.specs.declared.event.Act.{Act}
use Rattle.ell_core.specs.declared.event.Act.TheVariants as act
use Rattle.ell_core.specs.declared.event.Event.{Event}
use Rattle.ell_core.specs.declared.event.Stepped.{Stepped}
use Rattle.ell_core.specs.declared.fact.Fact.{Fact}
use Rattle.ell_core.specs.declared.fact.Fact.TheVariants as fact
use Rattle.ell_core.specs.declared.view.Search.{Search}
use Rattle.ell_core.specs.declared.view.Seen.{Seen}
use Rattle.ell_layout.specs.Words.{put}
use Rattle.ell_layout.specs.Cards.{marked, child_for}
use Rattle.ell_core.specs.state.Facts.{Knowledge, card_of_fact, learned, learned_any, told_by}
use Rattle.ell_core.specs.state.Machine.{Worker, Machine, Scene, scene}
use Rattle.ell_core.specs.acts.Exchanges.{flagged_worker, mark_teaches}
use Rattle.ell_core.specs.acts.Searching.{at_root}
use Rattle.ell_core.specs.acts.Events.{Row, Steps}
use Rattle.ell_core.specs.tree.Tree.{OnWalk, here, next}
use Rattle.ell_core.specs.history.Stages.{Stage, Stages, Born, waits}
use Rattle.ell_core.specs.history.Invariant.{Invariant}
use Rattle.ell_core.specs.history.Later.{WordsLater, StagesLater}
use Rattle.ell_core.specs.statements.Since.{has_ended, GoesOn}
use Rattle.ell_grace.specs.Gone.{IsGone, OutsAreSound}
use Rattle.ell_grace.specs.Cards.{CardsSince}
use Rattle.ell_grace.specs.Operations.{AvoidsGone, WorkerSince, Names, KeepsTo}
use Rattle.ell_core.proofs.lemmas.outcomes.Decide.{some_not_none}
use Rattle.ell_core.proofs.lemmas.words.Packed.{packed_again}
use Rattle.ell_layout.proofs.lemmas.Writes.{put_same, put_other}
use Rattle.ell_core.proofs.lemmas.tree.Paths.{Below-refl, Reached-below}
use Rattle.ell_core.proofs.lemmas.tree.Reached.{OnWalk-below}
use Rattle.ell_core.proofs.lemmas.stages.Order.{delete_won-delete}
use Rattle.ell_core.proofs.lemmas.following.Reliance.{may_rely}
use Rattle.ell_core.proofs.lemmas.following.waiting.Cards.{hand_waits}
use Rattle.ell_grace.proofs.lemmas.since.Places.{reached_stays}
use Rattle.ell_grace.proofs.lemmas.since.Walks.{walk_goes_on}
use Rattle.ell_grace.proofs.lemmas.since.Facts.{Fine, fine_with, fine_state, not_then, found_fresh}

-- a worker that begins has come to know nothing that was gone
pub workers_begin : (m : Machine) (stage : Stages) (i : ℕ) → Invariant m stage → OutsAreSound m.words stage
    → (m.worker i).search ≡ at_root → WorkerSince m.words stage (m.worker i).knows m.words (m.worker i)
workers_begin m stage i invariant outs root = record {
  walk = λ op x busy at y gone on.
      let start = same_Some 0 x (sym (ap (λ (s : Search). s.node) root) ∙ at) in
      reached_stays m.words stage invariant.words outs y
      (Reached-below m.words 0 y (Below-refl m.words 0) (OnWalk-below m.words (key_of op) (subst (λ n. OnWalk m.words (key_of op) n y) (sym start) on))) gone;
  parent = λ seen has. absurd (some_not_none has (ap (λ (s : Search). s.parent) root));
  grandparent = λ seen has. absurd (some_not_none has (ap (λ (s : Search). s.grandparent) root));
  facts = λ f knows. inl knows;
}

-- a card that waits has not ended
waits_on : (s : Stage) → waits s ≡ true → has_ended s ≡ false
waits_on s w = grind arith

module _ (m : Machine) (stage : Stages) (known : Knowledge) (old : Machine) (before : Stages) (e : Event) (said : Stepped) (new : Machine) (i : ℕ)
    (first : Invariant m stage) (invariant : Invariant old before) (outs : OutsAreSound old.words before) (cards : CardsSince m.words stage old.words before)
    (words : WordsLater m.words old.words) (later : StagesLater stage before) (h : Steps old e said new)
    (since : WorkerSince m.words stage known old.words (old.worker i)) where
  abbrev Since : Worker → Type 0
  Since v = WorkerSince m.words stage known new.words v

  -- a walk goes on by what is in the tree
  goes_by : (key x : ℕ) → Born before x → AvoidsGone m.words stage old.words key x → AvoidsGone m.words stage new.words key x
  goes_by = walk_goes_on m stage old before e said new first invariant outs words later h

  stands_born : (x : ℕ) → (old.worker i).search.node ≡ Some x → Born before x
  stands_born x at = (may_rely old before i invariant).stands x at

  -- a worker that stands somewhere has an operation in hand
  busy_at : (x : ℕ) → (old.worker i).search.node ≡ Some x → (op : Op) × ((old.worker i).operation ≡ Some op)
  busy_at x at = by (old.worker i).operation refl
    where
      by : (o : Option Op) → (old.worker i).operation ≡ o → (op : Op) × ((old.worker i).operation ≡ Some op)
      by None is = absurd (some_not_none at (ap (λ (u : Worker). u.search.node) ((invariant.workers.each i).free is)))
      by (Some op) is = (op, is)

  -- where it stands was not gone
  stays_here : (x : ℕ) → (old.worker i).search.node ≡ Some x → ¬ IsGone m.words stage x
  stays_here x at gone = let busy = busy_at x at in since.walk busy.0 x busy.1 at x gone (here refl)

  -- so it may be learnt
  finds : (x : ℕ) → IsInternal x → Born before x → ¬ IsGone m.words stage x → (knows : Knowledge) → Fine stage known knows
      → Fine stage known (learned_any knows (told_by (old.words.update x)))
  finds x inner born stays knows fine =
      fine_state stage known knows (unpacked (old.words.update x)).state (unpacked (old.words.update x)).card fine
      (λ dirty. found_fresh m stage old before first invariant words later x inner born stays (unpacked (old.words.update x)).state (unpacked (old.words.update x)).card (sym (packed_again (old.words.update x))) dirty)

  -- a worker with the same operation and search, that knows what it may
  still : (u : Worker) → u.operation ≡ (old.worker i).operation → u.search ≡ (old.worker i).search → Fine stage known u.knows → Since u
  still u op search fine = record {
    walk = λ o x busy at. let was = ap (λ (s : Search). s.node) (sym search) ∙ at in
        goes_by (key_of o) x (stands_born x was) (since.walk o x (sym op ∙ busy) was);
    parent = λ seen has. since.parent seen (ap (λ (s : Search). s.parent) (sym search) ∙ has);
    grandparent = λ seen has. since.grandparent seen (ap (λ (s : Search). s.grandparent) (sym search) ∙ has);
    facts = fine;
  }

  -- one that stands nowhere any more
  nowhere : (u : Worker) → u.search ≡ record ((old.worker i).search) { node = None; read = None } → Fine stage known u.knows → Since u
  nowhere u search fine = record {
    walk = λ o x busy at. absurd (some_not_none at (ap (λ (s : Search). s.node) search));
    parent = λ seen has. since.parent seen (ap (λ (s : Search). s.parent) (sym search) ∙ has);
    grandparent = λ seen has. since.grandparent seen (ap (λ (s : Search). s.grandparent) (sym search) ∙ has);
    facts = fine;
  }

  -- a flag was won or lost
  flagged : (b : Bool) (new_fact : Fact) (found : ℕ) → has_ended (stage (card_of_fact new_fact)) ≡ false
      → Fine stage known (learned_any (old.worker i).knows (told_by found)) → Since (flagged_worker (old.worker i) b new_fact found)
  flagged true new_fact found un fine = nowhere _ refl (fine_with stage known (old.worker i).knows new_fact since.facts un)
  flagged false new_fact found un fine = nowhere _ refl fine

  -- the card in hand has not ended
  own_card : (c : ℕ) → (old.worker i).card ≡ Some c → (old.worker i).flagged ≡ false → has_ended (stage c) ≡ false
  own_card c holds unflagged =
      not_then m stage old before first invariant words later c (waits_on (before c) (hand_waits old.words before (old.worker i) c (invariant.workers.each i) holds unflagged))

  -- what a mark teaches
  mark_fine : (c : ℕ) (won : Bool) → has_ended (stage c) ≡ false → Fine stage known (learned_any (learned (old.worker i).knows (fact.Unmarkable c)) (told_by (old.words.update (old.words.p c))))
      → Fine stage known (mark_teaches (old.worker i).knows c won (old.words.update (old.words.p c)))
  mark_fine c true un fine = fine_with stage known (old.worker i).knows (fact.Marked c) since.facts un
  mark_fine c false un fine = by (old.words.update (old.words.p c) == marked c)
    where
      by : (b : Bool) → Fine stage known (if b then learned (old.worker i).knows (fact.Marked c)
          else learned_any (learned (old.worker i).knows (fact.Unmarkable c)) (told_by (old.words.update (old.words.p c))))
      by true = fine_with stage known (old.worker i).knows (fact.Marked c) since.facts un
      by false = fine

  -- the worker after an event of its own
  own : (a : Act) → GoesOn a → ((c : ℕ) → Names a c → has_ended (stage c) ≡ false) → (after : Scene) → Row a (scene old i) said after → Since after.worker
  own act.Upd goes fresh after row =
      subst (λ (t : Scene). Since t.worker) (sym row.gives) (record {
        walk = λ o x busy at. goes_by (key_of o) x (stands_born x at) (since.walk o x busy at);
        parent = since.parent;
        grandparent = since.grandparent;
        facts = finds row.node row.internal (stands_born row.node row.stands) (stays_here row.node row.stands) (old.worker i).knows since.facts;
      })
  own act.Down goes fresh after row =
      let child = child_for old.words (key_of row.op) row.seen.node in
      let born = (invariant.words.children row.seen.node row.internal (stands_born row.seen.node row.stands)).born (nat_le (old.words.key row.seen.node) (key_of row.op)) in
      subst (λ (t : Scene). Since t.worker) (sym row.gives) (record {
        walk = λ o x busy at.
            subst (λ y. AvoidsGone m.words stage new.words (key_of o) y) (same_Some child x at)
            (subst (λ p. AvoidsGone m.words stage new.words (key_of p) child) (same_Some row.op o (sym row.busy ∙ busy))
            (goes_by (key_of row.op) child born (λ y gone on. since.walk row.op row.seen.node row.busy row.stands y gone (next row.internal on))));
        parent = λ seen has. subst (λ (s : Seen). ¬ IsGone m.words stage s.node) (same_Some row.seen seen has) (stays_here row.seen.node row.stands);
        grandparent = since.parent;
        facts = since.facts;
      })
  own act.Claim goes fresh after (inl row) = subst (λ (t : Scene). Since t.worker) (sym row.gives) (still _ refl refl since.facts)
  own act.Claim goes fresh after (inr row) = subst (λ (t : Scene). Since t.worker) (sym row.gives) (still _ refl refl since.facts)
  own act.IFlag goes fresh after row =
      let below = (may_rely old before i invariant).unflagged row.card row.holds row.unflagged in
      let seen = (may_rely old before i invariant).parent below.node row.parent below.stands row.behind in
      subst (λ (t : Scene). Since t.worker) (sym row.gives)
      (flagged (old.words.update row.parent.node == row.parent.word) (fact.IFlagged row.card) (old.words.update row.parent.node)
      (own_card row.card row.holds row.unflagged)
      (finds row.parent.node seen.node.inner seen.node.born (since.parent row.parent row.behind) (old.worker i).knows since.facts))
  own act.DFlag goes fresh after row =
      let below = (may_rely old before i invariant).unflagged row.card row.holds row.unflagged in
      let seen = (may_rely old before i invariant).grandparent below.node below.parent row.grandparent below.stands below.behind row.above in
      subst (λ (t : Scene). Since t.worker) (sym row.gives)
      (flagged (old.words.update row.grandparent.node == row.grandparent.word) (fact.DFlagged row.card) (old.words.update row.grandparent.node)
      (own_card row.card row.holds row.unflagged)
      (finds row.grandparent.node seen.node.inner seen.node.born (since.grandparent row.grandparent row.above) (old.worker i).knows since.facts))
  own (act.IChild c) goes fresh after row = subst (λ (t : Scene). Since t.worker) (sym row.gives)
      (still _ refl refl (fine_with stage known (old.worker i).knows (fact.IChanged c) since.facts (fresh c refl)))
  own (act.IUnflag c) goes fresh after row = subst (λ (t : Scene). Since t.worker) (sym row.gives)
      (still _ refl refl (fine_with stage known (old.worker i).knows (fact.IOver c) since.facts (fresh c refl)))
  own (act.Mark c) goes fresh after row =
      let won = (invariant.workers.each i).facts (fact.DFlagged c) row.may in
      let card = (invariant.words.cards c).delete (delete_won-delete (before c) won) in
      subst (λ (t : Scene). Since t.worker) (sym row.gives)
      (still _ refl refl (mark_fine c (old.words.update (old.words.p c) == old.words.was c) (fresh c refl)
      (finds (old.words.p c) card.parent.inner card.parent.born (cards.delete c won (fresh c refl)).1 (learned (old.worker i).knows (fact.Unmarkable c))
      (fine_with stage known (old.worker i).knows (fact.Unmarkable c) since.facts (fresh c refl)))))
  own (act.DChild c) goes fresh after row = subst (λ (t : Scene). Since t.worker) (sym row.gives)
      (still _ refl refl (fine_with stage known (old.worker i).knows (fact.Cut c) since.facts (fresh c refl)))
  own (act.DUnflag c) goes fresh after row = subst (λ (t : Scene). Since t.worker) (sym row.does.gives)
      (still _ refl refl (fine_with stage known (old.worker i).knows (fact.DOver c) since.facts (fresh c refl)))
  own (act.Backtrack c) goes fresh after row = subst (λ (t : Scene). Since t.worker) (sym row.does.gives)
      (still _ refl refl (fine_with stage known (old.worker i).knows (fact.Backed c) since.facts (fresh c refl)))
  own (act.Begin op) goes fresh after row = absurd goes
  own act.Again goes fresh after row = absurd goes
  own act.Leave goes fresh after row = absurd goes
  own act.Answer goes fresh after row = absurd goes

  -- the worker after any event
  pub worker_goes_on : (e.worker ≡ i → KeepsTo stage e.act) → Since (new.worker i)
  worker_goes_on goes = elim (cases_eq i e.worker) [
    | inl same ↦
        let row = subst (λ j. Row e.act (scene old j) said h.becomes) (sym same) h.happens.row in
        let now : new.worker i ≡ h.becomes.worker = ap (λ (n : Machine). n.worker i) h.gives
        ∙ (ap (put old.worker e.worker h.becomes.worker) same ∙ put_same old.worker e.worker h.becomes.worker) in
        let may = goes (sym same) in
        subst Since (sym now) (own e.act may.0 may.1 h.becomes row)
    | inr other ↦
        let now : new.worker i ≡ old.worker i = ap (λ (n : Machine). n.worker i) h.gives ∙ put_other old.worker e.worker h.becomes.worker i other in
        still (new.worker i) (ap (λ (u : Worker). u.operation) now) (ap (λ (u : Worker). u.search) now)
        (λ f knows. since.facts f (ap (λ (u : Worker). u.knows f) (sym now) ∙ knows))
  ]
