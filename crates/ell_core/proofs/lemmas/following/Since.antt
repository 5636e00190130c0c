use Rattle.std.proofs.Common.{◌≡◌, ◌≢◌, ℕ, inl, inr, Bool, true, false, nat_le, ◌==◌, Option, Some, None, refl, sym, ap, ◌∙◌, subst}
use Rattle.std.proofs.lemmas.Bool.{cases_eq, false_from_ne_true}
use Rattle.std.proofs.lemmas.Option.{same_Some}
use Rattle.ell_ops.specs.declared.op.Op.{Op}
use Rattle.ell_ops.specs.Meaning.{key_of}
use Rattle.ell_word.specs.Node.{IsInternal}
use Rattle.ell_word.specs.Word.{packed, unpacked}
use Rattle.ell_word.specs.declared.update.State.{State}
use Rattle.ell_word.specs.declared.update.State.TheVariants as state
use Rattle.ell_core.specs.declared.event.Act.{Act}
use Rattle.ell_core.specs.declared.event.Act.TheVariants as act
use Rattle.ell_core.specs.declared.event.Event.{Event}
use Rattle.ell_core.specs.declared.event.Stepped.{Stepped}
use Rattle.ell_core.specs.declared.fact.Fact.{Fact}
use Rattle.ell_core.specs.declared.fact.Fact.TheVariants.{IFlagged, DFlagged, Cut, IOver, Backed}
use Rattle.ell_core.specs.declared.view.Search.{Search}
use Rattle.ell_layout.specs.Words.{put}
use Rattle.ell_core.specs.state.Machine.{Worker, Machine, Scene, scene}
use Rattle.ell_layout.specs.Cards.{child_for}
use Rattle.ell_core.specs.acts.Exchanges.{flagged_worker}
use Rattle.ell_core.specs.acts.Events.{Row, Steps}
use Rattle.ell_core.specs.tree.Tree.{here, next}
use Rattle.ell_core.specs.history.Stages.{Stages, Born, is_marked, is_cut}
use Rattle.ell_core.specs.history.Invariant.{Invariant}
use Rattle.ell_core.specs.history.Later.{WordsLater, StagesLater}
use Rattle.ell_core.specs.statements.Walks.{HaveCut, Avoids}
use Rattle.ell_core.specs.statements.Since.{has_ended, cut_at, IsOfUnended, SeenSince, SearchSince, GoesOn, SearchesBegin, SearchesGoOn}
use Rattle.ell_core.proofs.lemmas.outcomes.Decide.{some_not_none}
use Rattle.ell_core.proofs.lemmas.words.Packed.{packed_again}
use Rattle.ell_layout.proofs.lemmas.Writes.{put_same, put_other}
use Rattle.ell_core.proofs.lemmas.stages.Order.{cut-delete, delete-claimed}
use Rattle.ell_core.proofs.lemmas.stages.Ended.{ended_cases, over-cut, insert_over_not_marked, backed_not_marked, insert_open-unended, delete_open-unended, unended_before}
use Rattle.ell_core.proofs.lemmas.following.Reliance.{may_rely}
use Rattle.ell_core.proofs.lemmas.following.Walks.{roots_avoid, events_keep_avoiding}
use Rattle.ell_core.specs.declared.view.Seen.{Seen}

-- a search begins with nothing
pub searches_begin : SearchesBegin
searches_begin m stage i invariant root = record {
  walk = λ op x busy at. subst (Avoids m.words (cut_at stage) (key_of op))
      (same_Some 0 x (sym (ap (λ (s : Search). s.node) root) ∙ at))
      (roots_avoid m stage (cut_at stage) (key_of op) invariant (λ c h. h));
  read = λ x word at has. absurd (some_not_none has (ap (λ (s : Search). s.read) root));
  parent = λ seen has. absurd (some_not_none has (ap (λ (s : Search). s.parent) root));
  grandparent = λ seen has. absurd (some_not_none has (ap (λ (s : Search). s.grandparent) root));
}

module _ (m : Machine) (stage : Stages) (old : Machine) (before : Stages) (first : Invariant m stage) (invariant : Invariant old before)
    (words : WordsLater m.words old.words) (later : StagesLater stage before) where
  -- a card that has not ended by then had not before
  not_then : (c : ℕ) → has_ended (before c) ≡ false → has_ended (stage c) ≡ false
  not_then c un = unended_before stage before later c un

  -- a parent that is marked was not cut out where it is none of those that were
  uncut : (x c : ℕ) → ((d : ℕ) → is_cut (stage d) ≡ true → m.words.p d ≢ x) → is_marked (before c) ≡ true → old.words.p c ≡ x → has_ended (stage c) ≡ true → ⊥
  uncut x c not_gone mark place ended =
      let over = over_then c mark ended in
      let low = (first.words.cards c).claimed.0 (delete-claimed (stage c) (cut-delete (stage c) over)) in
      not_gone c over (sym (words.info c low).p ∙ place)
    where
      over_then : (d : ℕ) → is_marked (before d) ≡ true → has_ended (stage d) ≡ true → is_cut (stage d) ≡ true
      over_then d mark ended = elim (ended_cases (stage d) ended) [
        | inl o ↦ absurd (insert_over_not_marked (before d) (later.told (IOver d) d o) mark)
        | inr r ↦ elim r [
          | inl over ↦ over-cut (stage d) over
          | inr b ↦ absurd (backed_not_marked (before d) (later.told (Backed d) d b) mark)
        ]
      ]

  -- the update word that stands at a node that was not cut out is of no card that had ended
  stands_unended : (x : ℕ) → IsInternal x → Born before x → ((c : ℕ) → is_cut (stage c) ≡ true → m.words.p c ≢ x)
      → (st : State) (c : ℕ) → old.words.update x ≡ packed (record { state = st; card = c }) → st ≢ state.Clean → has_ended (stage c) ≡ false
  stands_unended x inner born not_gone state.IFlag c is dirty =
      not_then c (insert_open-unended (before c) ((invariant.words.updates x inner born).iflagged c is).0)
  stands_unended x inner born not_gone state.DFlag c is dirty =
      not_then c (delete_open-unended (before c) ((invariant.words.updates x inner born).dflagged c is).0)
  stands_unended x inner born not_gone state.Mark c is dirty =
      let mark = (invariant.words.updates x inner born).marked c is in
      false_from_ne_true (has_ended (stage c)) (λ ended. uncut x c not_gone mark.0 mark.1 ended)
  stands_unended x inner born not_gone state.Clean c is dirty = absurd (dirty refl)

  -- so it is by the word
  pub word_unended : (x : ℕ) → IsInternal x → Born before x → ((c : ℕ) → is_cut (stage c) ≡ true → m.words.p c ≢ x) → (word : ℕ)
      → old.words.update x ≡ word → IsOfUnended stage word
  word_unended x inner born not_gone word is dirty =
      stands_unended x inner born not_gone (unpacked word).state (unpacked word).card (is ∙ sym (packed_again word)) dirty

module _ (m : Machine) (stage : Stages) (old : Machine) (before : Stages) (e : Event) (said : Stepped) (new : Machine) (i : ℕ)
    (first : Invariant m stage) (invariant : Invariant old before) (words : WordsLater m.words old.words) (later : StagesLater stage before)
    (h : Steps old e said new) (since : SearchSince m.words stage old.words (old.worker i)) where
  -- what had cut has cut
  cut_still : HaveCut before (cut_at stage)
  cut_still c cut = later.told (Cut c) c cut

  walk_on : (key x : ℕ) → Born before x → Avoids old.words (cut_at stage) key x → Avoids new.words (cut_at stage) key x
  walk_on key x born avoids = events_keep_avoiding old before e said new invariant h (cut_at stage) cut_still key x born avoids

  stands_born : (x : ℕ) → (old.worker i).search.node ≡ Some x → Born before x
  stands_born x at = (may_rely old before i invariant).stands x at

  -- a worker with the same operation, whose search stands where it stood
  still : (u : Worker) → u.operation ≡ (old.worker i).operation → u.search ≡ (old.worker i).search → SearchSince m.words stage new.words u
  still u op search = record {
    walk = λ o x busy at. let was = ap (λ (s : Search). s.node) (sym search) ∙ at in
        walk_on (key_of o) x (stands_born x was) (since.walk o x (sym op ∙ busy) was);
    read = λ x word at has. since.read x word (ap (λ (s : Search). s.node) (sym search) ∙ at) (ap (λ (s : Search). s.read) (sym search) ∙ has);
    parent = λ seen has. since.parent seen (ap (λ (s : Search). s.parent) (sym search) ∙ has);
    grandparent = λ seen has. since.grandparent seen (ap (λ (s : Search). s.grandparent) (sym search) ∙ has);
  }

  -- one that stands nowhere any more
  nowhere : (u : Worker) → u.search ≡ record ((old.worker i).search) { node = None; read = None } → SearchSince m.words stage new.words u
  nowhere u search = record {
    walk = λ o x busy at. absurd (some_not_none at (ap (λ (s : Search). s.node) search));
    read = λ x word at has. absurd (some_not_none at (ap (λ (s : Search). s.node) search));
    parent = λ seen has. since.parent seen (ap (λ (s : Search). s.parent) (sym search) ∙ has);
    grandparent = λ seen has. since.grandparent seen (ap (λ (s : Search). s.grandparent) (sym search) ∙ has);
  }

  -- a node on the walk was not cut out
  not_gone : (op : Op) (x c : ℕ) → (old.worker i).operation ≡ Some op → (old.worker i).search.node ≡ Some x → is_cut (stage c) ≡ true → m.words.p c ≢ x
  not_gone op x c busy at cut is =
      let low = (first.words.cards c).claimed.0 (delete-claimed (stage c) (cut-delete (stage c) cut)) in
      since.walk op x busy at c cut (here ((words.info c low).p ∙ is))

  -- so it is seen since
  sees : (op : Op) (x : ℕ) → (old.worker i).operation ≡ Some op → (old.worker i).search.node ≡ Some x → IsInternal x
      → SeenSince m.words stage x (old.words.update x)
  sees op x busy at inner = record {
    word = words.update x;
    unended = word_unended m stage old before first invariant words later x inner (stands_born x at) (λ c cut. not_gone op x c busy at cut) (old.words.update x) refl;
    there = λ c cut. not_gone op x c busy at cut;
  }

  -- a worker that stands somewhere has an operation in hand
  busy_at : (x : ℕ) → (old.worker i).search.node ≡ Some x → (op : Op) × ((old.worker i).operation ≡ Some op)
  busy_at x at = by (old.worker i).operation refl
    where
      by : (o : Option Op) → (old.worker i).operation ≡ o → (op : Op) × ((old.worker i).operation ≡ Some op)
      by None is = absurd (some_not_none at (ap (λ (u : Worker). u.search.node) ((invariant.workers.each i).free is)))
      by (Some op) is = (op, is)

  -- the worker after an event of its own
  own : (a : Act) → GoesOn a → (after : Scene) → Row a (scene old i) said after → SearchSince m.words stage new.words after.worker
  own act.Upd goes after row =
      subst (λ (t : Scene). SearchSince m.words stage new.words t.worker) (sym row.gives) (record {
        walk = λ o x busy at. walk_on (key_of o) x (stands_born x at) (since.walk o x busy at);
        read = λ x word at has.
            let busy = busy_at row.node row.stands in
            let here_it_is = sees busy.0 row.node busy.1 row.stands row.internal in
            subst (λ y. SeenSince m.words stage y word) (same_Some row.node x (sym row.stands ∙ at))
            (subst (λ n. SeenSince m.words stage row.node n) (same_Some (old.words.update row.node) word has) here_it_is);
        parent = since.parent;
        grandparent = since.grandparent;
      })
  own act.Down goes after row =
      let child = child_for old.words (key_of row.op) row.seen.node in
      let born = (invariant.words.children row.seen.node row.internal (stands_born row.seen.node row.stands)).born (nat_le (old.words.key row.seen.node) (key_of row.op)) in
      subst (λ (t : Scene). SearchSince m.words stage new.words t.worker) (sym row.gives) (record {
        walk = λ o x busy at.
            subst (λ y. Avoids new.words (cut_at stage) (key_of o) y) (same_Some child x at)
            (subst (λ p. Avoids new.words (cut_at stage) (key_of p) child) (same_Some row.op o (sym row.busy ∙ busy))
            (walk_on (key_of row.op) child born (λ c cut on. since.walk row.op row.seen.node row.busy row.stands c cut (next row.internal on))));
        read = λ x word at has. absurd (some_not_none has refl);
        parent = λ seen has. subst (λ (s : Seen). SeenSince m.words stage s.node s.word) (same_Some row.seen seen has) (since.read row.seen.node row.seen.word row.stands row.read);
        grandparent = since.parent;
      })
  own act.Claim goes after (inl row) = subst (λ (t : Scene). SearchSince m.words stage new.words t.worker) (sym row.gives) (still _ refl refl)
  own act.Claim goes after (inr row) = subst (λ (t : Scene). SearchSince m.words stage new.words t.worker) (sym row.gives) (still _ refl refl)
  own act.IFlag goes after row = subst (λ (t : Scene). SearchSince m.words stage new.words t.worker) (sym row.gives)
      (flagged (old.words.update row.parent.node == row.parent.word) (IFlagged row.card) (old.words.update row.parent.node))
    where
      flagged : (b : Bool) (fact : Fact) (found : ℕ) → SearchSince m.words stage new.words (flagged_worker (old.worker i) b fact found)
      flagged true fact found = nowhere _ refl
      flagged false fact found = nowhere _ refl
  own act.DFlag goes after row = subst (λ (t : Scene). SearchSince m.words stage new.words t.worker) (sym row.gives)
      (flagged (old.words.update row.grandparent.node == row.grandparent.word) (DFlagged row.card) (old.words.update row.grandparent.node))
    where
      flagged : (b : Bool) (fact : Fact) (found : ℕ) → SearchSince m.words stage new.words (flagged_worker (old.worker i) b fact found)
      flagged true fact found = nowhere _ refl
      flagged false fact found = nowhere _ refl
  own (act.IChild c) goes after row = subst (λ (t : Scene). SearchSince m.words stage new.words t.worker) (sym row.gives) (still _ refl refl)
  own (act.IUnflag c) goes after row = subst (λ (t : Scene). SearchSince m.words stage new.words t.worker) (sym row.gives) (still _ refl refl)
  own (act.Mark c) goes after row = subst (λ (t : Scene). SearchSince m.words stage new.words t.worker) (sym row.gives) (still _ refl refl)
  own (act.DChild c) goes after row = subst (λ (t : Scene). SearchSince m.words stage new.words t.worker) (sym row.gives) (still _ refl refl)
  own (act.DUnflag c) goes after row = subst (λ (t : Scene). SearchSince m.words stage new.words t.worker) (sym row.does.gives) (still _ refl refl)
  own (act.Backtrack c) goes after row = subst (λ (t : Scene). SearchSince m.words stage new.words t.worker) (sym row.does.gives) (still _ refl refl)
  own (act.Begin op) goes after row = absurd goes
  own act.Again goes after row = absurd goes
  own act.Leave goes after row = absurd goes
  own act.Answer goes after row = absurd goes

  -- the worker after any event
  any_goes : (e.worker ≡ i → GoesOn e.act) → SearchSince m.words stage new.words (new.worker i)
  any_goes goes = elim (cases_eq i e.worker) [
    | inl same ↦
        let row = subst (λ j. Row e.act (scene old j) said h.becomes) (sym same) h.happens.row in
        let now : new.worker i ≡ h.becomes.worker = ap (λ (n : Machine). n.worker i) h.gives
        ∙ (ap (put old.worker e.worker h.becomes.worker) same ∙ put_same old.worker e.worker h.becomes.worker) in
        subst (SearchSince m.words stage new.words) (sym now) (own e.act (goes (sym same)) h.becomes row)
    | inr other ↦
        let now : new.worker i ≡ old.worker i = ap (λ (n : Machine). n.worker i) h.gives ∙ put_other old.worker e.worker h.becomes.worker i other in
        still (new.worker i) (ap (λ (u : Worker). u.operation) now) (ap (λ (u : Worker). u.search) now)
  ]

-- a search goes on
pub searches_go_on : SearchesGoOn
searches_go_on m stage old before e said new i first invariant words later h goes since =
    any_goes m stage old before e said new i first invariant words later h since goes
