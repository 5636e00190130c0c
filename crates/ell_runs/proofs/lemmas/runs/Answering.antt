use Rattle.std.proofs.Common.{◌≡◌, ◌≢◌, ℕ, ◌==◌, if◌then◌else◌, Bool, true, false, Option, Some, None, List, [], ◌∷◌, ◌++◌, set, inl, inr, ◌⊎◌, refl, sym, ap, ◌∙◌, subst}
use Rattle.std.proofs.lemmas.Option.{same_Some}
use mathlib.Core.Option.{some, some-injective}
use lib.ListN.{get_elem?}
use Rattle.ell_runs.proofs.lemmas.words.Lists.{at_set, at_snoc}
use Rattle.ell_word.specs.Word.{packed, unpacked}
use Rattle.ell_word.specs.declared.update.Update.{Update}
use Rattle.ell_ops.specs.declared.op.Op.{Op}
use Rattle.ell_ops.specs.declared.reply.Reply.{Reply}
use Rattle.ell_ops.specs.declared.reply.Reply.TheVariants.{Yes}
use Rattle.ell_core.specs.declared.fact.Fact.{Fact}
use Rattle.ell_core.specs.declared.fact.Fact.TheVariants as fact
use Rattle.ell_core.proofs.lemmas.outcomes.Decide.{some_not_none}
use Rattle.ell_runs.specs.declared.call.Call.{Call}
use Rattle.ell_runs.specs.declared.call.Call.TheVariants as call
use Rattle.ell_runs.specs.declared.call.NewNode.{NewNode}
use Rattle.ell_runs.specs.declared.view.Answered.{Answered}
use Rattle.ell_runs.specs.declared.view.View.{View}
use Rattle.ell_runs.specs.Plans.{TablePlan}
use Rattle.ell_runs.specs.Changes.{answered_so, after_claim, after_flag, after_mark, is_mark_of, with_fact, unmarking, left_view, right_view, joined_view, spent_view, first_of}
use Rattle.ell_runs.specs.Calls.{after}
use Rattle.ell_runs.specs.States.{TableState}
use Rattle.ell_runs.specs.Turns.{Turn, Makes, Splits, Joins, CallIsMade, TableTurns, TableRun, found_by, view_after}
use Rattle.ell_runs.specs.Starts.{Starts}
use Rattle.ell_runs.specs.Meanwhile.{KeepsOn, KeepOn}
use Rattle.ell_runs.specs.Changing.{IsCalled}
use Rattle.ell_runs.specs.Answering.{AnsweredInRun}
use Rattle.ell_runs.proofs.lemmas.runs.AsMap.{calls_reply_as_one_thread}
use Rattle.ell_runs.proofs.lemmas.lifetimes.Openings.{each_first}
use Rattle.std.proofs.lemmas.List.{append_assoc}

-- in these turns the pass in a seat makes only such calls, and is not split or joined
abbrev pub OnlyMakes : (Call → Type 0) → ℕ → List Turn → Type 0
OnlyMakes Goes seat [] = Unit {0}
OnlyMakes Goes seat (Makes other c ∷ ts) = (other ≡ seat → Goes c) × OnlyMakes Goes seat ts
OnlyMakes Goes seat (Splits other left ∷ ts) = (other ≢ seat) × OnlyMakes Goes seat ts
OnlyMakes Goes seat (Joins one other ∷ ts) = (one ≢ seat) × (other ≢ seat) × OnlyMakes Goes seat ts

pub keep_on : (seat : ℕ) (ts : List Turn) → OnlyMakes KeepsOn seat ts → KeepOn seat ts
keep_on seat [] h = tt
keep_on seat (Makes other c ∷ ts) h = (h.0, keep_on seat ts h.1)
keep_on seat (Splits other left ∷ ts) h = (h.0, keep_on seat ts h.1)
keep_on seat (Joins one other ∷ ts) h = (h.0, h.1, keep_on seat ts h.2)

-- what a view has since one call of its pass, which is the last such: before any other call it had it already, and no split or join leaves it
module _ (plan : TablePlan) (seat : ℕ) (Has : View → Type 0) (Is : Call → View → Type 0) (Goes : Call → Type 0)
    (by_call : (c : Call) (n : ℕ) (v : View) → Has (after c n v) → Is c v ⊎ (Goes c × Has v))
    (not_left : (chosen : List ℕ) (v : View) → Has (left_view chosen v) → ⊥) (not_right : (chosen : List ℕ) (v : View) → Has (right_view chosen v) → ⊥)
    (not_joined : (v w : View) → Has (joined_view v w) → ⊥) (not_spent : Has spent_view → ⊥) where
  -- the pass in the seat has it
  pub record HasHere (s : TableState) : Type 0 where
    pub view : View
    pub there : get_elem? s.views seat ≡ some view
    pub has : Has view

  -- it has it since this call
  pub record HasSince (s : TableState) (turns : List Turn) (s' : TableState) : Type 0 where
    pub before : List Turn
    pub c : Call
    pub later : List Turn
    pub parts : turns ≡ before ++ Makes seat c ∷ later
    pub from : TableState
    pub to : TableState
    pub led : TableRun plan s before from
    pub made : CallIsMade plan from seat c to
    pub is : Is c made.view
    pub since : TableRun plan to later s'
    pub on : OnlyMakes Goes seat later

  -- the turn before which it had it: that call, or another
  turn_back : (s : TableState) (t : Turn) (s' : TableState) → TableTurns plan s t s' → HasHere s'
      → ((c : Call) × (t ≡ Makes seat c) × ((made : CallIsMade plan s seat c s') × Is c made.view)) ⊎ (OnlyMakes Goes seat (t ∷ []) × HasHere s)
  turn_back s (Makes other c) s' h at =
      let v = view_after s h.view c in
      let now : get_elem? (set s.views other v) seat ≡ some at.view = ap (λ (t : TableState). get_elem? t.views seat) (sym h.gives) ∙ at.there in
      elim (at_set s.views other seat v at.view now) [
        | inl e ↦ elim (by_call c (found_by s c) h.view (subst Has (sym e.1) at.has)) [
          | inl is ↦ inl (c, ap (λ i. Makes i c) (sym e.0), subst (λ i. (made : CallIsMade plan s i c s') × Is c made.view) (sym e.0) (h, is))
          | inr was ↦ inr ((λ same. was.0, tt), record { view = h.view; there = ap (get_elem? s.views) e.0 ∙ h.there; has = was.1 })
        ]
        | inr e ↦ inr ((λ same. absurd (e.0 (sym same)), tt), record { view = at.view; there = e.1; has = at.has })
      ]
  turn_back s (Splits other left) s' h at =
      let v = left_view left h.view in
      let w = right_view left h.view in
      let now : get_elem? (set s.views other v ++ w ∷ []) seat ≡ some at.view = ap (λ (t : TableState). get_elem? t.views seat) (sym h.gives) ∙ at.there in
      elim (at_snoc (set s.views other v) w at.view seat now) [
        | inl there ↦ elim (at_set s.views other seat v at.view there) [
          | inl e ↦ absurd (not_left left h.view (subst Has (sym e.1) at.has))
          | inr e ↦ inr ((λ same. e.0 (sym same), tt), record { view = at.view; there = e.1; has = at.has })
        ]
        | inr e ↦ absurd (not_right left h.view (subst Has (sym e) at.has))
      ]
  turn_back s (Joins one other) s' h at =
      let v = joined_view h.view h.view' in
      let now : get_elem? (set (set s.views one v) other spent_view) seat ≡ some at.view = ap (λ (t : TableState). get_elem? t.views seat) (sym h.gives) ∙ at.there in
      elim (at_set (set s.views one v) other seat spent_view at.view now) [
        | inl e ↦ absurd (not_spent (subst Has (sym e.1) at.has))
        | inr e ↦ elim (at_set s.views one seat v at.view e.1) [
          | inl d ↦ absurd (not_joined h.view h.view' (subst Has (sym d.1) at.has))
          | inr d ↦ inr ((λ same. d.0 (sym same), λ same. e.0 (sym same), tt), record { view = at.view; there = d.1; has = at.has })
        ]
      ]

  more_turns : (t : Turn) (ts : List Turn) → OnlyMakes Goes seat (t ∷ []) → OnlyMakes Goes seat ts → OnlyMakes Goes seat (t ∷ ts)
  more_turns (Makes other c) ts h rest = (h.0, rest)
  more_turns (Splits other left) ts h rest = (h.0, rest)
  more_turns (Joins one other) ts h rest = (h.0, h.1, rest)

  -- what it has at the end of a run it has since a call of the run, or had all along
  pub run_back : (s : TableState) (turns : List Turn) (s' : TableState) → TableRun plan s turns s' → HasHere s'
      → HasSince s turns s' ⊎ (OnlyMakes Goes seat turns × HasHere s)
  run_back s [] s' run at = inr (tt, subst HasHere run at)
  run_back s (t ∷ ts) s' run at = elim (run_back run.0 ts s' run.2 at) [
    | inl b ↦ inl (record {
      before = t ∷ b.before;
      c = b.c;
      later = b.later;
      parts = ap (λ l. t ∷ l) b.parts;
      from = b.from;
      to = b.to;
      led = (run.0, run.1, b.led);
      made = b.made;
      is = b.is;
      since = b.since;
      on = b.on;
    })
    | inr h ↦ elim (turn_back s t run.0 run.1 h.1) [
      | inl at ↦ inl (record {
        before = [];
        c = at.0;
        later = ts;
        parts = ap (λ u. u ∷ ts) at.1;
        from = s;
        to = run.0;
        led = refl;
        made = at.2.0;
        is = at.2.1;
        since = run.2;
        on = h.0;
      })
      | inr k ↦ inr (more_turns t ts k.0 h.0, k.1)
    ]
  ]

module _ (op : Op) (said : Reply) where
  -- a pass has this for its last answer
  abbrev Answers : Option ℕ → Option ℕ → View → Type 0
  Answers card took v = v.answered ≡ Some (record { op = op; said = said; card = card; took = took })

  -- the call that answered it so
  abbrev IsAnswer : Option ℕ → Option ℕ → Call → View → Type 0
  IsAnswer card took c v = (c ≡ call.Answer said took) × (v.worker.operation ≡ Some op) × (v.worker.card ≡ card)

  claim_answered : (b : Bool) (c : ℕ) (q : NewNode) (v : View) → (after_claim b c q v).answered ≡ v.answered
  claim_answered true c q v = refl
  claim_answered false c q v = refl

  flag_answered : (b : Bool) (new : Fact) (x : ℕ) (u : Update) (v : View) → (after_flag b new x u v).answered ≡ v.answered
  flag_answered true new x u v = refl
  flag_answered false new x u v = refl

  mark_answered : (b : Bool) (c x : ℕ) (u : Update) (v : View) → (after_mark b c x u v).answered ≡ v.answered
  mark_answered true c x u v = refl
  mark_answered false c x u v = by (is_mark_of c u.state u.card)
    where
      by : (b : Bool) → (if b then with_fact (fact.Marked c) v else unmarking c x u v).answered ≡ v.answered
      by true = refl
      by false = refl

  -- what was in hand when an answer was given
  answered_op : (card took : Option ℕ) (o : Option Op) (hand : Option ℕ) (other : Reply) (taken : Option ℕ)
      → answered_so o hand other taken ≡ Some (record { op = op; said = said; card = card; took = took })
      → (other ≡ said) × (o ≡ Some op) × (hand ≡ card) × (taken ≡ took)
  answered_op card took None hand other taken e = absurd (some_not_none e refl)
  answered_op card took (Some this) hand other taken e =
      let same = same_Some (record { op = this; said = other; card = hand; took = taken }) (record { op = op; said = said; card = card; took = took }) e in
      (ap (λ (a : Answered). a.said) same, ap (λ (a : Answered). Some a.op) same, ap (λ (a : Answered). a.card) same, ap (λ (a : Answered). a.took) same)

  answer_before : (card took : Option ℕ) (c : Call) (n : ℕ) (v : View) → Answers card took (after c n v) → IsAnswer card took c v ⊎ (Unit {0} × Answers card took v)
  answer_before card took (call.Answer other taken) n v e =
      let is = answered_op card took v.worker.operation v.worker.card other taken e in
      inl ((λ i. call.Answer (is.0 i) (is.3 i)), is.1, is.2)
  answer_before card took (call.Begin next) n v e = absurd (some_not_none e refl)
  answer_before card took call.Again n v e = absurd (some_not_none e refl)
  answer_before card took (call.Claim c q) n v e = inr (tt, sym (claim_answered (n == c) c q v) ∙ e)
  answer_before card took (call.IFlag c p from) n v e = inr (tt, sym (flag_answered (n == packed from) (fact.IFlagged c) p (unpacked n) v) ∙ e)
  answer_before card took (call.DFlag c gp from) n v e = inr (tt, sym (flag_answered (n == packed from) (fact.DFlagged c) gp (unpacked n) v) ∙ e)
  answer_before card took (call.Mark c p was) n v e = inr (tt, sym (mark_answered (n == was) c p (unpacked n) v) ∙ e)
  answer_before card took call.Leave n v e = inr (tt, e)
  answer_before card took (call.Upd x) n v e = inr (tt, e)
  answer_before card took (call.Down x right) n v e = inr (tt, e)
  answer_before card took call.Next n v e = inr (tt, e)
  answer_before card took (call.KeyOf x) n v e = inr (tt, e)
  answer_before card took (call.ValueOf x) n v e = inr (tt, e)
  answer_before card took (call.Info c f) n v e = inr (tt, e)
  answer_before card took (call.FrozenChild c p right) n v e = inr (tt, e)
  answer_before card took call.Look n v e = inr (tt, e)
  answer_before card took (call.LookDown from key right) n v e = inr (tt, e)
  answer_before card took call.Rest n v e = inr (tt, e)
  answer_before card took (call.Fill c f value) n v e = inr (tt, e)
  answer_before card took (call.IChild c p l replaces right) n v e = inr (tt, e)
  answer_before card took (call.IUnflag c p) n v e = inr (tt, e)
  answer_before card took (call.DChild c gp p y right) n v e = inr (tt, e)
  answer_before card took (call.DUnflag c gp) n v e = inr (tt, e)
  answer_before card took (call.Backtrack c gp) n v e = inr (tt, e)

  -- a pass has the operation in hand
  abbrev pub Busy : View → Type 0
  Busy v = v.worker.operation ≡ Some op

  -- the call that began it
  abbrev pub IsBegin : Call → View → Type 0
  IsBegin c v = c ≡ call.Begin op

  claim_busy : (b : Bool) (c : ℕ) (q : NewNode) (v : View) → (after_claim b c q v).worker.operation ≡ v.worker.operation
  claim_busy true c q v = refl
  claim_busy false c q v = refl

  flag_busy : (b : Bool) (new : Fact) (x : ℕ) (u : Update) (v : View) → (after_flag b new x u v).worker.operation ≡ v.worker.operation
  flag_busy true new x u v = refl
  flag_busy false new x u v = refl

  mark_busy : (b : Bool) (c x : ℕ) (u : Update) (v : View) → (after_mark b c x u v).worker.operation ≡ v.worker.operation
  mark_busy true c x u v = refl
  mark_busy false c x u v = by (is_mark_of c u.state u.card)
    where
      by : (b : Bool) → (if b then with_fact (fact.Marked c) v else unmarking c x u v).worker.operation ≡ v.worker.operation
      by true = refl
      by false = refl

  pub busy_before : (c : Call) (n : ℕ) (v : View) → Busy (after c n v) → IsBegin c v ⊎ (KeepsOn c × Busy v)
  busy_before (call.Begin next) n v e = inl (ap call.Begin (same_Some next op e))
  busy_before (call.Answer other took) n v e = absurd (some_not_none e refl)
  busy_before call.Leave n v e = absurd (some_not_none e refl)
  busy_before call.Rest n v e = absurd (some_not_none e refl)
  busy_before (call.Claim c q) n v e = inr (tt, sym (claim_busy (n == c) c q v) ∙ e)
  busy_before (call.IFlag c p from) n v e = inr (tt, sym (flag_busy (n == packed from) (fact.IFlagged c) p (unpacked n) v) ∙ e)
  busy_before (call.DFlag c gp from) n v e = inr (tt, sym (flag_busy (n == packed from) (fact.DFlagged c) gp (unpacked n) v) ∙ e)
  busy_before (call.Mark c p was) n v e = inr (tt, sym (mark_busy (n == was) c p (unpacked n) v) ∙ e)
  busy_before call.Again n v e = inr (tt, e)
  busy_before (call.Upd x) n v e = inr (tt, e)
  busy_before (call.Down x right) n v e = inr (tt, e)
  busy_before call.Next n v e = inr (tt, e)
  busy_before (call.KeyOf x) n v e = inr (tt, e)
  busy_before (call.ValueOf x) n v e = inr (tt, e)
  busy_before (call.Info c f) n v e = inr (tt, e)
  busy_before (call.FrozenChild c p right) n v e = inr (tt, e)
  busy_before call.Look n v e = inr (tt, e)
  busy_before (call.LookDown from key right) n v e = inr (tt, e)
  busy_before (call.Fill c f value) n v e = inr (tt, e)
  busy_before (call.IChild c p l replaces right) n v e = inr (tt, e)
  busy_before (call.IUnflag c p) n v e = inr (tt, e)
  busy_before (call.DChild c gp p y right) n v e = inr (tt, e)
  busy_before (call.DUnflag c gp) n v e = inr (tt, e)
  busy_before (call.Backtrack c gp) n v e = inr (tt, e)

-- what a pass answered last it answered in the run, and began in it; it had this card in hand then, and took this
pub answers_with_card : (plan : TablePlan) (v : View) (op : Op) (said : Reply) (card took : Option ℕ)
    → v.answered ≡ Some (record { op = op; said = said; card = card; took = took })
    → (s : TableState) → Starts plan s → (turns : List Turn) (s' : TableState) → TableRun plan s turns s' → (seat : ℕ) → get_elem? s'.views seat ≡ some v
    → (a : AnsweredInRun plan s turns s' seat op said) × (a.called.answers.view.worker.operation ≡ Some op) × (a.called.answers.view.worker.card ≡ card) × (a.called.took ≡ took)
answers_with_card plan v op said card took last s starts turns s' run seat there =
    elim (run_back plan seat (Answers op said card took) (IsAnswer op said card took) (λ c. Unit {0}) (answer_before op said card took) (λ chosen v e. some_not_none e refl)
    (λ chosen v e. some_not_none e refl) (λ v w e. some_not_none e refl) (λ e. some_not_none e refl) s turns s' run (record { view = v; there = there; has = last })) [
      | inr h ↦ absurd (each_first (first_of plan) (λ u. Answers op said card took u → ⊥) (λ e. some_not_none e refl) seat h.1.view
          (ap (λ (t : TableState). get_elem? t.views seat) (sym starts.is) ∙ h.1.there) h.1.has)
      | inl a ↦ elim (run_back plan seat (Busy op said) (IsBegin op said) KeepsOn (busy_before op said) (λ chosen v e. some_not_none e refl)
          (λ chosen v e. some_not_none e refl) (λ v w e. some_not_none e refl) (λ e. some_not_none e refl) s a.before a.from a.led
          (record { view = a.made.view; there = a.made.there; has = a.is.1 })) [
            | inr h ↦ absurd (each_first (first_of plan) (λ u. Busy op said u → ⊥) (λ e. some_not_none e refl) seat h.1.view
                (ap (λ (t : TableState). get_elem? t.views seat) (sym starts.is) ∙ h.1.there) h.1.has)
            | inl b ↦
                let called : IsCalled plan b.from seat op b.to b.later a.from said = record {
                  ended = a.to;
                  begins = subst (λ c. CallIsMade plan b.from seat c b.to) b.is b.made;
                  run = b.since;
                  on = keep_on seat b.later b.on;
                  took = took;
                  answers = subst (λ c. CallIsMade plan a.from seat c a.to) a.is.0 a.made;
                } in
                let last_is = subst (λ (u : View). (u.worker.operation ≡ Some op) × (u.worker.card ≡ card))
                (some-injective a.made.view called.answers.view (sym a.made.there ∙ called.answers.there)) (a.is.1, a.is.2) in (
                  record {
                    earlier = b.before;
                    during = b.later;
                    later = a.later;
                    is = a.parts ∙ (ap (λ l. l ++ Makes seat a.c ∷ a.later) b.parts ∙ (append_assoc b.before (Makes seat b.c ∷ b.later) (Makes seat a.c ∷ a.later)
                        ∙ (λ t. b.before ++ Makes seat (b.is t) ∷ (b.later ++ Makes seat (a.is.0 t) ∷ a.later))));
                    from = b.from;
                    begun = b.to;
                    at = a.from;
                    led = b.led;
                    called = called;
                    since = a.since;
                    point = calls_reply_as_one_thread plan s starts b.before b.from b.led seat op b.to b.later a.from said called;
                  },
                  last_is.0,
                  last_is.1,
                  refl,
                )
          ]
    ]

-- the turn before which a pass has an operation in hand: the call that begins it, or another, before which it had it
pub turn_begun : (plan : TablePlan) (seat : ℕ) (op : Op) (s : TableState) (t : Turn) (s' : TableState) → TableTurns plan s t s' → (v : View) → get_elem? s'.views seat ≡ some v
    → v.worker.operation ≡ Some op → (t ≡ Makes seat (call.Begin op)) ⊎ (KeepOn seat (t ∷ []) × ((u : View) × (get_elem? s.views seat ≡ some u) × (u.worker.operation ≡ Some op)))
turn_begun plan seat op s t s' h v there has = elim (turn_back plan seat (Busy op Yes) (IsBegin op Yes) KeepsOn (busy_before op Yes) (λ chosen v e. some_not_none e refl)
    (λ chosen v e. some_not_none e refl) (λ v w e. some_not_none e refl) (λ e. some_not_none e refl) s t s' h (record { view = v; there = there; has = has })) [
      | inl begins ↦ inl (begins.1 ∙ ap (Makes seat) begins.2.1)
      | inr was ↦ inr (keep_on seat (t ∷ []) was.0, (was.1.view, was.1.there, was.1.has))
    ]
