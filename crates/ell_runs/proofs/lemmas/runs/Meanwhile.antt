use Rattle.std.proofs.Common.{◌≡◌, ◌⊎◌, ℕ, ◌==◌, ◌||◌, if◌then◌else◌, Bool, true, false, Option, Some, None, List, [], ◌∷◌, ◌++◌, set, length-set, inl, inr, refl, sym, ap, ◌∙◌, subst, arith}
use Rattle.std.proofs.lemmas.Bool.{cases_eq, false≢true}
use Rattle.std.proofs.lemmas.List.{append_assoc, append-nil}
use mathlib.Core.Option.{some, some-injective}
use Rattle.ell_runs.proofs.lemmas.words.Lists.{set_else}
use lib.ListN.{get_elem?}
use Rattle.ell_word.specs.Word.{unpacked}
use Rattle.ell_core.specs.declared.exchange.Exchange.{Exchange}
use Rattle.ell_core.specs.declared.event.Act.{Act}
use Rattle.ell_core.specs.declared.event.Act.TheVariants as act
use Rattle.ell_core.specs.declared.event.Stepped.{Stepped}
use Rattle.ell_core.specs.declared.fact.Fact.TheVariants.{Cut, IOver, DOver, Backed}
use Rattle.ell_core.specs.declared.view.Search.{Search}
use Rattle.ell_layout.specs.Words.{Words, put}
use Rattle.ell_core.specs.state.Machine.{Worker, Machine, no_search, nobody, worker_of}
use Rattle.ell_core.specs.state.Handovers.{WorkerIsIdle}
use Rattle.ell_core.specs.history.Stages.{Stage, Stages}
use Rattle.ell_core.specs.history.Invariant.{Invariant, WorkerIsSound}
use Rattle.ell_core.specs.history.Later.{WordsLater, StagesLater, wins_of}
use Rattle.ell_core.specs.statements.Since.{has_ended, cut_at, IsOfUnended, SearchSince, GoesOn}
use Rattle.ell_core.proofs.lemmas.outcomes.Decide.{some_not_none}
use Rattle.ell_layout.proofs.lemmas.Writes.{put_same, put_other}
use Rattle.ell_core.proofs.lemmas.words.Later.{words_same}
use Rattle.ell_core.proofs.lemmas.runs.Chains.{stages_later}
use Rattle.ell_core.proofs.lemmas.stages.Advances.{stages_same}
use Rattle.ell_core.proofs.lemmas.stages.Ended.{insert_over-ended, delete_over-ended, backed-ended}
use Rattle.ell_core.proofs.lemmas.following.Since.{searches_begin, searches_go_on}
use Rattle.ell_core.proofs.lemmas.following.Walks.{roots_avoid}
use Rattle.ell_core.specs.statements.Walks.{Avoids}
use Rattle.ell_ops.specs.Meaning.{key_of}
use Rattle.ell_core.specs.acts.Searching.{at_root}
use Rattle.std.proofs.lemmas.Option.{same_Some}
use Rattle.ell_runs.specs.declared.call.Call.{Call}
use Rattle.ell_runs.specs.declared.call.Call.TheVariants as call
use Rattle.ell_runs.specs.declared.view.Hindrance.{Hindrance}
use Rattle.ell_runs.specs.declared.view.Hindrance.TheVariants.{Claim, Found}
use Rattle.ell_runs.specs.declared.view.View.{View}
use Rattle.ell_runs.specs.Plans.{TablePlan, flat_from}
use Rattle.ell_runs.specs.Views.{EndedBy}
use Rattle.ell_runs.specs.Calls.{after, act_of, said_of, Becomes, May}
use Rattle.ell_runs.specs.Changes.{way_now, left_view, right_view, joined_view, spent_view}
use Rattle.ell_runs.specs.States.{TableState, seat_worker}
use Rattle.ell_runs.specs.Machines.{HasMachine}
use Rattle.ell_runs.specs.Laws.{machine_of_table}
use Rattle.ell_runs.specs.Turns.{Turn, Makes, Splits, Joins, TableTurns, TableRun, found_by, view_after, state_after}
use Rattle.ell_runs.specs.TurnEffects.{turn_wins, run_wins}
use Rattle.ell_runs.specs.RunLaws.{StartIsKept}
use Rattle.ell_runs.specs.Meanwhile.{is_end, has_end, KeepsOn, KeepOn, BeginsHere, IsBeginning, SearchesBeginThere, SearchRun, ended_before, ended_since, EndsMeanwhile, WordEndsMeanwhile, AreMeanwhile, AreOfOthers, IsPast, SearchesReadMeanwhile, SearchesMeetMeanwhile, KnownMilestonesWereReached}
use Rattle.ell_runs.proofs.lemmas.runs.TurnsOfRuns.{turn_lawful}
use Rattle.ell_core.proofs.lemmas.following.Lawful.{splits_lawful, joins_lawful}
use Rattle.ell_layout.proofs.lemmas.Listed.{listed_next}
use Rattle.ell_runs.proofs.lemmas.seats.Seats.{inside, set_there}
use Rattle.ell_runs.proofs.lemmas.lifetimes.Splits.{before_last}
use Rattle.ell_runs.proofs.lemmas.runs.InHand.{hand_way}
use Rattle.ell_runs.proofs.lemmas.runs.Hindered.{HinderedSince, AllMet, call_hindered, hindered_rests}
use Rattle.ell_runs.proofs.lemmas.runs.GoingOn.{Went, went_nowhere, went_after, call_wins, run_goes}
use Rattle.ell_runs.proofs.lemmas.runs.Starting.{starts_are_kept}

-- a stage tells an end where its wins have one
wins_end : (s : Stage) → has_end (wins_of s) ≡ has_ended s
wins_end s = grind arith

has_end_append : (a b : List Exchange) → has_end (a ++ b) ≡ (has_end a || has_end b)
has_end_append [] b = refl
has_end_append (k ∷ ks) b = by (is_end k) (has_end_append ks b)
  where
    by : (t : Bool) → has_end (ks ++ b) ≡ (has_end ks || has_end b) → (t || has_end (ks ++ b)) ≡ ((t || has_end ks) || has_end b)
    by true h = refl
    by false h = h

-- an end that is new is of what came
new_end : (a b : List Exchange) → has_end (a ++ b) ≡ true → has_end a ≡ false → has_end b ≡ true
new_end a b all none = by (has_end a) (has_end b) (sym (has_end_append a b) ∙ all) none
  where
    by : (t u : Bool) → (t || u) ≡ true → t ≡ false → u ≡ true
    by true u h n = absurd (false≢true (sym n))
    by false u h n = h

-- an act, or none
abbrev GoesOnAny : Option Act → Type 0
GoesOnAny None = Unit {0}
GoesOnAny (Some a) = GoesOn a

claim_goes : (b : Bool) → GoesOnAny (if b then Some act.Claim else None)
claim_goes true = tt
claim_goes false = tt

-- a search that stands at the root, or nowhere
abbrev IsFresh : Search → Type 0
IsFresh q = (q ≡ at_root) ⊎ (q ≡ no_search)

-- the act of a call that keeps on goes on, or leaves such a search
call_goes : (c : Call) (n : ℕ) → KeepsOn c → GoesOnAny (act_of c n) ⊎ ((u : View) → IsFresh (after c n u).worker.search)
call_goes (call.Begin op) n h = absurd h
call_goes call.Again n h = inr (λ u. inl refl)
call_goes call.Leave n h = inr (λ u. inr refl)
call_goes (call.Answer said took) n h = inr (λ u. inr refl)
call_goes (call.Upd x) n h = inl tt
call_goes (call.Down x right) n h = inl tt
call_goes (call.Claim c q) n h = inl (claim_goes (n == c))
call_goes (call.IFlag c p from) n h = inl tt
call_goes (call.IChild c p l replaces right) n h = inl tt
call_goes (call.IUnflag c p) n h = inl tt
call_goes (call.DFlag c gp from) n h = inl tt
call_goes (call.Mark c p was) n h = inl tt
call_goes (call.DChild c gp p s right) n h = inl tt
call_goes (call.DUnflag c gp) n h = inl tt
call_goes (call.Backtrack c gp) n h = inl tt
call_goes _ n h = inl tt

-- a search that stands nowhere has read nothing
none_since : (w : Words) (stage : Stages) (now : Words) (v : Worker) → v.search ≡ no_search → SearchSince w stage now v
none_since w stage now v none = record {
  walk = λ op x busy at. absurd (some_not_none at (ap (λ (s : Search). s.node) none));
  read = λ x word at has. absurd (some_not_none at (ap (λ (s : Search). s.node) none));
  parent = λ seen has. absurd (some_not_none has (ap (λ (s : Search). s.parent) none));
  grandparent = λ seen has. absurd (some_not_none has (ap (λ (s : Search). s.grandparent) none));
}

-- nor has a worker with nothing in hand
idle_since : (w : Words) (stage : Stages) (now : Words) (v : Worker) → WorkerIsIdle v → SearchSince w stage now v
idle_since w stage now v idle = none_since w stage now v (ap (λ (u : Worker). u.search) idle)

-- a search that begins later has read nothing, and no walk from the root comes by what was cut out
begins_since : (w : Words) (stage0 : Stages) (m : Machine) (stage : Stages) (i : ℕ) → Invariant m stage → StagesLater stage0 stage
    → (m.worker i).search ≡ at_root → SearchSince w stage0 m.words (m.worker i)
begins_since w stage0 m stage i holds later root = record {
  walk = λ op x busy at. subst (Avoids m.words (cut_at stage0) (key_of op))
      (same_Some 0 x (sym (ap (λ (s : Search). s.node) root) ∙ at))
      (roots_avoid m stage (cut_at stage0) (key_of op) holds (λ c h. later.told (Cut c) c h));
  read = λ x word at has. absurd (some_not_none has (ap (λ (s : Search). s.read) root));
  parent = λ seen has. absurd (some_not_none has (ap (λ (s : Search). s.parent) root));
  grandparent = λ seen has. absurd (some_not_none has (ap (λ (s : Search). s.grandparent) root));
}

module _ (m0 : Machine) (stage0 : Stages) (first : Invariant m0 stage0) (seat : ℕ) where
  -- a search goes on by an act of a machine, or by none
  becomes_since : (m : Machine) (stage : Stages) (i : ℕ) (o : Option Act) (said : Stepped) (m' : Machine) → Invariant m stage
      → WordsLater m0.words m.words → StagesLater stage0 stage → Becomes i o said m m' → (i ≡ seat → GoesOnAny o)
      → SearchSince m0.words stage0 m.words (m.worker seat) → SearchSince m0.words stage0 m'.words (m'.worker seat)
  becomes_since m stage i None said m' holds words later is goes since =
      subst (λ (n : Machine). SearchSince m0.words stage0 n.words (n.worker seat)) (sym is) since
  becomes_since m stage i (Some a) said m' holds words later steps goes since =
      searches_go_on m0 stage0 m stage (record { worker = i; act = a }) said m' seat first holds words later steps goes since

  -- a worker of two that were put, or as it was
  put_since : (now : Words) (f : ℕ → Worker) (i : ℕ) (v : Worker) → WorkerIsIdle v → SearchSince m0.words stage0 now (f seat)
      → SearchSince m0.words stage0 now (put f i v seat)
  put_since now f i v idle since = elim (cases_eq seat i) [
    | inl e ↦ subst (SearchSince m0.words stage0 now) (sym (ap (put f i v) e ∙ put_same f i v)) (idle_since m0.words stage0 now v idle)
    | inr n ↦ subst (SearchSince m0.words stage0 now) (sym (put_other f i v seat n)) since
  ]

  module _ (plan : TablePlan) (old : List Hindrance) where
    -- what a turn leads to
    record Leads (s : TableState) (won : ℕ → List Exchange) : Type 0 where
      kept : HasMachine plan s
      went : Went m0.words stage0 won (machine_of_table plan s kept)
      since : SearchSince m0.words stage0 kept.words ((machine_of_table plan s kept).worker seat)
      view : View
      there : get_elem? s.views seat ≡ some view
      hindered : HinderedSince (flat_from plan) m0.words stage0 kept.words went.stages old view

    -- what led to a state and what a turn makes of it
    then_goes : (s : TableState) (won : ℕ → List Exchange) (at : Leads s won) (s' : TableState) (kept : HasMachine plan s') (more : ℕ → List Exchange)
        → (goes : Went at.kept.words at.went.stages more (machine_of_table plan s' kept))
        → SearchSince m0.words stage0 kept.words ((machine_of_table plan s' kept).worker seat) → (view : View) → get_elem? s'.views seat ≡ some view
        → HinderedSince (flat_from plan) m0.words stage0 kept.words goes.stages old view → Leads s' (λ d. won d ++ more d)
    then_goes s won at s' kept more goes since view there hindered = record {
      kept = kept;
      went = went_after m0.words stage0 won (machine_of_table plan s at.kept) more (machine_of_table plan s' kept) at.went goes;
      since = since;
      view = view;
      there = there;
      hindered = hindered;
    }

    -- what hindered a pass that makes no step
    hindered_still : (s : TableState) (won : ℕ → List Exchange) (at : Leads s won) (now : Words) (after : Stages) → WordsLater at.kept.words now → StagesLater at.went.stages after
        → HinderedSince (flat_from plan) m0.words stage0 now after old at.view
    hindered_still s won at now after words later =
        hindered_rests plan m0 stage0 first s at.kept at.went.stages at.went.invariant at.went.words at.went.later at.went.cleans seat at.view at.there at.since now after words later old at.hindered

    -- a search goes on by a turn
    turn_since : (s : TableState) (won : ℕ → List Exchange) → Leads s won → (t : Turn) (s' : TableState) → TableTurns plan s t s' → KeepOn seat (t ∷ [])
        → Leads s' (λ d. won d ++ turn_wins s t d)
    turn_since s won at (Makes other c) s' h keep =
        let turn = turn_lawful plan s at.kept (Makes other c) s' h in
        let m = machine_of_table plan s at.kept in
        let m' = machine_of_table plan s' turn.0 in
        let goes = (call_wins m at.went.stages at.went.invariant other m' c (found_by s c) h.view plan (ap (λ o. (seat_worker o).card) h.there) h.may turn.1.machine).went in
        let on = becomes_since m at.went.stages other (act_of c (found_by s c)) (said_of c (found_by s c)) m' at.went.invariant at.went.words at.went.later
        turn.1.machine in
        elim (cases_eq seat other) [
          | inl e ↦
              let own : h.view ≡ at.view = some-injective h.view at.view (sym h.there ∙ (ap (get_elem? s.views) (sym e) ∙ at.there)) in
              let now : get_elem? s'.views seat ≡ some (view_after s at.view c) =
              ap (λ (t : TableState). get_elem? t.views seat) h.gives ∙ (ap (λ i. get_elem? (set s.views i (view_after s h.view c)) seat) (sym e)
              ∙ (ap (λ u. get_elem? (set s.views seat (view_after s u c)) seat) own ∙ set_there s.views seat (view_after s at.view c) at.view at.there)) in
              let since : SearchSince m0.words stage0 turn.0.words (m'.worker seat) = elim (call_goes c (found_by s c) (keep.0 (sym e))) [
                | inl g ↦ on (λ same. g) at.since
                | inr fresh ↦ elim (fresh at.view) [
                  | inl root ↦ begins_since m0.words stage0 m' goes.stages seat goes.invariant
                      (stages_later stage0 at.went.stages goes.stages at.went.later goes.later) (ap (λ o. (seat_worker o).search) now ∙ root)
                  | inr none ↦ none_since m0.words stage0 turn.0.words (m'.worker seat) (ap (λ o. (seat_worker o).search) now ∙ none)
                ]
              ] in
              then_goes s won at s' turn.0 (turn_wins s (Makes other c)) goes since (view_after s at.view c) now
              (call_hindered plan m0 stage0 first s at.kept at.went.stages at.went.invariant at.went.words at.went.later at.went.cleans seat at.view at.there at.since
              turn.0.words goes.stages goes.words goes.later old at.hindered c (keep.0 (sym e)) (subst (λ u. May plan c u) own h.may))
          | inr n ↦
              let now : get_elem? s'.views seat ≡ some at.view =
              ap (λ (t : TableState). get_elem? t.views seat) h.gives ∙ (set_else s.views other seat (view_after s h.view c) n ∙ at.there) in
              then_goes s won at s' turn.0 (turn_wins s (Makes other c)) goes (on (λ same. absurd (n (sym same))) at.since) at.view now
              (hindered_still s won at turn.0.words goes.stages goes.words goes.later)
        ]
    turn_since s won at (Splits other left) s' h keep =
        let turn = turn_lawful plan s at.kept (Splits other left) s' h in
        let m = machine_of_table plan s at.kept in
        let m' = machine_of_table plan s' turn.0 in
        let split = turn.1.machine in
        let goes = went_nowhere m at.went.stages m' (splits_lawful m at.went.stages other m' at.went.invariant split) (ap (λ (n : Machine). n.words) split.gives) in
        let less = inside s.views seat at.view at.there in
        let now : get_elem? s'.views seat ≡ some at.view =
        ap (λ (t : TableState). get_elem? t.views seat) h.gives
        ∙ (before_last (set s.views other (left_view left h.view)) (right_view left h.view) seat (λ e. (let same = length-set s.views other (left_view left h.view) in omega arith))
        ∙ (set_else s.views other seat (left_view left h.view) (λ e. keep.0 (sym e)) ∙ at.there)) in
        then_goes s won at s' turn.0 (turn_wins s (Splits other left)) goes
        (subst (λ (n : Machine). SearchSince m0.words stage0 n.words (n.worker seat)) (sym split.gives)
        (put_since m.words (put m.worker other split.left) m.count split.right split.right_free
        (put_since m.words m.worker other split.left split.left_free at.since))) at.view now
        (hindered_still s won at turn.0.words goes.stages goes.words goes.later)
    turn_since s won at (Joins one other) s' h keep =
        let turn = turn_lawful plan s at.kept (Joins one other) s' h in
        let m = machine_of_table plan s at.kept in
        let m' = machine_of_table plan s' turn.0 in
        let join = turn.1.machine in
        let goes = went_nowhere m at.went.stages m' (joins_lawful m at.went.stages one other m' at.went.invariant join) (ap (λ (n : Machine). n.words) join.gives) in
        let now : get_elem? s'.views seat ≡ some at.view =
        ap (λ (t : TableState). get_elem? t.views seat) h.gives
        ∙ (set_else (set s.views one (joined_view h.view h.view')) other seat spent_view (λ e. keep.1 (sym e))
        ∙ (set_else s.views one seat (joined_view h.view h.view') (λ e. keep.0 (sym e)) ∙ at.there)) in
        then_goes s won at s' turn.0 (turn_wins s (Joins one other)) goes
        (subst (λ (n : Machine). SearchSince m0.words stage0 n.words (n.worker seat)) (sym join.gives)
        (put_since m.words (put m.worker one join.both) other nobody refl
        (put_since m.words m.worker one join.both join.both_free at.since))) at.view now
        (hindered_still s won at turn.0.words goes.stages goes.words goes.later)

    first_keeps : (t : Turn) (ts : List Turn) → KeepOn seat (t ∷ ts) → KeepOn seat (t ∷ []) × KeepOn seat ts
    first_keeps (Makes other c) ts h = ((h.0, tt), h.1)
    first_keeps (Splits other left) ts h = ((h.0, tt), h.1)
    first_keeps (Joins one other) ts h = ((h.0, h.1, tt), h.2)

    -- and by a run
    run_since : (s : TableState) (won : ℕ → List Exchange) → Leads s won → (turns : List Turn) (s' : TableState) (run : TableRun plan s turns s') → KeepOn seat turns
        → Leads s' (λ d. won d ++ run_wins plan s turns s' run d)
    run_since s won at [] s' run keep =
        subst (λ x. Leads x (λ d. won d ++ [])) (sym run)
        (subst (Leads s) (λ t d. sym (append-nil (won d)) t) at)
    run_since s won at (t ∷ ts) s' run keep =
        let keeps = first_keeps t ts keep in
        let one = turn_since s won at t run.0 run.1 keeps.0 in
        subst (Leads s') (λ i d. append_assoc (won d) (turn_wins s t d) (run_wins plan run.0 ts s' run.2 d) i)
        (run_since run.0 (λ d. won d ++ turn_wins s t d) one ts s' run.2 keeps.1)

-- what a pass knows to have ended has
facts_ended : (m : Machine) (stages : Stages) → Invariant m stages → (seat : ℕ) (v : View) → m.worker seat ≡ worker_of v.worker
    → (c : ℕ) → EndedBy v.worker.knows c → has_ended (stages c) ≡ true
facts_ended m stages holds seat v mine c ended =
    let facts = (holds.workers.each seat).facts in elim ended [
      | inl k ↦ insert_over-ended (stages c) (facts (IOver c) (ap (λ (u : Worker). u.knows (IOver c)) mine ∙ k))
      | inr j ↦ elim j [
        | inl k ↦ delete_over-ended (stages c) (facts (DOver c) (ap (λ (u : Worker). u.knows (DOver c)) mine ∙ k))
        | inr k ↦ backed-ended (stages c) (facts (Backed c) (ap (λ (u : Worker). u.knows (Backed c)) mine ∙ k))
      ]
    ]

module _ (plan : TablePlan) (q : SearchRun plan) where
  abbrev last : ℕ
  last = plan.last_card

  -- the table as it starts
  opens : StartIsKept plan q.opened
  opens = starts_are_kept plan q.opened q.starts

  -- where the run leads before the search begins
  led_to : (k : HasMachine plan q.begun) × Went opens.kept.words opens.kept.stages (run_wins plan q.opened q.before q.begun q.led) (machine_of_table plan q.begun k)
  led_to = let made = run_goes plan q.opened opens.kept opens.kept.stages opens.kept.invariant q.before q.begun q.led in (made.0, made.1)

  abbrev first : Machine
  first = machine_of_table plan q.begun led_to.0

  abbrev stage : Stages
  stage = led_to.1.stages

  -- nothing was won before the start
  won_by_then : (c : ℕ) → wins_of (stage c) ≡ run_wins plan q.opened q.before q.begun q.led c
  won_by_then c = led_to.1.wins c ∙ ap (λ ks. ks ++ run_wins plan q.opened q.before q.begun q.led c) (opens.unwon c)

  -- where it leads while the search goes on
  led : Leads first stage led_to.1.invariant q.seat plan q.begins.view.hindrances q.now (run_wins plan q.begun q.meanwhile q.now q.run)
  led = run_since first stage led_to.1.invariant q.seat plan q.begins.view.hindrances q.begun (λ d. []) (record {
    kept = led_to.0;
    went = record {
      stages = stage;
      invariant = led_to.1.invariant;
      words = words_same led_to.0.words;
      later = stages_same stage;
      wins = λ d. sym (append-nil (wins_of (stage d)));
      cleans = λ x c rose now some. absurd (omega arith);
    };
    since = searches_begin first stage q.seat led_to.1.invariant (ap (λ o. (seat_worker o).search) q.begins.there ∙ q.begins.root);
    view = q.begins.view;
    there = q.begins.there;
    hindered = record {
      met = [];
      list = refl;
      earlier = [];
      tries = ap (λ hs. hs ++ []) (sym q.begins.unmet);
      each = tt;
      next = λ n e. absurd (some_not_none e q.begins.unread);
      named = λ seen h. elim h [
        | inl e ↦ absurd (some_not_none e (ap (λ (k : Search). k.parent) q.begins.root))
        | inr e ↦ absurd (some_not_none e (ap (λ (k : Search). k.grandparent) q.begins.root))
      ];
      shows = record {
        read = λ n e. absurd (some_not_none e q.begins.unread);
        past = λ c has. absurd (some_not_none has q.begins.no_card);
      };
      own = λ c has. tt;
      hand = λ k c busy has flagged. absurd (some_not_none has q.begins.no_card);
    };
  }) q.meanwhile q.now q.run q.keeps

  abbrev now : Machine
  now = machine_of_table plan q.now led.kept

  mine : now.worker q.seat ≡ worker_of q.view.worker
  mine = ap seat_worker q.there

  -- a card that had not ended by the stages had not by the wins
  not_before : (c : ℕ) → has_ended (stage c) ≡ false → ended_before plan q c ≡ false
  not_before c un = ap has_end (sym (won_by_then c)) ∙ (wins_end (stage c) ∙ un)

  -- one that had not, and has ended now, ended since
  ended_in : (c : ℕ) → has_ended (stage c) ≡ false → has_ended (led.went.stages c) ≡ true → ended_since plan q c ≡ true
  ended_in c un after = new_end (wins_of (stage c)) (run_wins plan q.begun q.meanwhile q.now q.run c)
      (ap has_end (sym (led.went.wins c)) ∙ (wins_end (led.went.stages c) ∙ after)) (wins_end (stage c) ∙ un)

  -- what the pass knows to have ended has
  known_ended : (c : ℕ) → EndedBy q.view.worker.knows c → has_ended (led.went.stages c) ≡ true
  known_ended c ended = facts_ended now led.went.stages led.went.invariant q.seat q.view mine c ended

  ends_by : (c : ℕ) → has_ended (stage c) ≡ false → EndsMeanwhile plan q c
  ends_by c un = record { before = not_before c un; since = λ ended. ended_in c un (known_ended c ended) }

  reads_end : (word : ℕ) → IsOfUnended stage word → WordEndsMeanwhile plan q word
  reads_end word unended dirty = ends_by (unpacked word).card (unended dirty)

  -- what was met, by the run
  met_in : (hs : List Hindrance) → AllMet led_to.0.words stage led.kept.words led.went.stages hs → AreMeanwhile plan q hs
  met_in [] h = tt
  met_in (Claim c ∷ hs) h =
      let first = listed_next q.begun.words ∙ led_to.0.next in
      let last = listed_next q.now.words ∙ led.kept.next in
      let low = h.0.0 in
      let high = h.0.1 in
      ((omega arith, omega arith), met_in hs h.1)
  met_in (Found u ∷ hs) h =
      let is = listed_next q.now.words ∙ led.kept.next in
      let low = h.0.2 in
      ((ends_by u.card h.0.0, λ calm. ended_in u.card h.0.0 (h.0.1 calm), omega arith), met_in hs h.1)

  -- what its search has read is not in the way of a pass with a card in hand
  hand_free : (c : ℕ) → q.view.worker.card ≡ Some c → way_now q.view ≡ []
  hand_free c has = hand_way led.kept.words led.went.stages q.view led.went.invariant.words
      (subst (WorkerIsSound led.kept.words led.went.stages) mine (led.went.invariant.workers.each q.seat)) c has

-- what a search has read since it began ends meanwhile
pub searches_read_meanwhile : SearchesReadMeanwhile
searches_read_meanwhile plan q =
    let l = led plan q in
    let same = ap (λ (u : Worker). u.search) (mine plan q) in
    let ends = reads_end plan q in record {
      here = λ x word at has. ends word (l.since.read x word (ap (λ (n : Search). n.node) same ∙ at) (ap (λ (n : Search). n.read) same ∙ has)).unended;
      parent = λ seen has. ends seen.word (l.since.parent seen (ap (λ (n : Search). n.parent) same ∙ has)).unended;
      grandparent = λ seen has. ends seen.word (l.since.grandparent seen (ap (λ (n : Search). n.grandparent) same ∙ has)).unended;
    }

-- and so does what came to be in its way
pub searches_meet_meanwhile : SearchesMeetMeanwhile
searches_meet_meanwhile plan q =
    let l = led plan q in
    let same : l.view ≡ q.view = some-injective l.view q.view (sym l.there ∙ q.there) in record {
      met = l.hindered.met;
      list = subst (λ (u : View). u.hindrances ≡ l.hindered.met ++ q.begins.view.hindrances) same l.hindered.list;
      earlier = l.hindered.earlier;
      tries = l.hindered.tries ∙ ap (λ (u : View). u.met ++ l.hindered.earlier) same;
      each = met_in plan q l.hindered.met l.hindered.each;
      own = λ c has. subst (λ m. AreOfOthers m c l.hindered.met) (ap (λ (u : View). u.next_at_least) same)
          (l.hindered.own c (ap (λ (u : View). u.worker.card) same ∙ has));
      past = λ c has. subst (λ m. IsPast (flat_from plan) m c) (ap (λ (u : View). u.next_at_least) same)
          (l.hindered.shows.past c (ap (λ (u : View). u.worker.card) same ∙ has));
      free = hand_free plan q;
    }

-- what a pass knows of moves was made
pub known_milestones_were_reached : KnownMilestonesWereReached
known_milestones_were_reached plan first starts turns s run seat v there =
    let last = plan.last_card in
    let opens = starts_are_kept plan first starts in
    let led = run_goes plan first opens.kept opens.kept.stages opens.kept.invariant turns s run in
    let low = (led.0.views seat v there).least in
    let is = listed_next s.words ∙ led.0.next in record {
      given_out = omega (arith, low, is);
      ended = λ c ended.
          let won = led.1.wins c ∙ ap (λ ks. ks ++ run_wins plan first turns s run c) (opens.unwon c) in
          ap has_end (sym won) ∙ (wins_end (led.1.stages c)
          ∙ facts_ended (machine_of_table plan s led.0) led.1.stages led.1.invariant seat v (ap seat_worker there) c ended);
    }

-- a search begins after a begin and after an again
pub searches_begin_there : SearchesBeginThere
searches_begin_there cards s seat c s' h is = subst (λ (t : TableState). BeginsHere t seat) (sym h.gives) (by c is)
  where
    by : (c : Call) → IsBeginning c → BeginsHere (state_after s seat h.view c) seat
    by (call.Begin op) is = record { view = view_after s h.view (call.Begin op); there = set_there s.views seat (view_after s h.view (call.Begin op)) h.view h.there; root = refl; no_card = refl; unread = refl; unmet = refl }
    by call.Again is = record { view = view_after s h.view call.Again; there = set_there s.views seat (view_after s h.view call.Again) h.view h.there; root = refl; no_card = refl; unread = refl; unmet = refl }
    by _ is = absurd is
