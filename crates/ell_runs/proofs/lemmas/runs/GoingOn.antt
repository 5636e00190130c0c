use Rattle.std.proofs.Common.{◌≡◌, ◌+◌, ◌⊎◌, ℕ, ◌<◌, ◌≤◌, ◌==◌, if◌then◌else◌, Bool, true, false, Option, Some, None, List, [], ◌∷◌, ◌++◌, refl, sym, ap, ◌∙◌, subst, inl, inr, arith}
use Rattle.std.proofs.lemmas.Bool.{cases_eq, cases_lt}
use Rattle.ell_core.specs.statements.Since.{CleansSince}
use Rattle.ell_core.proofs.lemmas.stages.Ended.{ends_last, unended_before}
use Rattle.ell_core.proofs.lemmas.following.Cleans.{cleans_go_on, below_later}
use Rattle.std.proofs.lemmas.List.{append_assoc}
use Rattle.ell_word.specs.Link.{linked}
use Rattle.ell_word.specs.Word.{packed}
use Rattle.ell_core.specs.declared.exchange.Exchange.{Exchange}
use Rattle.ell_core.specs.declared.exchange.Exchange.TheVariants as exchange
use Rattle.ell_core.specs.declared.event.Act.{Act}
use Rattle.ell_core.specs.declared.event.Act.TheVariants as act
use Rattle.ell_core.specs.declared.event.Stepped.{Stepped}
use Rattle.ell_core.specs.declared.event.Stepped.TheVariants.{Moved, Answered}
use Rattle.ell_word.specs.Node.{card}
use Rattle.ell_core.specs.declared.view.Search.{Search}
use Rattle.ell_core.specs.state.Machine.{Worker, Machine, no_search, nobody}
use Rattle.ell_core.specs.state.Handovers.{Split, Join}
use Rattle.ell_layout.proofs.lemmas.Writes.{put_same, put_other}
use Rattle.ell_core.proofs.lemmas.stages.Sums.{child_changes, sum_by}
use Rattle.ell_core.proofs.lemmas.following.Backtracks.{Backtracks, Keeps, events_keep, rests_keep}
use Rattle.ell_core.proofs.lemmas.following.Children.{children_stay}
use Rattle.ell_runs.proofs.lemmas.runs.EarlySums.{early_sum, event_falls, rests_fall, one_more_falls}
use Rattle.ell_layout.specs.Cards.{iflag, dflag}
use Rattle.ell_core.specs.acts.Exchanges.{won_or_lost}
use Rattle.ell_core.specs.history.Stages.{Stages}
use Rattle.ell_core.specs.history.Invariant.{Invariant}
use Rattle.ell_core.specs.history.Later.{wins_of}
use Rattle.ell_core.specs.acts.Wins.{win_for, win_by, wins_by}
use Rattle.ell_core.proofs.lemmas.following.Lawful.{events_lawful, splits_lawful, joins_lawful}
use Rattle.ell_core.proofs.lemmas.stages.Advances.{wins_same}
use Rattle.ell_runs.specs.Plans.{TablePlan}
use Rattle.ell_runs.specs.declared.call.Call.{Call}
use Rattle.ell_runs.specs.declared.call.Call.TheVariants as call
use Rattle.ell_runs.specs.declared.view.View.{View}
use Rattle.ell_runs.specs.Calls.{atomic_of, is_won, act_of, said_of, Becomes, May}
use Rattle.ell_runs.specs.States.{TableState, seat_worker}
use Rattle.ell_runs.specs.Machines.{HasMachine}
use Rattle.ell_runs.specs.Laws.{machine_of_table}
use Rattle.ell_runs.specs.Turns.{Turn, Makes, Splits, Joins, TableTurns, TableRun, found_by}
use Rattle.ell_runs.specs.TurnEffects.{win_of, turn_wins, run_wins}
use Rattle.ell_runs.proofs.lemmas.runs.TurnsOfRuns.{turn_lawful}
use Rattle.ell_layout.specs.Words.{Words, put}
use Rattle.ell_core.specs.history.Later.{WordsLater, StagesLater}
use Rattle.ell_core.proofs.lemmas.words.Later.{words_same}
use Rattle.ell_core.proofs.lemmas.runs.Chains.{words_later, stages_later}
use Rattle.ell_core.proofs.lemmas.stages.Advances.{stages_same}

-- what has become clean since, and since then
pub cleans_chain : (w : Words) (stage : Stages) (mid : Words) (between : Stages) (end : Words) (after : Stages) → StagesLater stage between → StagesLater between after
    → WordsLater mid end → CleansSince w stage mid between → CleansSince mid between end after → CleansSince w stage end after
cleans_chain w stage mid between end after first second words one two x c rose now some = elim (cases_lt (mid.update x) (end.update x)) [
  | inl less ↦ (let h = two x c less now some in (unended_before stage between first c h.0, h.1, h.2))
  | inr most ↦ (let up = words.update x in let h = one x c (omega arith) (omega arith) some in
      (h.0, ends_last between after second c h.1, below_later mid end between after words second x c h.2))
]

-- a machine that came from one with these words and stages, which won this since
pub record Went (w : Words) (stage : Stages) (won : ℕ → List Exchange) (m' : Machine) : Type 0 where
  pub stages : Stages
  pub invariant : Invariant m' stages
  pub words : WordsLater w m'.words
  pub later : StagesLater stage stages
  pub wins : (d : ℕ) → wins_of (stages d) ≡ wins_of (stage d) ++ won d
  pub cleans : CleansSince w stage m'.words stages

-- nothing was won where the machine is the same
abbrev pub went_still : (m : Machine) (stage : Stages) → Invariant m stage → Went m.words stage (λ d. []) m
went_still m stage holds = record {
  stages = stage;
  invariant = holds;
  words = words_same m.words;
  later = stages_same stage;
  wins = λ d. wins_same (stage d);
  cleans = λ x c rose now some. absurd (omega arith);
}

-- what was won first, and then
abbrev pub went_after : (w : Words) (stage : Stages) (won : ℕ → List Exchange) (m : Machine) (more : ℕ → List Exchange) (m' : Machine) → (at : Went w stage won m)
    → Went m.words at.stages more m' → Went w stage (λ d. won d ++ more d) m'
went_after w stage won m more m' at goes = record {
  stages = goes.stages;
  invariant = goes.invariant;
  words = words_later w m.words m'.words at.words goes.words;
  later = stages_later stage at.stages goes.stages at.later goes.later;
  wins = λ d. goes.wins d ∙ (ap (λ ks. ks ++ more d) (at.wins d) ∙ append_assoc (wins_of (stage d)) (won d) (more d));
  cleans = cleans_chain w stage m.words at.stages m'.words goes.stages at.later goes.later goes.words at.cleans goes.cleans;
}

-- nor where the words are the same
pub went_nowhere : (m : Machine) (stage : Stages) (m' : Machine) → Invariant m' stage → m'.words ≡ m.words → Went m.words stage (λ d. []) m'
went_nowhere m stage m' holds is = record {
  stages = stage;
  invariant = holds;
  words = subst (WordsLater m.words) (sym is) (words_same m.words);
  later = stages_same stage;
  wins = λ d. wins_same (stage d);
  cleans = λ x c rose now some. let same = ap (λ (v : Words). v.update x) is in absurd (omega arith);
}

-- the machine that a turn leads to, with what becomes of deletes whose flags were taken back, of children, and of what was read early
pub record Turned (m : Machine) (stage : Stages) (won : ℕ → List Exchange) (m' : Machine) : Type 0 where
  pub went : Went m.words stage won m'
  pub keeps : (first : Stages) (old : Backtracks first m.words stage m.worker) → Keeps first m.words stage m.worker old m'.words went.stages m'.worker
  pub children : ((d : ℕ) → sum_by child_changes (won d) ≡ 0) → (x : ℕ) (right : Bool) → card x < m.words.next → m'.words.child x right ≡ m.words.child x right
  pub early : (n : ℕ) (w0 : Words) (first : Stages) → ((x : ℕ) → w0.update x ≤ m.words.update x)
      → early_sum n w0 first m'.words went.stages m'.count m'.worker ≤ early_sum n w0 first m.words stage m.count m.worker

-- an act of a machine, and no act
module _ (m : Machine) (stage : Stages) (holds : Invariant m stage) (i : ℕ) (m' : Machine) where
  acts : (a : Act) (said : Stepped) → Becomes i (Some a) said m m' → Turned m stage (wins_by a (m.worker i).card said) m'
  acts a said h =
      let follows = (events_lawful m stage (record { worker = i; act = a }) said m' holds h).follows in record {
        went = record {
          stages = follows.stages;
          invariant = follows.invariant;
          words = follows.words;
          later = follows.later;
          wins = follows.wins;
          cleans = cleans_go_on m stage m stage (record { worker = i; act = a }) said m' holds (stages_same stage) h follows
              (λ x c rose now some. absurd (omega arith));
        };
        keeps = λ first old. events_keep first m stage (record { worker = i; act = a }) said m' holds h follows old;
        children = λ none x right low. children_stay m (record { worker = i; act = a }) said m' h none x right low;
        early = λ n w0 first up. event_falls n w0 first m stage (record { worker = i; act = a }) said m' holds up h follows;
      }

  rests : m' ≡ m → Turned m stage (λ d. []) m'
  rests is = subst (λ (n : Machine). Turned m stage (λ d. []) n) (sym is) (record {
    went = went_still m stage holds;
    keeps = λ first old. rests_keep first m.words stage m.worker m.worker (λ j. inr refl) old;
    children = λ none x right low. refl;
    early = λ n w0 first up. rests_fall n w0 first m.words stage m.count m.worker m.worker (λ j. inr refl);
  })

  claims : (b : Bool) → Becomes i (if b then Some act.Claim else None) Moved m m' → Turned m stage (λ d. if b then [] else []) m'
  claims true h = acts act.Claim Moved h
  claims false h = rests h

  -- an act that is won or lost
  tries : (a : Act) (b : Bool) → Becomes i (Some a) (won_or_lost b) m m' → Turned m stage (λ d. if b then win_by a (m.worker i).card d else []) m'
  tries a true h = acts a (won_or_lost true) h
  tries a false h = acts a (won_or_lost false) h

  -- a flag, of the card in hand
  flags : (a : Act) (k : Exchange) (b : Bool) (c : ℕ) → ((hand : Option ℕ) (d : ℕ) → win_by a hand d ≡ win_for hand k d) → (m.worker i).card ≡ Some c
      → Becomes i (Some a) (won_or_lost b) m m' → Turned m stage (λ d. if b then win_for (Some c) k d else []) m'
  flags a k b c is holds h =
      subst (λ (won : ℕ → List Exchange). Turned m stage (λ d. if b then won d else []) m') (λ t d. (is (m.worker i).card d ∙ ap (λ o. win_for o k d) holds) t)
      (tries a b h)

  -- the wins of a call
  pub call_wins : (c : Call) (n : ℕ) (v : View) (plan : TablePlan) → (m.worker i).card ≡ v.worker.card → May plan c v → Becomes i (act_of c n) (said_of c n) m m'
      → Turned m stage (λ d. if is_won (atomic_of c) n then win_of c d else []) m'
  call_wins (call.Begin op) n v plan mine may h = acts (act.Begin op) Moved h
  call_wins call.Again n v plan mine may h = acts act.Again Moved h
  call_wins call.Leave n v plan mine may h = acts act.Leave Moved h
  call_wins (call.Answer said took) n v plan mine may h = acts act.Answer (Answered said) h
  call_wins (call.Upd x) n v plan mine may h = acts act.Upd Moved h
  call_wins (call.Down x right) n v plan mine may h = acts act.Down Moved h
  call_wins (call.Claim c q) n v plan mine may h = claims (n == c) h
  call_wins (call.IFlag c p from) n v plan mine may h =
      flags act.IFlag exchange.IFlag (n == packed from) c (λ hand d. refl) (mine ∙ may.may.holds) h
  call_wins (call.IChild c p l replaces right) n v plan mine may h = tries (act.IChild c) (n == linked l) h
  call_wins (call.IUnflag c p) n v plan mine may h = tries (act.IUnflag c) (n == iflag c) h
  call_wins (call.DFlag c gp from) n v plan mine may h =
      flags act.DFlag exchange.DFlag (n == packed from) c (λ hand d. refl) (mine ∙ may.may.holds) h
  call_wins (call.Mark c p was) n v plan mine may h = tries (act.Mark c) (n == was) h
  call_wins (call.DChild c gp p sibling right) n v plan mine may h = tries (act.DChild c) (n == linked p) h
  call_wins (call.DUnflag c gp) n v plan mine may h = tries (act.DUnflag c) (n == dflag c) h
  call_wins (call.Backtrack c gp) n v plan mine may h = tries (act.Backtrack c) (n == dflag c) h
  call_wins _ n v plan mine may h = rests h

module _ (plan : TablePlan) where
  -- a split leaves each worker as it is, or with nothing in hand
  split_rests : (m : Machine) (i : ℕ) (m' : Machine) (split : Split m i m') → (j : ℕ)
      → ((put (put m.worker i split.left) m.count split.right j).search ≡ no_search) ⊎ (put (put m.worker i split.left) m.count split.right j ≡ m.worker j)
  split_rests m i m' split j = elim (cases_eq j m.count) [
    | inl e ↦ inl (ap (λ (v : Worker). v.search) (ap (put (put m.worker i split.left) m.count split.right) e
        ∙ (put_same (put m.worker i split.left) m.count split.right ∙ split.right_free)))
    | inr n ↦ elim (cases_eq j i) [
      | inl e ↦ inl (ap (λ (v : Worker). v.search) (put_other (put m.worker i split.left) m.count split.right j n
          ∙ (ap (put m.worker i split.left) e ∙ (put_same m.worker i split.left ∙ split.left_free))))
      | inr o ↦ inr (put_other (put m.worker i split.left) m.count split.right j n ∙ put_other m.worker i split.left j o)
    ]
  ]

  -- and so does a join
  join_rests : (m : Machine) (i k : ℕ) (m' : Machine) (join : Join m i k m') → (j : ℕ)
      → ((put (put m.worker i join.both) k nobody j).search ≡ no_search) ⊎ (put (put m.worker i join.both) k nobody j ≡ m.worker j)
  join_rests m i k m' join j = elim (cases_eq j k) [
    | inl e ↦ inl (ap (λ (v : Worker). v.search) (ap (put (put m.worker i join.both) k nobody) e ∙ put_same (put m.worker i join.both) k nobody))
    | inr n ↦ elim (cases_eq j i) [
      | inl e ↦ inl (ap (λ (v : Worker). v.search) (put_other (put m.worker i join.both) k nobody j n
          ∙ (ap (put m.worker i join.both) e ∙ (put_same m.worker i join.both ∙ join.both_free))))
      | inr o ↦ inr (put_other (put m.worker i join.both) k nobody j n ∙ put_other m.worker i join.both j o)
    ]
  ]

  none_parent : {A : Type 0} (search : Search) → (search ≡ no_search) ⊎ A → (search.parent ≡ None) ⊎ A
  none_parent search (inl e) = inl (ap (λ (s : Search). s.parent) e)
  none_parent search (inr same) = inr same

  splits : (m : Machine) (stage : Stages) (i : ℕ) (m' : Machine) → Invariant m stage → (split : Split m i m') → Turned m stage (λ d. []) m'
  splits m stage i m' holds split = subst (λ (n : Machine). Invariant n stage → Turned m stage (λ d. []) n) (sym split.gives) (λ after. record {
    went = went_still (record m { worker = put (put m.worker i split.left) m.count split.right; count = m.count + 1 }) stage after;
    keeps = λ first old. rests_keep first m.words stage m.worker (put (put m.worker i split.left) m.count split.right)
        (λ j. none_parent (put (put m.worker i split.left) m.count split.right j).search (split_rests m i m' split j)) old;
    children = λ none x right low. refl;
    early = λ n w0 first up. one_more_falls n w0 first m.words stage m.count m.worker (put (put m.worker i split.left) m.count split.right)
        (split_rests m i m' split) (ap (λ (v : Worker). v.search) (put_same (put m.worker i split.left) m.count split.right ∙ split.right_free));
  }) (splits_lawful m stage i m' holds split)

  joins : (m : Machine) (stage : Stages) (i k : ℕ) (m' : Machine) → Invariant m stage → (join : Join m i k m') → Turned m stage (λ d. []) m'
  joins m stage i k m' holds join = subst (λ (n : Machine). Invariant n stage → Turned m stage (λ d. []) n) (sym join.gives) (λ after. record {
    went = went_still (record m { worker = put (put m.worker i join.both) k nobody }) stage after;
    keeps = λ first old. rests_keep first m.words stage m.worker (put (put m.worker i join.both) k nobody)
        (λ j. none_parent (put (put m.worker i join.both) k nobody j).search (join_rests m i k m' join j)) old;
    children = λ none x right low. refl;
    early = λ n w0 first up. rests_fall n w0 first m.words stage m.count m.worker (put (put m.worker i join.both) k nobody) (join_rests m i k m' join);
  }) (joins_lawful m stage i k m' holds join)

  -- what a turn makes of the machine
  pub turn_turns : (s : TableState) (r : HasMachine plan s) (stage : Stages) → Invariant (machine_of_table plan s r) stage → (t : Turn) (s' : TableState)
      → TableTurns plan s t s' → (k : HasMachine plan s') × Turned (machine_of_table plan s r) stage (turn_wins s t) (machine_of_table plan s' k)
      × StagesLater r.stages k.stages
  turn_turns s r stage holds (Makes seat c) s' h =
      let turn = turn_lawful plan s r (Makes seat c) s' h in (
        turn.0,
        call_wins (machine_of_table plan s r) stage holds seat (machine_of_table plan s' turn.0) c (found_by s c) h.view plan
            (ap (λ o. (seat_worker o).card) h.there) h.may turn.1.machine,
        turn.1.later,
      )
  turn_turns s r stage holds (Splits seat left) s' h =
      let turn = turn_lawful plan s r (Splits seat left) s' h in
      (turn.0, splits (machine_of_table plan s r) stage seat (machine_of_table plan s' turn.0) holds turn.1.machine, turn.1.later)
  turn_turns s r stage holds (Joins seat other) s' h =
      let turn = turn_lawful plan s r (Joins seat other) s' h in
      (turn.0, joins (machine_of_table plan s r) stage seat other (machine_of_table plan s' turn.0) holds turn.1.machine, turn.1.later)

  -- what a run makes of the machine
  pub run_goes : (s : TableState) (r : HasMachine plan s) (stage : Stages) → Invariant (machine_of_table plan s r) stage → (turns : List Turn) (s' : TableState)
      → (run : TableRun plan s turns s')
      → (k : HasMachine plan s') × Went r.words stage (run_wins plan s turns s' run) (machine_of_table plan s' k) × StagesLater r.stages k.stages
  run_goes s r stage holds [] s' run =
      subst (λ x. (k : HasMachine plan x) × Went r.words stage (λ d. []) (machine_of_table plan x k) × StagesLater r.stages k.stages) (sym run)
      (r, went_nowhere (machine_of_table plan s r) stage (machine_of_table plan s r) holds refl, stages_same r.stages)
  run_goes s r stage holds (t ∷ ts) s' run =
      let first = turn_turns s r stage holds t run.0 run.1 in
      let rest = run_goes run.0 first.0 first.1.went.stages first.1.went.invariant ts s' run.2 in (
        rest.0,
        went_after r.words stage (turn_wins s t) (machine_of_table plan run.0 first.0) (run_wins plan run.0 ts s' run.2)
            (machine_of_table plan s' rest.0) first.1.went rest.1,
        stages_later r.stages first.0.stages rest.0.stages first.2 rest.2,
      )
