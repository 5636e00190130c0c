use Rattle.std.proofs.Common.{List, [], ◌∷◌, ◌++◌, refl, subst, ◌≡◌, ℕ, sym, ap, ◌∙◌}
use Rattle.ell_core.specs.declared.event.Event.{Event}
use Rattle.ell_core.specs.declared.event.Shown.{Shown}
use Rattle.ell_core.specs.state.Machine.{Machine}
use Rattle.ell_core.specs.acts.Runs.{Shows, Run}
use Rattle.std.proofs.lemmas.List.{append_assoc}
use Rattle.ell_core.specs.declared.exchange.Exchange.{Exchange}
use Rattle.ell_core.specs.declared.event.Stepped.{Stepped}
use Rattle.ell_core.specs.declared.event.Shown.TheVariants as shown
use Rattle.ell_core.specs.history.Stages.{Stages}
use Rattle.ell_core.specs.history.Invariant.{Invariant}
use Rattle.ell_core.specs.history.Later.{WordsLater, StagesLater, wins_of}
use Rattle.ell_core.specs.statements.StepLaws.{EventIsLawful}
use Rattle.ell_core.specs.statements.Effects.{KnowledgeLasts, FactsLast}
use Rattle.ell_core.specs.statements.RunLaws.{shown_wins, wins_in}
use Rattle.ell_core.proofs.lemmas.words.Later.{words_same}
use Rattle.ell_core.proofs.lemmas.runs.Chains.{words_later, stages_later}
use Rattle.ell_core.proofs.lemmas.following.Lawful.{events_lawful}
use Rattle.ell_core.proofs.lemmas.stages.Advances.{stages_same, wins_same}

-- a run and one event more
pub run_more : (m : Machine) (es : List Event) (xs : List Shown) (between after : Machine) (e : Event) (x : Shown)
    → Run m es xs between → Shows between e x after → Run m (es ++ e ∷ []) (xs ++ x ∷ []) after
run_more m [] [] between after e x h shows = (after, subst (λ s. Shows s e x after) h shows, refl)
run_more m [] (y ∷ ys) between after e x h shows = absurd h
run_more m (f ∷ fs) [] between after e x h shows = absurd h
run_more m (f ∷ fs) (y ∷ ys) between after e x h shows = (h.0, h.1, run_more h.0 fs ys between after e x h.2 shows)

-- a run and another from its end on
pub run_append : (m : Machine) (es : List Event) (xs : List Shown) (between : Machine) (fs : List Event) (ys : List Shown) (after : Machine)
    → Run m es xs between → Run between fs ys after → Run m (es ++ fs) (xs ++ ys) after
run_append m [] [] between fs ys after h rest = subst (λ s. Run s fs ys after) h rest
run_append m [] (x ∷ xs) between fs ys after h rest = absurd h
run_append m (e ∷ es) [] between fs ys after h rest = absurd h
run_append m (e ∷ es) (x ∷ xs) between fs ys after h rest = (h.0, h.1, run_append h.0 es xs between fs ys after h.2 rest)

-- what a run keeps: the invariant, later words and stages, knowledge, facts; and each card's wins grow by those of the run
pub record Ran (m : Machine) (stage : Stages) (m' : Machine) (won : ℕ → List Exchange) : Type 0 where
  pub stages : Stages
  pub invariant : Invariant m' stages
  pub words : WordsLater m.words m'.words
  pub later : StagesLater stage stages
  pub knowledge : KnowledgeLasts m m'
  pub facts : FactsLast m.words m'.words
  pub wins : (c : ℕ) → wins_of (stages c) ≡ wins_of (stage c) ++ won c

-- a run of no events keeps all
ran_none : (m : Machine) (stage : Stages) (m' : Machine) → Invariant m stage → m' ≡ m → Ran m stage m' (λ c. [])
ran_none m stage m' invariant same = subst (λ after. Ran m stage after (λ c. [])) (sym same) (record {
  stages = stage;
  invariant = invariant;
  words = words_same m.words;
  later = stages_same stage;
  knowledge = λ i fact h. h;
  facts = λ fact h. h;
  wins = λ c. wins_same (stage c);
})

-- a run after a refused event is one from the same state
ran_refused : (m : Machine) (stage : Stages) (es : List Event) (xs : List Shown) (m' between : Machine) (same : between ≡ m)
    → (run : Run between es xs m') → ((run' : Run m es xs m') → Ran m stage m' (wins_in m es xs m' run'))
    → Ran m stage m' (wins_in between es xs m' run)
ran_refused m stage es xs m' between same run from_m =
    subst (λ n. (r : Run n es xs m') → Ran m stage m' (wins_in n es xs m' r)) (sym same) from_m run

-- wins before an event, of it, and after it
wins_after : (old middle new first rest : List Exchange) → middle ≡ old ++ first → new ≡ middle ++ rest → new ≡ old ++ (first ++ rest)
wins_after old middle new first rest e f = f ∙ (ap (λ xs. xs ++ rest) e ∙ append_assoc old first rest)

-- an event and a run after it
ran_first : (m : Machine) (stage : Stages) (e : Event) (said : Stepped) (between m' : Machine) (rest : ℕ → List Exchange)
    → (first : EventIsLawful m stage e said between) → Ran between first.follows.stages m' rest
    → Ran m stage m' (λ c. shown_wins m e (shown.Step said) c ++ rest c)
ran_first m stage e said between m' rest first h = record {
  stages = h.stages;
  invariant = h.invariant;
  words = words_later m.words between.words m'.words first.follows.words h.words;
  later = stages_later stage first.follows.stages h.stages first.follows.later h.later;
  knowledge = λ i fact known. h.knowledge i fact (first.knowledge i fact known);
  facts = λ fact holds. h.facts fact (first.facts fact holds);
  wins = λ c. wins_after (wins_of (stage c)) (wins_of (first.follows.stages c)) (wins_of (h.stages c)) (shown_wins m e (shown.Step said) c) (rest c)
      (first.follows.wins c) (h.wins c);
}

-- every run keeps all
pub ran : (m : Machine) (stage : Stages) (events : List Event) (answers : List Shown) (m' : Machine) → Invariant m stage
    → (run : Run m events answers m') → Ran m stage m' (wins_in m events answers m' run)
ran m stage [] [] m' invariant run = ran_none m stage m' invariant run
ran m stage (e ∷ es) (shown.Step said ∷ xs) m' invariant run =
    let first = events_lawful m stage e said run.0 invariant run.1 in
    ran_first m stage e said run.0 m' (wins_in run.0 es xs m' run.2) first
    (ran run.0 first.follows.stages es xs m' first.follows.invariant run.2)
ran m stage (e ∷ es) (shown.Refused fault ∷ xs) m' invariant run =
    ran_refused m stage es xs m' run.0 run.1.1 run.2 (λ run'. ran m stage es xs m' invariant run')
ran m stage [] (x ∷ xs) m' invariant run = absurd run
ran m stage (e ∷ es) [] m' invariant run = absurd run
