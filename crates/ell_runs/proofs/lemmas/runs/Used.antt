-- What a turn makes of what cards took out, and of what is used, by the stages of the table's machine.
use Rattle.std.proofs.Common.{◌≡◌, ℕ, ◌++◌, Option, Some, None, inl, inr, refl, sym, ap, ◌∙◌, subst}
use Rattle.ell_layout.specs.Words.{Words}
use Rattle.ell_core.specs.declared.event.Act.{Act}
use Rattle.ell_core.specs.acts.Wins.{wins_by}
use Rattle.ell_core.specs.history.Later.{WordsLater, Follows, wins_of}
use Rattle.ell_core.specs.history.Stages.{Stages}
use Rattle.ell_core.specs.state.Machine.{Machine, Worker}
use Rattle.ell_core.proofs.lemmas.keeping.AllEvents.{steps_follow}
use Rattle.ell_core.proofs.lemmas.words.Later.{words_same}
use Rattle.ell_grace.specs.Dead.{IsDead, UsesAreSound, HasUses}
use Rattle.ell_grace.specs.Gone.{OutsAreSound}
use Rattle.ell_grace.proofs.lemmas.dead.Events.{uses_go_on}
use Rattle.ell_grace.proofs.lemmas.dead.Frames.{never_later}
use Rattle.ell_grace.proofs.lemmas.outs.Events.{outs_go_on}
use Rattle.ell_grace.proofs.lemmas.since.Later.{gone_later}
use Rattle.ell_runs.specs.Calls.{act_of, said_of, Becomes}
use Rattle.ell_runs.specs.Laws.{machine_of_table, act_wins}
use Rattle.ell_runs.specs.Machines.{HasMachine}
use Rattle.ell_runs.specs.Plans.{TablePlan}
use Rattle.ell_runs.specs.Runs.{TurnIsLawful}
use Rattle.ell_runs.specs.States.{TableState}
use Rattle.ell_runs.specs.Turns.{Turn, Makes, Splits, Joins, TableTurns, found_by}
use Rattle.ell_runs.proofs.lemmas.runs.TurnsOfRuns.{won_alike}
use Rattle.ell_runs.proofs.lemmas.seats.Seats.{mine_is}

-- what cards took out, and what is used, is sound by words that are later ones
pub record UsesKept (now new : Words) (stages : Stages) : Type 0 where
  pub outs : OutsAreSound new stages
  pub uses : UsesAreSound new stages
  pub words : WordsLater now new

-- so it is, and what was dead is dead
pub record TurnKeepsUses (now : Words) (old : Stages) (new : Words) (stages : Stages) : Type 0 where
  pub outs : OutsAreSound new stages
  pub uses : UsesAreSound new stages
  pub words : WordsLater now new
  pub stays : (x : ℕ) → IsDead now old x → IsDead new stages x

module _ (plan : TablePlan) (s : TableState) (r : HasMachine plan s) (t : Turn) (s' : TableState) (turn : TableTurns plan s t s') (next : HasMachine plan s')
    (lawful : TurnIsLawful plan s r t s' next) where
  abbrev m : Machine
  m = machine_of_table plan s r

  abbrev m' : Machine
  m' = machine_of_table plan s' next

  -- where no card has come on, and the words are the same
  as_it_was : next.stages ≡ r.stages → m'.words ≡ m.words → OutsAreSound r.words r.stages → UsesAreSound r.words r.stages → UsesKept r.words next.words next.stages
  as_it_was still same outs uses = record {
    outs = subst (OutsAreSound next.words) (sym still) (subst (λ w. OutsAreSound w r.stages) (sym same) outs);
    uses = subst (UsesAreSound next.words) (sym still) (subst (λ w. UsesAreSound w r.stages) (sym same) uses);
    words = subst (WordsLater r.words) (sym same) (words_same r.words);
  }

  keeps : OutsAreSound r.words r.stages → UsesAreSound r.words r.stages → UsesKept r.words next.words next.stages
  keeps = by t turn lawful
    where
      by : (t : Turn) (turn : TableTurns plan s t s') (lawful : TurnIsLawful plan s r t s' next) → OutsAreSound r.words r.stages → UsesAreSound r.words r.stages
          → UsesKept r.words next.words next.stages
      by (Makes seat c) turn lawful outs uses = at (act_of c (found_by s c)) refl lawful.machine outs uses
        where
          n : ℕ
          n = found_by s c

          at : (a : Option Act) → act_of c n ≡ a → Becomes seat a (said_of c n) m m' → OutsAreSound r.words r.stages → UsesAreSound r.words r.stages
              → UsesKept r.words next.words next.stages
          at None none same outs uses = as_it_was (lawful.still none) (ap (λ (x : Machine). x.words) same) outs uses
          at (Some a) is steps outs uses =
              let on = steps_follow m r.stages (record { worker = seat; act = a }) (said_of c n) m' r.invariant steps in
              let hand : (m.worker seat).card ≡ turn.view.worker.card = ap (λ (u : Worker). u.card) (mine_is plan s r seat turn.view turn.there) in
              let follows : Follows m r.stages a seat (said_of c n) m' = record {
                stages = next.stages;
                invariant = next.invariant;
                words = on.words;
                later = lawful.later;
                unborn = on.unborn;
                wins = λ d. lawful.wins d ∙ ap (λ ks. wins_of (r.stages d) ++ ks)
                    (sym (won_alike plan c n turn.view turn.may d)
                    ∙ (ap (λ o. act_wins o turn.view.worker.card (said_of c n) d) is ∙ ap (λ o. wins_by a o (said_of c n) d) (sym hand)));
              } in record {
                outs = outs_go_on m r.stages (record { worker = seat; act = a }) (said_of c n) m' r.invariant steps follows outs;
                uses = uses_go_on m r.stages (record { worker = seat; act = a }) (said_of c n) m' r.invariant steps follows outs uses;
                words = on.words;
              }
      by (Splits seat left) turn lawful outs uses = as_it_was (lawful.still refl) (ap (λ (x : Machine). x.words) lawful.machine.gives) outs uses
      by (Joins seat other) turn lawful outs uses = as_it_was (lawful.still refl) (ap (λ (x : Machine). x.words) lawful.machine.gives) outs uses

  -- so a turn keeps it by the stages of the machine to which it leads
  pub turn_keeps_uses : (uses : HasUses m) → uses.outs.stages ≡ r.stages → TurnKeepsUses r.words uses.outs.stages next.words next.stages
  turn_keeps_uses uses same =
      let on = keeps (subst (OutsAreSound r.words) same uses.outs.outs) (subst (UsesAreSound r.words) same uses.uses) in record {
        outs = on.outs;
        uses = on.uses;
        words = on.words;
        stays = λ x dead. stays on.words x (subst (λ stage. IsDead r.words stage x) same dead);
      }
    where
      stays : WordsLater r.words next.words → (x : ℕ) → IsDead r.words r.stages x → IsDead next.words next.stages x
      stays words x (inl gone) = inl (gone_later m r.stages r.invariant next.words next.stages words lawful.later x gone)
      stays words x (inr never) = inr (never_later r.words r.stages r.invariant.words next.words next.stages next.invariant.words words lawful.later x never)
