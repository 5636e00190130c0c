use Rattle.std.specs.Prelude.{◌≡◌, ℕ, ◌≤◌, true, List, [], ◌++◌}
use Rattle.ell_core.specs.declared.exchange.Exchange.{Exchange}
use Rattle.ell_core.specs.history.Later.{wins_of}
use Rattle.ell_core.specs.acts.Wins.{InOrder}
use Rattle.ell_core.specs.history.Stages.{is_claimed, is_start}
use Rattle.ell_core.specs.statements.RunLaws.{IsOpening}
use Rattle.ell_runs.specs.States.{TableState}
use Rattle.ell_runs.specs.Turns.{Turn, TableRun}
use Rattle.ell_runs.specs.TurnEffects.{own_words, run_wins}
use Rattle.ell_runs.specs.Starts.{Starts, IsReached}
use Rattle.ell_runs.specs.Machines.{HasMachine}
use Rattle.ell_runs.specs.Laws.{machine_of_table}
use Rattle.ell_runs.specs.Plans.{TablePlan}

-- what was won for a card up to a state that has a machine, by its stage there
abbrev pub won_before :
    (plan : TablePlan) (s : TableState) → HasMachine plan s → ℕ → List Exchange
won_before plan s r c = wins_of (r.stages c)

-- what was won for each card before, none for card 0 and for one that is yet to be claimed, goes on in order in every
-- run
pub record WinsGoOn (plan : TablePlan) (s : TableState) (r : HasMachine plan s) : Type 0 where
  pub first : (c : ℕ) → c ≡ 0 → won_before plan s r c ≡ []
  pub fresh : (c : ℕ) → (own_words s).next ≤ c → won_before plan s r c ≡ []
  pub order : (turns : List Turn) (s' : TableState) (run : TableRun plan s turns s') (c : ℕ)
      → InOrder (won_before plan s r c ++ run_wins plan s turns s' run c)

-- so it does from every state that has a machine
abbrev pub TableWinsAreInOrder : Type 0
TableWinsAreInOrder = (plan : TablePlan) (s : TableState) (r : HasMachine plan s) → WinsGoOn plan s r

-- a table as it starts has a machine that is an opening, and nothing was won yet
pub record StartIsKept (plan : TablePlan) (s : TableState) : Type 0 where
  pub kept : HasMachine plan s
  pub opening : IsOpening (machine_of_table plan s kept)
  pub unwon : (c : ℕ) → won_before plan s kept c ≡ []
  pub started : (c : ℕ) → is_claimed (kept.stages c) ≡ true → is_start (kept.stages c) ≡ true

-- so it is of every table as it starts
abbrev pub StartsAreKept : Type 0
StartsAreKept = (plan : TablePlan) (s : TableState) → Starts plan s → StartIsKept plan s

-- wherever turns have led a table, it has a machine
abbrev pub ReachedHasMachine : Type 0
ReachedHasMachine = (plan : TablePlan) (s : TableState) → IsReached plan s → HasMachine plan s
