use Rattle.std.specs.Prelude.{◌≡◌, ◌≢◌, ℕ, ◌↔◌, false, Option, Some, None, List, [], ◌++◌}
use mathlib.Core.Option.{some}
use lib.ListN.{get_elem?}
use Rattle.ell_word.specs.Node.{IsInternal, card}
use Rattle.ell_word.specs.Word.{unpacked}
use Rattle.ell_word.specs.declared.update.State.TheVariants as state
use Rattle.ell_core.specs.declared.event.Act.{Act}
use Rattle.ell_core.specs.declared.event.Stepped.{Stepped}
use Rattle.ell_core.specs.declared.exchange.Exchange.{Exchange}
use Rattle.ell_core.specs.state.Machine.{Machine}
use Rattle.ell_core.specs.state.Handovers.{Split, Join}
use Rattle.ell_core.specs.soundness.Sound.{IsSound}
use Rattle.ell_core.specs.tree.Tree.{Reached}
use Rattle.ell_core.specs.acts.Wins.{wins_by}
use Rattle.ell_core.specs.history.Stages.{waits}
use Rattle.ell_core.specs.history.Later.{SaysTheSame, StagesLater, wins_of}
use Rattle.ell_core.specs.statements.Effects.{SamePairs}
use Rattle.ell_runs.specs.Plans.{TablePlan}
use Rattle.ell_runs.specs.declared.call.Call.{Call}
use Rattle.ell_runs.specs.declared.view.View.{View}
use Rattle.ell_runs.specs.Views.{KnowsCard, IsFree}
use Rattle.ell_runs.specs.Calls.{act_of, said_of, Becomes, May, Tells}
use Rattle.ell_runs.specs.States.{TableState, seated}
use Rattle.ell_runs.specs.Turns.{found_by, state_after, state_split, state_joined}
use Rattle.ell_runs.specs.Holding.{HasFlagged}
use Rattle.ell_runs.specs.TurnEffects.{own_words}
use Rattle.ell_runs.specs.Machines.{HasMachine}

-- the machine that a state has
abbrev pub machine_of_table : (plan : TablePlan) (s : TableState) → HasMachine plan s → Machine
machine_of_table plan s r = seated r.words s.views plan.last_card

-- what an act wins for a card, by the card in hand and its answer; no act wins nothing
abbrev pub act_wins : Option Act → Option ℕ → Stepped → ℕ → List Exchange
act_wins None hand said d = []
act_wins (Some a) hand said d = wins_by a hand said d

-- the state after a call has a machine again: the one to which the call's event leads, or the same one, with all cards
-- at their stages; the wins of each card grow by what the event wins for it; and what the call tells is so
pub record IsEvent (plan : TablePlan) (s : TableState) (r : HasMachine plan s) (id : ℕ) (v : View)
    (c : Call) : Type 0 where
  pub kept : HasMachine plan (state_after s id v c)
  pub later : StagesLater r.stages kept.stages
  pub event : Becomes id (act_of c (found_by s c)) (said_of c (found_by s c)) (machine_of_table plan s r)
      (machine_of_table plan (state_after s id v c) kept)
  pub wins : (d : ℕ) → wins_of (kept.stages d)
      ≡ wins_of (r.stages d) ++ act_wins (act_of c (found_by s c)) v.worker.card (said_of c (found_by s c)) d
  pub still : act_of c (found_by s c) ≡ None → kept.stages ≡ r.stages
  pub tells : Tells plan c v (found_by s c)

-- each step call is one event of the machine, or leaves it
abbrev pub StepsAreEvents : Type 0
StepsAreEvents = (plan : TablePlan) (s : TableState) (r : HasMachine plan s) (id : ℕ) (v : View) (c : Call)
    → get_elem? s.views id ≡ some v → May plan c v → IsEvent plan s r id v c

-- the state after a split has a machine again: the one before, after a split of that worker, with all cards at their
-- stages
pub record SplitIsKept (plan : TablePlan) (s : TableState) (r : HasMachine plan s) (id : ℕ) (v : View)
    (left : List ℕ) : Type 0 where
  pub kept : HasMachine plan (state_split s id v left)
  pub later : StagesLater r.stages kept.stages
  pub stages : kept.stages ≡ r.stages
  pub split : Split (machine_of_table plan s r) id (machine_of_table plan (state_split s id v left) kept)

-- each split is one of the machine
abbrev pub SplitsAreHandovers : Type 0
SplitsAreHandovers =
    (plan : TablePlan) (s : TableState) (r : HasMachine plan s) (id : ℕ) (v : View) (left : List ℕ)
    → get_elem? s.views id ≡ some v → IsFree v → SplitIsKept plan s r id v left

-- the state after a join has a machine again: the one before, after a join of these workers, with all cards at their
-- stages
pub record IsJoin (plan : TablePlan) (s : TableState) (r : HasMachine plan s) (id other : ℕ)
    (v w : View) : Type 0 where
  pub kept : HasMachine plan (state_joined s id other v w)
  pub later : StagesLater r.stages kept.stages
  pub stages : kept.stages ≡ r.stages
  pub join : Join (machine_of_table plan s r) id other
      (machine_of_table plan (state_joined s id other v w) kept)

-- each join is one of the machine
abbrev pub JoinsAreHandovers : Type 0
JoinsAreHandovers = (plan : TablePlan) (s : TableState) (r : HasMachine plan s) (id other : ℕ) (v w : View)
    → get_elem? s.views id ≡ some v → get_elem? s.views other ≡ some w → id ≢ other → IsFree v → IsFree w
    → IsJoin plan s r id other v w

-- the machine that a state has is sound
abbrev pub MachineIsSound : Type 0
MachineIsSound =
    (plan : TablePlan) (s : TableState) (r : HasMachine plan s) → IsSound (machine_of_table plan s r)

-- where the machine's words are the table's own: the claim word, and each card that does not wait for its flag.
-- That is each card of a node that is reached from the root, each that a flag or a mark of such a node names, and
-- each that a pass knows flagged or marked, or has in hand, flagged. The same nodes are reached in both, and the
-- trees have the same keys with the same values
pub record WordsAreOwn (plan : TablePlan) (s : TableState) (r : HasMachine plan s) : Type 0 where
  pub next : r.words.next ≡ (own_words s).next
  pub settled : (c : ℕ) → waits (r.stages c) ≡ false → SaysTheSame (own_words s) r.words c
  pub reached : (x : ℕ) → Reached r.words x ↔ Reached (own_words s) x
  pub nodes : (x : ℕ) → Reached (own_words s) x → SaysTheSame (own_words s) r.words (card x)
  pub flags : (x : ℕ) → Reached (own_words s) x → IsInternal x → (unpacked ((own_words s).update x)).state ≢ state.Clean
      → SaysTheSame (own_words s) r.words (unpacked ((own_words s).update x)).card
  pub known : (i c : ℕ) (v : View) → get_elem? s.views i ≡ some v → KnowsCard v c → SaysTheSame (own_words s) r.words c
  pub held : (i c : ℕ) (v : View) → get_elem? s.views i ≡ some v → HasFlagged v c → SaysTheSame (own_words s) r.words c
  pub tree : SamePairs (own_words s) r.words

-- so they are in every state that has a machine
abbrev pub MachineHasOwnWords : Type 0
MachineHasOwnWords =
    (plan : TablePlan) (s : TableState) (r : HasMachine plan s) → WordsAreOwn plan s r
