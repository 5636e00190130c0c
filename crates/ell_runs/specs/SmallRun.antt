use Rattle.std.specs.Prelude.{◌≡◌, ℕ, ◌++◌, true, false, None, List, [], ◌∷◌}
use mathlib.Core.Option.{some}
use lib.ListN.{get_elem?}
use Rattle.ell_ops.specs.declared.op.Op.TheVariants.{Find, Insert, Delete}
use Rattle.ell_ops.specs.declared.reply.Reply.TheVariants.{Yes}
use Rattle.ell_word.specs.declared.update.State.TheVariants as state
use Rattle.ell_core.specs.declared.exchange.Exchange.TheVariants as exchange
use Rattle.ell_layout.specs.declared.field.Field.TheVariants as field
use Rattle.ell_core.specs.declared.view.Entry.TheVariants.{Absent, Present}
use Rattle.ell_runs.specs.declared.call.Call.TheVariants as call
use Rattle.ell_runs.specs.declared.glance.Glance.{Glance}
use Rattle.ell_runs.specs.declared.glance.Stretch.{Stretch}
use Rattle.ell_runs.specs.declared.view.View.{View}
use Rattle.ell_runs.specs.Plans.{TablePlan}
use Rattle.ell_runs.specs.States.{TableState}
use Rattle.ell_runs.specs.Dead.{KnowsNeverComes}
use Rattle.ell_runs.specs.Starts.{Starts, IsReached}
use Rattle.ell_runs.specs.Machines.{HasMachine}
use Rattle.ell_runs.specs.Laws.{machine_of_table}
use Rattle.ell_grace.specs.Gone.{IsGone, HasOuts}
use Rattle.ell_runs.specs.Turns.{Turn, Makes, Splits, Joins, CallIsMade, TableRun}
use Rattle.ell_runs.specs.TurnEffects.{run_wins}
use Rattle.ell_word.specs.Link.{linked}
use Rattle.ell_word.specs.Node.{card}

-- a small table: keys 5 and 7, of which key 5 is there at its start, and three cards to give out beside those of the
-- start
abbrev pub small_plan : TablePlan
small_plan = record { keys = 5 ∷ 7 ∷ []; start = (5, 50) ∷ []; last_card = 4; shared = false; flat = false; slots = None }

-- the first pass is split: seat 0 has key 5 then, and seat 1 key 7
abbrev pub parting : List Turn
parting =
    Splits 0 (5 ∷ []) ∷ []

-- seat 0 begins to delete key 5: it searches, takes card 2, fills it, and flags the root
abbrev pub delete_flags : List Turn
delete_flags =
    Makes 0 (call.Begin (Delete 5)) ∷ Makes 0 (call.Upd 0) ∷ Makes 0 (call.KeyOf 0) ∷ Makes 0 (call.Down 0 false)
    ∷ Makes 0 (call.Upd 4) ∷
    Makes 0 (call.KeyOf 4) ∷ Makes 0 (call.Down 4 false) ∷ Makes 0 (call.KeyOf 5) ∷ Makes 0 call.Next ∷ Makes 0
    (call.Claim 2 (record { key = 0; flat = false })) ∷
    Makes 0 (call.Fill 2 field.Gp 0) ∷ Makes 0 (call.Fill 2 field.P 4) ∷ Makes 0 (call.Fill 2 field.L 5) ∷ Makes 0
    (call.Fill 2 field.Was 3) ∷
    Makes 0 (call.DFlag 2 0 (record { state = state.Clean; card = 0 })) ∷ []

-- seat 1 begins to insert key 7: it goes past the flag, and takes card 3
abbrev pub insert_claims : List Turn
insert_claims =
    Makes 1 (call.Begin (Insert 7 70)) ∷ Makes 1 (call.Upd 0) ∷ Makes 1 (call.KeyOf 0) ∷ Makes 1 (call.Down 0 false)
    ∷ Makes 1 (call.Upd 4) ∷
    Makes 1 (call.KeyOf 4) ∷ Makes 1 (call.Down 4 false) ∷ Makes 1 (call.KeyOf 5) ∷ Makes 1 (call.ValueOf 5)
    ∷ Makes 1 call.Next ∷
    Makes 1 (call.Claim 3 (record { key = 7; flat = false })) ∷ []

-- it fills card 3, and flags the node that seat 0 is about to mark
abbrev pub insert_flags : List Turn
insert_flags =
    Makes 1 (call.Fill 3 field.P 4) ∷ Makes 1 (call.Fill 3 field.L 5) ∷ Makes 1 (call.Fill 3 field.Key 7) ∷ Makes 1
    (call.Fill 3 field.Left 13) ∷
    Makes 1 (call.Fill 3 field.Right 14) ∷ Makes 1 (call.Fill 3 field.Update 3) ∷ Makes 1
    (call.Fill 3 field.LeftLeafKey 5) ∷
    Makes 1 (call.Fill 3 field.RightLeafKey 7) ∷ Makes 1 (call.Fill 3 field.LeftValue 50) ∷ Makes 1
    (call.Fill 3 field.RightValue 70) ∷
    Makes 1 (call.IFlag 3 4 (record { state = state.Clean; card = 0 })) ∷ []

-- seat 0 loses the mark, helps the insert to its end, and takes its own flag away
abbrev pub mark_is_lost : List Turn
mark_is_lost =
    Makes 0 (call.Mark 2 4 3) ∷ Makes 0 (call.Info 3 field.L) ∷ Makes 0 (call.Info 3 field.RightLeafKey) ∷ Makes 0
    (call.Info 3 field.LeftLeafKey) ∷ Makes 0 (call.IChild 3 4 (record { node = 5; tag = 0 }) false false) ∷
    Makes 0 (call.IUnflag 3 4) ∷ Makes 0 (call.Backtrack 2 0) ∷ []

-- seat 1 finds that its insert was made, and answers
abbrev pub insert_ends : List Turn
insert_ends =
    Makes 1 (call.IChild 3 4 (record { node = 5; tag = 0 }) false false) ∷ Makes 1 (call.IUnflag 3 4) ∷
    Makes 1 (call.Answer Yes None) ∷ []

-- seat 0 tries again: it searches, and takes card 4
abbrev pub delete_begins_anew : List Turn
delete_begins_anew =
    Makes 0 call.Again ∷ Makes 0 (call.Upd 0) ∷ Makes 0 (call.KeyOf 0) ∷ Makes 0 (call.Down 0 false) ∷ Makes 0
    (call.Upd 4) ∷ Makes 0 (call.KeyOf 4) ∷
    Makes 0 (call.Down 4 false) ∷ Makes 0 (call.Upd 12) ∷ Makes 0 (call.KeyOf 12) ∷ Makes 0 (call.Down 12 false)
    ∷ Makes 0 (call.KeyOf 13) ∷
    Makes 0 call.Next ∷ Makes 0 (call.Claim 4 (record { key = 0; flat = false })) ∷ []

-- it flags, marks, cuts the node out, and answers
abbrev pub delete_ends : List Turn
delete_ends =
    Makes 0 (call.Fill 4 field.Gp 4) ∷ Makes 0 (call.Fill 4 field.P 12)
    ∷ Makes 0 (call.Fill 4 field.L (linked (record { node = 13; tag = 1 }))) ∷ Makes 0 (call.Fill 4 field.Was 3) ∷
    Makes 0 (call.DFlag 4 4 (record { state = state.Clean; card = 3 })) ∷ Makes 0 (call.Mark 4 12 3) ∷ Makes 0
    (call.FrozenChild 4 12 true) ∷
    Makes 0 (call.KeyOf 14) ∷ Makes 0 (call.DChild 4 4 (record { node = 12; tag = 1 }) 14 false)
    ∷ Makes 0 (call.DUnflag 4 4) ∷ Makes 0 (call.Answer Yes None) ∷ []

-- key 7 alone, and node 4 come to by it
abbrev pub key_7 : Stretch
key_7 = record { low = 7; high = 8; whole = false }

abbrev pub at_node_4 : Glance
at_node_4 = record { node = 4; low = 7; high = 8; whole = false }

-- seat 1 looks for key 7, finds its value, and ends the look
abbrev pub look : List Turn
look =
    Makes 1 call.Look ∷ Makes 1 (call.KeyOf 4) ∷ Makes 1 (call.LookDown at_node_4 key_7 false)
    ∷ Makes 1 (call.KeyOf 14) ∷ Makes 1 (call.ValueOf 14) ∷ Makes 1 call.Rest ∷ []

-- it gives a find up, and both passes become one
abbrev pub ending : List Turn
ending =
    Makes 1 (call.Begin (Find 7)) ∷ Makes 1 call.Leave ∷ Joins 0 1 ∷ []

-- all that comes before the look
abbrev pub before_the_look : List Turn
before_the_look =
    parting ++ delete_flags ++ insert_claims ++ insert_flags ++ mark_is_lost ++ insert_ends ++ delete_begins_anew
    ++ delete_ends

-- a small run, in which each step call is made, and a split and a join
abbrev pub small_run : List Turn
small_run = before_the_look ++ look ++ ending

-- the small table has such a run: card 2 is that of the delete whose mark is lost, card 3 that of the insert, and card
-- 4 that of the delete that is made; in the end the one pass has key 7 present with its value, and key 5 not
pub record SmallRunIsMade : Type 0 where
  pub first : TableState
  pub starts : Starts small_plan first
  pub last : TableState
  pub run : TableRun small_plan first small_run last
  pub delete_lost :
      run_wins small_plan first small_run last run 2 ≡ exchange.DFlag ∷ exchange.Backtrack ∷ []
  pub insert_made :
      run_wins small_plan first small_run last run 3
      ≡ exchange.IFlag ∷ exchange.IChild ∷ exchange.IUnflag ∷ []
  pub delete_made :
      run_wins small_plan first small_run last run 4
      ≡ exchange.DFlag ∷ exchange.Mark ∷ exchange.DChild ∷ exchange.DUnflag ∷ []
  pub view : View
  pub there : get_elem? last.views 0 ≡ some view
  pub ledger : view.worker.ledger ≡ (5, Absent) ∷ (7, Present 70) ∷ []

-- seat 1's look in it begins when a node is gone: node 12, which the delete has cut out with the leaf of key 5
pub record LookBeginsWhenGone : Type 0 where
  pub state : TableState
  pub reached : IsReached small_plan state
  pub begun : TableState
  pub begins : CallIsMade small_plan state 1 call.Look begun
  pub gone : (r : HasMachine small_plan state) (has : HasOuts (machine_of_table small_plan state r))
      → IsGone r.words has.stages 12

-- and by then the pass in seat 0 knows that no node of the card of its delete, which is over, comes into the tree
pub record DeadIsKnown : Type 0 where
  pub state : TableState
  pub reached : IsReached small_plan state
  pub view : View
  pub there : get_elem? state.views 0 ≡ some view
  pub knows : (x : ℕ) → card x ≡ 4 → KnowsNeverComes view 4 x
