-- Memory refines its tree still, by names, after the turns of a flag by a pass that may take a card, in a table that has a machine, as each has to
-- which turns have led.
use Rattle.std.proofs.Common.{◌≡◌, ◌≢◌, ℕ, ◌+◌, ◌≤◌, Bool, Option, Some, None, List, []}
use mathlib.Core.Option.{some}
use lib.ListN.{get_elem?}
use Rattle.ell_word.specs.Node.{card}
use Rattle.ell_word.specs.Word.{packed}
use Rattle.ell_word.specs.declared.update.Update.{Update}
use Rattle.ell_layout.specs.declared.field.Field.{Field}
use Rattle.ell_layout.specs.declared.field.Field.TheVariants as field
use Rattle.ell_layout.specs.Cards.{iflag, dflag}
use Rattle.ell_layout.specs.Layout.{listed}
use Rattle.ell_layout.specs.Words.{put}
use Rattle.ell_runs.specs.declared.call.Call.{Call}
use Rattle.ell_runs.specs.declared.call.Call.TheVariants as call
use Rattle.ell_runs.specs.declared.call.NewNode.{NewNode}
use Rattle.ell_runs.specs.declared.view.View.{View}
use Rattle.ell_runs.specs.Calls.{May}
use Rattle.ell_runs.specs.Machines.{HasMachine}
use Rattle.ell_runs.specs.NamedTakings.{MayTakeCard, claimed_and_filled}
use Rattle.ell_runs.specs.Names.{name_of}
use Rattle.ell_runs.specs.Plans.{TablePlan, flat_from}
use Rattle.ell_runs.specs.Sayings.{put_says, delete_says}
use Rattle.ell_runs.specs.Starts.{IsReached}
use Rattle.ell_runs.specs.States.{TableState}
use Rattle.ell_runs.specs.Turns.{found_by, state_after}
use Rattle.ell_runs.specs.Views.{stored_at}
use Rattle.ell_runs.proofs.lemmas.named.NamedReach.{flag_reached}
use Rattle.ell_cards.specs.NamedRefinement.{Hand, LiesBy, RefinesBy}
use Rattle.ell_cards.specs.SlotWords.{slot_of}
use Rattle.ell_cards.proofs.lemmas.named.NamedFlags.{flag_keeps_refinement}
use Rattle.ell_cards.proofs.lemmas.named.NamedFlagTurns.{IsNewName, MemoryIsFlagged, MemoryStays, dflag_is_lost, dflag_is_won, iflag_is_lost, iflag_is_won}
use Rattle.ell_cards.proofs.lemmas.named.NamedLeads.{CallLeads, LeadsOn, call_leads, filled, leads_filled, there_filled}
use Rattle.ell_cards.proofs.lemmas.named.NamedLosses.{loss_keeps_refinement}

module _ (plan : TablePlan) (s : TableState) (r : HasMachine plan s) (id : ℕ) (v : View) (here : get_elem? s.views id ≡ some v) (node : NewNode) (may : MayTakeCard (flat_from plan) v node)
    (room : found_by s call.Next ≤ plan.last_card) (stores : List (Field × ℕ)) (given : ℕ → ℕ) (h : Hand) (names : IsNewName (found_by s call.Next) given h.name)
    (last : ℕ) (memory memory' : List ℕ) (hand : ℕ → Option Hand) (lie : ℕ → ℕ) (dead : ℕ → Bool) (pinned : ℕ → Type 0) (was_dead : ℕ → ℕ → Bool)
    (holds : hand id ≡ Some h) where
  -- the number of the next card, names before and after it has one, and what the pass knows before the flag
  abbrev count : ℕ
  count = found_by s call.Next

  abbrev name : ℕ → ℕ
  name = name_of count given

  abbrev name' : ℕ → ℕ
  name' = name_of (count + 1) (put given count h.name)

  abbrev w : View
  w = claimed_and_filled count node stores v

  abbrev m : TableState
  m = filled plan s r id v here node stores

  led : LeadsOn plan s r count m
  led = leads_filled plan s r id v here node may room stores

  there : get_elem? m.views id ≡ some w
  there = there_filled plan s r id v here node stores

  -- where turns had led to the table, they lead to the one after the flag
  pub flag_is_reached : IsReached plan s → (flag : Call) → May plan flag w → IsReached plan (state_after m id w flag)
  flag_is_reached reached flag may_flag =
      (flag_reached plan id s v (record { reached = reached; there = here }) node may room stores flag may_flag).reached

  module _ (refines : RefinesBy last name s.words memory hand r.stages lie dead pinned was_dead) where
    -- an insert or a swap
    module _ (p : ℕ) (from : Update) (may_flag : May plan (call.IFlag count p from) w) where
      abbrev flagged : TableState
      flagged = state_after m id w (call.IFlag count p from)

      turn : CallLeads plan m led.kept id w (call.IFlag count p from)
      turn = call_leads plan m led.kept id w there (call.IFlag count p from) may_flag

      pub iflag_won_refines : LiesBy last name lie (card p) → listed s.words (card p) field.Update ≡ packed from
          → MemoryIsFlagged last name' memory memory' (slot_of (name (card p))) (iflag count) h put_says (stored_at stores)
          → (k : HasMachine plan flagged) × RefinesBy last name' flagged.words memory' (put hand id None) k.stages (put lie (slot_of h.name) count) dead pinned was_dead
      iflag_won_refines lies found does = (
        turn.new,
        flag_keeps_refinement last name name' s.words flagged.words memory memory' hand r.stages turn.new.stages lie dead pinned was_dead refines id count (card p) (iflag count) h holds
            (stored_at stores) (iflag_is_won plan s r id v here node stores led given h names last memory memory' p from may_flag turn lie lies found does),
      )

      pub iflag_lost_refines : (anew : ℕ) → slot_of anew ≡ slot_of h.name → listed s.words (card p) field.Update ≢ packed from → MemoryStays last memory memory'
          → (k : HasMachine plan flagged) × RefinesBy last name' flagged.words memory' (put hand id (Some (record { name = anew; stores = [] }))) k.stages lie dead pinned was_dead
      iflag_lost_refines anew slot other does = (
        turn.new,
        loss_keeps_refinement last name name' s.words flagged.words memory memory' hand r.stages turn.new.stages lie dead pinned was_dead refines id anew h holds
            (iflag_is_lost plan s r id v here node stores led given h names last memory memory' p from may_flag turn anew slot other does),
      )

    -- a delete
    module _ (gp : ℕ) (from : Update) (may_flag : May plan (call.DFlag count gp from) w) where
      abbrev cuts : TableState
      cuts = state_after m id w (call.DFlag count gp from)

      goes : CallLeads plan m led.kept id w (call.DFlag count gp from)
      goes = call_leads plan m led.kept id w there (call.DFlag count gp from) may_flag

      pub dflag_won_refines : LiesBy last name lie (card gp) → listed s.words (card gp) field.Update ≡ packed from
          → MemoryIsFlagged last name' memory memory' (slot_of (name (card gp))) (dflag count) h delete_says (stored_at stores)
          → (k : HasMachine plan cuts) × RefinesBy last name' cuts.words memory' (put hand id None) k.stages (put lie (slot_of h.name) count) dead pinned was_dead
      dflag_won_refines lies found does = (
        goes.new,
        flag_keeps_refinement last name name' s.words cuts.words memory memory' hand r.stages goes.new.stages lie dead pinned was_dead refines id count (card gp) (dflag count) h holds
            (stored_at stores) (dflag_is_won plan s r id v here node stores led given h names last memory memory' gp from may_flag goes lie lies found does),
      )

      pub dflag_lost_refines : (anew : ℕ) → slot_of anew ≡ slot_of h.name → listed s.words (card gp) field.Update ≢ packed from → MemoryStays last memory memory'
          → (k : HasMachine plan cuts) × RefinesBy last name' cuts.words memory' (put hand id (Some (record { name = anew; stores = [] }))) k.stages lie dead pinned was_dead
      dflag_lost_refines anew slot other does = (
        goes.new,
        loss_keeps_refinement last name name' s.words cuts.words memory memory' hand r.stages goes.new.stages lie dead pinned was_dead refines id anew h holds
            (dflag_is_lost plan s r id v here node stores led given h names last memory memory' gp from may_flag goes anew slot other does),
      )
