-- No slot stays in use for nothing where a pass makes a step call.
use Rattle.std.proofs.Common.{◌≡◌, ◌≢◌, ℕ, ◌+◌, ◌*◌, ◌%◌, ◌<◌, ◌≤◌, ◌==◌, if◌then◌else◌, Bool, true, false, Option, Some, None, List, [], ◌∷◌, ◌++◌, length, get_or, set, inl, inr, ◌⊎◌, refl, sym, ap, ◌∙◌, subst, arith, length-append}
use Rattle.ell_core.proofs.lemmas.stages.Below.{keeps_later}
use Rattle.std.proofs.lemmas.Bool.{cases_eq, false≢true}
use Rattle.std.proofs.lemmas.Option.{same_Some}
use mathlib.Core.Option.{some, none, some-injective}
use mathlib.Core.Option.{Option as Maybe}
use lib.ListN.{get_elem?}
use Rattle.atomic_table.proofs.Lists.{set_else}
use Rattle.ell_word.specs.Node.{card}
use Rattle.ell_word.specs.Word.{packed, unpacked}
use Rattle.ell_word.specs.declared.update.Update.{Update}
use Rattle.ell_layout.specs.Words.{Words}
use Rattle.ell_core.specs.declared.exchange.Exchange.{Exchange}
use Rattle.ell_core.specs.declared.exchange.Exchange.TheVariants as exchange
use Rattle.ell_core.specs.declared.fact.Fact.TheVariants as fact
use Rattle.ell_core.specs.history.Stages.{Stage, Stages, is_start, is_claimed, waits, insert_won, delete_won, insert_open, delete_open, delete_over, is_backed, is_changed, is_cut, is_insert}
use Rattle.ell_core.specs.history.Later.{WordsLater, StagesLater, wins_of}
use Rattle.ell_core.specs.soundness.Sound.{IsInHand}
use Rattle.ell_core.specs.state.Machine.{Worker}
use Rattle.ell_core.specs.statements.Since.{has_ended}
use Rattle.ell_core.proofs.lemmas.outcomes.Decide.{some_not_none}
use Rattle.ell_core.proofs.lemmas.stages.Ended.{ended_cases, insert_over-ended, delete_over-ended, backed-ended}
use Rattle.ell_core.proofs.lemmas.stages.Order.{changed-insert, cut-delete, one_kind, over-delete, backed-delete, insert_over-changed}
use Rattle.ell_runs.specs.declared.call.Call.{Call}
use Rattle.ell_runs.specs.declared.call.Call.TheVariants as call
use Rattle.ell_ops.specs.declared.op.Op.{Op}
use Rattle.ell_ops.specs.declared.op.Op.TheVariants.{Find, Insert, Delete, Swap}
use Rattle.ell_core.specs.declared.fact.Fact.{Fact}
use Rattle.ell_core.proofs.lemmas.keeping.claim.Taking.{hand_discarded}
use Rattle.ell_grace.specs.Dead.{HasUses}
use Rattle.ell_grace.proofs.lemmas.outs.Taken.{taken_born}
use Rattle.ell_cards.specs.declared.view.Known.{Known}
use Rattle.ell_cards.specs.declared.view.Participant.{Participant}
use Rattle.ell_cards.specs.declared.view.Retired.{Retired}
use Rattle.ell_runs.specs.declared.view.Sight.{Sight}
use Rattle.ell_runs.specs.declared.view.Slots.{Slots}
use Rattle.ell_runs.specs.declared.view.View.{View}
use Rattle.ell_cards.specs.Ages.{IsOut, IsRetiredThere, RetiredStaysRetired}
use Rattle.ell_runs.specs.Calls.{May, after, atomic_of, is_won}
use Rattle.ell_runs.specs.Changes.{after_flag, after_mark, unmarking, with_fact, is_mark_of}
use Rattle.ell_runs.specs.Holding.{HasFlagged, HoldsWaiting}
use Rattle.ell_runs.specs.Laws.{machine_of_table}
use Rattle.ell_cards.specs.Leaks.{Holds, IsHeld, IsInFlaggedHand, Kills, NothingLeaks}
use Rattle.ell_cards.specs.Leaks.Holds.{waiting, lost}
use Rattle.ell_cards.specs.LettingGo.{IsRetired, MayLetGo}
use Rattle.ell_cards.specs.LettingGo.IsRetired.{put, cut, backed}
use Rattle.ell_cards.specs.Epochs.{WholeState, slot_word}
use Rattle.ell_cards.specs.SlotWords.{has_slot_in, is_retired, slot_of}
use Rattle.ell_runs.specs.Machines.{HasMachine}
use Rattle.ell_runs.specs.Plans.{TablePlan, flat_from}
use Rattle.ell_runs.specs.Views.{IsFree}
use Rattle.ell_runs.specs.States.{TableState, seat_worker}
use Rattle.ell_cards.specs.Refinement.{HasWon, FlagsCard, MayInMemory}
use Rattle.ell_runs.specs.TurnEffects.{turn_wins, win_of}
use Rattle.ell_runs.specs.Turns.{Makes, found_by, view_after, state_after}
use Rattle.ell_runs.proofs.lemmas.seats.Seats.{mine_sound, set_there}
use Rattle.ell_cards.proofs.lemmas.whole.Ages.{retired_as}
use Rattle.ell_cards.proofs.lemmas.whole.Duties.{all_retired}
use Rattle.ell_cards.proofs.lemmas.refinement.Winning.{IsWonStage, born_won, ended_long, start_won, insert_is_won, delete_is_won}

-- a card that has won its flag is of the opening tree, or an insert's, or a delete's
won_kind : (s : Stage) → IsWonStage s → (is_start s ≡ true) ⊎ ((insert_won s ≡ true) ⊎ (delete_won s ≡ true))
won_kind s (claimed, settled) = grind arith

-- it has still won it later
pub won_later : (old new : Stages) → StagesLater old new → (d : ℕ) → HasWon old d → HasWon new d
won_later old new later d won = elim (won_kind (old d) won) [
  | inl start ↦ start_won (new d) (later.start d ∙ start)
  | inr kind ↦ elim kind [
    | inl puts ↦ insert_is_won (new d) (later.told (fact.IFlagged d) d puts)
    | inr cuts ↦ delete_is_won (new d) (later.told (fact.DFlagged d) d cuts)
  ]
]

ended_claimed : (s : Stage) → has_ended s ≡ true → is_claimed s ≡ true
ended_claimed s h = grind arith

not_both : (s : Stage) → is_cut s ≡ true → is_backed s ≡ true → ⊥
not_both s h b = grind arith

over_cut : (s : Stage) → delete_over s ≡ true → is_cut s ≡ true
over_cut s h = grind arith

changed_open : (s : Stage) → is_changed s ≡ true → has_ended s ≡ false → insert_open s ≡ true
changed_open s h b = grind arith

cut_open : (s : Stage) → is_cut s ≡ true → has_ended s ≡ false → delete_open s ≡ true
cut_open s h b = grind arith

-- what a card that had ended has made dead later it had made dead
module _ (w w' : Words) (old new : Stages) (words : WordsLater w w') (later : StagesLater old new) (c : ℕ) (claimed : (d : ℕ) → is_claimed (old d) ≡ true → d < w.next)
    (lower : is_insert (old c) ≡ true → card (w.l c) < w.next) (ended : has_ended (old c) ≡ true) where
  below : c < w.next
  below = claimed c (ended_claimed (old c) ended)

  changed_before : is_changed (new c) ≡ true → is_changed (old c) ≡ true
  changed_before changed = elim (ended_cases (old c) ended) [
    | inl over ↦ insert_over-changed (old c) over
    | inr cuts ↦ elim cuts [
      | inl over ↦ absurd (one_kind (new c) (changed-insert (new c) changed) (later.delete c (over-delete (old c) over)))
      | inr backs ↦ absurd (one_kind (new c) (changed-insert (new c) changed) (later.delete c (backed-delete (old c) backs)))
    ]
  ]

  cut_before : is_cut (new c) ≡ true → is_cut (old c) ≡ true
  cut_before cuts = elim (ended_cases (old c) ended) [
    | inl over ↦ absurd (one_kind (new c) (later.insert c (changed-insert (old c) (insert_over-changed (old c) over))) (cut-delete (new c) cuts))
    | inr more ↦ elim more [
      | inl over ↦ over_cut (old c) over
      | inr backs ↦ absurd (not_both (new c) cuts (later.told (fact.Backed c) c backs))
    ]
  ]

  pub killed_before : (x : ℕ) → Kills w' new c x → Kills w old c x
  killed_before x (inl (inl (changed, goes, is))) =
      inl (inl (changed_before changed, sym (keeps_later w w' words c below) ∙ goes, sym (words.info c below).l ∙ is))
  killed_before x (inl (inr (cuts, inl is))) = inl (inr (cut_before cuts, inl (sym (words.info c below).p ∙ is)))
  killed_before x (inl (inr (cuts, inr is))) = inl (inr (cut_before cuts, inr (sym (words.info c below).l ∙ is)))
  killed_before x (inr (on, (over, inl unborn))) = inr (on, (subst (λ d. has_ended (old d) ≡ true) (sym on) ended, inl (λ born. unborn (later.born x born))))
  killed_before x (inr (on, (over, inr (changed, keeps, outer, key)))) =
      let was = changed_before (subst (λ d. is_changed (new d) ≡ true) on changed) in
      let same = (words.info c below).l in
      let at : card x < w.next = subst (λ d. d < w.next) (sym on) below in
      let goes : w'.l (card x) ≡ w.l (card x) = ap w'.l on ∙ (same ∙ ap w.l (sym on)) in
      let low : card (w.l (card x)) < w.next = subst (λ d. card (w.l d) < w.next) (sym on) (lower (changed-insert (old c) was)) in
      inr (
        on,
        (
          subst (λ d. has_ended (old d) ≡ true) (sym on) ended,
          inr (
            subst (λ d. is_changed (old d) ≡ true) (sym on) was,
            sym (keeps_later w w' words (card x) at) ∙ keeps,
            outer,
            sym (words.key x at) ∙ (key ∙ (ap w'.key goes ∙ words.key (w.l (card x)) low)),
          ),
        ),
      )

-- a card that is in the hand of a worker is in that of a pass
hand_seat : (views : List View) (i c : ℕ) → (seat_worker (get_elem? views i)).card ≡ Some c → (seat_worker (get_elem? views i)).flagged ≡ true → IsInFlaggedHand views c
hand_seat views i c holds flagged = by (get_elem? views i) refl holds flagged
  where
    by : (o : Maybe View) → get_elem? views i ≡ o → (seat_worker o).card ≡ Some c → (seat_worker o).flagged ≡ true → IsInFlaggedHand views c
    by none e holds flagged = absurd (some_not_none holds refl)
    by (some v) e holds flagged = record { seat = i; view = v; there = e; has = record { holds = holds; flagged = flagged } }

pub in_hand : (plan : TablePlan) (s : TableState) (m : HasMachine plan s) (c : ℕ) → IsInHand (machine_of_table plan s m) c → IsInFlaggedHand s.views c
in_hand plan s m c h = hand_seat s.views h.worker c h.holds h.flagged

-- a card that has made something dead, and has not ended, is in some hand
pub killer_in_hand : (plan : TablePlan) (s : TableState) (m : HasMachine plan s) (c x : ℕ) → has_ended (m.stages c) ≡ false → Kills m.words m.stages c x → IsInFlaggedHand s.views c
killer_in_hand plan s m c x un (inl (inl (changed, outer, is))) = in_hand plan s m c (m.invariant.workers.insert_in_hand c (changed_open (m.stages c) changed un))
killer_in_hand plan s m c x un (inl (inr (cuts, is))) = in_hand plan s m c (m.invariant.workers.delete_in_hand c (cut_open (m.stages c) cuts un))
killer_in_hand plan s m c x un (inr (on, (ended, why))) = absurd (false≢true (sym un ∙ subst (λ d. has_ended (m.stages d) ≡ true) on ended))

-- a call by which a pass lets its card in hand go
abbrev pub LetsCardGo : Call → Type 0
LetsCardGo call.Again = Unit {0}
LetsCardGo call.Leave = Unit {0}
LetsCardGo (call.Answer said took) = Unit {0}
LetsCardGo _ = ⊥

mark_keeps : (b : Bool) (d x : ℕ) (u : Update) (v w : View) → w.worker ≡ (after_mark b d x u v).worker → (c : ℕ) → HasFlagged v c → HasFlagged w c
mark_keeps true d x u v w same c h = record { holds = ap (λ k. k.card) same ∙ h.holds; flagged = ap (λ k. k.flagged) same ∙ h.flagged }
mark_keeps false d x u v w same c h = by (is_mark_of d u.state u.card) same
  where
    by : (b : Bool) → w.worker ≡ (if b then with_fact (fact.Marked d) v else unmarking d x u v).worker → HasFlagged w c
    by true same = record { holds = ap (λ k. k.card) same ∙ h.holds; flagged = ap (λ k. k.flagged) same ∙ h.flagged }
    by false same = record { holds = ap (λ k. k.card) same ∙ h.holds; flagged = ap (λ k. k.flagged) same ∙ h.flagged }

mark_waits : (b : Bool) (d x : ℕ) (u : Update) (v w : View) → w.worker ≡ (after_mark b d x u v).worker → (c : ℕ) → HoldsWaiting v c → HoldsWaiting w c
mark_waits true d x u v w same c h = (ap (λ k. k.card) same ∙ h.0, ap (λ k. k.flagged) same ∙ h.1)
mark_waits false d x u v w same c h = by (is_mark_of d u.state u.card) same
  where
    by : (b : Bool) → w.worker ≡ (if b then with_fact (fact.Marked d) v else unmarking d x u v).worker → HoldsWaiting w c
    by true same = (ap (λ k. k.card) same ∙ h.0, ap (λ k. k.flagged) same ∙ h.1)
    by false same = (ap (λ k. k.card) same ∙ h.0, ap (λ k. k.flagged) same ∙ h.1)

ended_won : (s : Stage) → has_ended s ≡ true → IsWonStage s
ended_won s h = (grind arith, grind arith)

module _ (plan : TablePlan) (s : TableState) (m : HasMachine plan s) (seat : ℕ) (v : View) (there : get_elem? s.views seat ≡ some v) where
  -- a pass with nothing in hand has no card
  pub free_no_card : (c : ℕ) → IsFree v → v.worker.card ≡ Some c → ⊥
  free_no_card c free has = some_not_none has (ap (λ (u : Worker). u.card) ((mine_sound plan s m seat v there).free free))

  -- a card in hand that is flagged has won its flag
  pub flagged_won : (c : ℕ) → HasFlagged v c → HasWon m.stages c
  flagged_won c h = by v.worker.operation refl
    where
      by : (o : Option Op) → v.worker.operation ≡ o → HasWon m.stages c
      by None free = absurd (free_no_card c free h.holds)
      by (Some (Find key)) busy = absurd ((mine_sound plan s m seat v there).flagged (Find key) c busy h.holds h.flagged).0
      by (Some (Insert key value)) busy = insert_is_won (m.stages c) ((mine_sound plan s m seat v there).flagged (Insert key value) c busy h.holds h.flagged).0.0
      by (Some (Delete key)) busy = delete_is_won (m.stages c) ((mine_sound plan s m seat v there).flagged (Delete key) c busy h.holds h.flagged).0.0
      by (Some (Swap key old value)) busy = insert_is_won (m.stages c) ((mine_sound plan s m seat v there).flagged (Swap key old value) c busy h.holds h.flagged).0.0

  -- it stays in hand, unless the call lets it go
  pub keeps_flagged : (c : Call) (n : ℕ) → May plan c v → (d : ℕ) → HasFlagged v d → HasFlagged (after c n v) d ⊎ LetsCardGo c
  keeps_flagged (call.Begin op) n may d h = absurd (free_no_card d may.0 h.holds)
  keeps_flagged call.Look n may d h = absurd (free_no_card d may h.holds)
  keeps_flagged call.Rest n may d h = absurd (free_no_card d may h.holds)
  keeps_flagged call.Again n may d h = inr tt
  keeps_flagged call.Leave n may d h = inr tt
  keeps_flagged (call.Answer said took) n may d h = inr tt
  keeps_flagged (call.Claim e q) n may d h = absurd (false≢true (sym (hand_discarded (flat_from plan) v.worker d may.0.ready h.holds).1 ∙ h.flagged))
  keeps_flagged (call.IFlag e p from) n may d h = absurd (false≢true (sym may.may.unflagged ∙ h.flagged))
  keeps_flagged (call.DFlag e gp from) n may d h = absurd (false≢true (sym may.may.unflagged ∙ h.flagged))
  keeps_flagged (call.Mark e p was) n may d h = inl (mark_keeps (n == was) e p (unpacked n) v (after (call.Mark e p was) n v) refl d h)
  keeps_flagged _ n may d h = inl (record { holds = h.holds; flagged = h.flagged })

  -- a card that waits stays in hand, unless the call sets its flag; for one for which the pass took a slot
  waiting_goes : (sl : Slots) (slot : Option ℕ) (r : Retired) (c : Call) (n : ℕ) → May plan c v → MayInMemory sl slot r v c → (d : ℕ) → HoldsWaiting v d → slot ≡ Some d
      → HoldsWaiting (after c n v) d ⊎ FlagsCard c d
  waiting_goes sl slot r (call.Begin op) n may mem d h at = absurd (free_no_card d may.0 h.0)
  waiting_goes sl slot r call.Look n may mem d h at = absurd (free_no_card d may h.0)
  waiting_goes sl slot r call.Rest n may mem d h at = absurd (free_no_card d may h.0)
  waiting_goes sl slot r call.Again n may mem d h at = absurd (mem.waiting d h at)
  waiting_goes sl slot r call.Leave n may mem d h at = absurd (mem.waiting d h at)
  waiting_goes sl slot r (call.Answer said took) n may mem d h at = absurd (mem.waiting d h at)
  waiting_goes sl slot r (call.Claim e q) n may mem d h at = absurd (mem d h at)
  waiting_goes sl slot r (call.IFlag e p from) n may mem d h at = inr (same_Some d e (sym h.0 ∙ may.may.holds))
  waiting_goes sl slot r (call.DFlag e gp from) n may mem d h at = inr (same_Some d e (sym h.0 ∙ may.may.holds))
  waiting_goes sl slot r (call.Mark e p was) n may mem d h at = inl (mark_waits (n == was) e p (unpacked n) v (after (call.Mark e p was) n v) refl d h)
  waiting_goes sl slot r _ n may mem d h at = inl h

-- a flag that was won is that of the card in hand
flag_there : (b : Bool) → b ≡ true → (new : Fact) (x : ℕ) (u : Update) (v w : View) → w.worker ≡ (after_flag b new x u v).worker → (d : ℕ) → v.worker.card ≡ Some d → HasFlagged w d
flag_there true won new x u v w same d hand = record { holds = ap (λ k. k.card) same ∙ hand; flagged = ap (λ k. k.flagged) same }
flag_there false won new x u v w same d hand = absurd (false≢true won)

pub flag_won : (c : Call) (n : ℕ) (v : View) (d : ℕ) → FlagsCard c d → v.worker.card ≡ Some d → is_won (atomic_of c) n ≡ true → HasFlagged (after c n v) d
flag_won (call.IFlag e p from) n v d flags hand won = flag_there (n == packed from) won (fact.IFlagged e) p (unpacked n) v (after (call.IFlag e p from) n v) refl d hand
flag_won (call.DFlag e gp from) n v d flags hand won = flag_there (n == packed from) won (fact.DFlagged e) gp (unpacked n) v (after (call.DFlag e gp from) n v) refl d hand
flag_won _ n v d flags hand won = absurd flags

-- and after one that was lost the pass has no card in hand
hand_lost : (b : Bool) → b ≡ false → (new : Fact) (x : ℕ) (u : Update) (v w : View) → w.worker ≡ (after_flag b new x u v).worker → w.worker.card ≡ None
hand_lost true unwon new x u v w same = absurd (false≢true (sym unwon))
hand_lost false unwon new x u v w same = ap (λ k. k.card) same

pub flag_lost : (c : Call) (n : ℕ) (v : View) (d : ℕ) → FlagsCard c d → is_won (atomic_of c) n ≡ false → (after c n v).worker.card ≡ None
flag_lost (call.IFlag e p from) n v d flags unwon = hand_lost (n == packed from) unwon (fact.IFlagged e) p (unpacked n) v (after (call.IFlag e p from) n v) refl
flag_lost (call.DFlag e gp from) n v d flags unwon = hand_lost (n == packed from) unwon (fact.DFlagged e) gp (unpacked n) v (after (call.DFlag e gp from) n v) refl
flag_lost _ n v d flags unwon = absurd flags

-- what a call wins for a card is one exchange at most
one_at_most : (b : Bool) (k : Exchange) → length (if b then k ∷ [] else []) ≤ 1
one_at_most true k = omega arith
one_at_most false k = omega arith

few_wins : (c : Call) (d : ℕ) → length (win_of c d) ≤ 1
few_wins (call.IFlag c p from) d = one_at_most (d == c) exchange.IFlag
few_wins (call.IChild c p l replaces right) d = one_at_most (d == c) exchange.IChild
few_wins (call.IUnflag c p) d = one_at_most (d == c) exchange.IUnflag
few_wins (call.DFlag c gp from) d = one_at_most (d == c) exchange.DFlag
few_wins (call.Mark c p was) d = one_at_most (d == c) exchange.Mark
few_wins (call.DChild c gp p y right) d = one_at_most (d == c) exchange.DChild
few_wins (call.DUnflag c gp) d = one_at_most (d == c) exchange.DUnflag
few_wins (call.Backtrack c gp) d = one_at_most (d == c) exchange.Backtrack
few_wins _ d = omega arith

few_turn_wins : (s : TableState) (id : ℕ) (c : Call) (d : ℕ) → length (turn_wins s (Makes id c) d) ≤ 1
few_turn_wins s id c d = by (is_won (atomic_of c) (found_by s c))
  where
    by : (b : Bool) → length (if b then win_of c d else []) ≤ 1
    by true = few_wins c d
    by false = omega arith

-- a card that has ended by that had its flag before
open_by : (s : Stage) → has_ended s ≡ false → 1 ≤ length (wins_of s) → (insert_open s ≡ true) ⊎ (delete_open s ≡ true)
open_by s un long = grind arith

was_open : (old new : Stage) (won : List Exchange) → wins_of new ≡ wins_of old ++ won → length won ≤ 1 → has_ended new ≡ true → has_ended old ≡ false → (insert_open old ≡ true) ⊎ (delete_open old ≡ true)
was_open old new won is few ended un =
    let long = ended_long new ended in
    let sum = ap length is ∙ length-append (wins_of old) won in
    open_by old un (omega arith)

-- a pass knows that the card that it lets go has ended
retired_ended : (plan : TablePlan) (s : TableState) (m : HasMachine plan s) (seat : ℕ) (v : View) → get_elem? s.views seat ≡ some v → (sl : Slots) (r : Retired) (c : ℕ) → IsRetired sl v r c → has_ended (m.stages c) ≡ true
retired_ended plan s m seat v there sl r c (put knows p) = insert_over-ended (m.stages c) ((mine_sound plan s m seat v there).facts (fact.IOver c) knows)
retired_ended plan s m seat v there sl r c (cut knows h own) = delete_over-ended (m.stages c) ((mine_sound plan s m seat v there).facts (fact.DOver c) knows)
retired_ended plan s m seat v there sl r c (backed knows own) = backed-ended (m.stages c) ((mine_sound plan s m seat v there).facts (fact.Backed c) knows)

lets_go : (sl : Slots) (slot : Option ℕ) (r : Retired) (v : View) (c : Call) → LetsCardGo c → MayInMemory sl slot r v c → MayLetGo sl slot r v
lets_go sl slot r v call.Again go mem = mem
lets_go sl slot r v call.Leave go mem = mem
lets_go sl slot r v (call.Answer said took) go mem = mem
lets_go sl slot r v _ go mem = absurd go

module _ (plan : TablePlan) (flat : plan.flat ≡ true) (sl : Slots) (tree : TableState) (t : WholeState) (id : ℕ) (k : Known) (here : get_elem? t.views id ≡ some k) (there : get_elem? tree.views id ≡ some k.tree)
    (c : Call) (may : May plan c k.tree) (mem : MayInMemory sl k.participant.slot k.participant.retired k.tree c) (unlost : k.participant.lost ≡ None)
    (m : HasMachine plan tree) (uses : HasUses (machine_of_table plan tree m)) (m' : HasMachine plan (state_after tree id k.tree c)) (words : WordsLater m.words m'.words) (later : StagesLater m.stages m'.stages)
    (wins : (d : ℕ) → wins_of (m'.stages d) ≡ wins_of (m.stages d) ++ turn_wins tree (Makes id c) d) (lie : ℕ → ℕ) (was : NothingLeaks sl t tree.views m.words m.stages lie)
    (retired : RetiredStaysRetired plan sl tree t m uses lie) (fits : (d : ℕ) → HasWon m.stages d → has_slot_in sl.last d ≡ true) (own : (slot : ℕ) → slot ≤ sl.last → slot_of (lie slot) ≡ slot) where
  abbrev after_it : TableState
  after_it = state_after tree id k.tree c

  abbrev v' : View
  v' = view_after tree k.tree c

  there' : get_elem? after_it.views id ≡ some v'
  there' = set_there tree.views id v' k.tree there

  claimed : (d : ℕ) → is_claimed (m.stages d) ≡ true → d < m.words.next
  claimed d is = (m.invariant.words.cards d).claimed.0 is

  lower : (d : ℕ) → is_insert (m.stages d) ≡ true → card (m.words.l d) < m.words.next
  lower d kind = claimed (card (m.words.l d)) (born_won (m.stages (card (m.words.l d))) (m.words.l d % 4) ((m.invariant.words.cards d).insert kind).lower).0

  -- a card in a flagged hand is there after the call, unless the pass lets it go
  hand_on : (d : ℕ) → (h : IsInFlaggedHand tree.views d) → IsInFlaggedHand after_it.views d ⊎ (LetsCardGo c × HasFlagged k.tree d)
  hand_on d h = elim (cases_eq h.seat id) [
    | inl e ↦
        let same : k.tree ≡ h.view = some-injective k.tree h.view (sym there ∙ (ap (get_elem? tree.views) (sym e) ∙ h.there)) in
        let mine = subst (λ (x : View). HasFlagged x d) (sym same) h.has in
        elim (keeps_flagged plan tree m id k.tree there c (found_by tree c) may d mine) [
          | inl stays ↦ inl (record { seat = id; view = v'; there = there'; has = stays })
          | inr go ↦ inr (go, mine)
        ]
    | inr apart ↦ inl (record { seat = h.seat; view = h.view; there = set_else tree.views id h.seat v' apart ∙ h.there; has = h.has })
  ]

  -- what the card that a pass lets go made dead is retired
  let_go_retired : (d : ℕ) → LetsCardGo c → HasFlagged k.tree d → (slot i : ℕ) → slot ≤ sl.last → get_or t.words (slot_word sl slot) 0 % 8 ≢ 0 → i < 3
      → is_retired (get_or t.words (slot_word sl slot) 0) i ≡ false → Kills m.words m.stages d (4 * lie slot + i) → ⊥
  let_go_retired d go hand slot i low used few is kills =
      let may_go = lets_go sl k.participant.slot k.participant.retired k.tree c go mem in
      let at = may_go.taken d hand in
      let are = retired id d k here at hand.holds in
      let won = flagged_won plan tree m id k.tree there d hand in
      let card_is : card (4 * lie slot + i) ≡ lie slot = omega (arith, few) in
      let place : (4 * lie slot + i) % 4 ≡ i = omega (arith, few) in
      let lies_won : HasWon m.stages (lie slot) = killed_won d slot i few kills in
      let done = all_retired plan tree id k.tree there m sl k.participant.retired d hand (λ x. IsOut plan tree m uses x × IsRetiredThere sl t.words lie x) are (fits d won) flat
      (may_go.retired d hand) (4 * lie slot + i) (subst (λ j. j < 3) (sym place) few) (subst (λ e. has_slot_in sl.last e ≡ true) (sym card_is) (fits (lie slot) lies_won)) kills in
      let retired_out = retired_as plan sl t.words lie (lie slot) i few done.1 in
      let same = own slot low in
      false≢true (sym is ∙ subst (λ x. is_retired (get_or t.words (slot_word sl x) 0) i ≡ true) same
      (retired_out (subst (λ x. x ≤ sl.last) (sym same) low) (ap lie same) (λ full. used (ap (λ x. get_or t.words (slot_word sl x) 0 % 8) (sym same) ∙ full))))
    where
      killed_won : (d slot i : ℕ) → i < 3 → Kills m.words m.stages d (4 * lie slot + i) → HasWon m.stages (lie slot)
      killed_won d slot i few (inl takes) =
          subst (HasWon m.stages) (omega (arith, few)) (born_won (m.stages (card (4 * lie slot + i))) ((4 * lie slot + i) % 4) (taken_born m.words m.stages m.invariant.words d (4 * lie slot + i) takes))
      killed_won d slot i few (inr (on, never)) = subst (HasWon m.stages) (omega (arith, few)) (ended_won (m.stages (card (4 * lie slot + i))) never.0)

  pub leaks_after_call : (W : List ℕ) (homes : List (Maybe (Unit {0}))) → ((slot : ℕ) → slot ≤ sl.last → get_or W (slot_word sl slot) 0 ≡ get_or t.words (slot_word sl slot) 0)
      → (p : Participant) (g : Sight) → p.slot ≡ k.participant.slot → ((d : ℕ) → FlagsCard c d → is_won (atomic_of c) (found_by tree c) ≡ false → p.lost ≡ Some d)
      → NothingLeaks sl (record { words = W; homes = homes; views = set t.views id (record { tree = v'; participant = p; sight = g }) }) after_it.views m'.words m'.stages lie
  leaks_after_call W homes same p g slotted lost_it = record { used = used; bits = bits; owed = owed }
    where
      now : Known
      now = record { tree = v'; participant = p; sight = g }

      used_before : (slot : ℕ) → slot ≤ sl.last → get_or W (slot_word sl slot) 0 % 8 ≢ 0 → get_or t.words (slot_word sl slot) 0 % 8 ≢ 0
      used_before slot low used full = used (ap (λ n. n % 8) (same slot low) ∙ full)

      flagged : (d : ℕ) → FlagsCard c d → HoldsWaiting k.tree d → (b : Bool) → is_won (atomic_of c) (found_by tree c) ≡ b → HasWon m'.stages d ⊎ IsHeld (set t.views id now) d
      flagged d flags waits true won = inl (flagged_won plan after_it m' id v' there' d (flag_won c (found_by tree c) k.tree d flags waits.0 won))
      flagged d flags waits false unwon = inr (record { seat = id; knows = now; there = set_there t.views id now k here; holds = lost (lost_it d flags unwon) })

      held : (d : ℕ) → Holds k d → HasWon m'.stages d ⊎ IsHeld (set t.views id now) d
      held d (lost at) = absurd (some_not_none at unlost)
      held d (waiting at waits) = elim (waiting_goes plan tree m id k.tree there sl k.participant.slot k.participant.retired c (found_by tree c) may mem d waits at) [
        | inl still ↦ inr (record { seat = id; knows = now; there = set_there t.views id now k here; holds = waiting (slotted ∙ at) still })
        | inr flags ↦ flagged d flags waits (is_won (atomic_of c) (found_by tree c)) refl
      ]

      used : (slot : ℕ) → slot ≤ sl.last → get_or W (slot_word sl slot) 0 % 8 ≢ 0 → HasWon m'.stages (lie slot) ⊎ IsHeld (set t.views id now) (lie slot)
      used slot low live = elim (was.used slot low (used_before slot low live)) [
        | inl won ↦ inl (won_later m.stages m'.stages later (lie slot) won)
        | inr h ↦ elim (cases_eq h.seat id) [
          | inl e ↦
              let same : k ≡ h.knows = some-injective k h.knows (sym here ∙ (ap (get_elem? t.views) (sym e) ∙ h.there)) in
              held (lie slot) (subst (λ (x : Known). Holds x (lie slot)) (sym same) h.holds)
          | inr apart ↦ inr (record { seat = h.seat; knows = h.knows; there = set_else t.views id h.seat now apart ∙ h.there; holds = h.holds })
        ]
      ]

      bits : (slot i : ℕ) → slot ≤ sl.last → get_or W (slot_word sl slot) 0 % 8 ≢ 0 → is_retired (get_or W (slot_word sl slot) 0) i ≡ true → HasWon m'.stages (lie slot)
      bits slot i low live is = won_later m.stages m'.stages later (lie slot) (was.bits slot i low (used_before slot low live) (subst (λ n. is_retired n i ≡ true) (same slot low) is))

      owed : (slot i d : ℕ) → slot ≤ sl.last → get_or W (slot_word sl slot) 0 % 8 ≢ 0 → i < 3 → is_retired (get_or W (slot_word sl slot) 0) i ≡ false
          → Kills m'.words m'.stages d (4 * lie slot + i) → IsInFlaggedHand after_it.views d
      owed slot i d low live few is kills = by (has_ended (m'.stages d)) refl
        where
          unretired_before : is_retired (get_or t.words (slot_word sl slot) 0) i ≡ false
          unretired_before = subst (λ n. is_retired n i ≡ false) (same slot low) is

          -- it had ended
          ended_before : has_ended (m.stages d) ≡ true → IsInFlaggedHand after_it.views d
          ended_before ended =
              let killed = killed_before m.words m'.words m.stages m'.stages words later d claimed (lower d) ended (4 * lie slot + i) kills in
              elim (hand_on d (was.owed slot i d low (used_before slot low live) few unretired_before killed)) [
                | inl hand ↦ hand
                | inr go ↦ absurd (let_go_retired d go.0 go.1 slot i low (used_before slot low live) few unretired_before killed)
              ]

          -- or it ends now, and was in hand
          ends_now : has_ended (m.stages d) ≡ false → has_ended (m'.stages d) ≡ true → IsInFlaggedHand after_it.views d
          ends_now un ended =
              let open_before = was_open (m.stages d) (m'.stages d) (turn_wins tree (Makes id c) d) (wins d) (few_turn_wins tree id c d) ended un in
              elim (hand_on d (elim open_before [
                | inl puts ↦ in_hand plan tree m d (m.invariant.workers.insert_in_hand d puts)
                | inr cuts ↦ in_hand plan tree m d (m.invariant.workers.delete_in_hand d cuts)
              ])) [
                | inl hand ↦ hand
                | inr go ↦ absurd (false≢true (sym un ∙ retired_ended plan tree m id k.tree there sl k.participant.retired d
                    ((lets_go sl k.participant.slot k.participant.retired k.tree c go.0 mem).retired d go.1)))
              ]

          before : (b : Bool) → has_ended (m.stages d) ≡ b → has_ended (m'.stages d) ≡ true → IsInFlaggedHand after_it.views d
          before true ended over = ended_before ended
          before false un over = ends_now un over

          by : (b : Bool) → has_ended (m'.stages d) ≡ b → IsInFlaggedHand after_it.views d
          by false un = killer_in_hand plan after_it m' d (4 * lie slot + i) un kills
          by true ended = before (has_ended (m.stages d)) refl ended
