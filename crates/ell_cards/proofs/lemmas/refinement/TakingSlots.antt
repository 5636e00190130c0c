-- A pass that takes a slot for its card in hand keeps the refinement: that card waits, so it is not dead, and nobody
-- else has it in hand.
use Rattle.std.proofs.Common.{◌≡◌, ◌+◌, ◌*◌, ◌%◌, ◌<◌, ◌≤◌, ℕ, zero, suc, inl, inr, Bool, true, false, Some, None, List, length, get_or, set, refl, sym, ap, ◌∙◌, subst, arith, true≢false, get_or-set_same, get_or-set_other}
use Rattle.std.proofs.lemmas.Bool.{cases_eq, false≢true}
use mathlib.Core.Option.{some}
use lib.ListN.{get_elem?}
use Rattle.ell_word.specs.Node.{card, generation_size}
use Rattle.ell_core.proofs.lemmas.following.waiting.Cards.{hand_waits, one_hand}
use Rattle.ell_core.proofs.lemmas.outcomes.Decide.{some_not_none}
use Rattle.ell_core.proofs.lemmas.stages.Waiting.{waits-claimed}
use Rattle.ell_core.specs.history.Stages.{Stage, Stages, is_start, waits}
use Rattle.ell_core.specs.state.Machine.{Worker, worker_of}
use Rattle.ell_core.specs.statements.Since.{has_ended}
use Rattle.ell_core.specs.statements.Waiting.{IsUnflagged}
use Rattle.ell_grace.specs.Dead.{IsDead}
use Rattle.ell_grace.specs.Gone.{HasOuts}
use Rattle.ell_runs.specs.Laws.{machine_of_table}
use Rattle.ell_grace.proofs.lemmas.dead.Out.{dead_ended}
use Rattle.ell_layout.specs.Words.{put}
use Rattle.ell_layout.proofs.lemmas.Writes.{put_other, put_same}
use Rattle.ell_cards.specs.declared.view.Known.{Known}
use Rattle.ell_cards.specs.declared.view.Participant.{Participant}
use Rattle.ell_runs.specs.declared.view.Slots.{Slots}
use Rattle.ell_runs.specs.declared.view.View.{View}
use Rattle.ell_cards.specs.Ages.{IsOut, is_dead, is_discarded, is_beyond, AreDead, AgesAreSound, IsRetiredThere, RetiredStaysRetired}
use Rattle.ell_cards.specs.CardNodes.{has_node, no_nodes}
use Rattle.ell_cards.specs.Leaks.{Kills, NothingLeaks}
use Rattle.ell_runs.specs.Machines.{HasMachine}
use Rattle.ell_runs.specs.Plans.{TablePlan}
use Rattle.ell_cards.specs.Epochs.{WholeState, slot_word, slots_size, after_taking}
use Rattle.ell_cards.specs.SlotWords.{has_slot_in, slot_of, generation_of, is_retired, taken_word}
use Rattle.ell_runs.specs.States.{TableState, seat_worker}
use Rattle.ell_runs.specs.Holding.{HoldsWaiting}
use Rattle.ell_cards.specs.Refinement.{Refines}
use Rattle.ell_cards.specs.Whole.{trees_of}
use Rattle.ell_cards.specs.RefinementLaws.{RefinesByAges, TakesKeepRefinement, memory_taken}
use Rattle.ell_runs.proofs.lemmas.seats.Seats.{machine, mine_is, mine_sound}
use Rattle.ell_cards.proofs.lemmas.whole.Ages.{ages_of_participant}
use Rattle.ell_cards.proofs.lemmas.whole.Trees.{tree_at}
use Rattle.ell_cards.proofs.lemmas.whole.Untouched.{root_lives}
use Rattle.ell_cards.proofs.lemmas.refinement.Taking.{refinement_of_taken}
use Rattle.ell_cards.proofs.lemmas.refinement.Touched.{claimed_within}
use Rattle.ell_cards.proofs.lemmas.refinement.Winning.{born_won}
use Rattle.ell_grace.proofs.lemmas.outs.Taken.{taken_born}
use Rattle.ell_cards.proofs.lemmas.whole.Leaks.{leaks_taken}
use Rattle.ell_cards.proofs.lemmas.whole.Retired.{retired_of_participant}
use Rattle.ell_cards.proofs.lemmas.words.RetiredBits.{none_is_retired}
use Rattle.ell_cards.proofs.lemmas.words.Slotted.{slot_inside}

waits_unended : (s : Stage) → waits s ≡ true → has_ended s ≡ false
waits_unended s h = grind arith

waits_unstarted : (s : Stage) → waits s ≡ true → is_start s ≡ false
waits_unstarted s h = grind arith

-- what is not true is false
false_where_not : (b : Bool) → (b ≡ true → ⊥) → b ≡ false
false_where_not true none = absurd (none refl)
false_where_not false none = refl

-- a card in hand that is not flagged waits, and is not dead
module _ (plan : TablePlan) (tree : TableState) (dead : ℕ → Bool) (now : AreDead plan tree dead) (seat : ℕ) (v : View) (there : get_elem? tree.views seat ≡ some v)
    (d : ℕ) (h : HoldsWaiting v d) where
  pub hand_is_waiting : waits (now.machine.stages d) ≡ true
  hand_is_waiting = hand_waits now.machine.words now.machine.stages (worker_of v.worker) d (mine_sound plan tree now.machine seat v there) h.0 h.1

  pub hand_is_alive : dead d ≡ false
  hand_is_alive = false_where_not (dead d) (λ is. elim (now.each d 0 (omega arith) is) [
    | is_dead is ↦ undead (subst (IsDead now.machine.words outs.stages) (omega arith) is)
    | is_discarded is ↦ is.nobody seat v there (h.0 ∙ ap Some (omega arith))
    | is_beyond is ↦ (let low = claimed_within plan tree now.machine d (waits-claimed (now.machine.stages d) hand_is_waiting) in absurd (omega arith))
  ])
    where
      outs : HasOuts (machine_of_table plan tree now.machine)
      outs = now.uses.outs

      waiting : waits (outs.stages d) ≡ true
      waiting =
          let me = mine_is plan tree now.machine seat v there in
          hand_waits now.machine.words outs.stages ((machine plan tree now.machine seat v there).worker seat) d (outs.invariant.workers.each seat)
          (ap (λ (u : Worker). u.card) me ∙ h.0) (ap (λ (u : Worker). u.flagged) me ∙ h.1)

      undead : IsDead now.machine.words outs.stages (4 * d) → ⊥
      undead died = elim (dead_ended now.machine.words outs.stages outs.invariant.words now.uses.uses outs.outs d died) [
        | inl start ↦ false≢true (sym (waits_unstarted (outs.stages d) waiting) ∙ start)
        | inr ended ↦ false≢true (sym (waits_unended (outs.stages d) waiting) ∙ ended)
      ]

-- nor is any node of it out
module _ (plan : TablePlan) (tree : TableState) (dead : ℕ → Bool) (now : AreDead plan tree dead) (seat : ℕ) (v : View) (there : get_elem? tree.views seat ≡ some v)
    (d : ℕ) (h : HoldsWaiting v d) (x : ℕ) (on : card x ≡ d) where
  abbrev stages_now : Stages
  stages_now = now.uses.outs.stages

  waits_now : waits (stages_now (card x)) ≡ true
  waits_now = subst (λ c. waits (stages_now c) ≡ true) (sym on) (
      hand_waits now.machine.words now.uses.outs.stages ((machine plan tree now.machine seat v there).worker seat) d (now.uses.outs.invariant.workers.each seat)
      (let me = mine_is plan tree now.machine seat v there in ap (λ (u : Worker). u.card) me ∙ h.0)
      (let me = mine_is plan tree now.machine seat v there in ap (λ (u : Worker). u.flagged) me ∙ h.1))

  never_dead : IsDead now.machine.words stages_now x → ⊥
  never_dead (inl gone) =
      let born = taken_born now.machine.words stages_now now.uses.outs.invariant.words gone.taker x gone.takes in
      true≢false (sym waits_now ∙ (born_won (stages_now (card x)) (x % 4) born).1)
  never_dead (inr never) = false≢true (sym (waits_unended (stages_now (card x)) waits_now) ∙ never.0)

  pub hand_not_out : IsOut plan tree now.machine now.uses x → ⊥
  hand_not_out (is_dead is) = never_dead is
  hand_not_out (is_discarded is) = is.nobody seat v there (h.0 ∙ ap (λ c. Some c) (sym on))
  hand_not_out (is_beyond is) =
      let low = claimed_within plan tree now.machine d (waits-claimed (now.machine.stages d) (hand_is_waiting plan tree dead now seat v there d h)) in
      omega (arith, on, is, low)

-- nor has any card made it dead
module _ (plan : TablePlan) (tree : TableState) (dead : ℕ → Bool) (now : AreDead plan tree dead) (seat : ℕ) (v : View) (there : get_elem? tree.views seat ≡ some v)
    (d : ℕ) (h : HoldsWaiting v d) (c x : ℕ) (on : card x ≡ d) where
  stage_waits : waits (now.machine.stages (card x)) ≡ true
  stage_waits = subst (λ e. waits (now.machine.stages e) ≡ true) (sym on) (hand_is_waiting plan tree dead now seat v there d h)

  pub hand_kills_none : Kills now.machine.words now.machine.stages c x → ⊥
  hand_kills_none (inl takes) =
      let born = taken_born now.machine.words now.machine.stages now.machine.invariant.words c x takes in
      true≢false (sym stage_waits ∙ (born_won (now.machine.stages (card x)) (x % 4) born).1)
  hand_kills_none (inr (same, never)) = false≢true (sym (waits_unended (now.machine.stages (card x)) stage_waits) ∙ never.0)

-- What was retired is retired where a pass takes a slot for its card in hand: no node of that card is out.
retired_taken : (plan : TablePlan) (s : Slots) (tree : TableState) (t : WholeState) (lie : ℕ → ℕ) (dead : ℕ → Bool) (now : AreDead plan tree dead) (seat : ℕ) (v : View)
    → get_elem? tree.views seat ≡ some v → (c : ℕ) → HoldsWaiting v c → slot_of c ≤ s.last
    → (x : ℕ) → IsOut plan tree now.machine now.uses x → IsRetiredThere s t.words lie x
    → IsRetiredThere s (set t.words (slot_word s (slot_of c)) (taken_word (generation_of c))) (put lie (slot_of c) c) x
retired_taken plan s tree t lie dead now seat v there c hand inside x out is low lies used = elim (cases_eq (slot_of (card x)) (slot_of c)) [
  | inl e ↦ absurd (hand_not_out plan tree dead now seat v there c hand x (sym lies ∙ (ap (put lie (slot_of c) c) e ∙ put_same lie (slot_of c) c)) out)
  | inr apart ↦
      let stays = get_or-set_other t.words (slot_word s (slot_of c)) (slot_word s (slot_of (card x))) (taken_word (generation_of c)) 0 (λ e. apart (omega arith)) in
      subst (λ n. is_retired n (x % 4) ≡ true) (sym stays)
      (is low (sym (put_other lie (slot_of c) c (slot_of (card x)) apart) ∙ lies) (λ full. used (ap (λ n. n % 8) stays ∙ full)))
]

-- the ages where a pass has taken the slot of its card in hand, with memory that refines the tree; and what passes have
-- retired for their cards stays retired
pub record TakenOn (plan : TablePlan) (s : Slots) (tree : TableState) (t : WholeState) (lie : ℕ → ℕ) (dead : ℕ → Bool) (was_dead : ℕ → ℕ → Bool)
    (h : RefinesByAges plan s tree t lie dead was_dead) (id : ℕ) (k : Known) (c : ℕ) : Type 0 where
  pub ages : AgesAreSound plan s tree (memory_taken s t id k c) (put lie (slot_of c) c) dead was_dead
  pub refines : Refines s tree (memory_taken s t id k c) ages.now.machine.stages (put lie (slot_of c) c) dead was_dead
  pub retired : RetiredStaysRetired plan s tree t h.ages.now.machine h.ages.now.uses lie
      → RetiredStaysRetired plan s tree (memory_taken s t id k c) ages.now.machine ages.now.uses (put lie (slot_of c) c)
  pub leaks : k.participant.lost ≡ None → NothingLeaks s t tree.views h.ages.now.machine.words h.ages.now.machine.stages lie
      → NothingLeaks s (memory_taken s t id k c) tree.views ages.now.machine.words ages.now.machine.stages (put lie (slot_of c) c)

pub take_goes : (plan : TablePlan) (s : Slots) (tree : TableState) (t : WholeState) (lie : ℕ → ℕ) (dead : ℕ → Bool) (was_dead : ℕ → ℕ → Bool)
    → s.last < generation_size → length t.words ≡ slots_size s
    → (h : RefinesByAges plan s tree t lie dead was_dead) → trees_of t.views ≡ tree.views
    → (id : ℕ) (k : Known) → get_elem? t.views id ≡ some k → (c : ℕ) → HoldsWaiting k.tree c → has_slot_in s.last c ≡ true
    → dead (lie (slot_of c)) ≡ true
    → ((seat q a : ℕ) (u : Known) → get_elem? t.views seat ≡ some u → u.participant.announcement ≡ Some q → u.participant.announced ≡ Some a → was_dead q (lie (slot_of c)) ≡ true)
    → TakenOn plan s tree t lie dead was_dead h id k c
take_goes plan s tree t lie dead was_dead low size h same id k here c hand numbered gone was_gone = record {
  ages = ages_of_participant plan s tree t id k here (record k { participant = p }) refl words lie (put lie (slot_of c) c) dead dead was_dead was_dead h.ages
      h.ages.now.each h.ages.still (λ q a at an. h.ages.since id q a k here at an) (λ j q a u other at placed an. refl)
      retired_out (retired_taken plan s tree t lie dead h.ages.now id k.tree (sits id k here) c hand inside) (λ r has. absurd (some_not_none has refl)) (λ d has. h.ages.lost id d k here has);
  refines = refinement_of_taken s low tree t r.stages lie dead was_dead h.refines id k here c inside numbered hand
      (λ won. true≢false (sym (hand_is_waiting plan tree dead h.ages.now id k.tree (sits id k here) c hand) ∙ won.1)) claimed p refl refl refl
      room gone was_gone (false_where_not (dead 0) (root_lives plan tree dead h.ages.now))
      (λ seat d u at holds. hand_is_alive plan tree dead h.ages.now seat u.tree (sits seat u at) d holds) one t.homes;
  retired = λ was. retired_of_participant plan s tree h.ages.now.machine h.ages.now.uses t id k here k.sight p words lie (put lie (slot_of c) c)
      (retired_taken plan s tree t lie dead h.ages.now id k.tree (sits id k here) c hand inside)
      (λ d at has. record { parent = λ e. absurd (false≢true e); leaf = λ e. absurd (false≢true e); own = λ i e. absurd (false≢true (sym (none_of i) ∙ e)) })
      was;
  leaks = λ unlost was. leaks_taken s t tree.views r.words r.stages lie was id k here p c hand inside room h.refines.own unlost refl
      (λ d i few kills. hand_kills_none plan tree dead h.ages.now id k.tree (sits id k here) c hand d (4 * c + i) (omega (arith, few)) kills);
}
  where
    none_of : (i : ℕ) → has_node no_nodes i ≡ false
    none_of zero = refl
    none_of (suc zero) = refl
    none_of (suc (suc zero)) = refl
    none_of (suc (suc (suc i))) = refl

    inside : slot_of c ≤ s.last
    inside = slot_inside s.last c numbered

    room : slot_word s (slot_of c) < length t.words
    room = (let low_slot = inside in omega arith)

    r : HasMachine plan tree
    r = h.ages.now.machine

    p : Participant
    p = after_taking c k.participant

    words : List ℕ
    words = set t.words (slot_word s (slot_of c)) (taken_word (generation_of c))

    sits : (seat : ℕ) (u : Known) → get_elem? t.views seat ≡ some u → get_elem? tree.views seat ≡ some u.tree
    sits seat u at = ap (λ l. get_elem? l seat) (sym same) ∙ tree_at t.views seat u at

    below : c < r.words.next
    below = (r.invariant.words.cards c).claimed.0 (waits-claimed (r.stages c) (hand_is_waiting plan tree dead h.ages.now id k.tree (sits id k here) c hand))

    claimed : c < get_or t.words 0 0
    claimed =
        let next : get_or tree.words 0 0 ≡ r.words.next = r.next in
        let refinement : get_or t.words 0 0 ≡ get_or tree.words 0 0 = h.refines.claim in
        let low = below in
        omega arith

    one : (seat : ℕ) (u : Known) → get_elem? t.views seat ≡ some u → u.tree.worker.card ≡ Some c → seat ≡ id
    one seat u at has =
        let me = mine_is plan tree r id k.tree (sits id k here) in
        let mine : IsUnflagged (machine plan tree r id k.tree (sits id k here)) id c = record {
          holds = ap (λ (z : Worker). z.card) me ∙ hand.0;
          unflagged = ap (λ (z : Worker). z.flagged) me ∙ hand.1;
        } in
        sym (one_hand (machine plan tree r id k.tree (sits id k here)) r.stages r.invariant id seat c mine
        (ap (λ (z : Worker). z.card) (ap seat_worker (sits seat u at)) ∙ has))

    retired_out : (slot i : ℕ) → slot ≤ s.last → is_retired (get_or words (slot_word s slot) 0) i ≡ true
        → IsOut plan tree r h.ages.now.uses (4 * put lie (slot_of c) c slot + i)
    retired_out slot i low is = elim (cases_eq slot (slot_of c)) [
      | inl e ↦ absurd (none_is_retired (generation_of c) i (subst (λ n. is_retired n i ≡ true)
          (ap (λ x. get_or words (slot_word s x) 0) e ∙ get_or-set_same t.words (slot_word s (slot_of c)) (taken_word (generation_of c)) 0 room) is))
      | inr apart ↦
          let stays = get_or-set_other t.words (slot_word s (slot_of c)) (slot_word s slot) (taken_word (generation_of c)) 0 (λ e. apart (omega arith)) in
          subst (λ d. IsOut plan tree r h.ages.now.uses (4 * d + i)) (sym (put_other lie (slot_of c) c slot apart))
          (h.ages.retired_out slot i low (subst (λ n. is_retired n i ≡ true) stays is))
    ]

pub takes_keep_refinement : TakesKeepRefinement
takes_keep_refinement plan s tree t lie dead was_dead low size h same id k here c hand numbered gone was_gone =
    let it = take_goes plan s tree t lie dead was_dead low size h same id k here c hand numbered gone was_gone in record { ages = it.ages; refines = it.refines }
