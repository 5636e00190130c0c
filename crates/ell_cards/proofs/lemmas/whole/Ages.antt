use Rattle.std.proofs.Common.{◌≡◌, ◌≢◌, ℕ, ◌+◌, ◌*◌, ◌%◌, ◌<◌, ◌≤◌, Bool, true, false, Some, List, [], ◌∷◌, ◌++◌, get_or, set, inl, inr, ◌⊎◌, refl, sym, ap, ◌∙◌, subst, ⊎_elim, arith}
use mathlib.Core.Option.{some}
use mathlib.Core.Option.{Option as Maybe}
use lib.ListN.{get_elem?}
use Rattle.atomic_table.proofs.Lists.{at_set}
use Rattle.ell_word.specs.Node.{card}
use Rattle.ell_core.specs.history.Later.{WordsLater, StagesLater, wins_of}
use Rattle.ell_grace.specs.Dead.{IsDead, HasUses}
use Rattle.ell_runs.specs.declared.call.Call.{Call}
use Rattle.ell_runs.specs.declared.call.Call.TheVariants as call
use Rattle.ell_cards.specs.declared.view.Known.{Known}
use Rattle.ell_cards.specs.declared.view.SlotRead.{SlotRead}
use Rattle.ell_runs.specs.declared.view.Slots.{Slots}
use Rattle.ell_runs.specs.declared.view.View.{View}
use Rattle.ell_cards.specs.Ages.{IsOut, is_dead, is_discarded, is_beyond, AreDead, ForgotWhen, RetiresThere, IsRetiredThere, AgesAreSound}
use Rattle.ell_runs.specs.Discarded.{IsDiscarded}
use Rattle.ell_runs.specs.Calls.{May}
use Rattle.ell_runs.specs.Laws.{machine_of_table}
use Rattle.ell_runs.specs.Machines.{HasMachine}
use Rattle.ell_runs.specs.Plans.{TablePlan}
use Rattle.ell_cards.specs.Epochs.{WholeState, slot_word}
use Rattle.ell_runs.specs.Touching.{IsAtRest}
use Rattle.ell_cards.specs.SlotWords.{card_by, is_retired, slot_of}
use Rattle.ell_runs.specs.Starts.{IsReached}
use Rattle.ell_runs.specs.States.{TableState}
use Rattle.ell_cards.specs.Stepping.{IsQuiet}
use Rattle.ell_runs.specs.Touching.{forgets}
use Rattle.ell_runs.specs.TurnEffects.{turn_wins}
use Rattle.ell_runs.specs.Turns.{Turn, Makes, TableTurns, found_by, view_after, state_after}
use Rattle.ell_runs.proofs.lemmas.runs.Used.{turn_keeps_uses}
use Rattle.ell_cards.proofs.lemmas.refinement.Discarded.{discarded_on}
use Rattle.ell_runs.proofs.lemmas.runs.TurnsOfRuns.{one_more_turn, turn_lawful}
use Rattle.ell_cards.proofs.lemmas.whole.Rests.{stays_at_rest}

-- a call that forgets nothing begins nothing
keeps_quiet : (c : Call) → forgets c ≡ false → IsQuiet c
keeps_quiet (call.Begin op) e = cc
keeps_quiet call.Look e = cc
keeps_quiet _ e = tt

module _ (plan : TablePlan) where
  -- a state to which a turn leads from another one, with later words, in which what was dead is so, cards that were
  -- discarded are, and each card has won what the turn wins for it
  pub record Onward (s : TableState) (machine : HasMachine plan s) (uses : HasUses (machine_of_table plan s machine)) (t : Turn) (s' : TableState) : Type 0 where
    pub next : HasMachine plan s'
    pub used : HasUses (machine_of_table plan s' next)
    pub same : used.outs.stages ≡ next.stages
    pub stays : (x : ℕ) → IsDead machine.words uses.outs.stages x → IsDead next.words used.outs.stages x
    pub words : WordsLater machine.words next.words
    pub discarded : (c : ℕ) → IsDiscarded machine.stages s.views c → IsDiscarded next.stages s'.views c
    pub later : StagesLater machine.stages next.stages
    pub wins : (d : ℕ) → wins_of (next.stages d) ≡ wins_of (machine.stages d) ++ turn_wins s t d

  pub onward : (s : TableState) (machine : HasMachine plan s) (uses : HasUses (machine_of_table plan s machine)) → uses.outs.stages ≡ machine.stages → (t : Turn) (s' : TableState)
      → TableTurns plan s t s' → Onward s machine uses t s'
  onward s machine uses same t s' turn =
      let lawful = turn_lawful plan s machine t s' turn in
      let on = turn_keeps_uses plan s machine t s' turn lawful.0 lawful.1 uses same in
      record {
        next = lawful.0;
        used = record { outs = record { stages = lawful.0.stages; invariant = lawful.0.invariant; outs = on.outs }; uses = on.uses };
        same = refl;
        stays = on.stays;
        words = on.words;
        discarded = λ c h. discarded_on plan s machine c h t s' turn lawful.0 lawful.1.later (lawful.1.wins c);
        later = lawful.1.later;
        wins = lawful.1.wins;
      }

  -- what is out is out after it
  pub out_on : (s : TableState) (machine : HasMachine plan s) (uses : HasUses (machine_of_table plan s machine)) (t : Turn) (s' : TableState) (on : Onward s machine uses t s')
      → (x : ℕ) → IsOut plan s machine uses x → IsOut plan s' on.next on.used x
  out_on s machine uses t s' on x (is_dead is) = is_dead (on.stays x is)
  out_on s machine uses t s' on x (is_discarded is) = is_discarded (on.discarded (card x) is)
  out_on s machine uses t s' on x (is_beyond is) = is_beyond is

  -- so are the cards that were
  abbrev pub dead_on : (s : TableState) (dead : ℕ → Bool) (h : AreDead plan s dead) (t : Turn) (s' : TableState) → Onward s h.machine h.uses t s' → AreDead plan s' dead
  dead_on s dead h t s' on = record { machine = on.next; uses = on.used; same = on.same; each = λ c k low is. out_on s h.machine h.uses t s' on (4 * c + k) (h.each c k low is) }

  -- and a pass that forgot when something was dead did so before the turn
  pub forgot_on : (s : TableState) (seat : ℕ) (dead : ℕ → Bool) → ForgotWhen plan s seat dead → (t : Turn) (s' : TableState) → TableTurns plan s t s'
      → ForgotWhen plan s' seat dead
  forgot_on s seat dead h t s' turn = record {
    from = h.from;
    reached = h.reached;
    were = h.were;
    call = h.call;
    begun = h.begun;
    made = h.made;
    anew = h.anew;
    turns = h.turns ++ t ∷ [];
    run = one_more_turn plan h.begun h.turns s t s' h.run turn;
  }

  -- so of the two one is still so of another pass after a turn
  pub still_since : (s : TableState) (seat : ℕ) (dead : ℕ → Bool) (v : View) (t : Turn) (s' : TableState) → TableTurns plan s t s'
      → IsAtRest v ⊎ ForgotWhen plan s seat dead → IsAtRest v ⊎ ForgotWhen plan s' seat dead
  still_since s seat dead v t s' turn (inl rest) = inl rest
  still_since s seat dead v t s' turn (inr forgot) = inr (forgot_on s seat dead forgot t s' turn)

  -- a pass that makes a call by which it forgets does so now
  pub forgot_now : (s : TableState) → IsReached plan s → (seat : ℕ) (v : View) → get_elem? s.views seat ≡ some v → (dead was : ℕ → Bool)
      → AreDead plan s dead → ((d : ℕ) → was d ≡ true → dead d ≡ true) → (c : Call) → May plan c v → forgets c ≡ true
      → ForgotWhen plan (state_after s seat v c) seat was
  forgot_now s reached seat v here dead was now still c may anew = record {
    from = s;
    reached = reached;
    were = record { machine = now.machine; uses = now.uses; same = now.same; each = λ d k low is. now.each d k low (still d is) };
    call = c;
    begun = state_after s seat v c;
    made = record { view = v; there = here; may = may; gives = refl };
    anew = anew;
    turns = [];
    run = refl;
  }

  -- a node is retired, by its card and its place there
  pub retired_at : (s : Slots) (words : List ℕ) (lie : ℕ → ℕ) (c i : ℕ) → i < 3 → RetiresThere s words lie c i → IsRetiredThere s words lie (4 * c + i)
  retired_at s words lie c i few is =
      let at : card (4 * c + i) ≡ c = omega (arith, few) in
      let place : (4 * c + i) % 4 ≡ i = omega (arith, few) in
      subst (λ d. RetiresThere s words lie d ((4 * c + i) % 4)) (sym at) (subst (RetiresThere s words lie c) (sym place) is)

  pub retired_as : (s : Slots) (words : List ℕ) (lie : ℕ → ℕ) (c i : ℕ) → i < 3 → IsRetiredThere s words lie (4 * c + i) → RetiresThere s words lie c i
  retired_as s words lie c i few is =
      let at : card (4 * c + i) ≡ c = omega (arith, few) in
      let place : (4 * c + i) % 4 ≡ i = omega (arith, few) in
      subst (RetiresThere s words lie c) place (subst (λ d. RetiresThere s words lie d ((4 * c + i) % 4)) at is)

  -- what is retired is retired where the words of slots are the same
  pub retired_same : (s : Slots) (old words : List ℕ) (lie : ℕ → ℕ) → ((slot : ℕ) → slot ≤ s.last → get_or words (slot_word s slot) 0 ≡ get_or old (slot_word s slot) 0)
      → (x : ℕ) → IsRetiredThere s old lie x → IsRetiredThere s words lie x
  retired_same s old words lie same x is inside lies =
      subst (λ n. n % 8 ≢ 0 → is_retired n (x % 4) ≡ true) (sym (same (slot_of (card x)) inside)) (is inside lies)

  -- what is retired by the words of slots, and by what passes have read of them, is out after a turn, if those words
  -- are as they were
  module _ (s : Slots) (tree tree' : TableState) (t : WholeState) (lie : ℕ → ℕ) (dead : ℕ → Bool) (was_dead : ℕ → ℕ → Bool) (h : AgesAreSound plan s tree t lie dead was_dead)
      (by : Turn) (on : Onward tree h.now.machine h.now.uses by tree') where
    pub are_retired_on : (words : List ℕ) → ((slot : ℕ) → slot ≤ s.last → get_or words (slot_word s slot) 0 ≡ get_or t.words (slot_word s slot) 0)
        → (slot k : ℕ) → slot ≤ s.last → is_retired (get_or words (slot_word s slot) 0) k ≡ true → IsOut plan tree' on.next on.used (4 * lie slot + k)
    are_retired_on words same slot k low is =
        out_on tree h.now.machine h.now.uses by tree' on (4 * lie slot + k) (h.retired_out slot k low (subst (λ n. is_retired n k ≡ true) (same slot low) is))

    pub read_on : (words : List ℕ) → ((slot : ℕ) → slot ≤ s.last → get_or words (slot_word s slot) 0 ≡ get_or t.words (slot_word s slot) 0)
        → (seat : ℕ) (k : Known) (r : SlotRead) → get_elem? t.views seat ≡ some k → k.participant.read ≡ Some r → r.word % 8 ≢ 0 → (i : ℕ) → is_retired r.word i ≡ true
        → IsOut plan tree' on.next on.used (4 * card_by r.slot r.word + i) × IsRetiredThere s words lie (4 * card_by r.slot r.word + i)
    read_on words same seat k r at has used i is =
        let was = h.read seat k r at has used i is in
        let x = 4 * card_by r.slot r.word + i in
        (out_on tree h.now.machine h.now.uses by tree' on x was.0, retired_same s t.words words lie same x was.1)

    -- so is the card whose flag a pass lost last discarded
    pub lost_on : (seat c : ℕ) (k : Known) → get_elem? t.views seat ≡ some k → k.participant.lost ≡ Some c → IsDiscarded on.next.stages tree'.views c
    lost_on seat c k at has = on.discarded c (h.lost seat c k at has)

  -- the ages after a turn, by later words, where what was out is out, with what each card has won
  pub record AgesOn (s : Slots) (tree : TableState) (t : WholeState) (lie : ℕ → ℕ) (dead : ℕ → Bool) (was_dead : ℕ → ℕ → Bool) (h : AgesAreSound plan s tree t lie dead was_dead) (turn : Turn)
      (tree' : TableState) (t' : WholeState) : Type 0 where
    pub ages : AgesAreSound plan s tree' t' lie dead was_dead
    pub out : (x : ℕ) → IsOut plan tree h.now.machine h.now.uses x → IsOut plan tree' ages.now.machine ages.now.uses x
    pub words : WordsLater h.now.machine.words ages.now.machine.words
    pub later : StagesLater h.now.machine.stages ages.now.machine.stages
    pub wins : (d : ℕ) → wins_of (ages.now.machine.stages d) ≡ wins_of (h.now.machine.stages d) ++ turn_wins tree turn d

  -- the ages after a step call
  module _ (s : Slots) (tree : TableState) (reached : IsReached plan tree) (t : WholeState) (id : ℕ) (k : Known) (here : get_elem? t.views id ≡ some k)
      (there : get_elem? tree.views id ≡ some k.tree) (lie : ℕ → ℕ) (dead : ℕ → Bool) (was_dead : ℕ → ℕ → Bool) (c : Call) (may : May plan c k.tree)
      (words : List ℕ) (homes : List (Maybe (Unit {0}))) (same : (slot : ℕ) → slot ≤ s.last → get_or words (slot_word s slot) 0 ≡ get_or t.words (slot_word s slot) 0) where
    abbrev after : TableState
    after = state_after tree id k.tree c

    abbrev knows : Known
    knows = record k { tree = view_after tree k.tree c }

    turn : TableTurns plan tree (Makes id c) after
    turn = record { view = k.tree; there = there; may = may; gives = refl }

    pub ages_after_call : (h : AgesAreSound plan s tree t lie dead was_dead)
        → AgesOn s tree t lie dead was_dead h (Makes id c) after (record { words = words; homes = homes; views = set t.views id knows })
    ages_after_call h = record {
      ages = record {
        now = dead_on tree dead h.now (Makes id c) after on;
        still = h.still;
        since = λ seat q a u at placed an. ⊎_elim
            (λ (e : (seat ≡ id) × (knows ≡ u)). mine seat q a u e.0 e.1 placed an)
            (λ (e : (seat ≢ id) × (get_elem? t.views seat ≡ some u)).
            still_since tree seat (was_dead q) u.tree (Makes id c) after turn (h.since seat q a u e.1 placed an))
            (at_set t.views id seat knows u at);
        retired_out = are_retired_on s tree after t lie dead was_dead h (Makes id c) on words same;
        read = λ seat u r at has. ⊎_elim
            (λ (e : (seat ≡ id) × (knows ≡ u)). read_on s tree after t lie dead was_dead h (Makes id c) on words same id k r here (subst (λ (x : Known). x.participant.read ≡ Some r) (sym e.1) has))
            (λ (e : (seat ≢ id) × (get_elem? t.views seat ≡ some u)). read_on s tree after t lie dead was_dead h (Makes id c) on words same seat u r e.1 has)
            (at_set t.views id seat knows u at);
        lost = λ seat d u at has. ⊎_elim
            (λ (e : (seat ≡ id) × (knows ≡ u)). lost_on s tree after t lie dead was_dead h (Makes id c) on id d k here (ap (λ (x : Known). x.participant.lost) e.1 ∙ has))
            (λ (e : (seat ≢ id) × (get_elem? t.views seat ≡ some u)). lost_on s tree after t lie dead was_dead h (Makes id c) on seat d u e.1 has)
            (at_set t.views id seat knows u at);
      };
      out = λ x is. out_on tree h.now.machine h.now.uses (Makes id c) after on x is;
      words = on.words;
      later = on.later;
      wins = on.wins;
    }
      where
        on : Onward tree h.now.machine h.now.uses (Makes id c) after
        on = onward tree h.now.machine h.now.uses h.now.same (Makes id c) after turn

        by : (b : Bool) → forgets c ≡ b → (q a : ℕ) → k.participant.announcement ≡ Some q → k.participant.announced ≡ Some a → IsAtRest knows.tree ⊎ ForgotWhen plan after id (was_dead q)
        by true anew q a placed an = inr (forgot_now tree reached id k.tree there dead (was_dead q) h.now (h.still q) c may anew)
        by false keeps q a placed an = elim (h.since id q a k here placed an) [
          | inl rest ↦ inl (stays_at_rest k.tree rest plan c (found_by tree c) (keeps_quiet c keeps) may)
          | inr forgot ↦ inr (forgot_on tree id (was_dead q) forgot (Makes id c) after turn)
        ]

        mine : (seat q a : ℕ) (u : Known) → seat ≡ id → knows ≡ u → u.participant.announcement ≡ Some q → u.participant.announced ≡ Some a
            → IsAtRest u.tree ⊎ ForgotWhen plan after seat (was_dead q)
        mine seat q a u e is =
            subst (λ (i : ℕ). u.participant.announcement ≡ Some q → u.participant.announced ≡ Some a → IsAtRest u.tree ⊎ ForgotWhen plan after i (was_dead q)) (sym e)
            (subst (λ (x : Known). x.participant.announcement ≡ Some q → x.participant.announced ≡ Some a → IsAtRest x.tree ⊎ ForgotWhen plan after id (was_dead q)) is (by (forgets c) refl q a))

  -- The ages where a pass knows something else of epochs, and words became other ones: by what is dead now, what was
  -- dead when the pass was pinned, what is retired by slots and by the pass, what was retired before, and what the pass
  -- discarded.
  module _ (s : Slots) (tree : TableState) (t : WholeState) (id : ℕ) (k : Known) (here : get_elem? t.views id ≡ some k) (now : Known) (same : now.tree ≡ k.tree)
      (words : List ℕ) (lie lie' : ℕ → ℕ) (dead dead' : ℕ → Bool) (was_dead was_dead' : ℕ → ℕ → Bool) (h : AgesAreSound plan s tree t lie dead was_dead) where
    abbrev OutNow : ℕ → Type 0
    OutNow x = IsOut plan tree h.now.machine h.now.uses x

    abbrev pub ages_of_participant : ((c i : ℕ) → i < 3 → dead' c ≡ true → OutNow (4 * c + i)) → ((q c : ℕ) → was_dead' q c ≡ true → dead' c ≡ true)
        → ((q a : ℕ) → now.participant.announcement ≡ Some q → now.participant.announced ≡ Some a → IsAtRest k.tree ⊎ ForgotWhen plan tree id (was_dead' q))
        → ((j q a : ℕ) (u : Known) → j ≢ id → get_elem? t.views j ≡ some u → u.participant.announcement ≡ Some q → u.participant.announced ≡ Some a → was_dead' q ≡ was_dead q)
        → ((slot i : ℕ) → slot ≤ s.last → is_retired (get_or words (slot_word s slot) 0) i ≡ true → OutNow (4 * lie' slot + i))
        → ((x : ℕ) → OutNow x → IsRetiredThere s t.words lie x → IsRetiredThere s words lie' x)
        → ((r : SlotRead) → now.participant.read ≡ Some r → r.word % 8 ≢ 0 → (i : ℕ) → is_retired r.word i ≡ true → OutNow (4 * card_by r.slot r.word + i) × IsRetiredThere s words lie' (4 * card_by r.slot r.word + i))
        → ((c : ℕ) → now.participant.lost ≡ Some c → IsDiscarded h.now.machine.stages tree.views c)
        → AgesAreSound plan s tree (record { words = words; homes = t.homes; views = set t.views id now }) lie' dead' was_dead'
    ages_of_participant each still mine others retired_out keeps read lost = record {
      now = record { machine = h.now.machine; uses = h.now.uses; same = h.now.same; each = each };
      still = still;
      since = λ seat q a u at placed an. ⊎_elim
          (λ (e : (seat ≡ id) × (now ≡ u)). own seat q a u e.0 e.1 placed an)
          (λ (e : (seat ≢ id) × (get_elem? t.views seat ≡ some u)).
          subst (λ d. IsAtRest u.tree ⊎ ForgotWhen plan tree seat d) (sym (others seat q a u e.0 e.1 placed an)) (h.since seat q a u e.1 placed an))
          (at_set t.views id seat now u at);
      retired_out = retired_out;
      read = λ seat u r at has. ⊎_elim
          (λ (e : (seat ≡ id) × (now ≡ u)). read r (subst (λ (x : Known). x.participant.read ≡ Some r) (sym e.1) has))
          (λ (e : (seat ≢ id) × (get_elem? t.views seat ≡ some u)). kept r (h.read seat u r e.1 has))
          (at_set t.views id seat now u at);
      lost = λ seat c u at has. ⊎_elim
          (λ (e : (seat ≡ id) × (now ≡ u)). lost c (ap (λ (x : Known). x.participant.lost) e.1 ∙ has))
          (λ (e : (seat ≢ id) × (get_elem? t.views seat ≡ some u)). h.lost seat c u e.1 has)
          (at_set t.views id seat now u at);
    }
      where
        kept : (r : SlotRead) → (r.word % 8 ≢ 0 → (i : ℕ) → is_retired r.word i ≡ true → OutNow (4 * card_by r.slot r.word + i) × IsRetiredThere s t.words lie (4 * card_by r.slot r.word + i))
            → r.word % 8 ≢ 0 → (i : ℕ) → is_retired r.word i ≡ true → OutNow (4 * card_by r.slot r.word + i) × IsRetiredThere s words lie' (4 * card_by r.slot r.word + i)
        kept r was used i is = (let old = was used i is in (old.0, keeps _ old.0 old.1))

        own : (seat q a : ℕ) (u : Known) → seat ≡ id → now ≡ u → u.participant.announcement ≡ Some q → u.participant.announced ≡ Some a
            → IsAtRest u.tree ⊎ ForgotWhen plan tree seat (was_dead' q)
        own seat q a u e is =
            subst (λ (i : ℕ). u.participant.announcement ≡ Some q → u.participant.announced ≡ Some a → IsAtRest u.tree ⊎ ForgotWhen plan tree i (was_dead' q)) (sym e)
            (subst (λ (x : Known). x.participant.announcement ≡ Some q → x.participant.announced ≡ Some a → IsAtRest x.tree ⊎ ForgotWhen plan tree id (was_dead' q)) is
            (λ placed an. subst (λ v. IsAtRest v ⊎ ForgotWhen plan tree id (was_dead' q)) (sym same) (mine q a placed an)))
