-- Cards that were discarded: no turn wins anything for one, and it stays discarded. A card that is not flagged is
-- discarded by the call after which its pass has it in hand no more, as by its flag that is lost.
use Rattle.std.proofs.Common.{◌≡◌, ◌≢◌, ℕ, ◌<◌, if◌then◌else◌, Bool, true, false, Some, None, List, [], ◌∷◌, ◌++◌, get_or, set, inl, inr, refl, sym, ap, ◌∙◌, subst, ⊎_elim, arith, true≢false}
use mathlib.Core.Option.{some}
use lib.ListN.{get_elem?}
use Rattle.atomic_table.proofs.Lists.{at_set}
use Rattle.ell_word.specs.Word.{unpacked}
use Rattle.ell_core.specs.declared.fact.Fact.TheVariants as fact
use Rattle.ell_core.specs.history.Later.{StagesLater, wins_of}
use Rattle.ell_core.specs.history.Stages.{Stages, waits}
use Rattle.ell_core.specs.state.Machine.{Worker, worker_of}
use Rattle.ell_core.specs.statements.Waiting.{IsUnflagged}
use Rattle.ell_core.proofs.lemmas.following.waiting.Cards.{hand_waits, one_hand}
use Rattle.ell_core.proofs.lemmas.outcomes.Decide.{some_not_none}
use Rattle.ell_core.proofs.lemmas.stages.Waiting.{waits-claimed, waits-kind, waits-wins, kind-waits}
use Rattle.ell_runs.specs.declared.call.Call.{Call}
use Rattle.ell_runs.specs.declared.call.Call.TheVariants as call
use Rattle.ell_runs.specs.declared.view.View.{View}
use Rattle.ell_runs.specs.Discarded.{IsDiscarded}
use Rattle.ell_runs.specs.Calls.{May, after, atomic_of, is_won}
use Rattle.ell_runs.specs.Changes.{after_flag, left_view, right_view, joined_view}
use Rattle.ell_runs.specs.Machines.{HasMachine}
use Rattle.ell_runs.specs.Plans.{TablePlan}
use Rattle.ell_runs.specs.States.{TableState, seat_worker}
use Rattle.ell_runs.specs.Holding.{HoldsWaiting}
use Rattle.ell_cards.specs.Refinement.{HasWon, FlagsCard}
use Rattle.ell_runs.specs.TurnEffects.{turn_wins, run_wins, win_of}
use Rattle.ell_runs.specs.Turns.{Turn, Makes, Splits, Joins, TableTurns, TableRun, found_by, view_after, state_after}
use Rattle.ell_runs.proofs.lemmas.lifetimes.Joins.{each_joined}
use Rattle.ell_runs.proofs.lemmas.lifetimes.Splits.{each_split}
use Rattle.ell_runs.proofs.lemmas.runs.Hands.{call_held}
use Rattle.ell_runs.proofs.lemmas.runs.TurnsOfRuns.{turn_lawful}
use Rattle.ell_runs.proofs.lemmas.seats.Seats.{machine, mine_is, mine_sound}
use Rattle.ell_cards.proofs.lemmas.refinement.Winning.{gains}

-- a card that waits still does, if nothing was won for it
waits_on : (old new : Stages) → StagesLater old new → (d : ℕ) → waits (old d) ≡ true → wins_of (new d) ≡ wins_of (old d) ++ [] → waits (new d) ≡ true
waits_on old new later d h wins =
    kind-waits (new d) (elim (waits-kind (old d) h) [ inl e ↦ inl (later.insert d e) | inr e ↦ inr (later.delete d e) ])
    (wins ∙ ap (λ ks. ks ++ []) (waits-wins (old d) h))

module _ (plan : TablePlan) (s : TableState) (r : HasMachine plan s) (d : ℕ) (h : IsDiscarded r.stages s.views d) where
  -- it has not won its flag
  pub discarded_not_won : HasWon r.stages d → ⊥
  discarded_not_won has = true≢false (sym h.waits ∙ has.1)

  -- and no call may win that
  not_flagged : (seat : ℕ) (v : View) → get_elem? s.views seat ≡ some v → (c : Call) → May plan c v → FlagsCard c d → ⊥
  not_flagged seat v there (call.IFlag c p from) may is = h.nobody seat v there (may.may.holds ∙ ap Some (sym is))
  not_flagged seat v there (call.DFlag c gp from) may is = h.nobody seat v there (may.may.holds ∙ ap Some (sym is))
  not_flagged seat v there _ may is = is

  -- so a turn wins nothing for it
  pub discarded_wins_none : (t : Turn) (s' : TableState) → TableTurns plan s t s' → turn_wins s t d ≡ []
  discarded_wins_none (Makes seat c) s' turn = elim (gains plan s r seat turn.view turn.there c turn.may d) [
    | inl none ↦ none
    | inr more ↦ elim more [
      | inl won ↦ absurd (discarded_not_won won)
      | inr flags ↦ absurd (not_flagged seat turn.view turn.there c turn.may flags)
    ]
  ]
  discarded_wins_none (Splits seat left) s' turn = refl
  discarded_wins_none (Joins seat other) s' turn = refl

  -- no pass takes it in hand again
  stays_free : (t : Turn) (s' : TableState) → TableTurns plan s t s' → (j : ℕ) (v : View) → get_elem? s'.views j ≡ some v → v.worker.card ≢ Some d
  stays_free (Makes id i) s' turn j u at = λ has.
      let w = after i (found_by s i) turn.view in
      let there : get_elem? (set s.views id w) j ≡ some u = subst (λ (x : TableState). get_elem? x.views j ≡ some u) turn.gives at in
      ⊎_elim
      (λ (t : (j ≡ id) × (w ≡ u)). elim (call_held plan i (found_by s i) turn.view turn.may d (ap (λ (x : View). x.worker.card) t.1 ∙ has)) [
        | inl was ↦ h.nobody id turn.view turn.there was
        | inr claims ↦
            let is : get_or s.words 0 0 ≡ d = ap (found_by s) (sym claims.0.1) ∙ claims.1 in
            let next : get_or s.words 0 0 ≡ r.words.next = r.next in
            let low : d < r.words.next = (r.invariant.words.cards d).claimed.0 h.claimed in
            absurd (omega arith)
      ])
      (λ (t : (j ≢ id) × (get_elem? s.views j ≡ some u)). h.nobody j u t.1 has)
      (at_set s.views id j w u there)
  stays_free (Splits id chosen) s' turn j u at =
      subst (λ (x : TableState). (j : ℕ) (v : View) → get_elem? x.views j ≡ some v → v.worker.card ≢ Some d) (sym turn.gives)
      (each_split s.views id turn.view turn.there (left_view chosen turn.view) (right_view chosen turn.view) (λ v. v.worker.card ≢ Some d)
      (λ e. some_not_none e refl) (λ e. some_not_none e refl) h.nobody) j u at
  stays_free (Joins id other) s' turn j u at =
      subst (λ (x : TableState). (j : ℕ) (v : View) → get_elem? x.views j ≡ some v → v.worker.card ≢ Some d) (sym turn.gives)
      (each_joined s.views id other turn.view turn.view' turn.there turn.there' (λ e. turn.apart (sym e)) (joined_view turn.view turn.view')
      (λ v. v.worker.card ≢ Some d) (λ e. some_not_none e refl) (λ e. some_not_none e refl) h.nobody) j u at

  -- and it stays discarded
  pub discarded_on : (t : Turn) (s' : TableState) → TableTurns plan s t s' → (r' : HasMachine plan s') → StagesLater r.stages r'.stages
      → wins_of (r'.stages d) ≡ wins_of (r.stages d) ++ turn_wins s t d → IsDiscarded r'.stages s'.views d
  discarded_on t s' turn r' later wins =
      let waiting = waits_on r.stages r'.stages later d h.waits (wins ∙ ap (λ ks. wins_of (r.stages d) ++ ks) (discarded_wins_none t s' turn)) in record {
        claimed = waits-claimed (r'.stages d) waiting;
        waits = waiting;
        nobody = stays_free t s' turn;
      }

-- so it does in a run, and that wins nothing for it
pub discarded_in_run : (plan : TablePlan) (s : TableState) (r : HasMachine plan s) (d : ℕ) → IsDiscarded r.stages s.views d → (turns : List Turn) (s' : TableState)
    → (run : TableRun plan s turns s') → ((r' : HasMachine plan s') × IsDiscarded r'.stages s'.views d) × (run_wins plan s turns s' run d ≡ [])
discarded_in_run plan s r d h [] s' run = (subst (λ x. (k : HasMachine plan x) × IsDiscarded k.stages x.views d) (sym run) (r, h), refl)
discarded_in_run plan s r d h (t ∷ ts) s' run =
    let turn = turn_lawful plan s r t run.0 run.1 in
    let rest = discarded_in_run plan run.0 turn.0 d (discarded_on plan s r d h t run.0 run.1 turn.0 turn.1.later (turn.1.wins d)) ts s' run.2 in
    (rest.0, ap (λ ks. ks ++ run_wins plan run.0 ts s' run.2 d) (discarded_wins_none plan s r d h t run.0 run.1) ∙ rest.1)

-- a won flag leaves its card in hand, and a lost one leaves none
flag_holds : (plan : TablePlan) (c : Call) (n : ℕ) (v : View) → May plan c v → (d : ℕ) → FlagsCard c d → is_won (atomic_of c) n ≡ true → (after c n v).worker.card ≡ Some d
flag_holds plan (call.IFlag c p from) n v may d is won =
    ap (λ b. (after_flag b (fact.IFlagged c) p (unpacked n) v).worker.card) won ∙ (may.may.holds ∙ ap Some (sym is))
flag_holds plan (call.DFlag c gp from) n v may d is won =
    ap (λ b. (after_flag b (fact.DFlagged c) gp (unpacked n) v).worker.card) won ∙ (may.may.holds ∙ ap Some (sym is))
flag_holds plan _ n v may d is won = absurd is

flag_drops : (plan : TablePlan) (c : Call) (n : ℕ) (v : View) → May plan c v → (d : ℕ) → FlagsCard c d → is_won (atomic_of c) n ≡ false → (after c n v).worker.card ≡ None
flag_drops plan (call.IFlag c p from) n v may d is lost = ap (λ b. (after_flag b (fact.IFlagged c) p (unpacked n) v).worker.card) lost
flag_drops plan (call.DFlag c gp from) n v may d is lost = ap (λ b. (after_flag b (fact.DFlagged c) gp (unpacked n) v).worker.card) lost
flag_drops plan _ n v may d is lost = absurd is

-- a card that a call flags is in hand
flag_waits : (plan : TablePlan) (c : Call) (v : View) → May plan c v → (d : ℕ) → FlagsCard c d → HoldsWaiting v d
flag_waits plan (call.IFlag c p from) v may d is = (may.may.holds ∙ ap Some (sym is), may.may.unflagged)
flag_waits plan (call.DFlag c gp from) v may d is = (may.may.holds ∙ ap Some (sym is), may.may.unflagged)
flag_waits plan _ v may d is = absurd is

module _ (plan : TablePlan) (s : TableState) (r : HasMachine plan s) (seat : ℕ) (v : View) (there : get_elem? s.views seat ≡ some v) (c : Call) (may : May plan c v) where
  abbrev to : TableState
  to = state_after s seat v c

  -- A card that is not flagged is discarded by a call after which the pass has it in hand no more.
  pub dropped_is_discarded : (d : ℕ) → HoldsWaiting v d → (view_after s v c).worker.card ≢ Some d → (r' : HasMachine plan to) → StagesLater r.stages r'.stages
      → wins_of (r'.stages d) ≡ wins_of (r.stages d) ++ turn_wins s (Makes seat c) d → IsDiscarded r'.stages to.views d
  dropped_is_discarded d hand drops r' later wins = record { claimed = waits-claimed (r'.stages d) waiting; waits = waiting; nobody = nobody }
    where
      waited : waits (r.stages d) ≡ true
      waited = hand_waits r.words r.stages (worker_of v.worker) d (mine_sound plan s r seat v there) hand.0 hand.1

      by : FlagsCard c d → (b : Bool) → is_won (atomic_of c) (found_by s c) ≡ b → (if is_won (atomic_of c) (found_by s c) then win_of c d else []) ≡ []
      by flags true wins = absurd (drops (flag_holds plan c (found_by s c) v may d flags wins))
      by flags false loses = ap (λ b. if b then win_of c d else []) loses

      none : turn_wins s (Makes seat c) d ≡ []
      none = elim (gains plan s r seat v there c may d) [
        | inl is ↦ is
        | inr more ↦ elim more [
          | inl won ↦ absurd (true≢false (sym waited ∙ won.1))
          | inr flags ↦ by flags (is_won (atomic_of c) (found_by s c)) refl
        ]
      ]

      waiting : waits (r'.stages d) ≡ true
      waiting = waits_on r.stages r'.stages later d waited (wins ∙ ap (λ ks. wins_of (r.stages d) ++ ks) none)

      nobody : (j : ℕ) (u : View) → get_elem? to.views j ≡ some u → u.worker.card ≢ Some d
      nobody j u at has = ⊎_elim
          (λ (t : (j ≡ seat) × (view_after s v c ≡ u)). drops (ap (λ (x : View). x.worker.card) t.1 ∙ has))
          (λ (t : (j ≢ seat) × (get_elem? s.views j ≡ some u)).
          let me = mine_is plan s r seat v there in
          let mine : IsUnflagged (machine plan s r seat v there) seat d = record {
            holds = ap (λ (z : Worker). z.card) me ∙ hand.0;
            unflagged = ap (λ (z : Worker). z.flagged) me ∙ hand.1;
          } in
          t.0 (sym (one_hand (machine plan s r seat v there) r.stages r.invariant seat j d mine (ap (λ (z : Worker). z.card) (ap seat_worker t.1) ∙ has))))
          (at_set s.views seat j (view_after s v c) u at)

  -- so is one whose flag is lost
  pub lost_is_discarded : (d : ℕ) → FlagsCard c d → is_won (atomic_of c) (found_by s c) ≡ false → (r' : HasMachine plan to) → StagesLater r.stages r'.stages
      → wins_of (r'.stages d) ≡ wins_of (r.stages d) ++ turn_wins s (Makes seat c) d → IsDiscarded r'.stages to.views d
  lost_is_discarded d flags lost =
      dropped_is_discarded d (flag_waits plan c v may d flags) (λ has. some_not_none has (flag_drops plan c (found_by s c) v may d flags lost))
