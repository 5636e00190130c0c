use Rattle.std.proofs.Common.{◌≡◌, ℕ, suc, ◌+◌, ◌==◌, arith, Option, Some, None, List, [], ◌∷◌, ◌++◌, set, inl, inr, ◌⊎◌, refl, sym, ap, ap₂, ◌∙◌, subst}
use Rattle.std.proofs.lemmas.Bool.{cases_lt}
use mathlib.Core.Option.{some, some-ne-none}
use lib.ListN.{get_elem?}
use Rattle.ell_runs.proofs.lemmas.words.Lists.{at_set, at_snoc}
use Rattle.ell_word.specs.Word.{packed, unpacked}
use Rattle.ell_core.specs.declared.fact.Fact.TheVariants as fact
use Rattle.ell_runs.specs.declared.call.Call.{Call}
use Rattle.ell_runs.specs.declared.call.Call.TheVariants as call
use Rattle.ell_layout.specs.Words.{Words}
use Rattle.ell_runs.specs.Machines.{HasMachine}
use Rattle.ell_runs.specs.declared.glance.Glance.{Glance}
use Rattle.ell_runs.specs.declared.view.View.{View}
use Rattle.ell_runs.specs.Changes.{left_view, right_view, joined_view, spent_view, first_of}
use Rattle.ell_runs.specs.Calls.{after, May}
use Rattle.ell_runs.specs.Guards.{TellsOf}
use Rattle.ell_runs.specs.TurnEffects.{own_words}
use Rattle.ell_runs.specs.States.{TableState}
use Rattle.ell_runs.specs.Starts.{Starts}
use Rattle.ell_runs.specs.Turns.{CallIsMade, Turn, Makes, Splits, Joins, TableTurns, TableRun, found_by, view_after}
use Rattle.ell_runs.specs.Looking.{BeginsNothing, LooksOn, Began, HasFound, HasMissed, FoundInRun, HasThere, WasSo, HasBetween, HasFoundBetween, TellsBetween, LooksAreInOrder, StretchesAreInOrder}
use Rattle.ell_runs.proofs.lemmas.runs.Glances.{claim_look, flag_look, mark_look, stretches_of_one_state, keys_of_one_state}
use Rattle.ell_runs.proofs.lemmas.runs.Starting.{starts_are_kept}
use Rattle.ell_runs.proofs.lemmas.runs.TurnsOfRuns.{runs_are_lawful}
use Rattle.ell_runs.specs.Plans.{TablePlan, flat_from}
use Rattle.ell_runs.specs.Views.{Has}

-- there is a glance
abbrev IsSome : List Glance → Type 0
IsSome [] = ⊥
IsSome (g ∷ gs) = Unit {0}

some_glance : (gs : List Glance) (g : Glance) → Has gs g → IsSome gs
some_glance [] g has = elim has [ ]
some_glance (d ∷ gs) g has = tt

module _ (plan : TablePlan) (seat : ℕ) where
  -- the pass in the seat looks
  record LooksHere (s : TableState) : Type 0 where
    view : View
    there : get_elem? s.views seat ≡ some view
    looks : IsSome view.glances

  -- the call that a look was before: the one that began it, or another, before which it was under way
  abbrev Before : Call → View → Type 0
  Before c v = (c ≡ call.Look) ⊎ (BeginsNothing c × IsSome v.glances)

  look_before : (c : Call) (n : ℕ) (v : View) → May plan c v → IsSome (after c n v).glances → Before c v
  look_before call.Look n v may e = inl refl
  look_before (call.LookDown from key right) n v may e = inr (tt, some_glance v.glances may.come.glance may.come.among)
  look_before (call.Claim c q) n v may e = inr (tt, subst IsSome (claim_look (n == c) c q v) e)
  look_before (call.IFlag c p from) n v may e = inr (tt, subst IsSome (flag_look (n == packed from) (fact.IFlagged c) p (unpacked n) v) e)
  look_before (call.DFlag c gp from) n v may e = inr (tt, subst IsSome (flag_look (n == packed from) (fact.DFlagged c) gp (unpacked n) v) e)
  look_before (call.Mark c p was) n v may e = inr (tt, subst IsSome (mark_look (n == was) c p (unpacked n) v) e)
  look_before (call.Begin op) n v may e = absurd e
  look_before call.Again n v may e = absurd e
  look_before call.Rest n v may e = absurd e
  look_before call.Leave n v may e = absurd e
  look_before (call.Answer said took) n v may e = absurd e
  look_before (call.Upd x) n v may e = inr (tt, e)
  look_before (call.Down x right) n v may e = inr (tt, e)
  look_before call.Next n v may e = inr (tt, e)
  look_before (call.KeyOf x) n v may e = inr (tt, e)
  look_before (call.ValueOf x) n v may e = inr (tt, e)
  look_before (call.Info c f) n v may e = inr (tt, e)
  look_before (call.FrozenChild c p right) n v may e = inr (tt, e)
  look_before (call.Fill c f value) n v may e = inr (tt, e)
  look_before (call.IChild c p l replaces right) n v may e = inr (tt, e)
  look_before (call.IUnflag c p) n v may e = inr (tt, e)
  look_before (call.DChild c gp p y right) n v may e = inr (tt, e)
  look_before (call.DUnflag c gp) n v may e = inr (tt, e)
  look_before (call.Backtrack c gp) n v may e = inr (tt, e)

  -- a view without a look is not one that looks
  no_look : (v u : View) → v.glances ≡ [] → v ≡ u → IsSome u.glances → ⊥
  no_look v u none same looks = subst IsSome (sym (ap (λ (w : View). w.glances) same) ∙ none) looks

  -- the turn before which a look is: the call that began it, or another
  turn_back : (s : TableState) (t : Turn) (s' : TableState) → TableTurns plan s t s' → LooksHere s'
      → (t ≡ Makes seat call.Look) ⊎ (LooksOn seat (t ∷ []) × LooksHere s)
  turn_back s (Makes other c) s' h at =
      let v = view_after s h.view c in
      let now : get_elem? (set s.views other v) seat ≡ some at.view = ap (λ (t : TableState). get_elem? t.views seat) (sym h.gives) ∙ at.there in
      elim (at_set s.views other seat v at.view now) [
        | inl e ↦ elim (look_before c (found_by s c) h.view h.may (subst (λ (w : View). IsSome w.glances) (sym e.1) at.looks)) [
          | inl is ↦ inl (ap₂ Makes (sym e.0) is)
          | inr was ↦ inr ((λ same. was.0, tt), record { view = h.view; there = ap (get_elem? s.views) e.0 ∙ h.there; looks = was.1 })
        ]
        | inr e ↦ inr ((λ same. absurd (e.0 (sym same)), tt), record { view = at.view; there = e.1; looks = at.looks })
      ]
  turn_back s (Splits other left) s' h at =
      let v = left_view left h.view in
      let w = right_view left h.view in
      let now : get_elem? (set s.views other v ++ w ∷ []) seat ≡ some at.view = ap (λ (t : TableState). get_elem? t.views seat) (sym h.gives) ∙ at.there in
      elim (at_snoc (set s.views other v) w at.view seat now) [
        | inl there ↦ elim (at_set s.views other seat v at.view there) [
          | inl e ↦ absurd (no_look v at.view refl e.1 at.looks)
          | inr e ↦ inr ((λ same. e.0 (sym same), tt), record { view = at.view; there = e.1; looks = at.looks })
        ]
        | inr e ↦ absurd (no_look w at.view refl e at.looks)
      ]
  turn_back s (Joins one other) s' h at =
      let v = joined_view h.view h.view' in
      let now : get_elem? (set (set s.views one v) other spent_view) seat ≡ some at.view = ap (λ (t : TableState). get_elem? t.views seat) (sym h.gives) ∙ at.there in
      elim (at_set (set s.views one v) other seat spent_view at.view now) [
        | inl e ↦ absurd (no_look spent_view at.view refl e.1 at.looks)
        | inr e ↦ elim (at_set s.views one seat v at.view e.1) [
          | inl d ↦ absurd (no_look v at.view refl d.1 at.looks)
          | inr d ↦ inr ((λ same. d.0 (sym same), λ same. e.0 (sym same), tt), record { view = at.view; there = d.1; looks = at.looks })
        ]
      ]

  more_looks : (t : Turn) (ts : List Turn) → LooksOn seat (t ∷ []) → LooksOn seat ts → LooksOn seat (t ∷ ts)
  more_looks (Makes other c) ts h rest = (h.0, rest)
  more_looks (Splits other left) ts h rest = (h.0, rest)
  more_looks (Joins one other) ts h rest = (h.0, h.1, rest)

  -- a look at the end of a run began in it, or was under way all along
  run_back : (s : TableState) (turns : List Turn) (s' : TableState) → TableRun plan s turns s' → LooksHere s'
      → Began plan s turns s' seat ⊎ (LooksOn seat turns × LooksHere s)
  run_back s [] s' run at = inr (tt, subst LooksHere run at)
  run_back s (t ∷ ts) s' run at = elim (run_back run.0 ts s' run.2 at) [
    | inl b ↦ inl (record {
      first = suc b.first;
      from = b.from;
      to = b.to;
      at = b.at;
      before = (run.0, run.1, b.before);
      call = b.call;
      after = b.after;
      on = b.on;
    })
    | inr h ↦ elim (turn_back s t run.0 run.1 h.1) [
      | inl is ↦ inl (record {
        first = 0;
        from = s;
        to = run.0;
        at = ap (λ (u : Turn). some u) is;
        before = refl;
        call = subst (λ u. TableTurns plan s u run.0) is run.1;
        after = run.2;
        on = h.0;
      })
      | inr k ↦ inr (more_looks t ts k.0 h.0, k.1)
    ]
  ]

-- no pass looks at a start
starts_still : (plan : TablePlan) (s : TableState) → Starts plan s → (seat : ℕ) → LooksHere plan seat s → ⊥
starts_still plan s starts seat at =
    elim (at_snoc [] (first_of plan) at.view seat (ap (λ (t : TableState). get_elem? t.views seat) (sym starts.is) ∙ at.there)) [
      | inl e ↦ absurd (some-ne-none at.view (sym e))
      | inr e ↦ no_look plan seat (first_of plan) at.view refl e at.looks
    ]

-- so each look began in the run, and what it finds is so since
since_it_began : (plan : TablePlan) (v : View) (what : Words → Type 0) (g : Glance) → Has v.glances g → (s : TableState) → Starts plan s → (turns : List Turn) (s' : TableState)
    → TableRun plan s turns s' → (seat : ℕ) → get_elem? s'.views seat ≡ some v
    → ((from : TableState) → HasMachine plan from → (to : TableState) → CallIsMade plan from seat call.Look to → (more : List Turn) → TableRun plan to more s' → LooksOn seat more
    → WasSo plan to more s' what)
    → FoundInRun plan s turns s' seat what
since_it_began plan v what g among s starts turns s' run seat there so =
    let kept = (starts_are_kept plan s starts).kept in
    elim (run_back plan seat s turns s' run (record { view = v; there = there; looks = some_glance v.glances g among })) [
      | inl b ↦ record { began = b; so = so b.from (runs_are_lawful plan s kept _ b.from b.before).kept b.to b.call _ b.after b.on }
      | inr h ↦ absurd (starts_still plan s starts seat h.1)
    ]

-- so it is in every run to a state in which a pass knows this itself
abbrev pub IsFoundThere : TablePlan → View → (Words → Type 0) → Type 0
IsFoundThere plan v what = (s : TableState) → Starts plan s → (turns : List Turn) (s' : TableState)
    → TableRun plan s turns s' → (seat : ℕ) → get_elem? s'.views seat ≡ some v → FoundInRun plan s turns s' seat what

-- what a look has found of a stretch was so
pub stretch_there : (plan : TablePlan) (v : View) (low high : ℕ) (there : Option (ℕ × ℕ)) → HasFoundBetween (flat_from plan) v low high there
    → IsFoundThere plan v (HasBetween low high there)
stretch_there plan v low high said found s starts turns s' run seat there =
    since_it_began plan v (HasBetween low high said) found.comes.come.glance found.comes.come.among s starts turns s' run seat there
    (λ from kept to call more after on. stretches_of_one_state plan v low high said found from kept seat to call more s' after on there)

-- of two looks, one after the other, the second is of no earlier state
pub stretches_are_in_order : StretchesAreInOrder
stretches_are_in_order plan s starts turns ended run seat v at first found other begun call more s' run' on w at' second found' =
    let kept = (runs_are_lawful plan s (starts_are_kept plan s starts).kept turns ended run).kept in (
      stretch_there plan v first.0 first.1 first.2 found s starts turns ended run seat at,
      stretches_of_one_state plan w second.0 second.1 second.2 found' ended kept other begun call more s' run' on at',
    )

-- a key with its value, if it has one
abbrev pub with_key : ℕ → Option ℕ → Option (ℕ × ℕ)
with_key key None = None
with_key key (Some value) = Some (key, value)

-- what was told of a leaf about one key was told about a stretch
tells_key : (from : ℕ) (v : View) (key : ℕ) (there : Option ℕ) (found : HasFound v key there)
    → TellsBetween from v found.leaf found.leaf_key key (key + 1) (with_key key there)
tells_key from v key there found = by there found.tells
  where
    by : (o : Option ℕ) → TellsOf v found.leaf found.leaf_key key o → TellsBetween from v found.leaf found.leaf_key key (key + 1) (with_key key o)
    by None other = inl (found.outer, elim (cases_lt found.leaf_key key) [ inl less ↦ inl less | inr most ↦ inr (omega arith) ])
    by (Some value) tells = (found.outer, tells.0, omega arith, omega arith, tells.1)

was_of_key : (plan : TablePlan) (s : TableState) (turns : List Turn) (s' : TableState) (key : ℕ) (there : Option ℕ)
    → WasSo plan s turns s' (HasBetween key (key + 1) (with_key key there)) → WasSo plan s turns s' (HasThere key there)
unfolding HasThere HasBetween
was_of_key plan s turns s' key there was = record { state = was.state; amid = was.amid; so = by there was.so }
  where
    by : (o : Option ℕ) → HasBetween key (key + 1) (with_key key o) (own_words was.state) → HasThere key o (own_words was.state)
    by None so = so key (omega arith) (omega arith)
    by (Some value) so = so.2

-- so it is with a look of one key
look_of_one_state : (plan : TablePlan) (v : View) (key : ℕ) (there : Option ℕ) → HasFound v key there → (s : TableState) → HasMachine plan s → (seat : ℕ) (s1 : TableState)
    → CallIsMade plan s seat call.Look s1 → (turns : List Turn) (s' : TableState) → TableRun plan s1 turns s' → LooksOn seat turns → get_elem? s'.views seat ≡ some v
    → WasSo plan s1 turns s' (HasThere key there)
look_of_one_state plan v key said found s r seat s1 call turns s' run on there =
    was_of_key plan s1 turns s' key said
    (keys_of_one_state plan v key found.leaf found.leaf_key (with_key key said) found.comes found.told (tells_key (flat_from plan) v key said found) s r seat s1 call turns s' run on there)

pub look_there : (plan : TablePlan) (v : View) (key : ℕ) (there : Option ℕ) → HasFound v key there → IsFoundThere plan v (HasThere key there)
look_there plan v key said found s starts turns s' run seat there =
    since_it_began plan v (HasThere key said) found.comes.glance found.comes.among s starts turns s' run seat there
    (λ from kept to call more after on. look_of_one_state plan v key said found from kept seat to call more s' after on there)

-- and with a key that it has found missing
pub missing_in_one_state : (plan : TablePlan) (v : View) (key : ℕ) → HasMissed (flat_from plan) v key → IsFoundThere plan v (HasThere key None)
missing_in_one_state plan v key missed s starts turns s' run seat there =
    since_it_began plan v (HasThere key None) missed.comes.glance missed.comes.among s starts turns s' run seat there
    (λ from kept to call more after on. was_of_key plan to more s' key None
    (keys_of_one_state plan v key missed.node missed.node_key None missed.comes missed.told (inr missed.lacks) from kept seat to call more s' after on there))

pub looks_are_in_order : LooksAreInOrder
looks_are_in_order plan s starts turns ended run seat v at first found other begun call more s' run' on w at' second found' =
    let kept = (runs_are_lawful plan s (starts_are_kept plan s starts).kept turns ended run).kept in (
      look_there plan v first.0 first.1 found s starts turns ended run seat at,
      look_of_one_state plan w second.0 second.1 found' ended kept other begun call more s' run' on at',
    )
