use Rattle.std.proofs.Common.{◌≡◌, ◌≢◌, ℕ, false, None, List, [], ◌∷◌, set, refl, sym, ap, ◌∙◌, subst, ⊎_elim, ◌⊎◌, true, Contains, Option, Bool, nat_le, inl, inr, Some}
use mathlib.Core.Option.{Option as Item, some, none}
use lib.ListN.{get_elem?}
use Rattle.ell_runs.proofs.lemmas.words.Lists.{at_set}
use Rattle.ell_runs.specs.declared.view.View.{View}
use Rattle.ell_runs.specs.Changes.{first_of, ownable_if, left_view, right_view, joined_view}
use Rattle.std.specs.Option.{option_or}
use Rattle.ell_runs.specs.Calls.{after}
use Rattle.ell_runs.specs.States.{TableState, seat_worker}
use Rattle.ell_runs.specs.Turns.{Turn, Makes, Splits, Joins, TableTurns, TableRun, found_by}
use Rattle.ell_runs.specs.Starts.{IsReached, IsSharedIn}
use Rattle.ell_runs.proofs.lemmas.seats.Staying.{owned_stays}
use Rattle.ell_runs.proofs.lemmas.lifetimes.Splits.{each_split}
use Rattle.ell_runs.proofs.lemmas.lifetimes.Joins.{each_joined}
use Rattle.ell_runs.proofs.lemmas.lifetimes.Openings.{each_first, shared_apart}
use Rattle.ell_runs.specs.Plans.{TablePlan}
use Rattle.std.proofs.lemmas.Bool.{false≢true, leb-true, le-leb}
use Rattle.ell_core.specs.state.Machine.{shared_of}
use Rattle.ell_ops.specs.Meaning.{greatest_key}
use Rattle.ell_core.proofs.lemmas.outcomes.Decide.{some_not_none}
use Rattle.ell_ops.specs.KeySet.{set_of}
use Rattle.ell_runs.proofs.lemmas.runs.Reaching.{reached_kept}

-- a pass takes no key for a shared one
abbrev Closed : View → Type 0
Closed v = v.worker.shared ≡ None

-- no pass of a table takes any key for shared
abbrev NobodyShares : TableState → Type 0
NobodyShares s = (j : ℕ) (v : View) → get_elem? s.views j ≡ some v → v.worker.shared ≡ None

turn_closed : (plan : TablePlan) (s : TableState) (t : Turn) (s' : TableState) → TableTurns plan s t s' → NobodyShares s → NobodyShares s'
turn_closed plan s (Makes id c) s' turn h = λ j u at.
    let w = after c (found_by s c) turn.view in
    let there : get_elem? (set s.views id w) j ≡ some u = subst (λ (x : TableState). get_elem? x.views j ≡ some u) turn.gives at in
    ⊎_elim
    (λ (t : (j ≡ id) × (w ≡ u)). subst Closed t.1 (owned_stays c (found_by s c) turn.view ∙ h id turn.view turn.there))
    (λ (t : (j ≢ id) × (get_elem? s.views j ≡ some u)). h j u t.1)
    (at_set s.views id j w u there)
turn_closed plan s (Splits id chosen) s' turn h =
    let left = left_view chosen turn.view in
    let right = right_view chosen turn.view in
    let none = h id turn.view turn.there in
    subst NobodyShares (sym turn.gives) (each_split s.views id turn.view turn.there left right Closed none none h)
turn_closed plan s (Joins id other) s' turn h =
    let both = joined_view turn.view turn.view' in
    subst NobodyShares (sym turn.gives)
    (each_joined s.views id other turn.view turn.view' turn.there turn.there' (λ e. turn.apart (sym e)) both Closed
    ((λ t. option_or (h id turn.view turn.there t) (h other turn.view' turn.there' t))) refl h)

run_closed : (plan : TablePlan) (s : TableState) (turns : List Turn) (s' : TableState) → TableRun plan s turns s' → NobodyShares s → NobodyShares s'
run_closed plan s [] s' run h = subst NobodyShares (sym run) h
run_closed plan s (t ∷ ts) s' run h = run_closed plan run.0 ts s' run.2 (turn_closed plan s t run.0 run.1 h)

-- so it is wherever turns have led a table where no key is shared
pub reached_closed : (plan : TablePlan) (s : TableState) → plan.shared ≡ false → IsReached plan s → NobodyShares s
reached_closed plan s closed h = run_closed plan h.first h.turns s h.run
    (subst NobodyShares (sym h.starts.is) (each_first (first_of plan) Closed (ap (λ b. ownable_if b plan.keys) closed)))

-- a key that some pass takes for a shared one is shared
pub shared_is : (plan : TablePlan) (s : TableState) → IsReached plan s → (i key : ℕ) → (seat_worker (get_elem? s.views i)).shared key ≡ true → IsSharedIn plan key
shared_is plan s h i key e = by (get_elem? s.views i) refl e
  where
    of : (b : Bool) → plan.shared ≡ b → (v : View) → get_elem? s.views i ≡ some v → (o : Option (List ℕ)) → v.worker.shared ≡ o → shared_of o key ≡ true
        → IsSharedIn plan key
    of b mode v at None is e = absurd (false≢true e)
    of false mode v at (Some l) is e = absurd (some_not_none is (reached_closed plan s mode h i v at))
    of true mode v at (Some l) is e =
        let apart = shared_apart true plan.keys key (ap (λ x. shared_of (Some x) key) (sym ((reached_kept plan s h).listed i v l at is)) ∙ e) in
        record { mode = mode; real = apart.0; other = apart.1 }

    by : (o : Item View) → get_elem? s.views i ≡ o → (seat_worker o).shared key ≡ true → IsSharedIn plan key
    by none at e = absurd (false≢true e)
    by (some v) at e = of plan.shared refl v at v.worker.shared refl e

-- so a key of which something follows where no pass takes it for a shared one is so, or is shared
pub tree_key_is : (plan : TablePlan) (s : TableState) → IsReached plan s → (key : ℕ)
    → (((i : ℕ) → (seat_worker (get_elem? s.views i)).shared key ≡ false) → Contains plan.keys key) → Contains plan.keys key ⊎ IsSharedIn plan key
tree_key_is plan s h key owned = by plan.shared (nat_le key greatest_key) (set_of plan.keys key) refl refl refl
  where
    unshared : (IsSharedIn plan key → ⊥) → (i : ℕ) → (seat_worker (get_elem? s.views i)).shared key ≡ false
    unshared apart i = elim ((seat_worker (get_elem? s.views i)).shared key) as (λ b. (seat_worker (get_elem? s.views i)).shared key ≡ b → b ≡ false) [
      | true ↦ λ e. absurd (apart (shared_is plan s h i key e))
      | false ↦ λ e. refl
    ] refl

    by : (a b c : Bool) → plan.shared ≡ a → nat_le key greatest_key ≡ b → set_of plan.keys key ≡ c → Contains plan.keys key ⊎ IsSharedIn plan key
    by true true false mode real other = inr (record { mode = mode; real = leb-true key greatest_key real; other = other })
    by a b true mode real other = inl (owned (unshared (λ is. false≢true (sym is.other ∙ other))))
    by false b c mode real other = inl (owned (unshared (λ is. false≢true (sym mode ∙ is.mode))))
    by a false c mode real other = inl (owned (unshared (λ is. false≢true (sym real ∙ le-leb key greatest_key is.real))))

-- no other pass takes any key for a shared one
abbrev pub IsAlone : TableState → ℕ → Type 0
IsAlone s id = (j : ℕ) (u : View) → get_elem? s.views j ≡ some u → (j ≡ id) ⊎ (u.worker.shared ≡ None)

pub only_sharer : (s : TableState) (id : ℕ) → IsAlone s id → (j key : ℕ) → (seat_worker (get_elem? s.views j)).shared key ≡ true → j ≡ id
only_sharer s id alone j key e = by (get_elem? s.views j) refl e
  where
    by : (o : Item View) → get_elem? s.views j ≡ o → (seat_worker o).shared key ≡ true → j ≡ id
    by none at e = absurd (false≢true e)
    by (some v) at e = elim (alone j v at) [
      | inl same ↦ same
      | inr takes_none ↦ absurd (false≢true (sym (ap (λ o. shared_of o key) takes_none) ∙ e))
    ]
