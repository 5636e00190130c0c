use Rattle.std.proofs.Common.{◌≡◌, ℕ, None, [], ◌∷◌, refl, subst, inl, inr, arith}
use Rattle.ell_core.proofs.lemmas.outcomes.Decide.{some_not_none}
use Rattle.ell_layout.specs.declared.field.Field.TheVariants as field
use Rattle.ell_runs.specs.declared.call.Call.{Call}
use Rattle.ell_runs.specs.declared.call.Call.TheVariants as call
use Rattle.ell_runs.specs.declared.view.Told.{Told}
use Rattle.ell_runs.specs.declared.view.Told.TheVariants.{Met, Key, Info}
use Rattle.ell_runs.specs.declared.view.View.{View}
use Rattle.ell_runs.specs.Plans.{TablePlan}
use Rattle.ell_runs.specs.Views.{Has, latest, earlier}
use Rattle.ell_runs.specs.Changes.{forgotten}
use Rattle.ell_runs.specs.Calls.{Load, Exchange, atomic_of, after, May}
use Rattle.ell_runs.specs.Touching.{IsOfRoot, IsAtRest}
use Rattle.ell_cards.specs.Shown.{IsNoClaim}
use Rattle.ell_cards.specs.Stepping.{IsQuiet}
use Rattle.ell_cards.specs.Refinement.{FlagsCard}
use Rattle.ell_runs.proofs.lemmas.lifetimes.Idle.{root_alone}
use Rattle.ell_runs.proofs.lemmas.runs.Rests.{has_none}

-- a pass that has forgotten what it was told, has nothing in hand, and stands nowhere
pub is_at_rest : (v : View) → v.worker.operation ≡ None → v.worker.search.node ≡ None → v.worker.card ≡ None → v.told ≡ forgotten → v.glances ≡ [] → IsAtRest v
is_at_rest v free nowhere empty told nothing = record {
  free = free;
  nowhere = nowhere;
  empty = empty;
  forgot = λ e has. root_alone IsOfRoot refl e (subst (λ es. Has es e) told has);
  nothing = nothing;
}

module _ (v : View) (rest : IsAtRest v) where
  -- who was told something of the root more is at rest too
  told_more : (w : View) (new : Told) → IsOfRoot new → w.told ≡ new ∷ v.told → w.worker.operation ≡ None
      → w.worker.search.node ≡ None → w.worker.card ≡ None → w.glances ≡ [] → IsAtRest w
  told_more w new root told free nowhere empty nothing = record {
    free = free;
    nowhere = nowhere;
    empty = empty;
    forgot = λ e has. each e (subst (λ es. Has es e) told has);
    nothing = nothing;
  }
    where
      each : (e : Told) → Has (new ∷ v.told) e → IsOfRoot e
      each e (latest _ _) = root
      each e (earlier _ _ _ h) = rest.forgot e h

  -- and who was told nothing new
  told_same : (w : View) → w.told ≡ v.told → w.worker.operation ≡ None → w.worker.search.node ≡ None → w.worker.card ≡ None → w.glances ≡ [] → IsAtRest w
  told_same w told free nowhere empty nothing = record {
    free = free;
    nowhere = nowhere;
    empty = empty;
    forgot = λ e has. rest.forgot e (subst (λ es. Has es e) told has);
    nothing = nothing;
  }

  -- a step call that begins nothing leaves a pass at rest that was
  pub stays_at_rest : (plan : TablePlan) (c : Call) (n : ℕ) → IsQuiet c → May plan c v → IsAtRest (after c n v)
  stays_at_rest plan (call.Begin op) n quiet may = absurd quiet
  stays_at_rest plan call.Look n quiet may = absurd quiet
  stays_at_rest plan call.Again n quiet may = absurd (some_not_none may.busy rest.free)
  stays_at_rest plan call.Leave n quiet may = is_at_rest _ refl refl refl refl refl
  stays_at_rest plan (call.Answer said took) n quiet may = is_at_rest _ refl refl refl refl refl
  stays_at_rest plan (call.Upd x) n quiet may = absurd (some_not_none may.stands rest.nowhere)
  stays_at_rest plan (call.Down x right) n quiet may = absurd (some_not_none may.busy rest.free)
  stays_at_rest plan call.Next n quiet may = told_same _ refl rest.free rest.nowhere rest.empty rest.nothing
  stays_at_rest plan (call.KeyOf x) n quiet may = told_more _ (Key x n) (rest.forgot (Met x) may) refl rest.free rest.nowhere rest.empty rest.nothing
  stays_at_rest plan (call.ValueOf x) n quiet may = absurd (may.1 (let root = rest.forgot (Met x) may.0 in omega arith))
  stays_at_rest plan (call.Info c f) n quiet may = elim may.place.1 [
    | inl at ↦ absurd (rest.forgot (Info c field.P may.place.0) at)
    | inr at ↦ absurd (rest.forgot (Info c field.Gp may.place.0) at)
  ]
  stays_at_rest plan (call.FrozenChild c p right) n quiet may = absurd (rest.forgot (Info c field.P p) may.place)
  stays_at_rest plan (call.LookDown from to right) n quiet may = absurd (has_none may.come.glance (subst (λ es. Has es may.come.glance) rest.nothing may.come.among))
  stays_at_rest plan call.Rest n quiet may = is_at_rest _ refl refl refl refl refl
  stays_at_rest plan (call.Claim c node_key) n quiet may = absurd (some_not_none may.0.busy rest.free)
  stays_at_rest plan (call.Fill c f value) n quiet may = told_same _ refl rest.free rest.nowhere rest.empty rest.nothing
  stays_at_rest plan (call.IFlag c p from) n quiet may = absurd (some_not_none may.busy rest.free)
  stays_at_rest plan (call.IChild c p l replaces right) n quiet may = absurd (rest.forgot (Info c field.P p) may.parent)
  stays_at_rest plan (call.IUnflag c p) n quiet may = absurd (rest.forgot (Info c field.P p) may.place)
  stays_at_rest plan (call.DFlag c gp from) n quiet may = absurd (some_not_none may.busy rest.free)
  stays_at_rest plan (call.Mark c p was) n quiet may = absurd (rest.forgot (Info c field.P p) may.0.place)
  stays_at_rest plan (call.DChild c gp p s right) n quiet may = absurd (rest.forgot (Info c field.Gp gp) may.grandparent)
  stays_at_rest plan (call.DUnflag c gp) n quiet may = absurd (rest.forgot (Info c field.Gp gp) may.place)
  stays_at_rest plan (call.Backtrack c gp) n quiet may = absurd (rest.forgot (Info c field.Gp gp) may.place)

-- no exchange begins anything
pub exchange_is_quiet : (c : Call) (expected value : ℕ) → atomic_of c ≡ Exchange expected value → IsQuiet c
exchange_is_quiet (call.Begin op) expected value is = cc
exchange_is_quiet call.Look expected value is = cc
exchange_is_quiet _ expected value is = tt

-- no load claims a card, and no call that sets a flag
pub load_claims_none : (c : Call) → atomic_of c ≡ Load → IsNoClaim c
load_claims_none (call.Claim c node_key) is = absurd cc
load_claims_none _ is = tt

pub flag_claims_none : (c : Call) (d : ℕ) → FlagsCard c d → IsNoClaim c
flag_claims_none (call.Claim c node_key) d flags = flags
flag_claims_none _ d flags = tt
