use Rattle.std.proofs.Common.{[], subst, inl, inr}
use Rattle.ell_core.proofs.lemmas.outcomes.Decide.{some_not_none}
use Rattle.ell_layout.specs.declared.field.Field.TheVariants as field
use Rattle.ell_runs.specs.declared.call.Call.TheVariants as call
use Rattle.ell_runs.specs.declared.view.Told.TheVariants.{Met, Info}
use Rattle.ell_runs.specs.Views.{Has}
use Rattle.ell_runs.specs.Touching.{RestTouchesTheRoot}

-- nothing is in an empty list
pub has_none : {A : Type 0} (e : A) → Has [] e → ⊥
has_none e h = elim h [ ]

-- a pass at rest may touch nothing but the root and the claim word
pub rest_touches_the_root : RestTouchesTheRoot
rest_touches_the_root plan v rest (call.Upd x) may = absurd (some_not_none may.stands rest.nowhere)
rest_touches_the_root plan v rest (call.Down x right) may = absurd (some_not_none may.busy rest.free)
rest_touches_the_root plan v rest (call.KeyOf x) may = rest.forgot (Met x) may
rest_touches_the_root plan v rest (call.ValueOf x) may = rest.forgot (Met x) may.0
rest_touches_the_root plan v rest (call.Info c f) may = elim may.place.1 [
  | inl at ↦ rest.forgot (Info c field.P may.place.0) at
  | inr at ↦ rest.forgot (Info c field.Gp may.place.0) at
]
rest_touches_the_root plan v rest (call.FrozenChild c p right) may = absurd (rest.forgot (Info c field.P p) may.place)
rest_touches_the_root plan v rest (call.LookDown from to right) may =
    absurd (has_none may.come.glance (subst (λ es. Has es may.come.glance) rest.nothing may.come.among))
rest_touches_the_root plan v rest (call.Fill c f value) may = some_not_none may.holds rest.empty
rest_touches_the_root plan v rest (call.IFlag c p from) may = absurd (some_not_none may.busy rest.free)
rest_touches_the_root plan v rest (call.IChild c p l replaces right) may = absurd (rest.forgot (Info c field.P p) may.parent)
rest_touches_the_root plan v rest (call.IUnflag c p) may = absurd (rest.forgot (Info c field.P p) may.place)
rest_touches_the_root plan v rest (call.DFlag c gp from) may = absurd (some_not_none may.busy rest.free)
rest_touches_the_root plan v rest (call.Mark c p was) may = absurd (rest.forgot (Info c field.P p) may.0.place)
rest_touches_the_root plan v rest (call.DChild c gp p s right) may = absurd (rest.forgot (Info c field.Gp gp) may.grandparent)
rest_touches_the_root plan v rest (call.DUnflag c gp) may = absurd (rest.forgot (Info c field.Gp gp) may.place)
rest_touches_the_root plan v rest (call.Backtrack c gp) may = absurd (rest.forgot (Info c field.Gp gp) may.place)
rest_touches_the_root plan v rest _ may = tt
