use Rattle.std.proofs.Common.{if◌then◌else◌, ℕ, List, [], ◌∷◌}
use Rattle.ell_word.specs.declared.update.State.{State}
use Rattle.ell_word.specs.declared.update.State.TheVariants as state
use Rattle.ell_layout.specs.declared.field.Field.{Field}
use Rattle.ell_layout.specs.declared.field.Field.TheVariants as field
use Rattle.ell_core.specs.statements.Told.{is_fixed}
use Rattle.ell_runs.specs.declared.view.Told.{Told}
use Rattle.ell_runs.specs.declared.view.Told.TheVariants.{Met, Info, Expects}
use Rattle.ell_runs.specs.Views.{Has, latest, earlier}
use Rattle.ell_runs.specs.Changes.{places_by, told_info, told_filling}
use Rattle.ell_runs.proofs.lemmas.views.Depths.{met_more, met_there}
use Rattle.ell_runs.specs.Guards.{NamesNode}
use Rattle.ell_word.specs.Link.{link_in}
use Rattle.ell_layout.specs.Cards.{says_by}

-- what was told before where an update's card goes is told
pub places_more : (x : ℕ) (st : State) (c : ℕ) (told : List Told) (e : Told) → Has told e → Has (places_by x st c told) e
places_more x state.IFlag c told e h = earlier e (Info c field.P x) told h
places_more x state.DFlag c told e h = earlier e (Info c field.Gp x) told h
places_more x state.Mark c told e h = earlier e (Info c field.P x) told h
places_more x state.Clean c told e h = h

-- so is what was told before a word of a card
pub info_more : (depth : ℕ) (c : ℕ) (f : Field) (x : ℕ) (told : List Told) (e : Told) → Has told e → Has (told_info depth c f x told) e
info_more depth c field.Gp x told e h = earlier e _ _ (earlier e (Met x) told h)
info_more depth c field.P x told e h = earlier e _ _ (met_more depth x told e h)
info_more depth c field.L x told e h = earlier e _ _ (earlier e _ _ h)
info_more depth c f x told e h = earlier e _ told h

-- what it says is told, and a node that it names is met
pub info_latest : (depth : ℕ) (c : ℕ) (f : Field) (x : ℕ) (told : List Told) → Has (told_info depth c f x told) (Info c f (says_by f x))
info_latest depth c field.Gp x told = latest (Info c field.Gp x) (Met x ∷ told)
info_latest depth c field.P x told = latest _ _
info_latest depth c field.L x told = latest _ _
info_latest depth c f x told = latest _ told

pub info_node : (depth : ℕ) (c : ℕ) (f : Field) (x : ℕ) (told : List Told) → NamesNode f → Has (told_info depth c f x told) (Met (says_by f x))
info_node depth c field.Gp x told h = earlier (Met x) (Info c field.Gp x) (Met x ∷ told) (latest (Met x) told)
info_node depth c field.P x told h = earlier _ _ _ (met_there depth x told)
info_node depth c f x told h = absurd h

-- with the leaf's word the tag that the card expects is told
pub info_tag : (depth : ℕ) (c x : ℕ) (told : List Told) → Has (told_info depth c field.L x told) (Expects c (link_in x).tag)
info_tag depth c x told = earlier _ _ _ (latest _ _)

-- what was told before what fills a card is told
fixed_more : (c : ℕ) (f : Field) (x : ℕ) (told : List Told) (e : Told) → Has told e → Has (if is_fixed f then Info c f x ∷ told else told) e
fixed_more c field.Left x told e h = h
fixed_more c field.Right x told e h = h
fixed_more c field.Update x told e h = h
fixed_more c f x told e h = earlier e (Info c f x) told h

pub filling_more : (c : ℕ) (es : List (Field × ℕ)) (told : List Told) (e : Told) → Has told e → Has (told_filling c es told) e
filling_more c [] told e h = h
filling_more c (d ∷ es) told e h = fixed_more c d.0 d.1 (told_filling c es told) e (filling_more c es told e h)
