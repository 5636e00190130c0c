use Rattle.std.proofs.Common.{◌+◌, ◌≤◌, arith, ◌≡◌, ℕ, Bool, refl, sym, ◌∙◌, ap, subst}
use Rattle.ell_layout.specs.declared.field.Field.{Field}
use Rattle.ell_layout.specs.declared.field.Field.TheVariants as field
use Rattle.ell_runs.specs.declared.view.Told.TheVariants.{Met, Key, Info, Frozen, Expects}
use Rattle.ell_runs.specs.declared.view.View.{View}
use Rattle.ell_runs.specs.declared.view.Sight.{Sight}
use Rattle.ell_cards.specs.Models.{KeepsItsOwn, PassMemory, PassModel, Sees, Steps}
use Rattle.ell_runs.specs.Views.{latest, earlier, IsTold}
use Rattle.ell_runs.proofs.lemmas.views.Afters.{after_key_of, after_info, after_frozen_child}
use Rattle.ell_runs.specs.Guards.{NamesNode}
use Rattle.ell_runs.specs.Depths.{depth_told, depth_of}
use Rattle.ell_runs.specs.Changes.{depth_there}
use Rattle.ell_runs.proofs.lemmas.views.Depths.{met_deep, met_there}
use Rattle.ell_runs.proofs.lemmas.views.Entries.{info_latest, info_node, info_tag}
use Rattle.ell_word.specs.Link.{link_in}
use Rattle.ell_layout.specs.Cards.{says_by}

-- whatever else of a pass becomes another, it keeps its own
pub own_same : (a : PassModel) {view : View} {steps : ℕ} {memory : PassMemory} {sight : Sight} → KeepsItsOwn a (record a { view = view; steps = steps; memory = memory; sight = sight })
own_same a = record { table = refl; label = refl }

-- so it does where a step changed all else
pub own_step : (a b : PassModel) {view : View} {steps : ℕ} {memory : PassMemory} {sight : Sight} → b ≡ record a { view = view; steps = steps; memory = memory; sight = sight }
    → KeepsItsOwn a b
own_step a b s = record { table = ap (λ (m : PassModel). m.table) s; label = ap (λ (m : PassModel). m.label) s }

-- and by steps that come one after the other
pub own_trans : (a b c : PassModel) → KeepsItsOwn a b → KeepsItsOwn b c → KeepsItsOwn a c
own_trans a b c h h' = record { table = h'.table ∙ h.table; label = h'.label ∙ h.label }

-- the view after a step
pub view_after : (old new : PassModel) (v : View) → Steps old new v → new.view ≡ v
view_after old new v s = ap (λ (m : PassModel). m.view) s

-- the view after a step that is not counted yet
pub view_seen : (old new : PassModel) (v : View) → Sees old new v → new.view ≡ v
view_seen old new v s = ap (λ (m : PassModel). m.view) s

-- a key that was asked is told
pub key_told : (old new : PassModel) (x key : ℕ) → Sees old new (after_key_of x key old.view) → IsTold new.view (Key x key)
key_told old new x key s = subst (λ (w : View). IsTold w (Key x key)) (sym (view_seen old new (after_key_of x key old.view) s)) (latest _ _)

-- so is a word of a card, and a node that it names is met
pub info_told : (old new : PassModel) (c : ℕ) (f : Field) (x : ℕ) → Steps old new (after_info c f x old.view) → IsTold new.view (Info c f (says_by f x))
info_told old new c f x s = subst (λ (w : View). IsTold w (Info c f (says_by f x))) (sym (view_after old new (after_info c f x old.view) s)) (info_latest (depth_there old.view c f) c f x old.view.told)

pub info_met : (old new : PassModel) (c : ℕ) (f : Field) (x : ℕ) → Steps old new (after_info c f x old.view) → NamesNode f → IsTold new.view (Met (says_by f x))
info_met old new c f x s h = subst (λ (w : View). IsTold w (Met (says_by f x))) (sym (view_after old new (after_info c f x old.view) s)) (info_node (depth_there old.view c f) c f x old.view.told h)

-- with the leaf's word the tag that the card expects is told
pub tag_told : (old new : PassModel) (c x : ℕ) → Steps old new (after_info c field.L x old.view) → IsTold new.view (Expects c (link_in x).tag)
tag_told old new c x s =
    subst (λ (w : View). IsTold w (Expects c (link_in x).tag)) (sym (view_after old new (after_info c field.L x old.view) s)) (info_tag (depth_there old.view c field.L) c x old.view.told)

-- a child of a marked parent is told, and met
pub frozen_told : (old new : PassModel) (c p : ℕ) (right : Bool) (x : ℕ) → Steps old new (after_frozen_child c p right x old.view) → IsTold new.view (Frozen c right (link_in x).node)
frozen_told old new c p right x s =
    subst (λ (w : View). IsTold w (Frozen c right (link_in x).node)) (sym (view_after old new (after_frozen_child c p right x old.view) s)) (latest _ _)

pub frozen_met : (old new : PassModel) (c p : ℕ) (right : Bool) (x : ℕ) → Steps old new (after_frozen_child c p right x old.view) → IsTold new.view (Met (link_in x).node)
frozen_met old new c p right x s =
    subst (λ (w : View). IsTold w (Met (link_in x).node)) (sym (view_after old new (after_frozen_child c p right x old.view) s)) (earlier _ _ _ (met_there (depth_told old.view.told p + 1) (link_in x).node old.view.told))

-- a card's node is as deep as a pass knows it to be
pub info_deep : (old new : PassModel) (c : ℕ) (f : Field) (x : ℕ) → Steps old new (after_info c f x old.view) → depth_there old.view c f ≤ depth_of new.view (says_by f x)
info_deep old new c f x s = subst (λ (w : View). depth_there old.view c f ≤ depth_of w (says_by f x)) (sym (view_after old new (after_info c f x old.view) s)) (by f)
  where
    by : (g : Field) → depth_there old.view c g ≤ depth_of (after_info c g x old.view) (says_by g x)
    by field.P = met_deep (depth_there old.view c field.P) x old.view.told
    by _ = omega arith
