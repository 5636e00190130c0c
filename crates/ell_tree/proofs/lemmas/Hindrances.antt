use Rattle.std.proofs.Common.{◌≡◌, ℕ, ◌+◌, ◌≤◌, ◌++◌, ◌&&◌, if◌then◌else◌, Bool, true, false, Option, List, [], ◌∷◌, length, refl, sym, ap, ◌∙◌, subst, arith, length-append}
use Rattle.std.proofs.lemmas.List.{append_cancel_right}
use Rattle.ell_ops.specs.declared.op.Op.{Op}
use Rattle.ell_word.specs.declared.update.State.{State}
use Rattle.ell_word.specs.declared.update.State.TheVariants as state
use Rattle.ell_runs.specs.declared.view.Hindrance.{Hindrance}
use Rattle.ell_runs.specs.declared.view.Hindrance.TheVariants.{Claim, Found}
use Rattle.ell_runs.specs.declared.view.View.{View}
use Rattle.ell_cards.specs.Models.{PassModel}
use Rattle.ell_runs.specs.Views.{Does}
use Rattle.ell_runs.specs.Changes.{is_over, in_the_way, update_over, was_hindered, tries_hindered}
use Rattle.ell_runs.proofs.lemmas.runs.InHand.{met_in_try}
use Rattle.std.specs.List.{list_all}
use Rattle.ell_runs.proofs.lemmas.views.Facts.{ended_test}
use Rattle.ell_tree.specs.Hindrances.{IsEnded, AreOver, way_of}
use Rattle.ell_tree.specs.Searches.{AtRoot}
use Rattle.ell_tree.specs.Tries.{Halts}
use Rattle.ell_tree.proofs.lemmas.Meeting.{over_together, root_way}
use Rattle.ell_tree.proofs.lemmas.Milestones.{help_ended}

-- what was in the way of the try of an operation in hand
try_way : (op : Op) (v : View) → Does v op → met_in_try v ≡ way_of op v ++ v.met
try_way op v busy = ap (λ (o : Option Op). in_the_way o v.worker.search.node v.worker.search.parent v.worker.search.grandparent ++ v.met) busy

-- a try that stands at the root has met nothing
pub root_in_try : (op : Op) (v : View) → AtRoot op v → v.hindrances ≡ v.met ++ v.hindrances
root_in_try op v at = ap (λ hs. hs ++ v.hindrances) (sym at.unmet)

-- so it is not counted
pub root_hindered : (op : Op) (v : View) → AtRoot op v → tries_hindered v ≡ v.hindered
root_hindered op v at =
    let none : met_in_try v ≡ [] = try_way op v at.busy ∙ (ap (λ hs. hs ++ v.met) (root_way op v at.root) ∙ at.unmet) in
    let zero = ap {B = ℕ} (λ hs. if was_hindered v.worker.knows hs then 1 else 0) none in
    omega (arith, zero)

-- no try is counted but the one that is given up
pub one_hindered : (v : View) → (v.hindered ≤ tries_hindered v) × (tries_hindered v ≤ v.hindered + 1)
one_hindered v = by (was_hindered v.worker.knows (met_in_try v))
  where
    by : (b : Bool) → (v.hindered ≤ v.hindered + (if b then 1 else 0)) × (v.hindered + (if b then 1 else 0) ≤ v.hindered + 1)
    by true = (omega arith, omega arith)
    by false = (omega arith, omega arith)

-- what has ended, as a test of the facts
update_test : (w : View) (s : State) (c : ℕ) → IsEnded w s c → update_over w.worker.knows s c ≡ true
update_test w state.IFlag c h = ended_test w.worker.knows c (help_ended w state.IFlag c (λ e. cc) h)
update_test w state.DFlag c h = ended_test w.worker.knows c (help_ended w state.DFlag c (λ e. cc) h)
update_test w state.Mark c h = ended_test w.worker.knows c (help_ended w state.Mark c (λ e. cc) h)
update_test w state.Clean c h = refl

over_test : (w : View) (hs : List Hindrance) → AreOver w hs → list_all (is_over w.worker.knows) hs ≡ true
over_test w [] h = refl
over_test w (Claim c ∷ hs) h = over_test w hs h.1
over_test w (Found u ∷ hs) h = ap (λ b. b && list_all (is_over w.worker.knows) hs) (update_test w u.state u.card h.0) ∙ over_test w hs h.1

-- all that a try met is over, and it met something
hindered_test : (w : View) (hs : List Hindrance) → AreOver w hs → 1 ≤ length hs → was_hindered w.worker.knows hs ≡ true
hindered_test w [] h some = absurd (omega arith)
hindered_test w (x ∷ hs) h some = over_test w (x ∷ hs) h

-- a try that ended without an answer, since something hindered it, is counted once it is given up
pub halts_hindered : (op : Op) (old new : PassModel) → Halts op old new → length old.view.hindrances + 1 ≤ length (way_of op new.view) + length new.view.hindrances
    → tries_hindered new.view ≡ new.view.hindered + 1
halts_hindered op old new h some =
    let same : h.meets.met ≡ new.view.met = append_cancel_right h.meets.met new.view.met old.view.hindrances (sym h.meets.list ∙ h.in_try) in
    let over = over_together new.view (way_of op new.view) new.view.met h.way (subst (AreOver new.view) same h.meets.over) in
    let all = ap length h.in_try in
    let test = hindered_test new.view (way_of op new.view ++ new.view.met) over
    (omega (arith, some, all, length-append new.view.met old.view.hindrances, length-append (way_of op new.view) new.view.met)) in
    let counts = ap (was_hindered new.view.worker.knows) (try_way op new.view h.stops.busy) ∙ test in
    let one = ap {B = ℕ} (λ b. if b then 1 else 0) counts in
    omega (arith, one)
