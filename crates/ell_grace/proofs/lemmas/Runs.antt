use Rattle.std.proofs.Common.{◌≡◌, ℕ, ◌+◌, false, inl, inr, List, [], ◌∷◌, length, nat_le, refl, sym, ◌∙◌, subst}
use Rattle.std.proofs.lemmas.Bool.{false≢true}
use Rattle.ell_core.specs.declared.event.Event.{Event}
use Rattle.ell_core.specs.declared.event.Shown.{Shown}
use Rattle.ell_core.specs.declared.event.Shown.TheVariants as shown
use Rattle.ell_core.specs.state.Machine.{Machine}
use Rattle.ell_core.specs.state.Opening.{Setup, opening}
use Rattle.ell_core.specs.acts.Runs.{Run}
use Rattle.ell_core.specs.tree.Tree.{here, next}
use Rattle.ell_core.specs.history.Stages.{Stages, Born, is_changed, is_cut}
use Rattle.ell_core.specs.history.Invariant.{Invariant}
use Rattle.ell_core.specs.history.Later.{WordsLater, StagesLater}
use Rattle.ell_grace.specs.Gone.{TakesOut, IsGone, OutsAreSound, HasOuts, EveryStateHasOuts}
use Rattle.ell_grace.specs.Cards.{CardsSince}
use Rattle.ell_grace.specs.Operations.{AvoidsGone, WorkerSince, KeepsOn, KnowsNothingGone, OperationsMeetNothingGone}
use Rattle.ell_grace.specs.Looks.{LooksMeetNothingGone}
use Rattle.ell_core.specs.statements.Looks.{Looks, ends, loads, stays}
use Rattle.ell_core.proofs.lemmas.words.Later.{words_same}
use Rattle.ell_core.proofs.lemmas.tree.Paths.{Below-refl, Reached-below}
use Rattle.ell_core.proofs.lemmas.tree.Reached.{OnWalk-below}
use Rattle.ell_core.proofs.lemmas.stages.Advances.{stages_same}
use Rattle.ell_core.proofs.lemmas.stages.LaterKeys.{root_born}
use Rattle.ell_core.proofs.lemmas.opening.Invariant.{start_stages, each_stage}
use Rattle.ell_core.proofs.lemmas.opening.CanOpen.{opening_has}
use Rattle.ell_core.proofs.lemmas.keeping.AllEvents.{steps_follow}
use Rattle.ell_grace.proofs.lemmas.outs.Events.{outs_go_on}
use Rattle.ell_grace.proofs.lemmas.since.Places.{reached_stays}
use Rattle.ell_grace.proofs.lemmas.since.Cards.{cards_begin, cards_go_on}
use Rattle.ell_grace.proofs.lemmas.since.Walks.{walk_goes_on}
use Rattle.ell_grace.proofs.lemmas.since.Workers.{workers_begin, worker_goes_on}
use Rattle.ell_core.proofs.lemmas.runs.Chains.{words_later, stages_later}

-- an opening has taken nothing out
none_taken : (setup : Setup) (c x : ℕ) → TakesOut (opening setup).words (start_stages (length setup.start + 1)) c x → ⊥
none_taken setup c x (inl h) = false≢true (sym (each_stage (λ s. is_changed s ≡ false) (length setup.start + 1) c refl refl) ∙ h.0)
none_taken setup c x (inr h) = false≢true (sym (each_stage (λ s. is_cut s ≡ false) (length setup.start + 1) c refl refl) ∙ h.0)

-- so what it has taken out is sound
pub opening_outs : (setup : Setup) → OutsAreSound (opening setup).words (start_stages (length setup.start + 1))
opening_outs setup = record {
  out = λ c x takes. absurd (none_taken setup c x takes);
  once = λ c d x takes other. absurd (none_taken setup c x takes);
  sibling = λ c cut still. absurd (false≢true (sym (each_stage (λ s. is_cut s ≡ false) (length setup.start + 1) c refl refl) ∙ cut));
}

-- a run keeps what was taken out
outs_ran : (m : Machine) (stage : Stages) (events : List Event) (answers : List Shown) (m' : Machine) → Invariant m stage → OutsAreSound m.words stage
    → Run m events answers m' → HasOuts m'
outs_ran m stage [] [] m' invariant outs run = subst HasOuts (sym run) (record { stages = stage; invariant = invariant; outs = outs })
outs_ran m stage (e ∷ es) (shown.Step said ∷ xs) m' invariant outs run =
    let follows = steps_follow m stage e said run.0 invariant run.1 in
    outs_ran run.0 follows.stages es xs m' follows.invariant (outs_go_on m stage e said run.0 invariant run.1 follows outs) run.2
outs_ran m stage (e ∷ es) (shown.Refused fault ∷ xs) m' invariant outs run =
    outs_ran m stage es xs m' invariant outs (subst (λ n. Run n es xs m') run.1.1 run.2)
outs_ran m stage [] (x ∷ xs) m' invariant outs run = absurd run
outs_ran m stage (e ∷ es) [] m' invariant outs run = absurd run

-- so every state of a run has it
pub every_state_has_outs : EveryStateHasOuts
every_state_has_outs m passed =
    outs_ran (opening passed.setup) (start_stages (length passed.setup.start + 1)) passed.schedule passed.answers m
    (opening_has passed.setup passed.can) (opening_outs passed.setup) passed.run

-- and what an operation has met goes on so
knows_on : (m : Machine) (stage : Stages) (first : Invariant m stage) (i : ℕ) (old : Machine) (before : Stages) (events : List Event) (answers : List Shown) (m' : Machine)
    → Invariant old before → OutsAreSound old.words before → WordsLater m.words old.words → StagesLater stage before
    → CardsSince m.words stage old.words before → WorkerSince m.words stage (m.worker i).knows old.words (old.worker i)
    → Run old events answers m' → KeepsOn stage i events → KnowsNothingGone m stage i m'
knows_on m stage first i old before [] [] m' invariant outs words later cards worker run keeps =
    subst (KnowsNothingGone m stage i) (sym run) (record { later = record { stages = before; invariant = invariant; outs = outs }; cards = cards; worker = worker })
knows_on m stage first i old before (e ∷ es) (shown.Step said ∷ xs) m' invariant outs words later cards worker run keeps =
    let follows = steps_follow old before e said run.0 invariant run.1 in
    knows_on m stage first i run.0 follows.stages es xs m' follows.invariant (outs_go_on old before e said run.0 invariant run.1 follows outs)
    (words_later m.words old.words run.0.words words follows.words) (stages_later stage before follows.stages later follows.later)
    (cards_go_on m stage old before e said run.0 first invariant outs words later run.1 follows cards)
    (worker_goes_on m stage (m.worker i).knows old before e said run.0 i first invariant outs cards words later run.1 worker keeps.0)
    run.2 keeps.1
knows_on m stage first i old before (e ∷ es) (shown.Refused fault ∷ xs) m' invariant outs words later cards worker run keeps =
    knows_on m stage first i old before es xs m' invariant outs words later cards worker (subst (λ n. Run n es xs m') run.1.1 run.2) keeps.1
knows_on m stage first i old before [] (x ∷ xs) m' invariant outs words later cards worker run keeps = absurd run
knows_on m stage first i old before (e ∷ es) [] m' invariant outs words later cards worker run keeps = absurd run

-- so it is where the operation begins at the root
pub operations_meet_nothing_gone : OperationsMeetNothingGone
operations_meet_nothing_gone m has i root events answers m' run keeps =
    knows_on m has.stages has.invariant i m has.stages events answers m' has.invariant has.outs (words_same m.words) (stages_same has.stages)
    (cards_begin m has.stages has.invariant has.outs) (workers_begin m has.stages i has.invariant has.outs root) run keeps

-- a look that goes on from a node whose walk avoids what was gone comes to nothing gone
looks_on : (key : ℕ) (m : Machine) (stage : Stages) (first : Invariant m stage) (old : Machine) (before : Stages) {events : List Event} {answers : List Shown} {m' : Machine} {x y : ℕ}
    → Invariant old before → OutsAreSound old.words before → WordsLater m.words old.words → StagesLater stage before
    → Born before x → AvoidsGone m.words stage old.words key x → Looks key old events answers m' x y → ¬ IsGone m.words stage y
looks_on key m stage first old before {y = y} invariant outs words later born avoids (ends e f) gone = avoids y gone (here f)
looks_on key m stage first old before {x = x} invariant outs words later born avoids (loads inner rest) gone =
    looks_on key m stage first old before invariant outs words later ((invariant.words.children x inner born).born (nat_le (old.words.key x) key))
    (λ z dead on. avoids z dead (next inner on)) rest gone
looks_on key m stage first old before {x = x} invariant outs words later born avoids (stays {between = between} {e = e} {said = shown.Step said} shows rest) gone =
    let follows = steps_follow old before e said between invariant shows in
    looks_on key m stage first between follows.stages follows.invariant (outs_go_on old before e said between invariant shows follows outs)
    (words_later m.words old.words between.words words follows.words) (stages_later stage before follows.stages later follows.later)
    (follows.later.born x born) (walk_goes_on m stage old before e said between first invariant outs words later shows key x born avoids) rest gone
looks_on key m stage first old before {x = x} invariant outs words later born avoids (stays {between = between} {e = e} {said = shown.Refused fault} shows rest) gone =
    let same = sym shows.1 in
    looks_on key m stage first between before (subst (λ (n : Machine). Invariant n before) same invariant)
    (subst (λ (n : Machine). OutsAreSound n.words before) same outs) (subst (λ (n : Machine). WordsLater m.words n.words) same words) later born
    (subst (λ (n : Machine). AvoidsGone m.words stage n.words key x) same avoids) rest gone

-- so does one from node 0
pub looks_meet_nothing_gone : LooksMeetNothingGone
looks_meet_nothing_gone key m has events answers m' y look =
    looks_on key m has.stages has.invariant m has.stages has.invariant has.outs (words_same m.words) (stages_same has.stages)
    (root_born m.words has.stages has.invariant.words)
    (λ z gone on. reached_stays m.words has.stages has.invariant.words has.outs z (Reached-below m.words 0 z (Below-refl m.words 0) (OnWalk-below m.words key on)) gone) look
