use Rattle.std.proofs.Common.{◌≡◌, ℕ, ◌+◌, ◌%◌, true, false, inl, inr, List, [], ◌∷◌, length, refl, sym, ◌∙◌, subst}
use Rattle.std.proofs.lemmas.Bool.{false≢true}
use Rattle.ell_word.specs.Node.{card}
use Rattle.ell_core.specs.declared.event.Event.{Event}
use Rattle.ell_core.specs.declared.event.Shown.{Shown}
use Rattle.ell_core.specs.declared.event.Shown.TheVariants as shown
use Rattle.ell_core.specs.state.Machine.{Machine}
use Rattle.ell_core.specs.state.Opening.{Setup, opening}
use Rattle.ell_core.specs.acts.Runs.{Run}
use Rattle.ell_core.specs.history.Stages.{Stages, is_changed}
use Rattle.ell_core.specs.history.Invariant.{Invariant}
use Rattle.ell_grace.specs.Gone.{OutsAreSound}
use Rattle.ell_grace.specs.Dead.{UsesAreSound, HasUses, EveryStateHasUses, UsesBegin, EventsKeepUses, DeadStaysDead, DeadCardsHaveEnded, NeverComesStaysOut, TakenOutHadCome, ChildrenWereNotDead}
use Rattle.ell_core.proofs.lemmas.words.Later.{words_same}
use Rattle.ell_core.proofs.lemmas.stages.Advances.{stages_same}
use Rattle.ell_core.proofs.lemmas.opening.Invariant.{start_stages, each_stage}
use Rattle.ell_core.proofs.lemmas.opening.CanOpen.{opening_has}
use Rattle.ell_core.proofs.lemmas.keeping.AllEvents.{steps_follow}
use Rattle.ell_core.proofs.lemmas.runs.Chains.{words_later, stages_later}
use Rattle.ell_grace.proofs.lemmas.outs.Events.{outs_go_on}
use Rattle.ell_grace.proofs.lemmas.since.Later.{gone_later}
use Rattle.ell_grace.proofs.lemmas.since.Cards.{cards_begin, cards_go_on}
use Rattle.ell_grace.proofs.lemmas.since.Coming.{children_were_not_gone}
use Rattle.ell_grace.proofs.lemmas.dead.Frames.{never_later}
use Rattle.ell_grace.proofs.lemmas.dead.Kept.{brought-changed}
use Rattle.ell_grace.proofs.lemmas.dead.Events.{uses_go_on}
use Rattle.ell_grace.proofs.lemmas.dead.Out.{child_comes, stays_out, taken_comes, dead_ended}
use Rattle.ell_grace.proofs.lemmas.Runs.{opening_outs}

-- in an opening no insert has made its child exchange, so what is used is sound
none_changed : (setup : Setup) (c : ℕ) → is_changed (start_stages (length setup.start + 1) c) ≡ true → ⊥
none_changed setup c h = false≢true (sym (each_stage (λ s. is_changed s ≡ false) (length setup.start + 1) c refl refl) ∙ h)

opening_uses : (setup : Setup) → UsesAreSound (opening setup).words (start_stages (length setup.start + 1))
opening_uses setup = record {
  used = λ x inner born right unused. none_changed setup _ unused.0;
  taken = λ c x takes unused. none_changed setup _ unused.0;
  stands = λ c changed still. absurd (none_changed setup c changed);
  kept = λ x unstarted outer born used. absurd (none_changed setup (card x) (brought-changed (start_stages (length setup.start + 1) (card x)) (x % 4) unstarted born));
}

-- a run keeps what is used sound
uses_ran : (m : Machine) (stage : Stages) (events : List Event) (answers : List Shown) (m' : Machine) → Invariant m stage → OutsAreSound m.words stage
    → UsesAreSound m.words stage → Run m events answers m' → HasUses m'
uses_ran m stage [] [] m' invariant outs uses run =
    subst HasUses (sym run) (record { outs = record { stages = stage; invariant = invariant; outs = outs }; uses = uses })
uses_ran m stage (e ∷ es) (shown.Step said ∷ xs) m' invariant outs uses run =
    let follows = steps_follow m stage e said run.0 invariant run.1 in
    uses_ran run.0 follows.stages es xs m' follows.invariant (outs_go_on m stage e said run.0 invariant run.1 follows outs)
    (uses_go_on m stage e said run.0 invariant run.1 follows outs uses) run.2
uses_ran m stage (e ∷ es) (shown.Refused fault ∷ xs) m' invariant outs uses run =
    uses_ran m stage es xs m' invariant outs uses (subst (λ n. Run n es xs m') run.1.1 run.2)
uses_ran m stage [] (x ∷ xs) m' invariant outs uses run = absurd run
uses_ran m stage (e ∷ es) [] m' invariant outs uses run = absurd run

-- so every state of a run has it
pub every_state_has_uses : EveryStateHasUses
every_state_has_uses m passed =
    uses_ran (opening passed.setup) (start_stages (length passed.setup.start + 1)) passed.schedule passed.answers m
    (opening_has passed.setup passed.can) (opening_outs passed.setup) (opening_uses passed.setup) passed.run

-- such a state comes from itself
pub uses_begin : UsesBegin
uses_begin m has = (
  record {
    stages = has.outs.stages;
    invariant = has.outs.invariant;
    outs = has.outs.outs;
    words = words_same m.words;
    later = stages_same has.outs.stages;
    cards = cards_begin m has.outs.stages has.outs.invariant has.outs.outs;
  },
  has.uses,
)

-- and each event leads on so
pub events_keep_uses : EventsKeepUses
events_keep_uses m stage first old from uses e said new steps =
    let follows = steps_follow old from.stages e said new from.invariant steps in (
      record {
        stages = follows.stages;
        invariant = follows.invariant;
        outs = outs_go_on old from.stages e said new from.invariant steps follows from.outs;
        words = words_later m.words old.words new.words from.words follows.words;
        later = stages_later stage from.stages follows.stages from.later follows.later;
        cards = cards_go_on m stage old from.stages e said new first from.invariant from.outs from.words from.later steps follows from.cards;
      },
      follows.later,
      uses_go_on old from.stages e said new from.invariant steps follows from.outs uses,
    )

-- what was dead is dead
pub dead_stays_dead : DeadStaysDead
dead_stays_dead m stage first now from x (inl gone) = inl (gone_later m stage first now.words from.stages from.words from.later x gone)
dead_stays_dead m stage first now from x (inr never) =
    inr (never_later m.words stage first.words now.words from.stages from.invariant.words from.words from.later x never)

pub dead_cards_have_ended : DeadCardsHaveEnded
dead_cards_have_ended m has c dead = dead_ended m.words has.outs.stages has.outs.invariant.words has.uses has.outs.outs c dead

pub never_comes_stays_out : NeverComesStaysOut
never_comes_stays_out m has x never = stays_out m.words has.outs.stages has.outs.invariant.words has.uses x never

pub taken_out_had_come : TakenOutHadCome
taken_out_had_come m has c x takes = taken_comes m.words has.outs.stages has.outs.invariant.words has.uses c x takes

-- a child was no node that never comes, for it is none now
pub children_were_not_dead : ChildrenWereNotDead
children_were_not_dead m stage first now from uses x inner born stays right (inl gone) =
    children_were_not_gone m stage first now from x inner born (λ was. stays (inl was)) right gone
children_were_not_dead m stage first now from uses x inner born stays right (inr never) =
    child_comes now.words from.stages from.invariant.words uses x inner born right
    (never_later m.words stage first.words now.words from.stages from.invariant.words from.words from.later (now.words.child x right) never)
