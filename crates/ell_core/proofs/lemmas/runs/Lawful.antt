use Rattle.std.proofs.Common.{◌≡◌, ◌+◌, ◌<◌, ◌++◌, List, length, sym, ap, ◌∙◌, subst, arith}
use Rattle.ell_word.specs.Node.{internal}
use Rattle.ell_word.specs.Word.{unpacked}
use Rattle.ell_word.specs.declared.update.State.TheVariants as state
use Rattle.ell_core.specs.declared.event.Event.{Event}
use Rattle.ell_core.specs.declared.event.Shown.{Shown}
use Rattle.ell_core.specs.declared.event.Shown.TheVariants as shown
use Rattle.ell_core.specs.state.Machine.{Machine}
use Rattle.ell_core.specs.state.Opening.{Setup, opening}
use Rattle.ell_core.specs.acts.Runs.{Shows, Run}
use Rattle.ell_core.specs.history.Stages.{Stages}
use Rattle.ell_core.specs.history.Invariant.{Invariant}
use Rattle.ell_core.specs.history.Later.{wins_of}
use Rattle.ell_core.specs.statements.Effects.{SamePairs}
use Rattle.ell_core.specs.statements.RunLaws.{CanOpen, EveryStateHasInvariant, EveryStateIsSound, ShownChange, PairsChangeAtWins, ShownLedgers, AnswersAreTheMaps, wins_in, WinsInOrder, WinsAreInOrder, Follow, MarkedNodesAreFrozen, WordsRise, KnowledgeIsNeverLost, ClaimedCardsAreFixed, StagesRise}
use Rattle.ell_core.specs.acts.Wins.{InOrder}
use Rattle.ell_core.proofs.lemmas.opening.Invariant.{start_stages}
use Rattle.ell_core.proofs.lemmas.opening.CanOpen.{opening_has}
use Rattle.ell_core.proofs.lemmas.following.Sound.{sound, word_by_state}
use Rattle.ell_core.proofs.lemmas.runs.Wins.{stage_wins, opening_wins}
use Rattle.ell_core.proofs.lemmas.following.Lawful.{events_lawful}
use Rattle.ell_core.proofs.lemmas.runs.Runs.{Ran, ran}

-- a run from an opening keeps all
ran_from : (setup : Setup) (events : List Event) (answers : List Shown) (m : Machine) → CanOpen setup → (run : Run (opening setup) events answers m)
    → Ran (opening setup) (start_stages (length setup.start + 1)) m (wins_in (opening setup) events answers m run)
ran_from setup events answers m can run = ran (opening setup) (start_stages (length setup.start + 1)) events answers m (opening_has setup can) run

-- the invariant holds of every state of a run
pub passed_has : EveryStateHasInvariant
passed_has m passed =
    let all = ran_from passed.setup passed.schedule passed.answers m passed.can passed.run in
    record { stages = all.stages; invariant = all.invariant }

-- so each is sound
pub passed_sound : EveryStateIsSound
passed_sound m passed = let has = passed_has m passed in sound m has.stages has.invariant

-- where nothing changed keys and values are the same
same_state : (m m' : Machine) → m' ≡ m → SamePairs m.words m'.words
same_state m m' same = subst (λ (n : Machine). SamePairs m.words n.words) (sym same) (λ k v. (λ h. h, λ h. h))

-- what is shown of an event changes them so
shown_pairs : (m : Machine) (stage : Stages) (e : Event) (x : Shown) (m' : Machine) → Invariant m stage → Shows m e x m'
    → ShownChange e.act x m.words m'.words
shown_pairs m stage e (shown.Step said) m' invariant shows = (events_lawful m stage e said m' invariant shows).pairs
shown_pairs m stage e (shown.Refused fault) m' invariant shows = same_state m m' shows.1

-- the keys of the tree and their values change at the won child exchanges
pub pairs_change : PairsChangeAtWins
pairs_change m e x m' passed shows = let has = passed_has m passed in shown_pairs m has.stages e x m' has.invariant shows

-- and the ledgers so
shown_ledgers : (m : Machine) (stage : Stages) (e : Event) (x : Shown) (m' : Machine) → Invariant m stage → Shows m e x m'
    → ShownLedgers m e.worker x m'
shown_ledgers m stage e (shown.Step said) m' invariant shows = (events_lawful m stage e said m' invariant shows).ledgers
shown_ledgers m stage e (shown.Refused fault) m' invariant shows = shows.1

-- each answer is the map's
pub answers_map : AnswersAreTheMaps
answers_map m e x m' passed shows = let has = passed_has m passed in shown_ledgers m has.stages e x m' has.invariant shows

-- the wins of each card in a run from an opening are those up to its stage
wins_from : (setup : Setup) (events : List Event) (answers : List Shown) (m' : Machine) → CanOpen setup → WinsInOrder (opening setup) events answers m'
wins_from setup events answers m' can run c =
    let all = ran_from setup events answers m' can run in
    let won : wins_of (all.stages c) ≡ wins_in (opening setup) events answers m' run c =
    all.wins c ∙ ap (λ xs. xs ++ wins_in (opening setup) events answers m' run c) (opening_wins (length setup.start + 1) c) in
    subst InOrder won (stage_wins (all.stages c))

-- so it is from every state that is an opening
pub wins_ordered : WinsAreInOrder
wins_ordered m events answers m' is =
    subst (λ n. WinsInOrder n events answers m') (sym is.opens) (wins_from is.setup events answers m' is.can)

-- what a run keeps between two of its states
ran_between : (m m' : Machine) → (follow : Follow m m')
    → Ran m (passed_has m follow.passed).stages m' (wins_in m follow.events follow.answers m' follow.run)
ran_between m m' follow =
    let has = passed_has m follow.passed in ran m has.stages follow.events follow.answers m' has.invariant follow.run

-- a word in state Mark is a mark of its card, and its node is frozen
pub frozen : MarkedNodesAreFrozen
frozen m m' follow x mark = (ran_between m m' follow).words.frozen x (unpacked (m.words.update x)).card (word_by_state (m.words.update x) state.Mark mark)

-- words rise
pub rise : WordsRise
rise m m' follow c =
    let words = (ran_between m m' follow).words in (
      λ right. record {
        tag = words.tag (internal c) right;
        child = λ below. words.child (internal c) right (omega arith);
      },
      words.update (internal c),
    )

-- knowledge is never lost, nor a fact
pub never_lost : KnowledgeIsNeverLost
never_lost m m' follow = let all = ran_between m m' follow in (all.knowledge, all.facts)

-- claimed cards go where they went
pub fixed : ClaimedCardsAreFixed
fixed m m' follow c below =
    let words = (ran_between m m' follow).words in
    (words.info c below, λ x on. (let on_it = subst (λ d. d < m.words.next) (sym on) below in (words.key x on_it, words.value x on_it)))

-- the stages rise
pub stages_rise : StagesRise
stages_rise m m' follow =
    let has = passed_has m follow.passed in
    let all = ran_between m m' follow in
    record { before = has.stages; first = has.invariant; after = all.stages; second = all.invariant; words = all.words; later = all.later }
