use Rattle.std.specs.Prelude.{◌≡◌, ◌≢◌, ℕ, ◌+◌, ◌<◌, ◌≤◌, ◌⊎◌, Some, List, [], ◌∷◌}
use Rattle.ell_ops.specs.declared.op.Op.{Op}
use Rattle.ell_ops.specs.Meaning.{reply_of, greatest_key}
use Rattle.ell_word.specs.Node.{IsInternal, internal}
use Rattle.ell_word.specs.Word.{unpacked}
use Rattle.ell_word.specs.declared.update.State.TheVariants as state
use Rattle.ell_core.specs.declared.exchange.Exchange.{Exchange}
use Rattle.ell_core.specs.declared.exchange.Exchange.TheVariants as exchange
use Rattle.ell_core.specs.declared.event.Act.TheVariants as act
use Rattle.ell_core.specs.declared.event.Event.{Event}
use Rattle.ell_core.specs.declared.event.Shown.{Shown}
use Rattle.ell_core.specs.declared.event.Stepped.{Stepped}
use Rattle.ell_core.specs.declared.event.Stepped.TheVariants.{Won, Answered}
use Rattle.ell_layout.specs.Words.{put, IsLeaf}
use Rattle.ell_core.specs.state.Machine.{Worker, Machine}
use Rattle.ell_core.specs.state.Handovers.{WorkerIsIdle, AreParted, KnowsNoMore}
use Rattle.ell_layout.specs.Cards.{card_key, card_value}
use Rattle.ell_core.specs.acts.Searching.{IsClean}
use Rattle.ell_core.specs.acts.Events.{Steps}
use Rattle.ell_core.specs.acts.Runs.{Run}
use Rattle.ell_core.specs.tree.Tree.{Reached, OnWalk}
use Rattle.ell_core.specs.soundness.Sound.{WorkerOwns}
use Rattle.ell_core.specs.history.Stages.{Stages}
use Rattle.ell_core.specs.history.Invariant.{Invariant}
use Rattle.ell_core.specs.history.Later.{SameInfo, SameNode}
use Rattle.ell_core.specs.statements.Effects.{AddsPair, KnowledgeLasts, contents_in}
use Rattle.ell_core.specs.statements.RunLaws.{IsPassed, IsOpening, Follow, wins_in}
use Rattle.ell_core.specs.statements.Looks.{Looks}
use Rattle.ell_core.specs.acts.Wins.{BeginsWith, cut_order, back_order}
use Rattle.ell_ops.specs.declared.reply.Reply.{Reply}

-- update words rise at every event (in truth they may stay)
abbrev pub WordsAlwaysRise : Type 0
WordsAlwaysRise = (m m' : Machine) → Follow m m' → (c : ℕ) → m.words.update (internal c) < m'.words.update (internal c)

-- the next card says already where it goes (in truth it is filled when it is claimed)
abbrev pub NextCardIsFixed : Type 0
NextCardIsFixed = (m m' : Machine) → Follow m m' → SameInfo m.words m'.words m.words.next

-- a flagged node is frozen, as a marked one is (in truth its child is exchanged)
abbrev pub FlaggedNodesAreFrozen : Type 0
FlaggedNodesAreFrozen = (m m' : Machine) → Follow m m' → (x : ℕ) → (unpacked (m.words.update x)).state ≢ state.Clean
    → SameNode m.words m'.words x

-- what is known later was known before (in truth workers learn)
abbrev pub NothingIsLearnt : Type 0
NothingIsLearnt = (m m' : Machine) → Follow m m' → KnowledgeLasts m' m

-- the order of an insert's wins, were its child exchange to come before its flag
abbrev pub child_first : List Exchange
child_first = exchange.IChild ∷ exchange.IFlag ∷ exchange.IUnflag ∷ []

-- each card wins in that order, or in one of a delete's (in truth the flag comes first)
abbrev pub ChildExchangesComeFirst : Type 0
ChildExchangesComeFirst = (m : Machine) (events : List Event) (answers : List Shown) (m' : Machine) → IsOpening m
    → (run : Run m events answers m') (c : ℕ) → BeginsWith child_first (wins_in m events answers m' run c)
    ⊎ (BeginsWith cut_order (wins_in m events answers m' run c)
    ⊎ BeginsWith back_order (wins_in m events answers m' run c))

-- all workers come to have the ledger of the one that made a step (in truth each keeps its own)
abbrev pub OneLedgerForAll : Type 0
OneLedgerForAll = (m : Machine) (e : Event) (said : Stepped) (m' : Machine) → IsPassed m → Steps m e said m'
    → (j : ℕ) → (m'.worker j).ledger ≡ (m.worker e.worker).ledger

-- a won ichild adds the key and the value of the next card (in truth its own card's)
abbrev pub InsertsAddTheNextKey : Type 0
InsertsAddTheNextKey =
    (m : Machine) (e : Event) (c : ℕ) (m' : Machine) → IsPassed m → e.act ≡ act.IChild c → Steps m e Won m'
    → AddsPair m.words m'.words (card_key m.words m.words.next) (card_value m.words m.words.next)

-- an answer is that of the map after the operation (in truth of the map before it)
abbrev pub AnswersAreOfTheMapAfter : Type 0
AnswersAreOfTheMapAfter = (m : Machine) (e : Event) (op : Op) (reply : Reply) (m' : Machine) → IsPassed m
    → (m.worker e.worker).operation ≡ Some op → Steps m e (Answered reply) m'
    → reply ≡ reply_of op (contents_in (m'.worker e.worker).ledger)

-- one that owns every key finds every update word clean, with an operation in hand too (in truth its own flag may
-- stand)
abbrev pub BusyOwnersFindClean : Type 0
BusyOwnersFindClean =
    (m : Machine) (i : ℕ) → IsPassed m → ((j k : ℕ) → WorkerOwns (m.worker j) k → WorkerOwns (m.worker i) k)
    → (x : ℕ) → Reached m.words x → IsInternal x → IsClean (m.words.update x)

-- the right part of a split may know what nobody knew (in truth what is known has to hold)
abbrev pub SplitsMayTeach : Type 0
SplitsMayTeach = (m : Machine) (stage : Stages) (i : ℕ) (left right : Worker) → Invariant m stage → i < m.count
    → WorkerIsIdle (m.worker i)
    → WorkerIsIdle left → WorkerIsIdle right → AreParted (m.worker i).ledger left.ledger right.ledger
    → KnowsNoMore left (m.worker i)
    → Invariant (record m { worker = put (put m.worker i left) m.count right; count = m.count + 1 }) stage

-- the leaf at which a look ends is the end of the walk for its key when the look ends (in truth in one of the states
-- meanwhile)
abbrev pub LooksAreOfTheLastState : Type 0
LooksAreOfTheLastState =
    (key : ℕ) (m : Machine) (events : List Event) (answers : List Shown) (m' : Machine) (leaf : ℕ) → IsPassed m
    → key ≤ greatest_key → Looks key m events answers m' 0 leaf → IsLeaf leaf → OnWalk m'.words key 0 leaf

-- or when it begins
abbrev pub LooksAreOfTheFirstState : Type 0
LooksAreOfTheFirstState =
    (key : ℕ) (m : Machine) (events : List Event) (answers : List Shown) (m' : Machine) (leaf : ℕ) → IsPassed m
    → key ≤ greatest_key → Looks key m events answers m' 0 leaf → IsLeaf leaf → OnWalk m.words key 0 leaf
