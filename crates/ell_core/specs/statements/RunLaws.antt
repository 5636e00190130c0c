use Rattle.std.specs.Prelude.{◌≡◌, ℕ, ◌<◌, ◌≤◌, ◌⊎◌, Bool, true, false, List, [], ◌∷◌, ◌++◌}
use Rattle.std.specs.List.Sorted.{IsStrictlyIncreasing}
use Rattle.std.specs.List.{All}
use Rattle.std.specs.Map.{keys_of}
use Rattle.ell_ops.specs.Meaning.{greatest_key}
use Rattle.ell_word.specs.Node.{internal, card}
use Rattle.ell_word.specs.Word.{unpacked}
use Rattle.ell_word.specs.declared.update.State.TheVariants as state
use Rattle.ell_core.specs.declared.exchange.Exchange.{Exchange}
use Rattle.ell_core.specs.declared.event.Act.{Act}
use Rattle.ell_core.specs.declared.event.Event.{Event}
use Rattle.ell_core.specs.declared.event.Shown.{Shown}
use Rattle.ell_core.specs.declared.event.Shown.TheVariants as shown
use Rattle.ell_layout.specs.Words.{Words}
use Rattle.ell_core.specs.state.Machine.{Machine}
use Rattle.ell_core.specs.state.Opening.{Setup, opening, is_given, Faultless}
use Rattle.ell_core.specs.acts.Runs.{Shows, Run}
use Rattle.ell_core.specs.soundness.Sound.{IsSound}
use Rattle.ell_core.specs.history.Stages.{Stages}
use Rattle.ell_core.specs.history.Invariant.{Invariant, HasInvariant}
use Rattle.ell_core.specs.history.Later.{WordsLater, StagesLater, SameNode, SameInfo}
use Rattle.ell_core.specs.acts.Wins.{wins_by, InOrder}
use Rattle.ell_core.specs.statements.Effects.{PairsChange, SamePairs, LedgersChange, KnowledgeLasts, FactsLast}

-- a key may be there at the start: some worker is given it, or it is shared by workers that are there
abbrev pub MayBeThere : Setup → ℕ → Type 0
MayBeThere setup k = (is_given setup.owned k ≡ true) ⊎ ((0 < setup.count) × (setup.shared k ≡ true))

-- what an opening takes: each entry's worker is there, no key is owned twice, and each is a real one; the start keys
-- ascend, and each of them is owned or shared; and the shared keys are real ones that nobody owns
pub record CanOpen (setup : Setup) : Type 0 where
  pub faultless : Faultless setup.count setup.owned
  pub real : All (λ entry. entry.1 ≤ greatest_key) setup.owned
  pub ascending : IsStrictlyIncreasing (keys_of setup.start)
  pub given : All (MayBeThere setup) (keys_of setup.start)
  pub apart : (k : ℕ) → setup.shared k ≡ true → (k ≤ greatest_key) × (is_given setup.owned k ≡ false)

-- a state of a run: some schedule leads to it from an opening state
pub record IsPassed (m : Machine) : Type 0 where
  pub setup : Setup
  pub can : CanOpen setup
  pub schedule : List Event
  pub answers : List Shown
  pub run : Run (opening setup) schedule answers m

-- the invariant holds of every state of a run
abbrev pub EveryStateHasInvariant : Type 0
EveryStateHasInvariant = (m : Machine) → IsPassed m → HasInvariant m

-- every state of a run is sound
abbrev pub EveryStateIsSound : Type 0
EveryStateIsSound = (m : Machine) → IsPassed m → IsSound m

-- what is shown of an event changes the tree's keys and their values as its act does; a refusal changes nothing
abbrev pub ShownChange : Act → Shown → Words → Words → Type 0
ShownChange a (shown.Step said) old new = PairsChange a said old new
ShownChange a (shown.Refused fault) old new = SamePairs old new

-- the tree's keys and their values change at a won ichild and a won dchild alone, by the card's key and value
abbrev pub PairsChangeAtWins : Type 0
PairsChangeAtWins = (m : Machine) (e : Event) (x : Shown) (m' : Machine) → IsPassed m → Shows m e x m'
    → ShownChange e.act x m.words m'.words

-- what is shown of an event changes the ledgers as its answer does; a refusal changes nothing
abbrev pub ShownLedgers : Machine → ℕ → Shown → Machine → Type 0
ShownLedgers m i (shown.Step said) m' = LedgersChange m i said m'
ShownLedgers m i (shown.Refused fault) m' = m' ≡ m

-- each answer is the map's
abbrev pub AnswersAreTheMaps : Type 0
AnswersAreTheMaps = (m : Machine) (e : Event) (x : Shown) (m' : Machine) → IsPassed m → Shows m e x m'
    → ShownLedgers m e.worker x m'

-- what is won for a card, by what is shown of an event: for the card that it names, or a flag for the card in hand
-- before it
abbrev pub shown_wins : Machine → Event → Shown → ℕ → List Exchange
shown_wins m e (shown.Step said) c = wins_by e.act (m.worker e.worker).card said c
shown_wins m e (shown.Refused fault) c = []

-- the wins of a card in a run, in their order
abbrev pub wins_in :
    (m : Machine) (events : List Event) (answers : List Shown) (m' : Machine) → Run m events answers m' → ℕ
    → List Exchange
wins_in m [] [] m' run c = []
wins_in m (e ∷ es) (x ∷ xs) m' run c = shown_wins m e x c ++ wins_in run.0 es xs m' run.2 c
wins_in m [] (x ∷ xs) m' run c = absurd run
wins_in m (e ∷ es) [] m' run c = absurd run

-- a state is an opening
pub record IsOpening (m : Machine) : Type 0 where
  pub setup : Setup
  pub can : CanOpen setup
  pub opens : m ≡ opening setup

-- each card wins in one of these orders, in a run of these events with these answers
abbrev pub WinsInOrder : Machine → List Event → List Shown → Machine → Type 0
WinsInOrder m events answers m' = (run : Run m events answers m') (c : ℕ) → InOrder (wins_in m events answers m' run c)

-- it is so in every run from an opening
abbrev pub WinsAreInOrder : Type 0
WinsAreInOrder = (m : Machine) (events : List Event) (answers : List Shown) (m' : Machine) → IsOpening m
    → WinsInOrder m events answers m'

-- a state of a run, and one that comes later in the run
pub record Follow (m m' : Machine) : Type 0 where
  pub passed : IsPassed m
  pub events : List Event
  pub answers : List Shown
  pub run : Run m events answers m'

-- a marked node is frozen
abbrev pub MarkedNodesAreFrozen : Type 0
MarkedNodesAreFrozen = (m m' : Machine) → Follow m m' → (x : ℕ) → (unpacked (m.words.update x)).state ≡ state.Mark
    → SameNode m.words m'.words x

-- a child word of the internal node of a card: its tag only rises, and while the tag of a claimed card's stays, so does
-- the child
pub record ChildWordRises (old new : Words) (c : ℕ) (right : Bool) : Type 0 where
  pub tag : old.tag (internal c) right ≤ new.tag (internal c) right
  pub child : c < old.next → new.tag (internal c) right ≡ old.tag (internal c) right
      → new.child (internal c) right ≡ old.child (internal c) right

-- the child words and the update word of the internal node of every card only rise
abbrev pub WordsRise : Type 0
WordsRise = (m m' : Machine) → Follow m m' → (c : ℕ) →
    ((right : Bool) → ChildWordRises m.words m'.words c right)
    × (m.words.update (internal c) ≤ m'.words.update (internal c))

-- knowledge is never lost, and what holds, holds ever after
abbrev pub KnowledgeIsNeverLost : Type 0
KnowledgeIsNeverLost = (m m' : Machine) → Follow m m' → KnowledgeLasts m m' × FactsLast m.words m'.words

-- where a claimed card goes and the keys and values of its nodes are fixed
abbrev pub ClaimedCardsAreFixed : Type 0
ClaimedCardsAreFixed = (m m' : Machine) → Follow m m' → (c : ℕ) → c < m.words.next →
    SameInfo m.words m'.words c
    × ((x : ℕ) → card x ≡ c → (m'.words.key x ≡ m.words.key x) × (m'.words.value x ≡ m.words.value x))

-- the stages of two states of a run, in their order: a node that came into the tree stays one that did, no card changes
-- its kind, and what may be known of it still may
pub record LaterInvariant (m m' : Machine) : Type 0 where
  pub before : Stages
  pub first : Invariant m before
  pub after : Stages
  pub second : Invariant m' after
  pub words : WordsLater m.words m'.words
  pub later : StagesLater before after

-- so it is of every state of a run and every later one
abbrev pub StagesRise : Type 0
StagesRise = (m m' : Machine) → Follow m m' → LaterInvariant m m'
