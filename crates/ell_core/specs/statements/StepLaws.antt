use Rattle.std.specs.Prelude.{◌≡◌, ◌≢◌, ℕ, ◌+◌, ◌<◌, ◌≤◌, ◌↔◌, Bool, true, false, Some, None, ◌⊎◌}
use Rattle.ell_ops.specs.declared.op.Op.{Op}
use Rattle.ell_ops.specs.Meaning.{key_of}
use Rattle.ell_word.specs.Node.{IsInternal, card}
use Rattle.ell_word.specs.Word.{unpacked}
use Rattle.ell_word.specs.declared.update.State.TheVariants as state
use Rattle.ell_core.specs.declared.event.Event.{Event}
use Rattle.ell_core.specs.declared.event.Stepped.{Stepped}
use Rattle.ell_core.specs.declared.fact.Fact.{Fact}
use Rattle.ell_core.specs.declared.fact.Fact.TheVariants as fact
use Rattle.ell_core.specs.declared.view.Seen.{Seen}
use Rattle.ell_layout.specs.Words.{Words, IsLeaf}
use Rattle.ell_core.specs.state.Facts.{card_of_fact}
use Rattle.ell_core.specs.state.Machine.{Worker, Machine, Scene, scene}
use Rattle.ell_layout.specs.Cards.{marked}
use Rattle.ell_core.specs.acts.Searching.{IsClean, Down}
use Rattle.ell_core.specs.acts.Events.{Steps}
use Rattle.ell_core.specs.state.Handovers.{WorkerIsIdle, Split, Join}
use Rattle.ell_core.specs.tree.Tree.{Reached}
use Rattle.ell_core.specs.soundness.Sound.{WorkerOwns, MayChange, IsSound, flags_at}
use Rattle.ell_core.specs.history.Stages.{Stages, Born}
use Rattle.ell_core.specs.history.Invariant.{Invariant}
use Rattle.ell_core.specs.history.Later.{Follows}
use Rattle.ell_core.specs.declared.view.Entry.TheVariants.{Present}
use Rattle.ell_core.specs.statements.Effects.{PairsChange, LedgersChange, KnowledgeLasts, FactsLast}
use Rattle.ell_core.specs.tree.Rank.{rank}

-- an event leads from a state that the invariant holds of to one that it holds of; with what it does to pairs, ledgers,
-- knowledge and facts
pub record EventIsLawful (m : Machine) (stage : Stages) (e : Event) (said : Stepped) (m' : Machine) : Type 0 where
  pub follows : Follows m stage e.act e.worker said m'
  pub pairs : PairsChange e.act said m.words m'.words
  pub ledgers : LedgersChange m e.worker said m'
  pub knowledge : KnowledgeLasts m m'
  pub facts : FactsLast m.words m'.words

-- every event is lawful in every state that the invariant holds of
abbrev pub EventsAreLawful : Type 0
EventsAreLawful = (m : Machine) (stage : Stages) (e : Event) (said : Stepped) (m' : Machine)
    → Invariant m stage → Steps m e said m' → EventIsLawful m stage e said m'

-- the invariant holds after a split, with the same stages
abbrev pub SplitsAreLawful : Type 0
SplitsAreLawful =
    (m : Machine) (stage : Stages) (i : ℕ) (m' : Machine) → Invariant m stage → Split m i m' → Invariant m' stage

-- and after a join
abbrev pub JoinsAreLawful : Type 0
JoinsAreLawful =
    (m : Machine) (stage : Stages) (i j : ℕ) (m' : Machine) → Invariant m stage → Join m i j m' → Invariant m' stage

-- a state that the invariant holds of is sound
abbrev pub InvariantIsSound : Type 0
InvariantIsSound = (m : Machine) (stage : Stages) → Invariant m stage → IsSound m

-- an update word names a claimed card, and if it is a flag or a mark, that card set it at this node
pub record NamesItsCard (w : Words) (x : ℕ) : Type 0 where
  pub claimed : (unpacked (w.update x)).card < w.next
  pub place : (unpacked (w.update x)).state ≢ state.Clean
      → flags_at w (unpacked (w.update x)).state (unpacked (w.update x)).card ≡ x

-- x is an internal node that came into the tree, so that its children did, and its update word names its card
pub record IsReadable (w : Words) (stage : Stages) (x : ℕ) : Type 0 where
  pub inner : IsInternal x
  pub born : Born stage x
  pub children : (right : Bool) → Born stage (w.child x right) × (rank w x < rank w (w.child x right))
  pub names : NamesItsCard w x

-- where an insert's card goes: two nodes that came into the tree, the leaf the deeper one
pub record IsInserting (w : Words) (stage : Stages) (c : ℕ) : Type 0 where
  pub above : rank w (w.p c) < rank w (w.l c)
  pub parent : IsReadable w stage (w.p c)
  pub leaf : Born stage (w.l c)

-- where a delete's card goes: three nodes that came into the tree, ever deeper
pub record IsDeepening (w : Words) (stage : Stages) (c : ℕ) : Type 0 where
  pub first : rank w (w.gp c) < rank w (w.p c)
  pub second : rank w (w.p c) < rank w (w.l c)
  pub grandparent : IsReadable w stage (w.gp c)
  pub parent : IsReadable w stage (w.p c)
  pub leaf : Born stage (w.l c)

-- where a claimed card goes: nodes that came into the tree, the first two internal ones; node 0 where a card does not
-- go
pub record GoesInTree (w : Words) (stage : Stages) (c : ℕ) : Type 0 where
  pub grandparent : IsReadable w stage (w.gp c)
  pub parent : IsReadable w stage (w.p c)
  pub leaf : Born stage (w.l c)

-- a node above x that a search has seen may be read, the word that was read there names a claimed card, and the tag is below
-- the claim word
pub record HasSeen (w : Words) (stage : Stages) (seen : Seen) (x : ℕ) : Type 0 where
  pub node : IsReadable w stage seen.node
  pub less : rank w seen.node < rank w x
  pub names : (unpacked seen.word).card < w.next
  pub tag : seen.tag < w.next

-- a worker stands somewhere, and has seen a parent
pub record StandsBelow (v : Worker) : Type 0 where
  pub node : ℕ
  pub stands : v.search.node ≡ Some node
  pub parent : Seen
  pub behind : v.search.parent ≡ Some parent

-- a fact of an insert's card
abbrev pub is_of_insert : Fact → Bool
is_of_insert (fact.IFlagged c) = true
is_of_insert (fact.IChanged c) = true
is_of_insert (fact.IOver c) = true
is_of_insert _ = false

-- a fact of a delete's card that was marked
abbrev pub is_of_marked : Fact → Bool
is_of_marked (fact.Marked c) = true
is_of_marked (fact.Cut c) = true
is_of_marked (fact.DOver c) = true
is_of_marked _ = false

-- what a step of worker i may rely on: where it stands, and what it reads and has read there; that a down leads to a
-- node of the table of greater rank; what its search has behind it; where the cards go of which it knows anything, and that the
-- mark of one that was marked stands; the key and the value of a leaf where it stands, and the grandparent that there
-- is above its own key's; that a node that came into the tree, the card in hand, and each card of which anything is
-- known, are claimed ones of the table; that with a card in hand that is not flagged it stands somewhere; that it owns
-- its operation's key; and where claimed cards go
pub record Reliance (m : Machine) (stage : Stages) (i : ℕ) : Type 0 where
  pub stands : (x : ℕ) → (m.worker i).search.node ≡ Some x → Born stage x
  pub reads : (x : ℕ) → (m.worker i).search.node ≡ Some x → IsInternal x → IsReadable m.words stage x
  pub has_read : (x word : ℕ) → (m.worker i).search.node ≡ Some x → IsInternal x → (m.worker i).search.read ≡ Some word
      → (unpacked word).card < m.words.next
  pub down : (said : Stepped) (after : Scene) (x y : ℕ) → Down (scene m i) said after
      → (m.worker i).search.node ≡ Some x
      → after.worker.search.node ≡ Some y → (rank m.words x < rank m.words y) × (card y ≤ m.last_card)
  pub parent : (x : ℕ) (seen : Seen) → (m.worker i).search.node ≡ Some x → (m.worker i).search.parent ≡ Some seen
      → HasSeen m.words stage seen x
  pub grandparent : (x : ℕ) (seen above : Seen) → (m.worker i).search.node ≡ Some x
      → (m.worker i).search.parent ≡ Some seen
      → (m.worker i).search.grandparent ≡ Some above → HasSeen m.words stage above seen.node
  pub deep : (op : Op) (x : ℕ) → (m.worker i).operation ≡ Some op → (m.worker i).search.node ≡ Some x → IsLeaf x
      → m.words.key x ≡ key_of op → (m.worker i).search.grandparent ≢ None
  pub insert : (f : Fact) → (m.worker i).knows f ≡ true → is_of_insert f ≡ true
      → IsInserting m.words stage (card_of_fact f)
  pub delete : (f : Fact) → (m.worker i).knows f ≡ true → is_of_insert f ≡ false
      → IsDeepening m.words stage (card_of_fact f)
  pub marked : (f : Fact) → (m.worker i).knows f ≡ true → is_of_marked f ≡ true
      → m.words.update (m.words.p (card_of_fact f)) ≡ marked (card_of_fact f)
  pub leaf_key : (op : Op) (x : ℕ) → (m.worker i).operation ≡ Some op → WorkerOwns (m.worker i) (key_of op)
      → (m.worker i).search.node ≡ Some x → IsLeaf x
      → (value : ℕ) → ((m.words.key x ≡ key_of op) × (m.words.value x ≡ value))
      ↔ ((m.worker i).ledger (key_of op) ≡ Some (Present value))
  pub claimed : (x : ℕ) → Born stage x → card x < m.words.next
  pub known : (f : Fact) → (m.worker i).knows f ≡ true → card_of_fact f < m.words.next
  pub hand : (c : ℕ) → (m.worker i).card ≡ Some c → c < m.words.next
  pub unflagged : (c : ℕ) → (m.worker i).card ≡ Some c → (m.worker i).flagged ≡ false → StandsBelow (m.worker i)
  pub owned : (op : Op) → (m.worker i).operation ≡ Some op → MayChange (m.worker i) (key_of op)
  pub goes : (c : ℕ) → c < m.words.next → GoesInTree m.words stage c
  pub some : 0 < m.words.next
  pub room : m.words.next ≤ m.last_card + 1

-- so it is for every worker in every state that the invariant holds of
abbrev pub StepsMayRely : Type 0
StepsMayRely = (m : Machine) (stage : Stages) (i : ℕ) → Invariant m stage → Reliance m stage i

-- a worker owns every key that any other may change, and has nothing in hand
pub record OwnsAll (m : Machine) (i : ℕ) : Type 0 where
  pub all : (j k : ℕ) → MayChange (m.worker j) k → (j ≡ i) ⊎ WorkerOwns (m.worker i) k
  pub free : WorkerIsIdle (m.worker i)

-- where a worker owns every key and has nothing in hand, every reached update word is clean
abbrev pub OwnerFindsClean : Type 0
OwnerFindsClean = (m : Machine) (stage : Stages) (i : ℕ) → Invariant m stage → OwnsAll m i
    → (x : ℕ) → Reached m.words x → IsInternal x → IsClean (m.words.update x)
