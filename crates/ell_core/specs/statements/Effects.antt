use Rattle.std.specs.Prelude.{◌≡◌, ◌≢◌, ℕ, ◌⊎◌, ◌↔◌, Bool, true, false, Option, Some, None}
use Rattle.ell_ops.specs.declared.op.Op.{Op}
use Rattle.ell_ops.specs.declared.op.Op.TheVariants.{Find, Insert, Delete, Swap}
use Rattle.ell_ops.specs.Contents.{Contents}
use Rattle.ell_ops.specs.Meaning.{key_of, reply_of, after}
use Rattle.ell_core.specs.declared.event.Act.{Act}
use Rattle.ell_core.specs.declared.event.Act.TheVariants as act
use Rattle.ell_core.specs.declared.event.Stepped.{Stepped}
use Rattle.ell_core.specs.declared.event.Stepped.TheVariants.{Won, Answered}
use Rattle.ell_core.specs.declared.fact.Fact.{Fact}
use Rattle.ell_layout.specs.Words.{Words}
use Rattle.ell_core.specs.state.Machine.{Ledger, Worker, Machine}
use Rattle.ell_core.specs.soundness.Sound.{MayChange, WorkerOwns}
use Rattle.ell_layout.specs.Cards.{card_key, card_value, is_replace_card}
use Rattle.ell_core.specs.tree.Tree.{IsTreeKey, IsTreePair}
use Rattle.ell_core.specs.soundness.Holds.{Holds}
use Rattle.ell_core.specs.declared.view.Entry.{Entry}
use Rattle.ell_core.specs.declared.view.Entry.TheVariants.{Present}
use Rattle.ell_ops.specs.declared.reply.Reply.{Reply}
use Rattle.ell_ops.specs.declared.reply.Reply.TheVariants.{Yes, Found}

-- the tree has one key more, which it had not, with this value
pub record AddsPair (old new : Words) (key value : ℕ) : Type 0 where
  pub absent : ¬ IsTreeKey old key
  pub pairs : (k v : ℕ) → IsTreePair new k v ↔ (IsTreePair old k v ⊎ ((k ≡ key) × (v ≡ value)))

-- the tree has one key less, which it had with this value; each other key has its value still
pub record TakesPair (old new : Words) (key value : ℕ) : Type 0 where
  pub present : IsTreePair old key value
  pub pairs : (k v : ℕ) → IsTreePair new k v ↔ (IsTreePair old k v × (k ≢ key))

-- the tree has the same keys with the same values, except that this key has another value in place of what it had
pub record ReplacesPair (old new : Words) (key was value : ℕ) : Type 0 where
  pub present : IsTreePair old key was
  pub pairs : (k v : ℕ) → IsTreePair new k v ↔ ((IsTreePair old k v × (k ≢ key)) ⊎ ((k ≡ key) × (v ≡ value)))

-- the tree changes as an operation changes a map that it finds otherwise
abbrev pub MakesChange : Op → Words → Words → Type 0
MakesChange (Find key) old new = ⊥
MakesChange (Insert key value) old new = AddsPair old new key value
MakesChange (Delete key) old new = (value : ℕ) × TakesPair old new key value
MakesChange (Swap key was value) old new = ReplacesPair old new key was value

-- what an operation answers that has changed the tree: yes, a swap the value that it has replaced
abbrev pub reply_of_change : Op → Reply
reply_of_change (Swap key was value) = Found was
reply_of_change _ = Yes

-- what puts a key with a value: a swap if it replaces a leaf of the key, which had a value, or else an insert
abbrev pub op_brought : Bool → ℕ → ℕ → ℕ → Op
op_brought true key was value = Swap key was value
op_brought false key was value = Insert key value

-- the operation that an insert's card is for: its own key and value, with the value of its leaf
abbrev pub op_of_card : Words → ℕ → Op
op_of_card w c = op_brought (is_replace_card w c) (card_key w c) (w.value (w.l c)) (card_value w c)

-- the tree has the same keys with the same values
abbrev pub SamePairs : Words → Words → Type 0
SamePairs old new = (k v : ℕ) → IsTreePair new k v ↔ IsTreePair old k v

-- what an act does to the keys of the tree and their values: a won ichild adds its card's key with its value, or gives
-- its key this value in place of the one that its leaf has; a won dchild takes its card's key with its value away; and
-- nothing else changes them (paper of 2010: an update takes effect at its child exchange)
abbrev pub PairsChange : Act → Stepped → Words → Words → Type 0
PairsChange (act.IChild c) Won old new = MakesChange (op_of_card old c) old new
PairsChange (act.DChild c) Won old new = TakesPair old new (card_key old c) (card_value old c)
PairsChange _ _ old new = SamePairs old new

-- the value that an entry of a ledger has, if it is of a key that is present
abbrev pub value_in : Option Entry → Option ℕ
value_in (Some (Present value)) = Some value
value_in _ = None

-- the keys that a ledger has present, with their values
abbrev pub contents_in : Ledger → Contents
contents_in ledger = λ key. value_in (ledger key)

-- a worker answers the operation in hand: on an own key as a map, which its ledger becomes; on a shared one that stays
pub record AnswersAsMap (v : Worker) (new : Ledger) (reply : Reply) : Type 0 where
  pub op : Op
  pub busy : v.operation ≡ Some op
  pub may : MayChange v (key_of op)
  pub says : WorkerOwns v (key_of op) → reply ≡ reply_of op (contents_in v.ledger)
  pub map : WorkerOwns v (key_of op) → (key : ℕ) → contents_in new key ≡ after op (contents_in v.ledger) key
  pub stays : v.ledger (key_of op) ≡ None → new ≡ v.ledger
  pub owned : (key : ℕ) → (new key ≡ None) ↔ (v.ledger key ≡ None)

-- what an event does to the ledgers: an answer is the map's, on the ledger of its own worker; no other event changes
-- any ledger, nor an answer another worker's
abbrev pub LedgersChange : Machine → ℕ → Stepped → Machine → Type 0
LedgersChange m i (Answered reply) m' =
    AnswersAsMap (m.worker i) (m'.worker i).ledger reply
    × ((j : ℕ) → j ≢ i → (m'.worker j).ledger ≡ (m.worker j).ledger)
LedgersChange m i _ m' = (j : ℕ) → (m'.worker j).ledger ≡ (m.worker j).ledger

-- no worker knows less
abbrev pub KnowledgeLasts : Machine → Machine → Type 0
KnowledgeLasts m m' = (i : ℕ) (fact : Fact) → (m.worker i).knows fact ≡ true → (m'.worker i).knows fact ≡ true

-- every fact of every card that holds of the words still does
abbrev pub FactsLast : Words → Words → Type 0
FactsLast old new = (fact : Fact) → Holds old fact → Holds new fact
