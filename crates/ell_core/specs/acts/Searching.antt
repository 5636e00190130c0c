use Rattle.std.specs.Prelude.{◌≡◌, ◌≢◌, ℕ, ◌<◌, ◌==◌, if◌then◌else◌, ◌⊎◌, true, false, Option, Some, None, List}
use Rattle.ell_ops.specs.declared.op.Op.{Op}
use Rattle.ell_ops.specs.declared.op.Op.TheVariants.{Find, Insert, Delete, Swap}
use Rattle.ell_ops.specs.Meaning.{key_of, found}
use Rattle.ell_word.specs.Node.{IsInternal}
use Rattle.ell_word.specs.Word.{unpacked}
use Rattle.ell_word.specs.declared.update.State.TheVariants as state
use Rattle.ell_core.specs.declared.event.Stepped.{Stepped}
use Rattle.ell_core.specs.declared.event.Stepped.TheVariants.{Moved, Answered}
use Rattle.ell_core.specs.declared.fact.Fact.TheVariants.{IOver, DOver, Backed}
use Rattle.ell_core.specs.declared.put.Put.{Put}
use Rattle.ell_core.specs.declared.view.Seen.{Seen}
use Rattle.ell_core.specs.declared.view.Search.{Search}
use Rattle.ell_core.specs.declared.view.WorkerOf.{WorkerOf}
use Rattle.ell_layout.specs.declared.field.Field.{Field}
use Rattle.ell_layout.specs.Words.{Words, put, IsLeaf, is_flat}
use Rattle.ell_core.specs.state.Facts.{Knowledge, learned_any, told_by}
use Rattle.ell_core.specs.state.Machine.{Ledger, Worker, Scene, no_search}
use Rattle.ell_layout.specs.Cards.{child_for, tag_for, put_filling, value_below, delete_filling, claimed}
use Rattle.ell_core.specs.tree.Flat.{IsInBlock, IsNodeKey}
use Rattle.ell_core.specs.declared.view.Entry.{Entry}
use Rattle.ell_core.specs.declared.view.Entry.TheVariants.{Present, Absent}
use Rattle.ell_ops.specs.declared.reply.Reply.{Reply}
use Rattle.ell_ops.specs.declared.reply.Reply.TheVariants.{Yes, No, Found}

-- an update word that is clean
abbrev pub IsClean : ℕ → Type 0
IsClean update = (unpacked update).state ≡ state.Clean

-- a search that stands at the root and has seen nothing
abbrev pub at_root : Search
at_root = record { node = Some 0; read = None; parent = None; grandparent = None }

-- the worker with an operation in hand, at the root, without a card
abbrev pub begun : {L S K : Type 0} → Option Op → WorkerOf L S K → WorkerOf L S K
begun operation v = record v { operation = operation; search = at_root; card = None; flagged = false }

-- the worker with nothing in hand
abbrev pub ended : {L S K : Type 0} → WorkerOf L S K → WorkerOf L S K
ended v = record v { operation = None; search = no_search; card = None; flagged = false }

-- begin: no operation is in hand; this one is, and the search stands at the root
pub record Begin (op : Op) (s : Scene) (said : Stepped) (after : Scene) : Type 0 where
  pub free : s.worker.operation ≡ None
  pub says : said ≡ Moved
  pub gives : after ≡ record s { worker = begun (Some op) s.worker }

-- the search has read an update word where it stands
abbrev pub with_read : Search → ℕ → Search
with_read search update = record search { read = Some update }

-- upd: it stands at an internal node whose update word it has not read; it reads that word
pub record Upd (s : Scene) (said : Stepped) (after : Scene) : Type 0 where
  pub node : ℕ
  pub stands : s.worker.search.node ≡ Some node
  pub internal : IsInternal node
  pub unread : s.worker.search.read ≡ None
  pub says : said ≡ Moved
  pub gives : after ≡ record s {
    worker = record (s.worker) {
      search = with_read s.worker.search (s.words.update node);
      knows = learned_any s.worker.knows (told_by (s.words.update node));
    };
  }

-- the search goes down from a node, where it read an update word and then a child word, to the child
abbrev pub gone_down : Search → Seen → ℕ → Search
gone_down search seen child = record { node = Some child; read = None; parent = Some seen; grandparent = search.parent }

-- down: it stands at an internal node whose update word it has read, and has no card in hand; it reads the child word on its
-- key's side, and goes to the child
pub record Down (s : Scene) (said : Stepped) (after : Scene) : Type 0 where
  pub op : Op
  pub seen : Seen
  pub busy : s.worker.operation ≡ Some op
  pub stands : s.worker.search.node ≡ Some seen.node
  pub internal : IsInternal seen.node
  pub read : s.worker.search.read ≡ Some seen.word
  pub no_card : s.worker.card ≡ None
  pub tagged : seen.tag ≡ tag_for s.words (key_of op) seen.node
  pub says : said ≡ Moved
  pub gives : after ≡ record s {
    worker = record (s.worker) {
      search = gone_down s.worker.search seen (child_for s.words (key_of op) seen.node);
    };
  }

-- a worker at a leaf whose parent's update word it read clean
pub record AtCleanLeaf (v : Worker) (leaf : ℕ) (parent : Seen) : Type 0 where
  pub stands : v.search.node ≡ Some leaf
  pub outer : IsLeaf leaf
  pub behind : v.search.parent ≡ Some parent
  pub calm : IsClean parent.word

-- a worker at a node whose parent's update word it read clean
pub record AtCleanNode (v : Worker) (node : ℕ) (parent : Seen) : Type 0 where
  pub stands : v.search.node ≡ Some node
  pub behind : v.search.parent ≡ Some parent
  pub calm : IsClean parent.word

-- a worker may take a card, in a tree that is flat from this card on, or not flat if it is 0: it has none in hand, or,
-- if the tree is flat, one that has not won its flag, which it discards
abbrev pub MayTake : {L S K : Type 0} → ℕ → WorkerOf L S K → Type 0
MayTake from v = (v.card ≡ None) ⊎ ((0 < from) × (v.flagged ≡ false))

-- a card is in hand, not flagged
abbrev pub with_card : {L S K : Type 0} → ℕ → WorkerOf L S K → WorkerOf L S K
with_card c v = record v { card = Some c; flagged = false }

-- the next card is claimed, filled, and in hand; it expects a child word of this tag
abbrev pub claims : Scene → ℕ → List (Field × ℕ) → Scene
claims s tag filling = record {
  words = claimed s.words tag filling;
  worker = with_card s.words.next s.worker;
}

-- what an operation puts into the tree, if anything: its key with its value, if that is absent or has a certain value
abbrev pub put_of : Op → Option Put
put_of (Insert key value) = Some (record { key = key; value = value; was = None })
put_of (Swap key was value) = Some (record { key = key; value = value; was = Some was })
put_of _ = None

-- at a leaf of this key and this value there is place for a key: the leaf has another key, or this one with the value
-- that is to go
abbrev pub HasPlace : ℕ → Option ℕ → ℕ → ℕ → Type 0
HasPlace key None leaf_key leaf_value = leaf_key ≢ key
HasPlace key (Some was) leaf_key leaf_value = (leaf_key ≡ key) × (leaf_value ≡ was)

-- there is place for what is put
abbrev pub TakesPut : Put → ℕ → ℕ → Type 0
TakesPut what leaf_key leaf_value = HasPlace what.key what.was leaf_key leaf_value

-- a node gives place to what is put: a leaf, as above; and to an insert, of a flat tree, an internal node whose block lacks
-- the key
pub record GivesPlace (w : Words) (what : Put) (x : ℕ) : Type 0 where
  pub leaf : IsLeaf x → TakesPut what (w.key x) (w.value x)
  pub edge : IsInternal x → (what.was ≡ None) × (¬ IsInBlock w x what.key)

-- claim for an insert or a swap: at such a node, where there is place for what it puts, the worker has no card in hand,
-- or, in a flat tree, one that has not won its flag, which it discards. In a flat tree an insert's key is in the
-- parent's block, and the card's node gets a branch as its key. The card expects the parent's child word.
pub record ClaimPut (s : Scene) (said : Stepped) (after : Scene) : Type 0 where
  pub op : Op
  pub what : Put
  pub below : ℕ
  pub parent : Seen
  pub node_key : ℕ
  pub busy : s.worker.operation ≡ Some op
  pub puts : put_of op ≡ Some what
  pub ready : MayTake s.words.flat_from s.worker
  pub at : AtCleanNode s.worker below parent
  pub takes : GivesPlace s.words what below
  pub fits : what.was ≡ None → IsInBlock s.words parent.node what.key
  pub named : IsNodeKey s.words.flat_from what.key (s.words.key below) node_key
  pub says : said ≡ Moved
  pub gives : after ≡ claims s parent.tag
      (put_filling (is_flat s.words) s.words.next what.key what.value node_key parent.node below (s.words.key below) (value_below s.words below))

-- claim for a delete: at such a leaf of its key, with a grandparent whose update word it read clean, and whose child
-- word the card expects, the worker has no card in hand, or, in a flat tree, one that has not won its flag, which it
-- discards
pub record ClaimDelete (s : Scene) (said : Stepped) (after : Scene) : Type 0 where
  pub key : ℕ
  pub leaf : ℕ
  pub parent : Seen
  pub grandparent : Seen
  pub deletes : s.worker.operation ≡ Some (Delete key)
  pub ready : MayTake s.words.flat_from s.worker
  pub at : AtCleanLeaf s.worker leaf parent
  pub present : s.words.key leaf ≡ key
  pub above : s.worker.search.grandparent ≡ Some grandparent
  pub calm : IsClean grandparent.word
  pub says : said ≡ Moved
  pub gives : after ≡ claims s grandparent.tag (delete_filling grandparent.node parent.node leaf parent.word)

-- an operation is in hand, and its card, if that is flagged, is known backed
pub record MayStop (v : Worker) : Type 0 where
  pub op : Op
  pub busy : v.operation ≡ Some op
  pub backed : (c : ℕ) → v.card ≡ Some c → v.flagged ≡ true → v.knows (Backed c) ≡ true

-- again: the search stands at the root anew
pub record Again (s : Scene) (said : Stepped) (after : Scene) : Type 0 where
  pub may : MayStop s.worker
  pub says : said ≡ Moved
  pub gives : after ≡ record s { worker = begun s.worker.operation s.worker }

-- leave: nothing is in hand any more
pub record Leave (s : Scene) (said : Stepped) (after : Scene) : Type 0 where
  pub may : MayStop s.worker
  pub says : said ≡ Moved
  pub gives : after ≡ record s { worker = ended s.worker }

-- the value of a key at a leaf, if the leaf has the key
abbrev pub value_at : Words → ℕ → ℕ → Option ℕ
value_at w leaf key = if w.key leaf == key then Some (w.value leaf) else None

-- the answer at a leaf that has the operation's key with a value, or lacks it: a find's, or no if nothing is to do
abbrev pub leaf_answer : Op → Option ℕ → Option Reply
leaf_answer (Find key) there = Some (found there)
leaf_answer (Insert key value) (Some there) = Some No
leaf_answer (Delete key) None = Some No
leaf_answer (Swap key was value) None = Some No
leaf_answer (Swap key was value) (Some there) = if there == was then None else Some (Found there)
leaf_answer _ _ = None

pub record AnswersAtLeaf (s : Scene) (op : Op) (reply : Reply) : Type 0 where
  pub leaf : ℕ
  pub stands : s.worker.search.node ≡ Some leaf
  pub outer : IsLeaf leaf
  pub answers : leaf_answer op (value_at s.words leaf (key_of op)) ≡ Some reply

-- the answer by a flagged card: yes, once the card is known to be over
abbrev pub card_answer : Op → ℕ → Knowledge → Option Reply
card_answer (Find key) c known = None
card_answer (Insert key value) c known = if known (IOver c) then Some Yes else None
card_answer (Delete key) c known = if known (DOver c) then Some Yes else None
card_answer (Swap key was value) c known = if known (IOver c) then Some (Found was) else None

pub record AnswersByCard (s : Scene) (op : Op) (reply : Reply) : Type 0 where
  pub card : ℕ
  pub holds : s.worker.card ≡ Some card
  pub flagged : s.worker.flagged ≡ true
  pub answers : card_answer op card s.worker.knows ≡ Some reply

-- an operation's answer: at a leaf if it has one there, else by its card
abbrev pub HasAnswer : Scene → Op → Reply → Type 0
HasAnswer s op reply = AnswersAtLeaf s op reply ⊎ (AnswersByCard s op reply × ((r : Reply) → ¬ AnswersAtLeaf s op r))

-- a ledger that has an entry of a key has this one now; one that has none stays
abbrev pub settled : Ledger → ℕ → Entry → Option Entry → Ledger
settled ledger key entry None = ledger
settled ledger key entry (Some old) = put ledger key (Some entry)

-- the ledger after an answer: if it has the key, an insert that answers yes makes that present with its value, a delete
-- absent
abbrev pub ledger_after : Op → Reply → Ledger → Ledger
ledger_after (Insert key value) Yes ledger = settled ledger key (Present value) (ledger key)
ledger_after (Delete key) Yes ledger = settled ledger key Absent (ledger key)
ledger_after (Swap key was value) (Found there) ledger =
    if there == was then settled ledger key (Present value) (ledger key) else ledger
ledger_after _ _ ledger = ledger

-- answer: an operation is in hand and has an answer; it is said, the ledger goes by it, and nothing is in hand any more
pub record Answer (s : Scene) (said : Stepped) (after : Scene) : Type 0 where
  pub op : Op
  pub reply : Reply
  pub busy : s.worker.operation ≡ Some op
  pub answers : HasAnswer s op reply
  pub says : said ≡ Answered reply
  pub gives : after ≡ record s { worker = record (ended s.worker) { ledger = ledger_after op reply s.worker.ledger } }
