use Rattle.std.specs.Prelude.{◌≡◌, ◌≢◌, ℕ, ◌+◌, ◌<◌, ◌≤◌, ◌⊎◌, ◌↔◌, ◌==◌, if◌then◌else◌, Bool, true, false, not, Option, Some, None}
use Rattle.ell_ops.specs.declared.op.Op.{Op}
use Rattle.ell_ops.specs.declared.op.Op.TheVariants.{Find, Insert, Delete, Swap}
use Rattle.ell_ops.specs.Meaning.{greatest_key, key_of}
use Rattle.ell_word.specs.Node.{IsInternal, internal, left_leaf, right_leaf, infinity1, infinity2}
use Rattle.ell_word.specs.Word.{unpacked}
use Rattle.ell_core.specs.declared.fact.Fact.{Fact}
use Rattle.ell_layout.specs.declared.field.Field.{Field}
use Rattle.ell_core.specs.declared.put.Put.{Put}
use Rattle.ell_core.specs.declared.view.Seen.{Seen}
use Rattle.ell_layout.specs.Words.{Words, word, IsLeaf, is_flat}
use Rattle.ell_core.specs.state.Facts.{card_of_fact}
use Rattle.ell_core.specs.state.Machine.{Worker, Machine, entry_of}
use Rattle.ell_layout.specs.Cards.{iflag, dflag, marked, clean, is_right, child_for, tag_for, exchange_side, sibling, is_replace_card, left_of_card, right_of_card}
use Rattle.ell_core.specs.acts.Searching.{IsClean}
use Rattle.ell_core.specs.state.Handovers.{WorkerIsIdle}
use Rattle.ell_core.specs.soundness.Sound.{WorkerOwns, MayChange, IsNotShared, IsOwned, IsInHand, StrangersAreNobody}
use Rattle.ell_trie.specs.Ranges.{IsSpanned, IsCutOut, FindsLeaf, IsOrdered}
use Rattle.ell_trie.specs.Tries.{IsTrie}
use Rattle.ell_trie.specs.Courses.{OnTrieCourse}
use Rattle.ell_core.specs.tree.Flat.{opening_from, IsInBlock, IsNodeKey}
use Rattle.ell_core.specs.history.Stages.{Stages, Opening, is_claimed, is_start, is_insert, is_delete, is_born, insert_won, insert_open, insert_waits, is_changed, insert_over, delete_won, delete_open, delete_waits, is_markable, is_unmarkable, is_marked, is_cut, delete_past, allows, Born, effective_at}
use Rattle.ell_core.specs.declared.view.Entry.TheVariants.{Present}
use Rattle.ell_core.specs.tree.Rank.{rank}

-- all keys are below this number
abbrev pub top : ℕ
top = greatest_key + 3

-- x is reached from node 0 in the tree of these words
abbrev pub IsIn : Words → ℕ → Type 0
IsIn w x = IsSpanned w.key w.child top x

-- x is not reached from node 0
abbrev pub IsOut : Words → ℕ → Type 0
IsOut w x = IsCutOut w.key w.child top x

-- the walk for key k from x ends at a leaf of key k
abbrev pub LeadsTo : Words → ℕ → ℕ → Type 0
LeadsTo w k x = FindsLeaf w.key w.child (λ leaf. Unit {0}) k x

-- it ends at a leaf of key k and this value
abbrev pub LeadsToValue : Words → ℕ → ℕ → ℕ → Type 0
LeadsToValue w k value x = FindsLeaf w.key w.child (λ leaf. w.value leaf ≡ value) k x

-- x is on course for key k
abbrev pub IsOnCourse : Words → ℕ → ℕ → Type 0
IsOnCourse w k x = OnTrieCourse (opening_from w.flat_from) w.key w.child top k x

-- an insert's key: that of its two leaf keys which the leaf in the tree has not
abbrev pub insert_key : Words → ℕ → ℕ
insert_key w c = if w.key (left_leaf c) == w.key (w.l c) then w.key (right_leaf c) else w.key (left_leaf c)

-- an insert's value: that of the same leaf
abbrev pub insert_value : Words → ℕ → ℕ
insert_value w c = if w.key (left_leaf c) == w.key (w.l c) then w.value (right_leaf c) else w.value (left_leaf c)

-- a delete's key
abbrev pub delete_key : Words → ℕ → ℕ
delete_key w c = w.key (w.l c)

-- the side on which an insert puts its node at the parent
abbrev pub insert_side : Words → ℕ → Bool
insert_side w c = exchange_side w (w.p c) (internal c)

-- the side on which a delete cuts at the grandparent
abbrev pub delete_side : Words → ℕ → Bool
delete_side w c = is_right w (w.gp c) (delete_key w c)

-- the side of the parent on which a delete's leaf is
abbrev pub leaf_side : Words → ℕ → Bool
leaf_side w c = is_right w (w.p c) (delete_key w c)

-- an internal node that came into the tree
pub record IsInnerBorn (stage : Stages) (x : ℕ) : Type 0 where
  pub inner : IsInternal x
  pub born : Born stage x

-- the same of a leaf
pub record IsLeafBorn (stage : Stages) (x : ℕ) : Type 0 where
  pub outer : IsLeaf x
  pub born : Born stage x

-- a leaf of an insert's card is a copy of the old leaf: it has its key and its value. In a flat tree, and if the card goes
-- above an internal node, it is not used, and has that node's key.
pub record IsCopy (w : Words) (c leaf : ℕ) : Type 0 where
  pub key : w.key leaf ≡ w.key (w.l c)
  pub value : IsLeaf (w.l c) → w.value leaf ≡ w.value (w.l c)

-- the children of the node of an insert's card, as they were filled: its leaves, or in a flat tree, and above an internal
-- node, the node above which it goes in place of one of them
abbrev pub filled_child : Words → ℕ → Bool → ℕ
filled_child w c false = left_of_card (is_flat w) c (insert_key w c) (w.l c) (w.key (w.l c))
filled_child w c true = right_of_card (is_flat w) c (insert_key w c) (w.l c) (w.key (w.l c))

-- an insert's card: where it goes, with no grandparent and no update word that was read; two leaves, a copy of the old
-- one and one of its own key, which may be the same key, and which lie on one side of the parent; in a flat tree its key is
-- in the parent's block, if it is a new one, and not in that of an internal node above which it goes; and the tag that it
-- expects, which is below its own number and no greater than that of the parent's child word
pub record InsertCard (w : Words) (stage : Stages) (c : ℕ) : Type 0 where
  pub gp : w.gp c ≡ 0
  pub was : w.was c ≡ 0
  pub parent : IsInnerBorn stage (w.p c)
  pub lower : Born stage (w.l c)
  pub above : rank w (w.p c) < rank w (w.l c)
  pub before : w.l c < internal c
  pub edge : IsInternal (w.l c) → ¬ IsInBlock w (w.l c) (insert_key w c)
  pub fits : is_replace_card w c ≡ false → IsInBlock w (w.p c) (insert_key w c)
  pub ordered : w.key (left_leaf c) ≤ w.key (right_leaf c)
  pub node_key : IsNodeKey w.flat_from (w.key (left_leaf c)) (w.key (right_leaf c)) (w.key (internal c))
  pub copy : IsCopy w c (left_leaf c) ⊎ IsCopy w c (right_leaf c)
  pub real : insert_key w c ≤ greatest_key
  pub side : is_right w (w.p c) (insert_key w c) ≡ is_right w (w.p c) (w.key (w.l c))
  pub left_child : w.child (internal c) false ≢ 0
  pub expected : w.expects c < c
  pub at_least : w.expects c ≤ w.tag (w.p c) (insert_side w c)

-- a delete's card: where it cuts, the update word that its search read at the parent, and the tag that it expects
pub record DeleteCard (w : Words) (stage : Stages) (c : ℕ) : Type 0 where
  pub grandparent : IsInnerBorn stage (w.gp c)
  pub parent : IsInnerBorn stage (w.p c)
  pub leaf : IsLeafBorn stage (w.l c)
  pub first : rank w (w.gp c) < rank w (w.p c)
  pub above : rank w (w.p c) < rank w (w.l c)
  pub before : w.l c < internal c
  pub real : delete_key w c ≤ greatest_key
  pub calm : IsClean (w.was c)
  pub earlier : w.was c < iflag c
  pub expected : w.expects c < c
  pub no_left_child : w.child (internal c) false ≡ 0
  pub no_right_child : w.child (internal c) true ≡ 0

-- the nodes of a card that did not come into the tree: as they were filled
pub record Unborn (w : Words) (c : ℕ) : Type 0 where
  pub children : (right : Bool) → w.child (internal c) right ≡ filled_child w c right
  pub calm : w.update (internal c) ≡ clean 0

-- a card that was not claimed: all its words are 0
pub record Blank (w : Words) (c : ℕ) : Type 0 where
  pub words : (field : Field) → word w c field ≡ 0
  pub expects : w.expects c ≡ 0
  pub tags : (right : Bool) → w.tag (internal c) right ≡ 0

-- what a card says, by its kind
pub record CardIsSound (w : Words) (stage : Stages) (c : ℕ) : Type 0 where
  pub claimed : (is_claimed (stage c) ≡ true) ↔ (c < w.next)
  pub insert : is_insert (stage c) ≡ true → InsertCard w stage c
  pub delete : is_delete (stage c) ≡ true → DeleteCard w stage c
  pub unborn : is_insert (stage c) ≡ true → is_born (stage c) ≡ false → Unborn w c
  pub blank : is_claimed (stage c) ≡ false → Blank w c

-- what an insert's stage says of the parent's update word and child word; while it waits, the parent is on course for
-- its key
pub record InsertStage (w : Words) (stage : Stages) (c : ℕ) : Type 0 where
  pub flag : insert_open (stage c) ≡ true → w.update (w.p c) ≡ iflag c
  pub over : insert_over (stage c) ≡ true → iflag c < w.update (w.p c)
  pub waits : insert_waits (stage c) ≡ true → w.child (w.p c) (insert_side w c) ≡ w.l c
  pub tagged : insert_waits (stage c) ≡ true → w.tag (w.p c) (insert_side w c) ≡ w.expects c
  pub course : insert_waits (stage c) ≡ true → IsOnCourse w (insert_key w c) (w.p c)
  pub changed : is_changed (stage c) ≡ true → w.expects c < w.tag (w.p c) (insert_side w c)
  pub brings : is_changed (stage c) ≡ true → is_born (stage c) ≡ not (is_replace_card w c)

-- the parent of a delete that may still be marked: its update word is the one that the search read, with the leaf still
-- its child, or past it
pub record Markable (w : Words) (c : ℕ) : Type 0 where
  pub at_least : w.was c ≤ w.update (w.p c)
  pub still : w.update (w.p c) ≡ w.was c → w.child (w.p c) (leaf_side w c) ≡ w.l c

-- the parent of a delete that was marked: the mark, the leaf its child, and the sibling on the side on which the delete
-- cuts
pub record IsMarked (w : Words) (c : ℕ) : Type 0 where
  pub mark : w.update (w.p c) ≡ marked c
  pub leaf : w.child (w.p c) (leaf_side w c) ≡ w.l c
  pub side : exchange_side w (w.gp c) (sibling w c) ≡ delete_side w c

-- a delete that has cut: the grandparent's child word is past the one that it expected, and the parent is in the tree no
-- longer
pub record IsCut (w : Words) (c : ℕ) : Type 0 where
  pub past : w.expects c < w.tag (w.gp c) (delete_side w c)
  pub out : IsOut w (w.p c)

-- what a delete's stage says of the update words and children of grandparent and parent
pub record DeleteStage (w : Words) (stage : Stages) (c : ℕ) : Type 0 where
  pub flag : delete_open (stage c) ≡ true → w.update (w.gp c) ≡ dflag c
  pub past : delete_past (stage c) ≡ true → dflag c < w.update (w.gp c)
  pub waits : delete_waits (stage c) ≡ true → w.child (w.gp c) (delete_side w c) ≡ w.p c
  pub tagged : delete_waits (stage c) ≡ true → w.tag (w.gp c) (delete_side w c) ≡ w.expects c
  pub markable : is_markable (stage c) ≡ true → Markable w c
  pub unmarkable : is_unmarkable (stage c) ≡ true → w.was c < w.update (w.p c)
  pub marked : is_marked (stage c) ≡ true → IsMarked w c
  pub cut : is_cut (stage c) ≡ true → IsCut w c

-- an internal node that came into the tree: its children came too, have greater ranks, and keys on their side of its
-- own
pub record ChildrenAreSound (w : Words) (stage : Stages) (x : ℕ) : Type 0 where
  pub born : (right : Bool) → Born stage (w.child x right)
  pub rising : (right : Bool) → rank w x < rank w (w.child x right)
  pub left_less : w.key (w.child x false) < w.key x
  pub right_more : w.key x ≤ w.key (w.child x true)

-- its update word names a claimed card, and if it is a flag or a mark, that card set it here, and it stands
pub record UpdateIsSound (w : Words) (stage : Stages) (x : ℕ) : Type 0 where
  pub named : (unpacked (w.update x)).card < w.next
  pub iflagged : (c : ℕ) → w.update x ≡ iflag c → (insert_open (stage c) ≡ true) × (w.p c ≡ x)
  pub dflagged : (c : ℕ) → w.update x ≡ dflag c → (delete_open (stage c) ≡ true) × (w.gp c ≡ x)
  pub marked : (c : ℕ) → w.update x ≡ marked c → (is_marked (stage c) ≡ true) × (w.p c ≡ x)

-- the tree: in order, a trie if it is flat, with the two greatest keys in their places; and every internal node that came
-- into it is still there, or marked
pub record TreeIsSound (w : Words) (stage : Stages) : Type 0 where
  pub ordered : IsOrdered w.key w.child top (rank w)
  pub trie : 0 < w.flat_from → IsTrie (Born stage) (opening_from w.flat_from) w.key w.child
  pub root_key : w.key 0 ≡ infinity2
  pub root_right : w.child 0 true ≡ right_leaf 0
  pub right_key : w.key (right_leaf 0) ≡ infinity2
  pub last : LeadsTo w infinity1 0
  pub there : (x : ℕ) → IsInternal x → Born stage x → ((c : ℕ) → w.update x ≢ marked c) → IsIn w x

-- the words, with the stages of the cards; a flat tree is flat from the first card on that is not of the opening tree; a
-- child word has changed less often than cards were claimed
pub record WordsAreSound (w : Words) (stage : Stages) : Type 0 where
  pub opening : stage 0 ≡ Opening
  pub flat : 0 < w.flat_from → (c : ℕ) → (c < w.flat_from) ↔ (is_start (stage c) ≡ true)
  pub tags : (x : ℕ) (right : Bool) → w.tag x right < w.next
  pub cards : (c : ℕ) → CardIsSound w stage c
  pub inserts : (c : ℕ) → InsertStage w stage c
  pub deletes : (c : ℕ) → DeleteStage w stage c
  pub children : (x : ℕ) → IsInternal x → Born stage x → ChildrenAreSound w stage x
  pub updates : (x : ℕ) → IsInternal x → Born stage x → UpdateIsSound w stage x
  pub tree : TreeIsSound w stage

-- what a search has seen of a node on its way to x: the node has a lesser rank than x, and x's key on k's side; its update word
-- was read before its child word; and if that word was clean and still stands, so does the child word
pub record SeenIsSound (w : Words) (stage : Stages) (k : ℕ) (seen : Seen) (x : ℕ) : Type 0 where
  pub node : IsInnerBorn stage seen.node
  pub less : rank w seen.node < rank w x
  pub word : seen.word ≤ w.update seen.node
  pub side : is_right w seen.node (w.key x) ≡ is_right w seen.node k
  pub at_least : seen.tag ≤ tag_for w k seen.node
  pub still : IsClean seen.word → w.update seen.node ≡ seen.word → child_for w k seen.node ≡ x
  pub tagged : IsClean seen.word → w.update seen.node ≡ seen.word → tag_for w k seen.node ≡ seen.tag

-- a worker that stands at x with an operation on key k
pub record StandIsSound (w : Words) (stage : Stages) (v : Worker) (k x : ℕ) : Type 0 where
  pub born : Born stage x
  pub read : (word : ℕ) → v.search.read ≡ Some word → word ≤ w.update x
  pub leads : WorkerOwns v k → (value : ℕ) → LeadsToValue w k value x ↔ (v.ledger k ≡ Some (Present value))
  pub course : IsOnCourse w k x
  pub parent : (seen : Seen) → v.search.parent ≡ Some seen → SeenIsSound w stage k seen x × IsOnCourse w k seen.node
  pub grandparent : (seen above : Seen) → v.search.parent ≡ Some seen → v.search.grandparent ≡ Some above
      → SeenIsSound w stage k above seen.node
  pub has_parent : x ≢ 0 → v.search.parent ≢ None
  pub has_grandparent : (seen : Seen) → v.search.parent ≡ Some seen → seen.node ≢ 0 → v.search.grandparent ≢ None
  pub deep : IsLeaf x → w.key x ≤ greatest_key → v.search.grandparent ≢ None

-- a card adds its key, or replaces a leaf of its key and of a certain value
abbrev pub IsPutting : Words → ℕ → Option ℕ → Type 0
IsPutting w c None = w.key (left_leaf c) < w.key (right_leaf c)
IsPutting w c (Some was) = (w.key (left_leaf c) ≡ w.key (right_leaf c)) × (w.value (w.l c) ≡ was)

-- an insert's or swap's card in hand that is not flagged says what its worker's search saw, and has the operation's key
-- and value
pub record InsertInHand (w : Words) (stage : Stages) (v : Worker) (what : Put) (c : ℕ) : Type 0 where
  pub parent : Seen
  pub claimed : (is_insert (stage c) ≡ true) × (insert_won (stage c) ≡ false)
  pub stands : v.search.node ≡ Some (w.l c)
  pub behind : v.search.parent ≡ Some parent
  pub node : parent.node ≡ w.p c
  pub calm : IsClean parent.word
  pub earlier : parent.word < iflag c
  pub tagged : parent.tag ≡ w.expects c
  pub own : insert_key w c ≡ what.key
  pub own_value : insert_value w c ≡ what.value
  pub kind : IsPutting w c what.was

-- the same of a delete's card
pub record DeleteInHand (w : Words) (stage : Stages) (v : Worker) (k c : ℕ) : Type 0 where
  pub parent : Seen
  pub grandparent : Seen
  pub claimed : (is_delete (stage c) ≡ true) × (delete_won (stage c) ≡ false)
  pub stands : v.search.node ≡ Some (w.l c)
  pub behind : v.search.parent ≡ Some parent
  pub node : parent.node ≡ w.p c
  pub was : parent.word ≡ w.was c
  pub above : v.search.grandparent ≡ Some grandparent
  pub top_node : grandparent.node ≡ w.gp c
  pub calm : IsClean grandparent.word
  pub earlier : grandparent.word < iflag c
  pub tagged : grandparent.tag ≡ w.expects c
  pub own : delete_key w c ≡ k

-- a card in hand that is not flagged is of the operation's kind
abbrev pub Unflagged : Words → Stages → Worker → Op → ℕ → Type 0
Unflagged w stage v (Find k) c = ⊥
Unflagged w stage v (Insert k value) c = InsertInHand w stage v (record { key = k; value = value; was = None }) c
Unflagged w stage v (Swap k was value) c = InsertInHand w stage v (record { key = k; value = value; was = Some was }) c
Unflagged w stage v (Delete k) c = DeleteInHand w stage v k c

-- a card in hand that is flagged has what is put; an own key was absent, or present with the value that is to go
abbrev pub FlaggedPut : Words → Stages → Worker → Put → ℕ → Type 0
FlaggedPut w stage v what c =
    (insert_won (stage c) ≡ true) × (insert_key w c ≡ what.key) × (insert_value w c ≡ what.value)
    × (WorkerOwns v what.key → v.ledger what.key ≡ Some (entry_of what.was)) × IsPutting w c what.was

-- a card in hand that is flagged is of the operation's kind, key and value; an own key is absent for an insert, present
-- for a delete, and present with its first value for a swap
abbrev pub Flagged : Words → Stages → Worker → Op → ℕ → Type 0
Flagged w stage v (Find k) c = ⊥
Flagged w stage v (Insert k value) c = FlaggedPut w stage v (record { key = k; value = value; was = None }) c
Flagged w stage v (Swap k was value) c = FlaggedPut w stage v (record { key = k; value = value; was = Some was }) c
Flagged w stage v (Delete k) c = (delete_won (stage c) ≡ true) × (delete_key w c ≡ k)
    × (WorkerOwns v k → (value : ℕ) × (v.ledger k ≡ Some (Present value)))

-- a worker
pub record WorkerIsSound (w : Words) (stage : Stages) (v : Worker) : Type 0 where
  pub facts : (fact : Fact) → v.knows fact ≡ true → allows fact (stage (card_of_fact fact)) ≡ true
  pub real : (k : ℕ) → MayChange v k → k ≤ greatest_key
  pub free : v.operation ≡ None → WorkerIsIdle v
  pub owned : (op : Op) → v.operation ≡ Some op → MayChange v (key_of op)
  pub stands : (op : Op) (x : ℕ) → v.operation ≡ Some op → v.search.node ≡ Some x → StandIsSound w stage v (key_of op) x
  pub unflagged : (op : Op) (c : ℕ) → v.operation ≡ Some op → v.card ≡ Some c → v.flagged ≡ false
      → Unflagged w stage v op c
  pub flagged : (op : Op) (c : ℕ) → v.operation ≡ Some op → v.card ≡ Some c → v.flagged ≡ true
      → Flagged w stage v op c × (v.search.node ≡ None)

-- the workers: each key has one owner at most, and none if it is shared; the keys of the tree among a worker's, with
-- their values, are those present in its effective ledger, and each other key of the tree has an owner; a card is in
-- one hand at most, and one whose flag stands is in hand; and past the last worker there is nobody
pub record WorkersAreSound (m : Machine) (stage : Stages) : Type 0 where
  pub each : (i : ℕ) → WorkerIsSound m.words stage (m.worker i)
  pub one_owner : (i j k : ℕ) → WorkerOwns (m.worker i) k → WorkerOwns (m.worker j) k → i ≡ j
  pub present : (i k value : ℕ) → WorkerOwns (m.worker i) k → LeadsToValue m.words k value 0
      ↔ (effective_at stage (m.worker i) k ≡ Some (Present value))
  pub apart : (i j k : ℕ) → (m.worker i).shared k ≡ true → ¬ WorkerOwns (m.worker j) k
  pub owned : (k : ℕ) → k ≤ greatest_key → LeadsTo m.words k 0 → IsNotShared m k → IsOwned m k
  pub one_hand : (i j c : ℕ) → (m.worker i).card ≡ Some c → (m.worker j).card ≡ Some c → i ≡ j
  pub insert_in_hand : (c : ℕ) → insert_open (stage c) ≡ true → IsInHand m c
  pub delete_in_hand : (c : ℕ) → delete_open (stage c) ≡ true → IsInHand m c
  pub strangers : StrangersAreNobody m

-- a card below the claim word that goes nowhere
pub record GoesNowhere (w : Words) (c : ℕ) : Type 0 where
  pub below : c < w.next
  pub gp : w.gp c ≡ 0
  pub parent : w.p c ≡ 0
  pub leaf : w.l c ≡ 0
  pub was : w.was c ≡ 0
  pub expects : w.expects c ≡ 0

-- the cards of the opening tree go nowhere, and every other claimed card is an insert's or a delete's
pub record KindsAreSound (w : Words) (stage : Stages) : Type 0 where
  pub start : (c : ℕ) → is_start (stage c) ≡ true → GoesNowhere w c
  pub some : 0 < w.next
  pub kinds : (c : ℕ) → c < w.next → is_start (stage c) ≡ false → (is_insert (stage c) ≡ true)
      ⊎ (is_delete (stage c) ≡ true)

-- a state of a run
pub record Invariant (m : Machine) (stage : Stages) : Type 0 where
  pub words : WordsAreSound m.words stage
  pub workers : WorkersAreSound m stage
  pub limit : m.words.next ≤ m.last_card + 1
  pub kinds : KindsAreSound m.words stage

-- the invariant holds of a state, with some stages
pub record HasInvariant (m : Machine) : Type 0 where
  pub stages : Stages
  pub invariant : Invariant m stages
