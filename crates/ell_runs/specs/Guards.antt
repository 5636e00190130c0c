use Rattle.std.specs.Prelude.{◌≡◌, ◌≢◌, ℕ, ◌≤◌, ◌⊎◌, ◌==◌, nat_le, nat_lt, Bool, true, false, Option, Some, None, IfSome}
use Rattle.ell_ops.specs.declared.op.Op.{Op}
use Rattle.ell_ops.specs.declared.op.Op.TheVariants.{Find, Insert, Delete, Swap}
use Rattle.ell_ops.specs.Meaning.{key_of}
use Rattle.ell_word.specs.declared.update.Update.{Update}
use Rattle.ell_word.specs.Node.{IsInternal}
use Rattle.ell_word.specs.Word.{packed}
use Rattle.ell_core.specs.declared.fact.Fact.{Fact}
use Rattle.ell_core.specs.declared.fact.Fact.TheVariants.{IFlagged, IOver, DFlagged, Marked, DOver}
use Rattle.ell_layout.specs.declared.field.Field.{Field}
use Rattle.ell_layout.specs.declared.field.Field.TheVariants as field
use Rattle.ell_core.specs.declared.put.Put.{Put}
use Rattle.ell_core.specs.declared.view.Seen.{Seen}
use Rattle.ell_core.specs.state.Machine.{worker_of}
use Rattle.ell_layout.specs.Cards.{stored}
use Rattle.ell_core.specs.acts.Searching.{put_of, IsClean, MayTake, leaf_answer}
use Rattle.ell_layout.specs.Words.{IsLeaf, has_block}
use Rattle.ell_core.specs.statements.Told.{is_fixed}
use Rattle.ell_core.specs.tree.Flat.{IsNodeKey}
use Rattle.ell_block.specs.Blocks.{Block, InBlockOf, middle_of, half_from, half_end}
use Rattle.ell_runs.specs.declared.view.Told.TheVariants.{Met, Key, Value, Info, Frozen, Expects}
use Rattle.ell_core.specs.statements.Readers.{from_of, upto_of}
use Rattle.ell_runs.specs.declared.glance.Glance.{Glance}
use Rattle.ell_runs.specs.declared.glance.Stretch.{Stretch}
use Rattle.ell_runs.specs.declared.view.View.{View}
use Rattle.ell_runs.specs.Sayings.{put_says, delete_says}
use Rattle.ell_runs.specs.Views.{IsTold, Knows, KnowsDelete, Does, StandsAt, IsFree, HasCome, HasComeWhole, stored_at}
use Rattle.ell_ops.specs.declared.reply.Reply.{Reply}
use Rattle.ell_ops.specs.declared.reply.Reply.TheVariants.{Yes}
use Rattle.ell_core.specs.soundness.Sound.{MayChange}
use Rattle.ell_core.specs.statements.Effects.{reply_of_change}
use Rattle.ell_word.specs.declared.link.Link.{Link}
use Rattle.ell_runs.specs.declared.call.NewNode.{NewNode}

-- begin: nothing is in hand, and the key is owned, or shared
abbrev pub MayBegin : View → Op → Type 0
MayBegin v op = IsFree v × MayChange (worker_of v.worker) (key_of op)

-- what a leaf has of key k, by what the pass was told of the leaf: its key and, if that is k, its value
abbrev pub TellsOf : View → ℕ → ℕ → ℕ → Option ℕ → Type 0
TellsOf v leaf key k None = key ≢ k
TellsOf v leaf key k (Some value) = (key ≡ k) × IsTold v (Value leaf value)

-- an answer at the leaf where the pass stands: it was told the leaf's key and, if that is the operation's, its value
pub record KnowsAnswerAtLeaf (v : View) (op : Op) (said : Reply) : Type 0 where
  pub leaf : ℕ
  pub key : ℕ
  pub there : Option ℕ
  pub stands : StandsAt v leaf
  pub outer : IsLeaf leaf
  pub told : v.here ≡ Some key
  pub tells : TellsOf v leaf key (key_of op) there
  pub says : leaf_answer op there ≡ Some said

-- the card of an operation is known to be over
abbrev pub CardIsOver : View → Op → ℕ → Type 0
CardIsOver v (Find k) c = ⊥
CardIsOver v (Insert k value) c = Knows v (IOver c)
CardIsOver v (Delete k) c = Knows v (DOver c)
CardIsOver v (Swap k was value) c = Knows v (IOver c)

-- an answer by the card in hand, which is over
pub record KnowsAnswerByCard (v : View) (op : Op) (said : Reply) : Type 0 where
  pub card : ℕ
  pub holds : v.worker.card ≡ Some card
  pub flagged : v.worker.flagged ≡ true
  pub over : CardIsOver v op card
  pub says : said ≡ reply_of_change op

-- a delete that says yes took this value: its pass was told it of the leaf of the card that it has in hand
pub record TakesBy (v : View) (op : Op) (said : Reply) (value : ℕ) : Type 0 where
  pub key : ℕ
  pub card : ℕ
  pub leaf : ℕ
  pub deletes : op ≡ Delete key
  pub says : said ≡ Yes
  pub holds : v.worker.card ≡ Some card
  pub at_leaf : IsTold v (Info card field.L leaf)
  pub at_value : IsTold v (Value leaf value)

-- answer: an operation is in hand, has this answer, and took this value, if it took one
pub record MayAnswer (v : View) (said : Reply) (took : Option ℕ) : Type 0 where
  pub op : Op
  pub busy : Does v op
  pub answers : KnowsAnswerAtLeaf v op said ⊎ KnowsAnswerByCard v op said
  pub takes : IfSome took (TakesBy v op said)

-- upd: the pass stands at this internal node, and has not read its update word
pub record MayRead (v : View) (x : ℕ) : Type 0 where
  pub stands : StandsAt v x
  pub inner : IsInternal x
  pub unread : v.worker.search.read ≡ None

-- down: the pass stands without a card at this internal node, read its update word and was told its key; this is the
-- operation's side
pub record MayGoDown (v : View) (x : ℕ) (right : Bool) : Type 0 where
  pub op : Op
  pub word : ℕ
  pub key : ℕ
  pub busy : Does v op
  pub stands : StandsAt v x
  pub inner : IsInternal x
  pub read : v.worker.search.read ≡ Some word
  pub told : v.here ≡ Some key
  pub side : right ≡ nat_le key (key_of op)
  pub no_card : v.worker.card ≡ None

-- the words of a card that are nodes where it is flagged or marks
abbrev pub NamesNode : Field → Type 0
NamesNode field.Gp = Unit {0}
NamesNode field.P = Unit {0}
NamesNode _ = ⊥

-- the pass was told where a card is flagged or marks
abbrev pub KnowsWhere : View → ℕ → Type 0
KnowsWhere v c = (x : ℕ) × (IsTold v (Info c field.P x) ⊎ IsTold v (Info c field.Gp x))

-- a card is known flagged or marked that says this word, by whose card it is
abbrev pub KnowsSaying : View → ℕ → Field → Type 0
KnowsSaying v c f = (Knows v (IFlagged c) × (put_says f ≡ true)) ⊎ (KnowsDelete v c × (delete_says f ≡ true))

-- info: the card is known flagged or marked and says this word, which never changes, and the pass was told where it is
-- flagged or marks
pub record MayAsk (v : View) (c : ℕ) (f : Field) : Type 0 where
  pub knows : KnowsSaying v c f
  pub place : KnowsWhere v c
  pub fixed : is_fixed f ≡ true

-- a stretch of keys is in a half of the block whose middle a number is
pub record IsInHalf (number : ℕ) (right : Bool) (keys : Stretch) : Type 0 where
  pub block : Block
  pub middle : number ≡ middle_of block
  pub from : half_from block right ≤ keys.low
  pub upto : keys.high ≤ half_end block right

-- these keys go on to the child on a side of a node with this key: they are some by which a look has come there, and
-- which go to that side; where they go on as one, they have come so, and are of a node that has a block keys of that
-- half of it
pub record GoOnBy (from : ℕ) (glance : Glance) (key : ℕ) (right : Bool) (keys : Stretch) : Type 0 where
  pub low : from_of right glance.low key ≤ keys.low
  pub high : keys.high ≤ upto_of right glance.high key
  pub whole : keys.whole ≡ true → (glance.whole ≡ true) × (has_block from glance.node ≡ true → IsInHalf key right keys)

-- look_down, in a tree that is flat from a card on: a look has come to this internal node by these keys, the pass has
-- met it and was told its key, and those keys go on to the child on a side
pub record MayLookDown (from : ℕ) (v : View) (glance : Glance) (keys : Stretch) (right : Bool) : Type 0 where
  pub come : HasCome v glance.node glance.low glance.high
  pub as_one : glance.whole ≡ true → HasComeWhole v glance.node glance.low glance.high
  pub met : IsTold v (Met glance.node)
  pub inner : IsInternal glance.node
  pub key : ℕ
  pub told : IsTold v (Key glance.node key)
  pub goes : GoOnBy from glance key right keys

-- frozen_child, iunflag, dunflag and backtrack: a fact is known of the card, and this is its word in a field, a node
pub record KnowsPlace (v : View) (known : Fact) (c : ℕ) (f : Field) (x : ℕ) : Type 0 where
  pub knows : Knows v known
  pub place : IsTold v (Info c f x)

-- what an insert's claim wants of the node at which it ends, of this key, and of that one's parent: it is a leaf of
-- another key, whose value was told, or an internal node whose block lacks the insert's key; the parent's has it; and
-- the card's node gets the key that is for the two keys
pub record WantsInsert (from : ℕ) (v : View) (k parent x key node_key : ℕ) : Type 0 where
  pub leaf : IsLeaf x → (key ≢ k) × ((value : ℕ) × IsTold v (Value x value))
  pub edge : IsInternal x → (has_block from x ≡ true) × (¬ InBlockOf key k)
  pub fits : has_block from parent ≡ true → (above : ℕ) × IsTold v (Key parent above) × InBlockOf above k
  pub named : IsNodeKey from k key node_key

-- a swap's: it is a leaf of its key, and has the value that is to go; the card's node gets that key, and is not used
pub record WantsSwap (v : View) (k was x key node_key : ℕ) : Type 0 where
  pub outer : IsLeaf x
  pub same : key ≡ k
  pub value : IsTold v (Value x was)
  pub named : node_key ≡ k

-- a delete's: it is a leaf of its key, with a grandparent that was read clean
pub record WantsDelete (v : View) (k x key : ℕ) : Type 0 where
  pub outer : IsLeaf x
  pub same : key ≡ k
  pub above : Seen
  pub grandparent : v.worker.search.grandparent ≡ Some above
  pub calm : IsClean above.word

abbrev pub Wants : ℕ → View → Op → ℕ → ℕ → ℕ → ℕ → Type 0
Wants from v (Find k) parent x key node_key = ⊥
Wants from v (Insert k value) parent x key node_key = WantsInsert from v k parent x key node_key
Wants from v (Swap k was value) parent x key node_key = WantsSwap v k was x key node_key
Wants from v (Delete k) parent x key node_key = WantsDelete v k x key

-- claim, in a tree that is flat from a card on, for a card whose node gets this key: next read this card, which is not
-- in hand; the pass has no card in hand, or, in a flat tree, one that has not won its flag, which it discards; and it
-- stands at a node whose key it was told, behind a clean parent
pub record MayClaim (from : ℕ) (v : View) (c : ℕ) (node : NewNode) : Type 0 where
  pub op : Op
  pub below : ℕ
  pub key : ℕ
  pub parent : Seen
  pub read : v.next ≡ Some c
  pub other : v.worker.card ≢ Some c
  pub ready : MayTake from v.worker
  pub busy : Does v op
  pub stands : StandsAt v below
  pub told : v.here ≡ Some key
  pub behind : v.worker.search.parent ≡ Some parent
  pub calm : IsClean parent.word
  pub wants : Wants from v op parent.node below key node.key
  pub shape : node.flat ≡ nat_lt 0 from

-- fill: the card is in hand, not flagged
pub record MayFill (v : View) (c : ℕ) : Type 0 where
  pub holds : v.worker.card ≡ Some c
  pub unflagged : v.worker.flagged ≡ false

-- the card in hand is filled: what was stored is what it is to say, in every field
abbrev pub IsFilled : View → Type 0
IsFilled v = (f : Field) → stored_at v.stores f ≡ stored v.planned f 0

-- iflag: an insert's or a swap's card is in hand, filled and not flagged; the parent was read with this update
pub record MayIFlag (v : View) (c p : ℕ) (from : Update) : Type 0 where
  pub op : Op
  pub what : Put
  pub leaf : ℕ
  pub busy : Does v op
  pub puts : put_of op ≡ Some what
  pub may : MayFill v c
  pub parent : Seen
  pub stands : StandsAt v leaf
  pub behind : v.worker.search.parent ≡ Some parent
  pub node : parent.node ≡ p
  pub read : parent.word ≡ packed from
  pub filled : IsFilled v

-- dflag: the same of a delete's card, at the grandparent
pub record MayDFlag (v : View) (c gp : ℕ) (from : Update) : Type 0 where
  pub key : ℕ
  pub leaf : ℕ
  pub parent : Seen
  pub grandparent : Seen
  pub busy : Does v (Delete key)
  pub may : MayFill v c
  pub stands : StandsAt v leaf
  pub behind : v.worker.search.parent ≡ Some parent
  pub above : v.worker.search.grandparent ≡ Some grandparent
  pub node : grandparent.node ≡ gp
  pub read : grandparent.word ≡ packed from
  pub filled : IsFilled v

-- ichild: the card is known flagged; these are its parent, its leaf with the tag that it expects, whether it replaces a
-- leaf, as it does where the keys of its leaves are the same, and the side there of the right one's key
pub record MayIChild (v : View) (c p : ℕ) (l : Link) (replaces right : Bool) : Type 0 where
  pub parent_key : ℕ
  pub right_key : ℕ
  pub left_key : ℕ
  pub knows : Knows v (IFlagged c)
  pub parent : IsTold v (Info c field.P p)
  pub leaf : IsTold v (Info c field.L l.node)
  pub expects : IsTold v (Expects c l.tag)
  pub told_parent : IsTold v (Key p parent_key)
  pub told_right : IsTold v (Info c field.RightLeafKey right_key)
  pub told_left : IsTold v (Info c field.LeftLeafKey left_key)
  pub brings : replaces ≡ (left_key == right_key)
  pub side : right ≡ nat_le parent_key right_key

-- mark: the card is known flagged, and these are its parent and the update word that its search read there
abbrev pub MayMark : View → ℕ → ℕ → ℕ → Type 0
MayMark v c p was = KnowsPlace v (DFlagged c) c field.P p × IsTold v (Info c field.Was was)

-- the sibling of leaf l at the parent that the card marked: the right child, or the left one where the right one is l
abbrev pub IsSibling : View → ℕ → ℕ → ℕ → Type 0
IsSibling v c l s = (IsTold v (Frozen c true s) × (s ≢ l)) ⊎ (IsTold v (Frozen c true l) × IsTold v (Frozen c false s))

-- dchild: the card is known marked; these are its grandparent, its parent with the tag that it expects, its leaf's
-- sibling, and that one's side above
pub record MayDChild (v : View) (c gp : ℕ) (p : Link) (s : ℕ) (right : Bool) : Type 0 where
  pub leaf : ℕ
  pub grandparent_key : ℕ
  pub sibling_key : ℕ
  pub knows : Knows v (Marked c)
  pub grandparent : IsTold v (Info c field.Gp gp)
  pub parent : IsTold v (Info c field.P p.node)
  pub expects : IsTold v (Expects c p.tag)
  pub below : IsTold v (Info c field.L leaf)
  pub sibling : IsSibling v c leaf s
  pub told_grandparent : IsTold v (Key gp grandparent_key)
  pub told_sibling : IsTold v (Key s sibling_key)
  pub side : right ≡ nat_le grandparent_key sibling_key
