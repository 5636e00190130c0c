use Rattle.std.specs.Prelude.{◌≡◌, ℕ, ◌≤◌, Bool, true, false, Some}
use Rattle.ell_ops.specs.declared.op.Op.{Op}
use Rattle.ell_ops.specs.Meaning.{key_of}
use Rattle.ell_word.specs.Node.{IsInternal, IsNode, card}
use Rattle.ell_core.specs.declared.fact.Fact.{Fact}
use Rattle.ell_core.specs.declared.fact.Fact.TheVariants.{Marked}
use Rattle.ell_core.specs.declared.view.Seen.{Seen}
use Rattle.ell_layout.specs.Words.{Words}
use Rattle.ell_core.specs.state.Facts.{card_of_fact}
use Rattle.ell_core.specs.state.Machine.{Worker, Scene}
use Rattle.ell_layout.specs.Cards.{sibling}
use Rattle.ell_core.specs.soundness.Sound.{MayChange}

-- a node of a table with so many cards
abbrev pub IsTableNode : ℕ → ℕ → Type 0
IsTableNode cards x = (card x ≤ cards) × IsNode x

-- an internal node of the table
abbrev pub IsInner : ℕ → ℕ → Type 0
IsInner cards x = IsTableNode cards x × IsInternal x

-- the tags of all children are at most the number of the last card
abbrev pub TagsFit : ℕ → Words → Type 0
TagsFit cards w = (x : ℕ) (right : Bool) → w.tag x right ≤ cards

-- the grandparents and parents of all cards are internal nodes of the table, and the tags of children are small
pub record WordsFit (cards : ℕ) (w : Words) : Type 0 where
  pub gp : (c : ℕ) → IsInner cards (w.gp c)
  pub p : (c : ℕ) → IsInner cards (w.p c)
  pub tags : TagsFit cards w

-- a worker stands at a node of the table, with a card of it in hand and facts of its cards; what its search has behind
-- it, while that card is not flagged, are internal nodes of the table; while it stands somewhere, the tags that its
-- search saw are small; and it may change its operation's key
pub record WorkerFits (cards : ℕ) (v : Worker) : Type 0 where
  pub node : (x : ℕ) → v.search.node ≡ Some x → IsTableNode cards x
  pub card : (c : ℕ) → v.card ≡ Some c → c ≤ cards
  pub parent : (c : ℕ) (seen : Seen) → v.card ≡ Some c → v.flagged ≡ false → v.search.parent ≡ Some seen
      → IsInner cards seen.node
  pub grandparent : (c : ℕ) (seen : Seen) → v.card ≡ Some c → v.flagged ≡ false → v.search.grandparent ≡ Some seen
      → IsInner cards seen.node
  pub parent_tag : (x : ℕ) (seen : Seen) → v.search.node ≡ Some x → v.search.parent ≡ Some seen → seen.tag ≤ cards
  pub grandparent_tag : (x : ℕ) (seen above : Seen) → v.search.node ≡ Some x → v.search.parent ≡ Some seen
      → v.search.grandparent ≡ Some above → above.tag ≤ cards
  pub facts : (fact : Fact) → v.knows fact ≡ true → card_of_fact fact ≤ cards
  pub owned : (op : Op) → v.operation ≡ Some op → MayChange v (key_of op)

-- the sibling of the leaf of a delete that the worker knows marked is a node of the table
abbrev pub SiblingsFit : ℕ → Scene → Type 0
SiblingsFit cards s = (c : ℕ) → s.worker.knows (Marked c) ≡ true → IsTableNode cards (sibling s.words c)

-- what the invariant says of a scene by numbers alone, as its code asks for it
pub record SceneFits (cards : ℕ) (s : Scene) : Type 0 where
  pub words : WordsFit cards s.words
  pub worker : WorkerFits cards s.worker
  pub siblings : SiblingsFit cards s
