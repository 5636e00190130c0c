use Rattle.std.specs.Prelude.{◌≡◌, ℕ, ◌==◌, ◌&&◌, if◌then◌else◌, Bool, true, false, Option, Some, None}
use Rattle.ell_ops.specs.declared.op.Op.{Op}
use Rattle.ell_ops.specs.declared.op.Op.TheVariants.{Delete}
use Rattle.ell_core.specs.acts.Searching.{put_of}
use Rattle.ell_core.specs.declared.event.Stepped.{Stepped}
use Rattle.ell_core.specs.declared.event.Stepped.TheVariants.{Won, Lost}
use Rattle.ell_core.specs.declared.fact.Fact.{Fact}
use Rattle.ell_core.specs.declared.fact.Fact.TheVariants.{IFlagged, IChanged, IOver, DFlagged, Marked, Unmarkable, Cut, DOver, Backed}
use Rattle.ell_core.specs.declared.put.Put.{Put}
use Rattle.ell_core.specs.declared.view.Seen.{Seen}
use Rattle.ell_core.specs.declared.view.WorkerOf.{WorkerOf}
use Rattle.ell_word.specs.declared.link.Link.{Link}
use Rattle.ell_layout.specs.Words.{Words, with_update, relinked}
use Rattle.ell_core.specs.state.Facts.{Knowledge, learned, learned_any, told_by}
use Rattle.ell_core.specs.state.Machine.{Worker, Scene}
use Rattle.ell_layout.specs.Cards.{iflag, dflag, marked, clean, exchange_side, sibling, brought}

-- what an exchange says, won or not
abbrev pub won_or_lost : Bool → Stepped
won_or_lost true = Won
won_or_lost false = Lost

-- the words after an exchange of a node's update word
abbrev pub exchanged_update : Words → ℕ → ℕ → ℕ → Words
exchanged_update w node expected new = if w.update node == expected then with_update w node new else w

-- the child of a node that an exchange to a new child is about
abbrev pub found_child : Words → ℕ → ℕ → ℕ
found_child w node new = w.child node (exchange_side w node new)

-- its tag
abbrev pub found_tag : Words → ℕ → ℕ → ℕ
found_tag w node new = w.tag node (exchange_side w node new)

-- whether that child word is the one that is expected: this node, with this tag
abbrev pub finds_link : Words → ℕ → Link → ℕ → Bool
finds_link w node expected new = (found_tag w node new == expected.tag) && (found_child w node new == expected.node)

-- the words after an exchange of a node's child word from the expected one to a new child, with the next tag
abbrev pub exchanged_child : Words → ℕ → Link → ℕ → Words
exchanged_child w node expected new =
    if finds_link w node expected new then relinked w node (exchange_side w node new) new else w

-- a worker that knows more
abbrev pub knowing : {L S K : Type 0} → WorkerOf L S K → K → WorkerOf L S K
knowing v known = record v { knows = known }

-- the search stands nowhere any more, and this card is in hand, flagged or not
abbrev pub off_the_tree : {L S K : Type 0} → Option ℕ → Bool → WorkerOf L S K → WorkerOf L S K
off_the_tree card flagged v =
    record v { search = record (v.search) { node = None; read = None }; card = card; flagged = flagged }

-- a worker after its own flag exchange: it stands nowhere, with its card flagged, or with none and what it found
abbrev pub flagged_worker : Worker → Bool → Fact → ℕ → Worker
flagged_worker v true fact found = record (off_the_tree v.card true v) { knows = learned v.knows fact }
flagged_worker v false fact found = record (off_the_tree None false v) { knows = learned_any v.knows (told_by found) }

-- the fact that a flag exchange tells, if any: its own, or what was found
abbrev pub flag_tells : Seen → Words → Fact → Option Fact
flag_tells seen w fact = if w.update seen.node == seen.word then Some fact else told_by (w.update seen.node)

-- an exchange of a flag, at a node from the update word that was read there
abbrev pub flags : Scene → Seen → ℕ → Fact → Scene
flags s seen new fact = record {
  words = exchanged_update s.words seen.node seen.word new;
  worker = flagged_worker s.worker (s.words.update seen.node == seen.word) fact (s.words.update seen.node);
}

-- iflag: an insert or a swap has a card in hand that is not flagged; it exchanges the parent's update word to the
-- card's flag
pub record IFlag (s : Scene) (said : Stepped) (after : Scene) : Type 0 where
  pub op : Op
  pub what : Put
  pub card : ℕ
  pub parent : Seen
  pub busy : s.worker.operation ≡ Some op
  pub puts : put_of op ≡ Some what
  pub holds : s.worker.card ≡ Some card
  pub unflagged : s.worker.flagged ≡ false
  pub behind : s.worker.search.parent ≡ Some parent
  pub says : said ≡ won_or_lost (s.words.update parent.node == parent.word)
  pub gives : after ≡ flags s parent (iflag card) (IFlagged card)

-- dflag: a delete has a card in hand that is not flagged; it exchanges the grandparent's update word to the card's flag
pub record DFlag (s : Scene) (said : Stepped) (after : Scene) : Type 0 where
  pub key : ℕ
  pub card : ℕ
  pub grandparent : Seen
  pub deletes : s.worker.operation ≡ Some (Delete key)
  pub holds : s.worker.card ≡ Some card
  pub unflagged : s.worker.flagged ≡ false
  pub above : s.worker.search.grandparent ≡ Some grandparent
  pub says : said ≡ won_or_lost (s.words.update grandparent.node == grandparent.word)
  pub gives : after ≡ flags s grandparent (dflag card) (DFlagged card)

-- the child word that a card's exchange expects: this node, with the tag that the card expects
abbrev pub expected : Words → ℕ → ℕ → Link
expected w c node = record { node = node; tag = w.expects c }

-- ichild: the card is known flagged; the parent's child is exchanged from the leaf to the node that the card brings
pub record IChild (c : ℕ) (s : Scene) (said : Stepped) (after : Scene) : Type 0 where
  pub may : s.worker.knows (IFlagged c) ≡ true
  pub says : said ≡ won_or_lost (finds_link s.words (s.words.p c) (expected s.words c (s.words.l c)) (brought s.words c))
  pub gives : after ≡ record {
    words = exchanged_child s.words (s.words.p c) (expected s.words c (s.words.l c)) (brought s.words c);
    worker = knowing s.worker (learned s.worker.knows (IChanged c));
  }

-- iunflag: the card is known changed; the parent's update word is exchanged from the flag to clean
pub record IUnflag (c : ℕ) (s : Scene) (said : Stepped) (after : Scene) : Type 0 where
  pub may : s.worker.knows (IChanged c) ≡ true
  pub says : said ≡ won_or_lost (s.words.update (s.words.p c) == iflag c)
  pub gives : after ≡ record {
    words = exchanged_update s.words (s.words.p c) (iflag c) (clean c);
    worker = knowing s.worker (learned s.worker.knows (IOver c));
  }

-- what a mark teaches: that it stands, or that it can't any more and what was found in its place
abbrev pub mark_teaches : Knowledge → ℕ → Bool → ℕ → Knowledge
mark_teaches known c true found = learned known (Marked c)
mark_teaches known c false found =
    if found == marked c then learned known (Marked c) else learned_any (learned known (Unmarkable c)) (told_by found)

-- mark: the card is known flagged; the parent's update word is exchanged from the one that the search read to the mark
pub record Mark (c : ℕ) (s : Scene) (said : Stepped) (after : Scene) : Type 0 where
  pub may : s.worker.knows (DFlagged c) ≡ true
  pub says : said ≡ won_or_lost (s.words.update (s.words.p c) == s.words.was c)
  pub gives : after ≡ record {
    words = exchanged_update s.words (s.words.p c) (s.words.was c) (marked c);
    worker = knowing s.worker (mark_teaches s.worker.knows c
        (s.words.update (s.words.p c) == s.words.was c) (s.words.update (s.words.p c)));
  }

-- dchild: the card is known marked; the grandparent's child is exchanged from the parent to the sibling of the leaf
pub record DChild (c : ℕ) (s : Scene) (said : Stepped) (after : Scene) : Type 0 where
  pub may : s.worker.knows (Marked c) ≡ true
  pub says : said ≡ won_or_lost (finds_link s.words (s.words.gp c) (expected s.words c (s.words.p c)) (sibling s.words c))
  pub gives : after ≡ record {
    words = exchanged_child s.words (s.words.gp c) (expected s.words c (s.words.p c)) (sibling s.words c);
    worker = knowing s.worker (learned s.worker.knows (Cut c));
  }

-- the grandparent's update word is exchanged from a delete's flag to clean, and a fact is learned
pub record DUnflags (c : ℕ) (fact : Fact) (s : Scene) (said : Stepped) (after : Scene) : Type 0 where
  pub says : said ≡ won_or_lost (s.words.update (s.words.gp c) == dflag c)
  pub gives : after ≡ record {
    words = exchanged_update s.words (s.words.gp c) (dflag c) (clean c);
    worker = knowing s.worker (learned s.worker.knows fact);
  }

-- dunflag: the card is known cut
pub record DUnflag (c : ℕ) (s : Scene) (said : Stepped) (after : Scene) : Type 0 where
  pub may : s.worker.knows (Cut c) ≡ true
  pub does : DUnflags c (DOver c) s said after

-- backtrack: the card is known unmarkable
pub record Backtrack (c : ℕ) (s : Scene) (said : Stepped) (after : Scene) : Type 0 where
  pub may : s.worker.knows (Unmarkable c) ≡ true
  pub does : DUnflags c (Backed c) s said after
