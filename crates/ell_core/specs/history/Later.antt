use Rattle.std.specs.Prelude.{◌≡◌, ◌≢◌, ℕ, ◌<◌, ◌≤◌, Bool, true, false, List, [], ◌∷◌, ◌++◌}
use Rattle.ell_word.specs.Node.{card, internal}
use Rattle.ell_core.specs.declared.exchange.Exchange.{Exchange}
use Rattle.ell_core.specs.declared.exchange.Exchange.TheVariants as exchange
use Rattle.ell_core.specs.declared.event.Act.{Act}
use Rattle.ell_core.specs.declared.event.Stepped.{Stepped}
use Rattle.ell_core.specs.declared.fact.Fact.{Fact}
use Rattle.ell_layout.specs.declared.field.Field.{Field}
use Rattle.ell_layout.specs.Words.{Words, word}
use Rattle.ell_core.specs.state.Machine.{Machine}
use Rattle.ell_layout.specs.Cards.{marked}
use Rattle.ell_core.specs.history.Stages.{Stage, Stages, IFlagged, IChanged, IOver, RChanged, ROver, DFlagged, DUnmarkable, DMarked, DCut, DOver, DBacked, is_start, is_insert, is_delete, is_born, allows, Born}
use Rattle.ell_core.specs.history.Invariant.{Invariant}
use Rattle.ell_core.specs.acts.Wins.{wins_by}

-- the words of a card that say where it goes are as they were
pub record SameInfo (old new : Words) (c : ℕ) : Type 0 where
  pub gp : new.gp c ≡ old.gp c
  pub p : new.p c ≡ old.p c
  pub l : new.l c ≡ old.l c
  pub expects : new.expects c ≡ old.expects c
  pub was : new.was c ≡ old.was c

-- all words of a card are as they were, with their tags
pub record SaysTheSame (old new : Words) (c : ℕ) : Type 0 where
  pub words : (field : Field) → word new c field ≡ word old c field
  pub expects : new.expects c ≡ old.expects c
  pub tags : (right : Bool) → new.tag (internal c) right ≡ old.tag (internal c) right

-- an update word and the child words of a node are as they were
pub record SameNode (old new : Words) (x : ℕ) : Type 0 where
  pub update : new.update x ≡ old.update x
  pub child : (right : Bool) → new.child x right ≡ old.child x right
  pub tag : (right : Bool) → new.tag x right ≡ old.tag x right

-- the words of a later state: the tree is flat as it was; the claim word, the tags of children and the update words rose or
-- stayed, no child became 0, and a claimed card's is the same while its tag is; it goes where it went and its nodes have their keys and values,
-- and a marked node is as it was
pub record WordsLater (old new : Words) : Type 0 where
  pub flat : new.flat_from ≡ old.flat_from
  pub next : old.next ≤ new.next
  pub tag : (x : ℕ) (right : Bool) → old.tag x right ≤ new.tag x right
  pub child : (x : ℕ) (right : Bool) → card x < old.next → new.tag x right ≡ old.tag x right
      → new.child x right ≡ old.child x right
  pub some : (x : ℕ) (right : Bool) → old.child x right ≢ 0 → new.child x right ≢ 0
  pub update : (x : ℕ) → old.update x ≤ new.update x
  pub info : (c : ℕ) → c < old.next → SameInfo old new c
  pub key : (x : ℕ) → card x < old.next → new.key x ≡ old.key x
  pub value : (x : ℕ) → card x < old.next → new.value x ≡ old.value x
  pub frozen : (x c : ℕ) → old.update x ≡ marked c → SameNode old new x

-- the stages of a later state: the cards of the opening tree are the same, no card changed its kind, no node that came
-- into the tree went back, and what might be known of a card still may
pub record StagesLater (old new : Stages) : Type 0 where
  pub start : (c : ℕ) → is_start (new c) ≡ is_start (old c)
  pub insert : (c : ℕ) → is_insert (old c) ≡ true → is_insert (new c) ≡ true
  pub delete : (c : ℕ) → is_delete (old c) ≡ true → is_delete (new c) ≡ true
  pub born : (x : ℕ) → Born old x → Born new x
  pub told : (fact : Fact) (c : ℕ) → allows fact (old c) ≡ true → allows fact (new c) ≡ true

-- the wins of a card up to a stage, in their order
abbrev pub wins_of : Stage → List Exchange
wins_of IFlagged = exchange.IFlag ∷ []
wins_of IChanged = exchange.IFlag ∷ exchange.IChild ∷ []
wins_of IOver = exchange.IFlag ∷ exchange.IChild ∷ exchange.IUnflag ∷ []
wins_of RChanged = exchange.IFlag ∷ exchange.IChild ∷ []
wins_of ROver = exchange.IFlag ∷ exchange.IChild ∷ exchange.IUnflag ∷ []
wins_of DFlagged = exchange.DFlag ∷ []
wins_of DUnmarkable = exchange.DFlag ∷ []
wins_of DMarked = exchange.DFlag ∷ exchange.Mark ∷ []
wins_of DCut = exchange.DFlag ∷ exchange.Mark ∷ exchange.DChild ∷ []
wins_of DOver = exchange.DFlag ∷ exchange.Mark ∷ exchange.DChild ∷ exchange.DUnflag ∷ []
wins_of DBacked = exchange.DFlag ∷ exchange.Backtrack ∷ []
wins_of _ = []

-- an act of worker i leads from a state that the invariant holds of to one that it holds of, with later words and
-- stages; a claimed card whose nodes did not come into the tree says what it said; and each card's wins grow by what
-- the act wins for it
pub record Follows (m : Machine) (stage : Stages) (a : Act) (i : ℕ) (said : Stepped) (after : Machine) : Type 0 where
  pub stages : Stages
  pub invariant : Invariant after stages
  pub words : WordsLater m.words after.words
  pub later : StagesLater stage stages
  pub unborn : (c : ℕ) → c < m.words.next → is_born (stage c) ≡ false → SaysTheSame m.words after.words c
  pub wins : (c : ℕ) → wins_of (stages c) ≡ wins_of (stage c) ++ wins_by a (m.worker i).card said c
