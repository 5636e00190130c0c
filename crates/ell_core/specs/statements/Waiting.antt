use Rattle.std.specs.Prelude.{◌≡◌, ℕ, ◌<◌, ◌↔◌, ◌⊎◌, true, false, Some, List, []}
use Rattle.ell_word.specs.Node.{card}
use Rattle.ell_core.specs.declared.event.Act.TheVariants as act
use Rattle.ell_core.specs.declared.event.Event.{Event}
use Rattle.ell_core.specs.declared.event.Stepped.{Stepped}
use Rattle.ell_core.specs.declared.event.Stepped.TheVariants.{Won}
use Rattle.ell_layout.specs.declared.field.Field.{Field}
use Rattle.ell_layout.specs.Words.{table_word}
use Rattle.ell_core.specs.state.Machine.{Machine}
use Rattle.ell_layout.specs.Cards.{claimed, stored, tagged_for}
use Rattle.ell_core.specs.acts.Events.{Steps}
use Rattle.ell_core.specs.history.Stages.{Stages, is_start, Born, waits}
use Rattle.ell_core.specs.history.Invariant.{Invariant}
use Rattle.ell_core.specs.history.Later.{SaysTheSame, Follows, wins_of}
use Rattle.ell_core.specs.acts.Wins.{wins_by}

-- a card is in hand, and is not flagged
pub record IsUnflagged (m : Machine) (i c : ℕ) : Type 0 where
  pub holds : (m.worker i).card ≡ Some c
  pub unflagged : (m.worker i).flagged ≡ false

-- which cards wait: each that was claimed, but those of the opening tree, and has won nothing; so none whose nodes came
-- into the tree. A card in hand waits if it is not flagged, and then it is in no other hand; a flagged one does not
-- wait
pub record CardsWait (m : Machine) (stage : Stages) : Type 0 where
  pub which : (c : ℕ) → (waits (stage c) ≡ true)
      ↔ ((c < m.words.next) × (is_start (stage c) ≡ false) × (wins_of (stage c) ≡ []))
  pub born : (x : ℕ) → Born stage x → waits (stage (card x)) ≡ false
  pub hand : (i c : ℕ) → IsUnflagged m i c → waits (stage c) ≡ true
  pub alone : (i j c : ℕ) → IsUnflagged m i c → (m.worker j).card ≡ Some c → i ≡ j
  pub flagged : (i c : ℕ) → (m.worker i).card ≡ Some c → (m.worker i).flagged ≡ true → waits (stage c) ≡ false

-- so it is in every state that the invariant holds of
abbrev pub StagesTellWaiting : Type 0
StagesTellWaiting = (m : Machine) (stage : Stages) → Invariant m stage → CardsWait m stage

-- an event wins the flag of a card that its worker has in hand
pub record WinsFlag (m : Machine) (e : Event) (said : Stepped) (c : ℕ) : Type 0 where
  pub won : said ≡ Won
  pub holds : (m.worker e.worker).card ≡ Some c
  pub flags : (e.act ≡ act.IFlag) ⊎ (e.act ≡ act.DFlag)

-- what an event does to cards that wait: it changes none of their words; one waits on where the event wins nothing for
-- it, and leaves off by its own flag alone; and none but the next card, by a claim, begins to wait
pub record LeavesWaiting (m : Machine) (stage : Stages) (e : Event) (said : Stepped) (m' : Machine)
    (stages : Stages) : Type 0 where
  pub words : (c : ℕ) → waits (stage c) ≡ true → SaysTheSame m.words m'.words c
  pub stays : (c : ℕ) → waits (stage c) ≡ true → wins_by e.act (m.worker e.worker).card said c ≡ []
      → waits (stages c) ≡ true
  pub ends : (c : ℕ) → waits (stage c) ≡ true → waits (stages c) ≡ false → WinsFlag m e said c
  pub begins : (c : ℕ) → waits (stage c) ≡ false → waits (stages c) ≡ true → (e.act ≡ act.Claim) × (c ≡ m.words.next)
  pub claims : e.act ≡ act.Claim → waits (stages m.words.next) ≡ true

-- so does every event, with the stages that follow
abbrev pub EventsLeaveWaiting : Type 0
EventsLeaveWaiting =
    (m : Machine) (stage : Stages) (e : Event) (said : Stepped) (m' : Machine) → Invariant m stage → Steps m e said m'
    → (follows : Follows m stage e.act e.worker said m') → LeavesWaiting m stage e said m' follows.stages

-- after a claim, a table has at each field of the card what its filling has of it, or 0; at the leaf's with the tag that
-- the card expects
abbrev pub ClaimedCardsSay : Type 0
ClaimedCardsSay = (m : Machine) (stage : Stages) (tag : ℕ) (filling : List (Field × ℕ)) (field : Field) → Invariant m stage
    → table_word (claimed m.words tag filling) m.words.next field ≡ tagged_for field tag (stored filling field 0)
