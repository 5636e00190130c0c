use Rattle.std.specs.Prelude.{◌≡◌, ◌≢◌, ℕ, ◌<◌, ◌≤◌, ◌⊎◌, Bool, true, false, Some}
use Rattle.ell_ops.specs.declared.op.Op.{Op}
use Rattle.ell_ops.specs.Meaning.{key_of}
use Rattle.ell_word.specs.Word.{unpacked}
use Rattle.ell_word.specs.declared.update.State.TheVariants as state
use Rattle.ell_core.specs.declared.event.Act.{Act}
use Rattle.ell_core.specs.declared.event.Act.TheVariants as act
use Rattle.ell_core.specs.declared.event.Event.{Event}
use Rattle.ell_core.specs.declared.event.Stepped.{Stepped}
use Rattle.ell_core.specs.declared.view.Seen.{Seen}
use Rattle.ell_layout.specs.Words.{Words}
use Rattle.ell_core.specs.state.Machine.{Worker, Machine}
use Rattle.ell_layout.specs.Cards.{clean}
use Rattle.ell_core.specs.acts.Searching.{at_root}
use Rattle.ell_core.specs.acts.Events.{Steps}
use Rattle.ell_core.specs.history.Stages.{Stage, Stages, IOver, ROver, DOver, DBacked, is_insert, is_cut}
use Rattle.ell_core.specs.history.Invariant.{Invariant}
use Rattle.ell_core.specs.history.Later.{WordsLater, StagesLater, Follows}
use Rattle.ell_core.specs.statements.Walks.{Avoids}

-- what a card was for has come to its end: its flag was taken away
abbrev pub has_ended : Stage → Bool
has_ended IOver = true
has_ended ROver = true
has_ended DOver = true
has_ended DBacked = true
has_ended _ = false

-- whether a card has cut at these stages
abbrev pub cut_at : Stages → ℕ → Bool
cut_at stage c = is_cut (stage c)

-- an update word is clean, or of a card that had not ended at these stages
abbrev pub IsOfUnended : Stages → ℕ → Type 0
IsOfUnended stage word = (unpacked word).state ≢ state.Clean → has_ended (stage (unpacked word).card) ≡ false

-- what a search has read at a node since these words and stages: no less than the word that stood there then, of no
-- card that had ended then, at no node that was cut out then
pub record SeenSince (w : Words) (stage : Stages) (node seen : ℕ) : Type 0 where
  pub word : w.update node ≤ seen
  pub unended : IsOfUnended stage seen
  pub there : (c : ℕ) → is_cut (stage c) ≡ true → w.p c ≢ node

-- a search that began at these words and stages: its walk goes by no node that was cut out then, and so is all that it
-- has read
pub record SearchSince (w : Words) (stage : Stages) (now : Words) (v : Worker) : Type 0 where
  pub walk : (op : Op) (x : ℕ) → v.operation ≡ Some op → v.search.node ≡ Some x
      → Avoids now (cut_at stage) (key_of op) x
  pub read : (x word : ℕ) → v.search.node ≡ Some x → v.search.read ≡ Some word
      → SeenSince w stage x word
  pub parent : (seen : Seen) → v.search.parent ≡ Some seen → SeenSince w stage seen.node seen.word
  pub grandparent : (seen : Seen) → v.search.grandparent ≡ Some seen → SeenSince w stage seen.node seen.word

-- an act that neither begins a search nor ends an operation
abbrev pub GoesOn : Act → Type 0
GoesOn (act.Begin op) = ⊥
GoesOn act.Again = ⊥
GoesOn act.Leave = ⊥
GoesOn act.Answer = ⊥
GoesOn _ = Unit {0}

-- a search that stands at the root began here
abbrev pub SearchesBegin : Type 0
SearchesBegin = (m : Machine) (stage : Stages) (i : ℕ) → Invariant m stage → (m.worker i).search ≡ at_root
    → SearchSince m.words stage m.words (m.worker i)

-- and it goes on so, whatever event of whatever worker comes, but a new beginning or an end of its own
abbrev pub SearchesGoOn : Type 0
SearchesGoOn = (m : Machine) (stage : Stages) (old : Machine) (before : Stages) (e : Event) (said : Stepped)
    (new : Machine) (i : ℕ)
    → Invariant m stage → Invariant old before → WordsLater m.words old.words → StagesLater stage before
    → Steps old e said new
    → (e.worker ≡ i → GoesOn e.act) → SearchSince m.words stage old.words (old.worker i)
    → SearchSince m.words stage new.words (new.worker i)

-- a card is an insert's, or another claimed one, and its flag is set at this node: an insert's at the parent, a
-- delete's at the grandparent
abbrev pub IsFlaggedAt : Words → Stages → ℕ → ℕ → Type 0
IsFlaggedAt now after x c = (c < now.next) × (((is_insert (after c) ≡ true) × (now.p c ≡ x)) ⊎ (now.gp c ≡ x))

-- each update word that has risen since to a clean one, of a card that may have a flag, is of one that has ended since,
-- whose flag was set there
abbrev pub CleansSince : Words → Stages → Words → Stages → Type 0
CleansSince w stage now after = (x c : ℕ) → w.update x < now.update x → now.update x ≡ clean c → 0 < c
    → (has_ended (stage c) ≡ false) × (has_ended (after c) ≡ true) × IsFlaggedAt now after x c

-- and it goes on so, whatever event comes
abbrev pub CleansGoOn : Type 0
CleansGoOn =
    (m : Machine) (stage : Stages) (old : Machine) (before : Stages) (e : Event) (said : Stepped) (new : Machine)
    → Invariant old before → StagesLater stage before → Steps old e said new
    → (follows : Follows old before e.act e.worker said new)
    → CleansSince m.words stage old.words before → CleansSince m.words stage new.words follows.stages
