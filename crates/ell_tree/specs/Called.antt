use Rattle.std.specs.Prelude.{◌≡◌, ◌≢◌, ℕ, ◌+◌, ◌⊎◌, if◌then◌else◌, Bool, true, false, Option, Some, None, is_some, Result, Ok, Err, List, [], ◌∷◌, ◌++◌, length, ◌≤◌}
use Rattle.ell_ops.specs.declared.op.Op.{Op}
use Rattle.ell_ops.specs.declared.op.Op.TheVariants.{Delete, Find, Insert, Swap}
use Rattle.ell_ops.specs.declared.reply.Reply.{Reply}
use Rattle.ell_ops.specs.declared.reply.Reply.TheVariants.{Yes}
use Rattle.ell_ops.specs.Meaning.{found, yes_if}
use Rattle.ell_core.specs.statements.Effects.{reply_of_change}
use Rattle.ell_runs.specs.declared.view.Act.{Act}
use Rattle.ell_runs.specs.declared.view.Sight.{Sight}
use Rattle.ell_runs.specs.Histories.{IsCall}
use Rattle.ell_runs.specs.Views.{Has}
use Rattle.ell_cards.specs.Models.{PassModel}
use Rattle.ell_runs.specs.Seeing.{HasSeenMore, SeesCall}
use Rattle.ell_runs.specs.Sights.{IsPart}
use Rattle.ell_tree.specs.declared.operations.NotDone.{NotDone}

-- what is so of what an operation took: a delete may have taken a value, and no other has
abbrev pub ByItsTake : Op → (Option ℕ → Type 0) → Type 0
ByItsTake (Delete key) Is = (taken : Option ℕ) × Is taken
ByItsTake op Is = Is None

-- The call began behind all that the pass had seen of the tree's history, it is a call of what the pass has seen now,
-- and it is the last one of the pass's calls. A call that has no answer adds none.
abbrev pub SeesAnswer : Op → PassModel → PassModel → Result Reply NotDone → Type 0
SeesAnswer op old new (Ok said) = SeesCall op said None old.sight new.sight
SeesAnswer op old new (Err why) = HasSeenMore old.sight new.sight

-- What the pass has seen of the history is as after `insert`, and the call took the value that it returns.
abbrev pub SeesTake : ℕ → PassModel → PassModel → Result (Option ℕ) NotDone → Type 0
SeesTake key old new (Ok taken) = SeesCall (Delete key) (yes_if (is_some taken)) taken old.sight new.sight
SeesTake key old new (Err why) = HasSeenMore old.sight new.sight

-- What the pass has seen of the history is as after `insert`, and the call took a value exactly if it says so.
abbrev pub SeesDelete : ℕ → PassModel → PassModel → Result Bool NotDone → Type 0
SeesDelete key old new (Ok said) = (taken : Option ℕ) × (is_some taken ≡ said) × SeesTake key old new (Ok taken)
SeesDelete key old new (Err why) = SeesTake key old new (Err why)

-- what a pass has seen since then: calls that it was answered meanwhile, each of which began behind all that it had seen
-- then, and none of which has changed anything
pub record SeesNoChange (old new : Sight) : Type 0 where
  pub more : IsPart old.seen new.seen
  pub calls : List Act
  pub mine : new.mine ≡ calls ++ old.mine
  pub each : (a : Act) → Has calls a → (length old.seen ≤ a.begin)
      × IsCall new.seen a.begin a.end a.op a.said a.took × (a.said ≢ reply_of_change a.op)

-- such calls, and then this one
pub record SeesLast (op : Op) (said : Reply) (took : Option ℕ) (old new : Sight) : Type 0 where
  pub between : Sight
  pub before : SeesNoChange old between
  pub last : SeesCall op said took between new

-- what puts a value at a key, by what was there of it: an insert, where the key was absent, or a swap of the value that
-- it had
abbrev pub put_by : ℕ → ℕ → Option ℕ → Op
put_by key value None = Insert key value
put_by key value (Some was) = Swap key was value

-- Each of its operations is a call of the tree's history, as the pass has seen it, and began behind all that the pass
-- had seen before. Only the last has changed anything: what put the value.
abbrev pub SeesPut : ℕ → ℕ → PassModel → PassModel → Result (Option ℕ) NotDone → Type 0
SeesPut key value old new (Ok was) =
    SeesLast (put_by key value was) (reply_of_change (put_by key value was)) None old.sight new.sight
SeesPut key value old new (Err why) = SeesNoChange old.sight new.sight

-- of a call that only found this of a key: last a find, or a swap of another value
abbrev pub SeesRead : ℕ → Option ℕ → PassModel → PassModel → Type 0
SeesRead key was old new = SeesLast (Find key) (found was) None old.sight new.sight
    ⊎ ((other value : ℕ) × (was ≢ Some other) × SeesLast (Swap key other value) (found was) None old.sight new.sight)

-- Each of its operations is a call of the tree's history, as the pass has seen it, and began behind all that the pass
-- had seen before. Only the last has changed anything: the swap of the value.
abbrev pub SeesUpdate : ℕ → (ℕ → ℕ → Type 0) → PassModel → PassModel → Result (Option ℕ) NotDone → Type 0
SeesUpdate key makes old new (Ok None) = SeesRead key None old new
SeesUpdate key makes old new (Ok (Some was)) = (value : ℕ) × makes was value × SeesPut key value old new (Ok (Some was))
SeesUpdate key makes old new (Err why) = SeesNoChange old.sight new.sight

-- Each of its operations is a call of the tree's history, as the pass has seen it, and began behind all that the pass
-- had seen before. Only the last has changed anything: the delete, which took `was`.
abbrev pub SeesRemove : ℕ → ℕ → PassModel → PassModel → Result (Option ℕ) NotDone → Type 0
SeesRemove key was old new (Ok there) =
    (there ≡ Some was → SeesLast (Delete key) Yes (Some was) old.sight new.sight)
    × (there ≢ Some was → SeesLast (Find key) (found there) None old.sight new.sight)
SeesRemove key was old new (Err why) = SeesNoChange old.sight new.sight

abbrev pub is_find : Op → Bool
is_find (Find key) = true
is_find _ = false

-- how many of these calls were tries of a change: all but the finds
abbrev pub tries_in : List Act → ℕ
tries_in [] = 0
tries_in (a ∷ mine) = (if is_find a.op then 0 else 1) + tries_in mine
