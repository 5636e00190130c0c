use Rattle.std.specs.Prelude.{◌≡◌, ◌≢◌, ◌<◌, ◌≤◌, ◌+◌, ◌*◌, ℕ, Bool, Option, None, Result, Ok, Err, IfOk, IfErr, List, length, min, drop, IfSome}
use Rattle.ell_ops.specs.declared.op.Op.{Op}
use Rattle.ell_ops.specs.declared.op.Op.TheVariants.{Delete, Find, Insert, Swap}
use Rattle.ell_ops.specs.declared.reply.Reply.{Reply}
use Rattle.ell_ops.specs.Contents.{contents_of}
use Rattle.ell_ops.specs.Meaning.{found, greatest_key, key_of}
use Rattle.ell_cards.specs.InRuns.{IsKnownInRun}
use Rattle.ell_cards.specs.Models.{PassModel}
use Rattle.ell_runs.specs.declared.view.View.{View}
use Rattle.ell_tree.specs.Called.{SeesAnswer, SeesDelete, SeesPut, SeesRemove, SeesTake, SeesUpdate}
use Rattle.ell_tree.specs.CardsLeft.{AreLeftAtMost, ReadsCardsLeft}
use Rattle.ell_tree.specs.CardsTaken.{TakesNoCard}
use Rattle.ell_tree.specs.Computing.{AreTried, AreTriedOrRead, IsNotDone, IsSum, PutsValue, RemovesIf, UpdatesValue, update_steps_in, whether_put}
use Rattle.ell_tree.specs.Counts.{Took, TookIn}
use Rattle.ell_tree.specs.Ends.{Answers, CountsTries, Ends, TakesValue, find_steps, found_or_not_done, replied, whether, whether_swapped}
use Rattle.ell_tree.specs.LookPlaces.{SeesLast, SeesNext, SeesScan, SeesThere}
use Rattle.ell_tree.specs.Looks.{EndsLooks, IsFoundIn, OnlyLooks, look_steps}
use Rattle.ell_tree.specs.Promises.{IsOthersDoing, IsQuiet, IsWithin, SpendsCards}
use Rattle.ell_tree.specs.Scans.{AreFoundIn, AreInOrder, IsLastIn, IsNextIn, end_of, scan_steps, written}
use Rattle.ell_tree.specs.declared.operations.NotDone.{NotDone}
use Rattle.ell_tree.specs.declared.operations.NotDone.TheVariants as not_done
use Rattle.ell_tree.specs.declared.scanning.Pair.{Pair}
use Rattle.ell_tree.specs.declared.scanning.Scanned.{Scanned}
use Rattle.elltree.specs.Handles.{IsPlain, deepest_of, last_card_of, tree_of}
use Rattle.elltree.specs.declared.handle.Handle.{Handle}
use Rattle.elltree.specs.declared.refusal.Refusal.{Refusal}
use Rattle.elltree.specs.declared.refusal.Refusal.TheVariants.{BadKey, Busy, NoTries, Spent}

-- a find: the tree's, on its conditions, which is a call of the tree's history, as the handle has seen it; no key above
-- the greatest is present
pub record Finds (key : ℕ) (old new : Handle) (there : Option ℕ) : Type 0 where
  pub answers : key ≤ greatest_key → Answers (tree_of old) (Find key) (found there) old.pass new.pass
  pub sees : key ≤ greatest_key → SeesAnswer (Find key) old.pass new.pass (Ok (found there))
  pub quiet : IsQuiet (tree_of old) old.pass new.pass
  pub steps : Took old.pass new.pass (find_steps (deepest_of old))
  pub cards : TakesNoCard old.pass new.pass
  pub beyond : greatest_key < key → (there ≡ None) × (new ≡ old)
  pub tree : new.tree ≡ old.tree

-- a call that only looks, once, in at most so many steps: the pass came to `looked`, and knew this by then; where cards
-- come back, a run of the tree led there, and the pass has then ended the look, by one step more; and elsewhere the
-- handle has that pass. And this is so of what the handle has seen of the tree's history
pub record HasLooked (old new : Handle) (steps : ℕ) (IsKnown : View → Type 0)
    (IsSeen : PassModel → PassModel → Type 0) : Type 0 where
  pub looked : PassModel
  pub so : IsKnown looked.view
  pub one : looked.view.looks ≡ old.pass.view.looks + 1
  pub only : OnlyLooks old.pass looked steps
  pub cards : TakesNoCard old.pass looked
  pub known : (tree_of old).plan.slots ≢ None → IsKnownInRun (tree_of old).plan looked.view
  pub ends : EndsLooks (tree_of old).plan.slots looked new.pass
  pub sees : IsSeen old.pass new.pass
  pub tree : new.tree ≡ old.tree

-- so a scan, which may make more steps
abbrev pub HasScanned : Handle → Handle → (View → Type 0) → (PassModel → PassModel → Type 0) → Type 0
HasScanned old new = HasLooked old new (scan_steps (tree_of old).plan)

-- nothing is found, and the handle is as it was
abbrev pub FindsNothing : {A : Type 0} → Handle → Handle → Option A → Type 0
FindsNothing old new there = (there ≡ None) × (new ≡ old)

-- a look: the answer is what the tree had for the key in one state since this look began, and has its place in an order
-- of the calls of the history that the handle has seen
pub record LooksUp (key : ℕ) (old new : Handle) (there : Option ℕ) : Type 0 where
  pub so : key ≤ greatest_key
      → HasLooked old new (look_steps (deepest_of old)) (λ v. IsFoundIn (tree_of old) v key there)
      (SeesThere (tree_of old) key there)
  pub beyond : greatest_key < key → FindsNothing old new there

-- the end of the keys of a range, of which none is above the greatest
abbrev pub real_end : ℕ → ℕ
real_end upto = min upto (greatest_key + 1)

-- a scan of a range, which wrote pairs to an array: the tree's, on its conditions
pub record Scans (from upto : ℕ) (before after : List Pair) (old new : Handle) (result : Scanned) : Type 0 where
  pub so : HasScanned old new
      (λ v. AreFoundIn (tree_of old) v from (end_of (real_end upto) result) (contents_of (written after result)))
      (SeesScan (tree_of old) from (end_of (real_end upto) result) (contents_of (written after result)))
  pub ordered : AreInOrder from (end_of (real_end upto) result) (written after result)
  pub count : result.count ≤ length before
  pub next : IfSome result.next (λ next. (from ≤ next) × (next < real_end upto) × (result.count ≡ length before))
  pub others : drop result.count after ≡ drop result.count before

-- a search for the next key from one on; none is present above the greatest
pub record SeeksNext (key : ℕ) (old new : Handle) (there : Option (ℕ × ℕ)) : Type 0 where
  pub so : key ≤ greatest_key
      → HasScanned old new (λ v. IsNextIn (tree_of old) v key there) (SeesNext (tree_of old) key there)
  pub beyond : greatest_key < key → FindsNothing old new there

-- a search for the last key up to one
abbrev pub SeeksLast : ℕ → Handle → Handle → Option (ℕ × ℕ) → Type 0
SeeksLast key old new there = HasScanned old new (λ v. IsLastIn (tree_of old) v (real_end (key + 1)) there)
    (SeesLast (tree_of old) (real_end (key + 1)) there)

-- a handle has read the claim word of its tree, by which so many cards were not given out then; in every run no more
-- are left ever after
pub record ReadsCards (old new : Handle) (left : ℕ) : Type 0 where
  pub reads : ReadsCardsLeft (last_card_of old) old.pass new.pass left
  pub most : AreLeftAtMost (tree_of old) new.pass.view left
  pub limit : left ≤ last_card_of old
  pub worker : new.pass.view.worker ≡ old.pass.view.worker
  pub cards : TakesNoCard old.pass new.pass
  pub tree : new.tree ≡ old.tree

-- what a pass has seen of an insert that ended so
abbrev pub SeesInsert : ℕ → ℕ → PassModel → PassModel → Result Bool NotDone → Type 0
SeesInsert key value old new result = SeesAnswer (Insert key value) old new (replied result)

-- and of a swap
abbrev pub SeesSwap : ℕ → ℕ → ℕ → PassModel → PassModel → Result (Option ℕ) NotDone → Type 0
SeesSwap key current value old new result = SeesAnswer (Swap key current value) old new (found_or_not_done result)

-- an insert, a delete or a swap: the tree's, in so many tries, of which the handle has seen this; how many cards it
-- takes is told where none comes back
pub record Changes {A : Type 0} (op : Op) (tries : ℕ) (reply : Result A NotDone → Result Reply NotDone)
    (made : Result A NotDone → Result Bool NotDone) (Sees : PassModel → PassModel → Result A NotDone → Type 0)
    (old new : Handle) (result : Result A NotDone) : Type 0 where
  pub ends : Ends (tree_of old) tries op old.pass new.pass (reply result)
  pub sees : Sees old.pass new.pass result
  pub others : result ≡ Err not_done.Busy → IsOthersDoing (tree_of old) tries old.pass new.pass
  pub steps : IsWithin (tree_of old) tries old.pass new.pass
  pub cards : IsPlain old → SpendsCards (key_of op) tries old.pass new.pass (made result)
  pub enough : 2 * last_card_of old < tries → result ≢ Err not_done.Busy
  pub tree : new.tree ≡ old.tree

abbrev pub Inserts : ℕ → ℕ → ℕ → Handle → Handle → Result Bool NotDone → Type 0
Inserts key value tries = Changes (Insert key value) tries replied (λ result. result) (SeesInsert key value)

abbrev pub Deletes : ℕ → ℕ → Handle → Handle → Result Bool NotDone → Type 0
Deletes key tries = Changes (Delete key) tries replied (λ result. result) (SeesDelete key)

-- a delete that tells which value it took
pub record Takes (key tries : ℕ) (old new : Handle) (result : Result (Option ℕ) NotDone) : Type 0 where
  pub deletes : Changes (Delete key) tries (λ result. replied (whether result)) whether (SeesTake key) old new result
  pub took : IfOk result (TakesValue (tree_of old) key old.pass new.pass)

-- a swap, which tells what the key had
abbrev pub Swaps : ℕ → ℕ → ℕ → ℕ → Handle → Handle → Result (Option ℕ) NotDone → Type 0
Swaps key current value tries = Changes (Swap key current value) tries found_or_not_done (whether_swapped current)
    (SeesSwap key current value)

-- a call that reads a key, and then tries to change it by what it has read: the tree's, which makes so many tries, and
-- of whose operations the handle has seen this; the cards are told as above
pub record Computes (key tries : ℕ) (Does : Handle → Handle → Option ℕ → Type 0)
    (AreMade : ℕ → PassModel → PassModel → Type 0) (made : Result (Option ℕ) NotDone → Result Bool NotDone)
    (Sees : PassModel → PassModel → Result (Option ℕ) NotDone → Type 0)
    (old new : Handle) (result : Result (Option ℕ) NotDone) : Type 0 where
  pub does : IfOk result (Does old new)
  pub sees : Sees old.pass new.pass result
  pub unanswered : IfErr result (IsNotDone (tree_of old) key old.pass new.pass)
  pub tried : result ≡ Err not_done.Busy → AreMade tries old.pass new.pass
  pub steps : TookIn (tree_of old).plan old.pass new.pass (update_steps_in (tree_of old).plan tries)
  pub counted : CountsTries tries old.pass new.pass
  pub cards : IsPlain old → SpendsCards key tries old.pass new.pass (made result)
  pub tree : new.tree ≡ old.tree

abbrev pub Puts : ℕ → ℕ → ℕ → Handle → Handle → Result (Option ℕ) NotDone → Type 0
Puts key value tries = Computes key tries (λ old new. PutsValue (tree_of old) key value old.pass new.pass)
    AreTried whether_put (SeesPut key value)

abbrev pub Adds : ℕ → ℕ → ℕ → Handle → Handle → Result (Option ℕ) NotDone → Type 0
Adds key addend tries = Computes key tries (λ old new. UpdatesValue (tree_of old) key (IsSum addend) old.pass new.pass)
    AreTried whether (SeesUpdate key (IsSum addend))

abbrev pub Removes : ℕ → ℕ → ℕ → Handle → Handle → Result (Option ℕ) NotDone → Type 0
Removes key current tries = Computes key tries (λ old new. RemovesIf (tree_of old) key current old.pass new.pass)
    AreTriedOrRead (whether_swapped current) (SeesRemove key current)

-- a key may be changed in so many tries
pub record MayTry (key tries : ℕ) : Type 0 where
  pub some : 1 ≤ tries
  pub real : key ≤ greatest_key

-- why it may not: want of tries comes first
abbrev pub TryRefuses : ℕ → ℕ → Refusal → Type 0
TryRefuses key tries NoTries = tries ≡ 0
TryRefuses key tries BadKey = (1 ≤ tries) × (greatest_key < key)
TryRefuses key tries _ = ⊥

-- how a call ends that changes a key: it is refused and leaves the handle as it was, exactly if it allows no try, or the
-- key is above the greatest; otherwise the tree's call is made, and its outcome is told
abbrev pub Outcome : {A : Type 0} → ℕ → ℕ → (Handle → Handle → Result A NotDone → Type 0) → Handle → Handle → Result A Refusal → Type 0
Outcome key tries IsSo old new (Ok said) = MayTry key tries × IsSo old new (Ok said)
Outcome key tries IsSo old new (Err NoTries) = (tries ≡ 0) × (new ≡ old)
Outcome key tries IsSo old new (Err BadKey) = (1 ≤ tries) × ((greatest_key < key) × (new ≡ old))
Outcome key tries IsSo old new (Err Busy) = MayTry key tries × IsSo old new (Err not_done.Busy)
Outcome key tries IsSo old new (Err Spent) = MayTry key tries × IsSo old new (Err not_done.Spent)
Outcome key tries IsSo old new (Err _) = ⊥
