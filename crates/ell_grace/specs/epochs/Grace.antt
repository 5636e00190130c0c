use Rattle.std.specs.Prelude.{◌≡◌, ℕ, ◌+◌, ◌<◌, ◌≤◌, Bool, true, false, Option, Some, None, min}
use Rattle.ell_layout.specs.Words.{put}

-- What the protocol of epochs is about: the global epoch; which cards are gone for good; for each pass the epoch that
-- it announces while it is in an operation, and, though nobody reads them, what the epoch was and which cards were gone
-- when that operation began; the card that it is about to set free, with the retire epoch that it loaded; of its last
-- scan the least announcement that it has seen, and at which passes it has looked; the number below which a retire
-- epoch is safe for it; and the retire epochs of the cards that were set free.
pub record Grace : Type 0 where
  pub epoch : ℕ
  pub gone : ℕ → Bool
  pub word : ℕ → Option ℕ
  pub began : ℕ → ℕ
  pub was_gone : ℕ → ℕ → Bool
  pub pending : ℕ → Option (ℕ × ℕ)
  pub least : ℕ → ℕ
  pub seen : ℕ → ℕ → Bool
  pub safe_epoch : ℕ → ℕ
  pub free : ℕ → Option ℕ

-- the lesser of a number and an announcement, if there is one
abbrev pub least_with : ℕ → Option ℕ → ℕ
least_with n None = n
least_with n (Some a) = min n a

-- The steps, with so many announcements for passes. The epoch advances. A card is gone from now on. A pass announces an
-- epoch, which may be an old one, and so begins an operation; and it ends that. It loads the epoch as the retire epoch
-- of a card that is gone, and sets that card free with that. It begins a scan by a load of the epoch, it looks at the
-- word of an announcement, and once it has looked at all announcements, the least number that it saw is its safe epoch.
-- And it takes the slot of a free card whose retire epoch is below that.
pub data GraceStep (announcements : ℕ) (w : Grace) : Grace → Type 0 where
  advances : {w' : Grace} → w' ≡ record w { epoch = w.epoch + 1 } → GraceStep announcements w w'
  dies : {w' : Grace} (c : ℕ) → w' ≡ record w { gone = put w.gone c true } → GraceStep announcements w w'
  begins : {w' : Grace} (j a : ℕ) → j < announcements → a ≤ w.epoch
      → w' ≡ record w {
        word = put w.word j (Some a);
        began = put w.began j w.epoch;
        was_gone = put w.was_gone j w.gone;
      }
      → GraceStep announcements w w'
  ends : {w' : Grace} (j : ℕ) → w' ≡ record w { word = put w.word j None } → GraceStep announcements w w'
  gets_retire_epoch : {w' : Grace} (i c : ℕ) → w.gone c ≡ true
      → w' ≡ record w { pending = put w.pending i (Some (c, w.epoch)) }
      → GraceStep announcements w w'
  frees : {w' : Grace} (i c r : ℕ) → w.pending i ≡ Some (c, r) → w' ≡ record w { free = put w.free c (Some r) }
      → GraceStep announcements w w'
  scans : {w' : Grace} (i : ℕ) → w' ≡ record w { least = put w.least i w.epoch; seen = put w.seen i (λ j. false) }
      → GraceStep announcements w w'
  looks : {w' : Grace} (i j : ℕ)
      → w' ≡ record w { least = put w.least i (least_with (w.least i) (w.word j)); seen = put w.seen i (put (w.seen i) j true) }
      → GraceStep announcements w w'
  settles : {w' : Grace} (i : ℕ) → ((j : ℕ) → j < announcements → w.seen i j ≡ true)
      → w' ≡ record w { safe_epoch = put w.safe_epoch i (w.least i) }
      → GraceStep announcements w w'
  takes : {w' : Grace} (i c r : ℕ) → w.free c ≡ Some r → r < w.safe_epoch i → w' ≡ record w { free = put w.free c None }
      → GraceStep announcements w w'
