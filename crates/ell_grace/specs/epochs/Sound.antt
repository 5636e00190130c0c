use Rattle.std.specs.Prelude.{◌≡◌, ℕ, ◌<◌, ◌≤◌, true, false, Some, None}
use Rattle.ell_grace.specs.epochs.Grace.{Grace, GraceStep}

-- a retire epoch of a card is a past epoch, the card is gone, and each pass that is in an operation which it began when
-- the epoch was past that began it when the card was gone
pub record IsRetireEpoch (w : Grace) (c r : ℕ) : Type 0 where
  pub past : r ≤ w.epoch
  pub gone : w.gone c ≡ true
  pub before : (j a : ℕ) → w.word j ≡ Some a → r < w.began j → w.was_gone j c ≡ true

-- What the steps keep. Who announces something has an announcement, and announces an epoch that was past when it began.
-- A safe epoch, and the least number of a scan for the announcements at which it looked, are no greater than what the
-- epoch was when a pass in an operation began that. And what is about to be set free, or was, has a retire epoch.
pub record GraceIsSound (announcements : ℕ) (w : Grace) : Type 0 where
  pub inside : (j a : ℕ) → w.word j ≡ Some a → j < announcements
  pub announced : (j a : ℕ) → w.word j ≡ Some a → (a ≤ w.began j) × (w.began j ≤ w.epoch)
  pub safe_epoch : (i j a : ℕ) → w.word j ≡ Some a → w.safe_epoch i ≤ w.began j
  pub safe_past : (i : ℕ) → w.safe_epoch i ≤ w.epoch
  pub scanned : (i j a : ℕ) → w.word j ≡ Some a → w.seen i j ≡ true → w.least i ≤ w.began j
  pub least_past : (i : ℕ) → w.least i ≤ w.epoch
  pub pending : (i c r : ℕ) → w.pending i ≡ Some (c, r) → IsRetireEpoch w c r
  pub free : (c r : ℕ) → w.free c ≡ Some r → IsRetireEpoch w c r

-- a state in which nothing has begun: nobody is in an operation, is about to free a card, or has looked at an
-- announcement; no retire epoch is safe; and a card that is free is gone, and its retire epoch is a past epoch
pub record IsStart (w : Grace) : Type 0 where
  pub word : (j : ℕ) → w.word j ≡ None
  pub pending : (i : ℕ) → w.pending i ≡ None
  pub least : (i : ℕ) → w.least i ≡ 0
  pub seen : (i j : ℕ) → w.seen i j ≡ false
  pub safe_epoch : (i : ℕ) → w.safe_epoch i ≡ 0
  pub free : (c r : ℕ) → w.free c ≡ Some r → (r ≤ w.epoch) × (w.gone c ≡ true)

-- such a state has what the steps keep
abbrev pub GraceStarts : Type 0
GraceStarts = (announcements : ℕ) (w : Grace) → IsStart w → GraceIsSound announcements w

-- and each step keeps it
abbrev pub GraceGoesOn : Type 0
GraceGoesOn = (announcements : ℕ) (w w' : Grace) → GraceIsSound announcements w → GraceStep announcements w w'
    → GraceIsSound announcements w'

-- so whoever takes the slot of a free card, each pass that is in an operation began that when the card was gone
abbrev pub TakenCardsWereGone : Type 0
TakenCardsWereGone = (announcements : ℕ) (w : Grace) → GraceIsSound announcements w → (i c r : ℕ) → w.free c ≡ Some r
    → r < w.safe_epoch i
    → (j a : ℕ) → w.word j ≡ Some a → w.was_gone j c ≡ true
