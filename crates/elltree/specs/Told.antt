use Rattle.std.specs.Prelude.{◌≡◌, ◌⊎◌, ℕ, ℤ, Option, None, Result, Ok, Err, List, [], ◌∷◌, unwrap_or}
use Rattle.ell_tree.specs.declared.scanning.Pair.{Pair}
use Rattle.ell_tree.specs.declared.scanning.Scanned.{Scanned}
use Rattle.elltree.specs.Calls.{Scans}
use Rattle.elltree.specs.Codes.{IsOneOf, said_bad_cards, said_bad_key, said_bad_start, said_closed, said_no_memory, said_open, said_too_many, said_yes}
use Rattle.elltree.specs.Handles.{HasAnother, IsLeast, MakesNone, MayOpen, RefusesTree}
use Rattle.elltree.specs.Slots.{OfHandle, OfThree}
use Rattle.elltree.specs.declared.handle.Handle.{Handle}
use Rattle.elltree.specs.declared.refusal.Refusal.TheVariants.{BadCards, BadKey, BadStart}

-- a call was made on a handle, and ended so; the code tells how
pub record Says {A : Type 0} (IsSo : Handle → Handle → A → Type 0) (code_of : A → ℤ) (code : ℤ) (old new : Handle) : Type 0 where
  pub said : A
  pub so : IsSo old new said
  pub tells : code ≡ code_of said

-- that, and what the call has found is written in the place of what was there
pub record SaysWith {A W : Type 0} (IsSo : Handle → Handle → A → Type 0) (code_of : A → ℤ) (write : A → W → W) (code : ℤ)
    (before after : W) (old new : Handle) : Type 0 where
  pub said : A
  pub so : IsSo old new said
  pub tells : code ≡ code_of said
  pub writes : after ≡ write said before

-- a value that was found, or that which was there
abbrev pub value_of : {E : Type 0} → Result (Option ℕ) E → ℕ → ℕ
value_of (Ok there) was = unwrap_or there was
value_of (Err why) was = was

abbrev pub value_found : Option ℕ → ℕ → ℕ
value_found there was = unwrap_or there was

-- a number is counted, always with yes
abbrev pub code_of_count : ℕ → ℤ
code_of_count number = said_yes

abbrev pub count_of : ℕ → ℕ → ℕ
count_of number was = number

-- the steps that a handle counts in a row; it stays as it was
pub record CountsSteps (old new : Handle) (number : ℕ) : Type 0 where
  pub steps : number ≡ old.pass.steps
  pub same : new ≡ old

-- a pair that was found, or the key and the value that were there
abbrev pub pair_of : Option (ℕ × ℕ) → ℕ × ℕ → ℕ × ℕ
pair_of there was = unwrap_or there was

-- a scan of a range was made, and it has written so many pairs, and where to go on, which is the end of the range if it
-- has come to that
pub record SaysRange (from upto : ℕ) (code : ℤ) (count next : ℕ) (before after : List Pair) (old new : Handle) : Type 0 where
  pub said : Scanned
  pub so : Scans from upto before after old new said
  pub tells : code ≡ said_yes
  pub count_is : count ≡ said.count
  pub next_is : next ≡ unwrap_or said.next upto

-- why a slot is not opened: want of memory is named only if nothing else is wrong
pub record SaysWhyShut (start : List (ℕ × ℕ)) (cards : ℕ) (said : ℤ) : Type 0 where
  pub codes : IsOneOf (said_yes ∷ said_open ∷ said_bad_start ∷ said_bad_key ∷ said_bad_cards ∷ said_no_memory ∷ []) said
  pub bad_start : said ≡ said_bad_start → RefusesTree start cards BadStart
  pub bad_key : said ≡ said_bad_key → RefusesTree start cards BadKey
  pub bad_cards : said ≡ said_bad_cards → RefusesTree start cards BadCards
  pub may : said ≡ said_yes ⊎ said ≡ said_no_memory → MayOpen start cards

-- what the code of a call for another handle tells of a slot's handle before and after it, and of the other slot's
pub record TellsAnother (said : ℤ) (whole kept other : Option Handle) : Type 0 where
  pub codes : IsOneOf (said_yes ∷ said_closed ∷ said_too_many ∷ said_no_memory ∷ []) said
  pub another : said ≡ said_yes → OfThree HasAnother whole kept other
  pub closed : said ≡ said_closed → whole ≡ None
  pub none : whole ≡ None → said ≡ said_closed
  pub too_many : said ≡ said_too_many → OfHandle MakesNone whole
  pub may : said ≡ said_yes ⊎ said ≡ said_no_memory → OfHandle (λ h. ¬ IsLeast h) whole
