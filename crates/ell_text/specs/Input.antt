use Rattle.std.specs.Prelude.{◌≡◌, ℕ, ◌+◌, ◌≤◌, List, take, drop, Option, Result, IfOk, OnErr, Vec, vec_len}
use Rattle.std.specs.Io.KnownBytes.{Consumes, Keeps}
use Rattle.ell_text.specs.Limits.{most_bytes}
use Rattle.ell_text.specs.declared.input.TheConstants.{READ_ROOM}

-- the reader gave some of its known bytes, from the first on
abbrev pub GivesFront : Option (List ℕ) → Option (List ℕ) → Type 0
GivesFront old new = (front : List ℕ) × Consumes old new front

-- a list is filled up to a place, and neither this front nor the list is longer than a reading may make it
pub record IsFilledTo {Z : Type 0} (place : ℕ) (bytes : Vec ℕ Z) : Type 0 where
  pub filled : place ≤ vec_len bytes
  pub short : place ≤ most_bytes
  pub within : vec_len bytes ≤ most_bytes + READ_ROOM

-- a read put the bytes that it gave to a place, behind a front that stayed, or failed and took none
pub record ReadsTo {E : Type 0} (before after : Option (List ℕ)) (place : ℕ) (old new : List ℕ)
    (result : Result ℕ E) : Type 0 where
  pub front : take place new ≡ take place old
  pub ok : IfOk result (λ count. Consumes before after (take count (drop place new)))
  pub err : OnErr result (Keeps before after)
