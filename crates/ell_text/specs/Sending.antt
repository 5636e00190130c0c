use Rattle.std.specs.Prelude.{◌≡◌, ℕ, ◌+◌, ◌<◌, List, ◌++◌, length, Option}
use Rattle.std.specs.Io.KnownBytes.{Appends}

-- The writer took the front of the bytes, the others are left, and the count rose by one for each
-- byte that it took. Before and after are what the writer held, where that is known.
pub record Sends (before after : Option (List ℕ)) (bytes left : List ℕ) (old_count new_count : ℕ)
    : Type 0 where
  pub sent : List ℕ
  pub out : Appends before after sent
  pub whole : bytes ≡ sent ++ left
  pub counted : new_count ≡ old_count + length sent

-- The writer took the front of the bytes, and some are left for good.
pub record Stops (before after : Option (List ℕ)) (bytes : List ℕ) (old_count new_count : ℕ) : Type 0 where
  pub left : List ℕ
  pub missing : 0 < length left
  pub sends : Sends before after bytes left old_count new_count
