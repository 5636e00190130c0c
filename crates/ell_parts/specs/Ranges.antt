use Rattle.std.specs.Prelude.{◌≡◌, ℕ, ◌+◌, ◌*◌, ◌<◌, List, length, slice_index}

-- the first keys of the ranges of so many keys each, but for the first range's, as far as there are keys
pub record AreStarts (keys : List ℕ) (share : ℕ) (starts : List ℕ) : Type 0 where
  pub within : (m : ℕ) → m < length starts → (m + 1) * share < length keys
  pub each : (m : ℕ) → m < length starts → slice_index starts m ≡ slice_index keys ((m + 1) * share)
  pub all : (m : ℕ) → (m + 1) * share < length keys → m < length starts
