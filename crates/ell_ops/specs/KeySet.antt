use Rattle.std.specs.Prelude.{◌≡◌, ℕ, Bool, List, ◌==◌, ◌||◌}
use Rattle.std.specs.List.{list_any}
use Rattle.std.specs.List.Sorted.{IsStrictlyIncreasing}

abbrev pub KeySet : Type 0
KeySet = ℕ → Bool

-- the keys of either set
abbrev pub union : KeySet → KeySet → KeySet
union left right = λ q. left q || right q

-- the set of the keys in a list
abbrev pub set_of : List ℕ → KeySet
set_of keys = λ q. list_any (λ key. q == key) keys

-- the keys are those of the set, each once, ascending
pub record Lists (set : KeySet) (keys : List ℕ) : Type 0 where
  pub ascending : IsStrictlyIncreasing keys
  pub each : set_of keys ≡ set
