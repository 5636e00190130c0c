use Rattle.std.specs.Prelude.{◌≡◌, ℕ, Option, Some, None, List, ◌==◌, if◌then◌else◌, is_some, unwrap_or}
use Rattle.std.specs.Map.{lookup, keys_of}
use Rattle.std.specs.List.Sorted.{IsStrictlyIncreasing}
use Rattle.ell_ops.specs.KeySet.{KeySet}

-- the value of each key that is there
abbrev pub Contents : Type 0
Contents = ℕ → Option ℕ

abbrev pub nothing : Contents
nothing = λ _. None

-- with the key, whose value is this one unless it has one already
abbrev pub with_pair : Contents → ℕ → ℕ → Contents
with_pair there key value = λ q. if q == key then Some (unwrap_or (there q) value) else there q

-- a key's value after a swap: the first of two values becomes the second, and any other stays
abbrev pub swapped : Option ℕ → ℕ → ℕ → Option ℕ
swapped None was value = None
swapped (Some v) was value = Some (if v == was then value else v)

-- with the key's value swapped
abbrev pub with_swap : Contents → ℕ → ℕ → ℕ → Contents
with_swap there key was value = λ q. if q == key then swapped (there q) was value else there q

-- without the key
abbrev pub without : Contents → ℕ → Contents
without there key = λ q. if q == key then None else there q

-- the keys that are there
abbrev pub keys_in : Contents → KeySet
keys_in there = λ q. is_some (there q)

-- what a list of keys with their values says: of a key that it has twice, the first value
abbrev pub contents_of : List (ℕ × ℕ) → Contents
contents_of pairs = λ q. lookup (λ key. q == key) pairs

-- the pairs are the keys that are there, each once, ascending, with their values
pub record ListsPairs (there : Contents) (pairs : List (ℕ × ℕ)) : Type 0 where
  pub ascending : IsStrictlyIncreasing (keys_of pairs)
  pub each : contents_of pairs ≡ there
