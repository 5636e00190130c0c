use Rattle.std.specs.Prelude.{ℕ, ◌≡◌, ◌⊎◌, ◌∷◌, nat_eq, ◌==◌, ◌||◌, Bool, List, codes}
use Rattle.std.specs.List.{list_all, starts_with}
-- what stands between line feeds: an empty last part is no line, and only a part before a line feed loses one carriage
-- return at its end
pub use Rattle.std.specs.Str.Lines.{lines}

-- what ends a name
abbrev pub is_space : ℕ → Bool
is_space byte = byte == 32

-- the rest stands behind a line feed, which may have one carriage return before it
abbrev pub IsBehindLineEnd : List ℕ → List ℕ → Type 0
IsBehindLineEnd bytes rest = (bytes ≡ 10 ∷ rest) ⊎ (bytes ≡ 13 ∷ 10 ∷ rest)

-- nothing but spaces and tabs
abbrev pub is_blank : List ℕ → Bool
is_blank line = list_all (λ byte. byte == 32 || byte == 9) line

-- a comment or a blank line
abbrev pub is_skipped : List ℕ → Bool
is_skipped line = starts_with nat_eq line (codes "#") || is_blank line
