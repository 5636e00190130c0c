use Rattle.std.specs.Prelude.{◌≡◌, ◌≤◌, ◌⊎◌, ℕ, List, [], ◌∷◌, length}
use Rattle.ell_text.specs.declared.replay_line.Pieces.{Pieces}
use Rattle.ell_text.specs.declared.replay_line.Pieces.TheVariants.{Two, Three, Four, Other}

-- the pieces, none where no form has so many
abbrev pub piece_list : Pieces → List (List ℕ)
piece_list (Two a b) = a.now ∷ b.now ∷ []
piece_list (Three a b c) = a.now ∷ b.now ∷ c.now ∷ []
piece_list (Four a b c d) = a.now ∷ b.now ∷ c.now ∷ d.now ∷ []
piece_list Other = []

-- the pieces are these; where they are no two, three or four, there is one or there are more than four
abbrev pub IsCut : Pieces → List (List ℕ) → Type 0
IsCut (Two a b) parts = parts ≡ a.now ∷ b.now ∷ []
IsCut (Three a b c) parts = parts ≡ a.now ∷ b.now ∷ c.now ∷ []
IsCut (Four a b c d) parts = parts ≡ a.now ∷ b.now ∷ c.now ∷ d.now ∷ []
IsCut Other parts = (length parts ≡ 1) ⊎ (5 ≤ length parts)
