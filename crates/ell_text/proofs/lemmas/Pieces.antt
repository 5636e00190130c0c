use Rattle.std.proofs.Common.{◌≡◌, ◌+◌, ◌≤◌, ℕ, List, [], ◌∷◌, length, take, drop, Option, None, Some, ap, ◌∙◌, arith, ⊎_elim}
use Rattle.std.proofs.lemmas.Bool.{cases_lt, cond-true, lt-ltb}
use Rattle.std.proofs.lemmas.List.Quantifiers.{position-Some}
use Rattle.std.proofs.lemmas.List.Sums.{fails_before_first, position_or_len_is}
use Rattle.std.proofs.lemmas.List.Splits.{slice_split_first, slice_split_none, length-slice_split}
use Rattle.std.specs.List.{position, position_or_len, slice_split}
use Rattle.ell_text.specs.Lines.{is_space}

some_is_none : (o : Option ℕ) (i : ℕ) → o ≡ Some i → o ≡ None → ⊥
some_is_none o i some none = cc

-- the first piece ends at the first space
pub cut_some : (xs : List ℕ) (i : ℕ) → position is_space xs ≡ Some i → slice_split is_space xs ≡ take i xs ∷ slice_split is_space (drop (i + 1) xs)
cut_some xs i is =
    let found = position-Some is_space xs i 0 is in
    let here : position_or_len is_space xs ≡ i = position_or_len_is is_space xs i 0 (omega (arith, found.0)) found.2 (λ _. found.1) in
    slice_split_first is_space xs 0 (omega (arith, found.0)) ∙ ap (λ n. take n xs ∷ slice_split is_space (drop (n + 1) xs)) here

-- with no space the line is the one piece
pub cut_none : (xs : List ℕ) → position is_space xs ≡ None → slice_split is_space xs ≡ xs ∷ []
cut_none xs is = ⊎_elim
    (λ within.
    let found : position is_space xs ≡ Some (position_or_len is_space xs) = cond-true _ _ _ (lt-ltb (position_or_len is_space xs) (length xs) within) in
    absurd (some_is_none (position is_space xs) (position_or_len is_space xs) found is))
    (λ past. slice_split_none is_space xs (λ k d below. fails_before_first is_space xs k d (omega arith)))
    (cases_lt (position_or_len is_space xs) (length xs))

-- one piece, or more than four where the fourth ends at a space
pub one_piece : (a : List ℕ) (parts : List (List ℕ)) → parts ≡ a ∷ [] → length parts ≡ 1
one_piece a parts cut = omega (arith, ap length cut)

pub many_pieces : (a b c d : List ℕ) (rest : List ℕ) (parts : List (List ℕ)) → parts ≡ a ∷ b ∷ c ∷ d ∷ slice_split is_space rest → 5 ≤ length parts
many_pieces a b c d rest parts cut = omega (arith, ap length cut, length-slice_split is_space rest)
