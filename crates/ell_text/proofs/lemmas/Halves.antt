use Rattle.std.proofs.Common.{◌≡◌, ◌==◌, ℕ, ◌+◌, ◌<◌, Bool, List, [], ◌∷◌, ◌++◌, length, take, drop, map, get_or, refl, sym, ap, ◌∙◌, arith, ⊎_elim, add-one}
use Rattle.std.proofs.Math.Seq.{split_at}
use Rattle.std.proofs.lemmas.Bool.{cases_Bool}
use Rattle.std.proofs.lemmas.List.{append-nil, take_more}
use Rattle.std.proofs.lemmas.List.Splits.{length-slice_split, slice_split-cons_yes, slice_split-cons_no}
use Rattle.std.specs.List.{slice_split, onto_first}
use Rattle.std.specs.Str.Lines.{lines_of_parts, strip_carriage_return}
use Rattle.ell_text.specs.Lines.{lines}

-- what ends a line
abbrev pub is_line_feed : ℕ → Bool
is_line_feed byte = byte == 10

-- parts before others lose one carriage return each, and none of them is left out
parts_before : (parts more : List (List ℕ)) → 0 < length more → lines_of_parts (parts ++ more) ≡ map strip_carriage_return parts ++ lines_of_parts more
parts_before [] more some = refl
parts_before (part ∷ []) [] some = absurd (omega arith)
parts_before (part ∷ []) (first ∷ more) some = refl
parts_before (part ∷ next ∷ parts) more some = ap (λ l. strip_carriage_return part ∷ l) (parts_before (next ∷ parts) more some)

onto_first_part : (b : ℕ) (parts more : List (List ℕ)) → 0 < length parts → onto_first b (parts ++ more) ≡ onto_first b parts ++ more
onto_first_part b [] more some = absurd (omega arith)
onto_first_part b (part ∷ parts) more some = refl

-- a text that is cut behind a line feed is split on both sides of it
split_behind_feed : (front rest : List ℕ) → slice_split is_line_feed (front ++ 10 ∷ rest) ≡ slice_split is_line_feed front ++ slice_split is_line_feed rest
split_behind_feed [] rest = slice_split-cons_yes is_line_feed 10 rest refl
split_behind_feed (b ∷ front) rest =
    let some : 0 < length (slice_split is_line_feed front) = omega (arith, length-slice_split is_line_feed front) in
    ⊎_elim
    (λ feed.
    slice_split-cons_yes is_line_feed b (front ++ 10 ∷ rest) feed ∙ ap (λ parts. [] ∷ parts) (split_behind_feed front rest)
    ∙ ap (λ parts. parts ++ slice_split is_line_feed rest) (sym (slice_split-cons_yes is_line_feed b front feed)))
    (λ other.
    slice_split-cons_no is_line_feed b (front ++ 10 ∷ rest) other ∙ ap (onto_first b) (split_behind_feed front rest)
    ∙ onto_first_part b _ _ some ∙ ap (λ parts. parts ++ slice_split is_line_feed rest) (sym (slice_split-cons_no is_line_feed b front other)))
    (cases_Bool (is_line_feed b))

-- and so are its lines
lines_behind_feed : (front rest : List ℕ) → lines (front ++ 10 ∷ rest) ≡ lines (front ++ 10 ∷ []) ++ lines rest
lines_behind_feed front rest =
    let parts = slice_split is_line_feed front in
    let ended : lines (front ++ 10 ∷ []) ≡ map strip_carriage_return parts =
    ap lines_of_parts (split_behind_feed front []) ∙ parts_before parts ([] ∷ []) (omega arith) ∙ append-nil _ in
    ap lines_of_parts (split_behind_feed front rest) ∙ parts_before parts (slice_split is_line_feed rest) (omega (arith, length-slice_split is_line_feed rest))
    ∙ ap (λ l. l ++ lines rest) (sym ended)

-- the lines of a text are those up to the end of one of them, and those behind it
pub lines_of_halves : (text : List ℕ) (at : ℕ) → at < length text → get_or text at 0 ≡ 10 → lines text ≡ lines (take (at + 1) text) ++ lines (drop (at + 1) text)
lines_of_halves text at within feed =
    let front = take at text in
    let rest = drop (at + 1) text in
    let whole : text ≡ front ++ 10 ∷ rest =
    split_at text at 0 within ∙ ap (λ n. front ++ get_or text at 0 ∷ drop n text) (sym (add-one at)) ∙ ap (λ b. front ++ b ∷ rest) feed in
    let ended : front ++ 10 ∷ [] ≡ take (at + 1) text = ap (λ b. front ++ b ∷ []) (sym feed) ∙ sym (take_more text at 0 within) in
    ap lines whole ∙ lines_behind_feed front rest ∙ ap (λ l. lines l ++ lines rest) ended
