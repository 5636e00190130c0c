use Rattle.std.proofs.Common.{◌&&◌, nat_lt, ◌≡◌, ◌≢◌, ◌+◌, ◌-◌, ◌<◌, ℕ, suc, Bool, true, false, cond, ◌==◌, List, [], ◌∷◌, ◌++◌, length, take, drop, map, slice_index, refl, sym, ap, ◌∙◌, arith, ⊎_elim, get_or, subst}
use Rattle.std.proofs.lemmas.Bool.{cases_Bool, false≢true, lt-ltb, cond-true, cond-false, eq-eqb, ne_eqb, eqb-true, eqb-false}
use Rattle.std.proofs.lemmas.List.{get_or_at, take_at, length_push}
use Rattle.std.proofs.lemmas.List.Splits.{length-slice_split, slice_split-cons_yes, slice_split-cons_no}
use Rattle.std.specs.List.{slice_split, onto_first}
use Rattle.std.specs.Str.Lines.{lines, lines_of_parts, strip_carriage_return}
use Rattle.bstr.specs.Text.{line_len, lines_of, without_terminator, no_cr}
use Rattle.bstr.proofs.lemmas.LineLemmas.{lines-step, lines-nil}

abbrev is_feed : ℕ → Bool
is_feed b = b == 10

-- parts with the line feeds put back: an empty last part is no line
abbrev with_feeds : List (List ℕ) → List (List ℕ)
with_feeds [] = []
with_feeds (x ∷ []) = cond (length x == 0) [] (x ∷ [])
with_feeds (x ∷ y ∷ more) = (x ++ 10 ∷ []) ∷ with_feeds (y ∷ more)

-- no byte is a line feed
abbrev NoFeed : List ℕ → Type 0
NoFeed [] = Unit {0}
NoFeed (b ∷ bs) = (b ≢ 10) × NoFeed bs

-- no byte of a part is a line feed
abbrev NoFeeds : List (List ℕ) → Type 0
NoFeeds [] = Unit {0}
NoFeeds (x ∷ more) = NoFeed x × NoFeeds more

-- bstr's lines, a byte at a time
lines_of_feed : (rest : List ℕ) → lines_of (10 ∷ rest) ≡ (10 ∷ []) ∷ lines_of rest
unfolding line_len
lines_of_feed rest = lines-step (10 ∷ rest) (omega arith)

lines_of_other : (b : ℕ) (rest : List ℕ) → b ≢ 10 → lines_of (b ∷ rest) ≡ onto_first b (lines_of rest)
unfolding line_len
lines_of_other b [] other =
    let len : line_len (b ∷ []) ≡ 1 = cond-false _ _ _ (ne_eqb b 10 other) in
    lines-step (b ∷ []) (omega arith) ∙ rw len (rw lines-nil refl)
lines_of_other b (c ∷ rest) other =
    let len : line_len (b ∷ c ∷ rest) ≡ suc (line_len (c ∷ rest)) = cond-false _ _ _ (ne_eqb b 10 other) in
    lines-step (b ∷ c ∷ rest) (omega arith) ∙ ap (λ n. take n (b ∷ c ∷ rest) ∷ lines_of (drop n (b ∷ c ∷ rest))) len
    ∙ ap (onto_first b) (sym (lines-step (c ∷ rest) (omega arith)))

-- a list that has an element is not empty
some_is_not_empty : (b : ℕ) (bs : List ℕ) → (length (b ∷ bs) == 0) ≡ false
some_is_not_empty b bs = ne_eqb (length (b ∷ bs)) 0 (λ e. absurd (omega arith))

with_feeds_last : (b : ℕ) (bs : List ℕ) → with_feeds ((b ∷ bs) ∷ []) ≡ (b ∷ bs) ∷ []
with_feeds_last b bs = cond-false _ _ _ (some_is_not_empty b bs)

with_feeds_cons : (b : ℕ) (y : List ℕ) (more : List (List ℕ)) → with_feeds ((b ∷ y) ∷ more) ≡ onto_first b (with_feeds (y ∷ more))
with_feeds_cons b [] [] = with_feeds_last b []
with_feeds_cons b (c ∷ y) [] = with_feeds_last b (c ∷ y) ∙ ap (onto_first b) (sym (with_feeds_last c y))
with_feeds_cons b y (z ∷ more) = refl

-- each byte, put before the parts after it, keeps the two alike: with at least one part
with_feeds_feed : (parts : List (List ℕ)) → 0 < length parts → with_feeds ([] ∷ parts) ≡ (10 ∷ []) ∷ with_feeds parts
with_feeds_feed [] some = absurd (omega arith)
with_feeds_feed (y ∷ more) some = refl

with_feeds-onto_first : (b : ℕ) (parts : List (List ℕ)) → 0 < length parts → with_feeds (onto_first b parts) ≡ onto_first b (with_feeds parts)
with_feeds-onto_first b [] some = absurd (omega arith)
with_feeds-onto_first b (y ∷ more) some = with_feeds_cons b y more

-- bstr's lines are the parts between line feeds, with these put back
lines_of_lem : (bs : List ℕ) → lines_of bs ≡ with_feeds (slice_split is_feed bs)
lines_of_lem [] = lines-nil
lines_of_lem (b ∷ rest) =
    let some : 0 < length (slice_split is_feed rest) = omega (arith, length-slice_split is_feed rest) in
    ⊎_elim
    (λ feed.
    ap (λ x. lines_of (x ∷ rest)) (eqb-true b 10 feed) ∙ lines_of_feed rest ∙ ap (λ l. (10 ∷ []) ∷ l) (lines_of_lem rest)
    ∙ sym (with_feeds_feed _ some) ∙ ap with_feeds (sym (slice_split-cons_yes is_feed b rest feed)))
    (λ other.
    lines_of_other b rest (eqb-false b 10 other) ∙ ap (onto_first b) (lines_of_lem rest)
    ∙ sym (with_feeds-onto_first b _ some) ∙ ap with_feeds (sym (slice_split-cons_no is_feed b rest other)))
    (cases_Bool (b == 10))

NoFeeds-onto_first : (b : ℕ) (parts : List (List ℕ)) → b ≢ 10 → NoFeeds parts → NoFeeds (onto_first b parts)
NoFeeds-onto_first b [] other h = ((other, tt), tt)
NoFeeds-onto_first b (x ∷ more) other h = ((other, h.0), h.1)

-- the parts between line feeds have none
NoFeeds-slice_split : (bs : List ℕ) → NoFeeds (slice_split is_feed bs)
NoFeeds-slice_split [] = (tt, tt)
NoFeeds-slice_split (b ∷ rest) = ⊎_elim
    (λ feed. subst NoFeeds (sym (slice_split-cons_yes is_feed b rest feed)) (tt, NoFeeds-slice_split rest))
    (λ other. subst NoFeeds (sym (slice_split-cons_no is_feed b rest other)) (NoFeeds-onto_first b _ (eqb-false b 10 other) (NoFeeds-slice_split rest)))
    (cases_Bool (b == 10))

-- the second test decides where the first holds
and_after_true : (a b : Bool) → a ≡ true → (a && b) ≡ b
and_after_true true b e = refl
and_after_true false b e = absurd (false≢true e)

and_before_false : (a b : Bool) → b ≡ false → (a && b) ≡ false
and_before_false true b e = e
and_before_false false b e = refl

no_cr_lem : (x : List ℕ) → no_cr x ≡ strip_carriage_return x
no_cr_lem [] = refl
no_cr_lem (b ∷ x) = ap (λ t. cond t (take (length (b ∷ x) - 1) (b ∷ x)) (b ∷ x)) (and_after_true _ _ (lt-ltb 0 (length (b ∷ x)) (omega arith)))

-- what a line feed ends loses it, and one carriage return before it
without_terminator-append : (x : List ℕ) → without_terminator (x ++ 10 ∷ []) ≡ strip_carriage_return x
without_terminator-append x =
    let bs = x ++ 10 ∷ [] in
    let long : length bs ≡ length x + 1 = length_push x 10 in
    let place : length bs - 1 ≡ length x = omega arith in
    let last : slice_index bs (length bs - 1) ≡ 10 = ap (slice_index bs) place ∙ get_or_at x 10 [] 0 (length x) refl in
    let front : take (length bs - 1) bs ≡ x = ap (λ n. take n bs) place ∙ take_at x (10 ∷ []) (length x) refl in
    let ends : (nat_lt 0 (length bs) && slice_index bs (length bs - 1) == 10) ≡ true =
    and_after_true _ _ (lt-ltb 0 (length bs) (omega arith)) ∙ eq-eqb _ _ last in
    cond-true _ _ _ ends ∙ ap no_cr front ∙ no_cr_lem x

-- the last byte of a part is no line feed
NoFeed_last : (b : ℕ) (x : List ℕ) → NoFeed (b ∷ x) → get_or (b ∷ x) (length x) 0 ≢ 10
NoFeed_last b [] h = h.0
NoFeed_last b (c ∷ x) h = NoFeed_last c x h.1

-- what no line feed ends stays
without_terminator_unended : (x : List ℕ) → NoFeed x → without_terminator x ≡ x
without_terminator_unended [] h = refl
without_terminator_unended (b ∷ x) h =
    let place : length (b ∷ x) - 1 ≡ length x = omega arith in
    let last : slice_index (b ∷ x) (length (b ∷ x) - 1) ≢ 10 = λ e. NoFeed_last b x h (ap (λ n. get_or (b ∷ x) n 0) (sym place) ∙ e) in
    cond-false _ _ _ (and_before_false _ _ (ne_eqb _ 10 last))

map-without_terminator : (parts : List (List ℕ)) → NoFeeds parts → map without_terminator (with_feeds parts) ≡ lines_of_parts parts
map-without_terminator [] h = refl
map-without_terminator ([] ∷ []) h = refl
map-without_terminator ((b ∷ x) ∷ []) h =
    ap (map without_terminator) (with_feeds_last b x) ∙ ap (λ y. y ∷ []) (without_terminator_unended (b ∷ x) h.0)
    ∙ sym (cond-false _ _ _ (some_is_not_empty b x))
map-without_terminator (x ∷ y ∷ more) h = ap (λ l. l ∷ map without_terminator (with_feeds (y ∷ more))) (without_terminator-append x)
    ∙ ap (λ l. strip_carriage_return x ∷ l) (map-without_terminator (y ∷ more) h.1)

-- the lines between line feeds are those that bstr cuts
pub lines_lem : (bs : List ℕ) → lines bs ≡ map without_terminator (lines_of bs)
lines_lem bs = sym (ap (map without_terminator) (lines_of_lem bs) ∙ map-without_terminator _ (NoFeeds-slice_split bs))
