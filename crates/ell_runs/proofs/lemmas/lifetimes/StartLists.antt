use Rattle.std.proofs.Common.{◌≡◌, ℕ, zero, suc, Bool, true, false, ◌+◌, ◌<◌, ◌≤◌, List, ◌∷◌, ◌++◌, length, replicate, slice_set, length-set, refl, ap, ◌∙◌, arith}
use Rattle.std.proofs.lemmas.List.{length-replicate}
use Rattle.ell_word.specs.Node.{greatest_card, infinity1, infinity2}
use Rattle.ell_layout.specs.Layout.{table_size}
use Rattle.ell_layout.specs.Words.{Words, words_of}
use Rattle.ell_layout.specs.Cards.{filled_list}
use Rattle.ell_layout.specs.Branches.{branch_of, descend}
use Rattle.ell_layout.specs.Start.{start_leaf, start_value, start_words, words_at_start, branch_filling}
use Rattle.ell_layout.proofs.lemmas.Listed.{length_after_fields, words_after_fields, flat_written}
use Rattle.ell_layout.proofs.lemmas.Growing.{root_filling, growing, rooted_words, grows, grown_up}
use Rattle.ell_runs.specs.SmallRun.{small_plan}
use Rattle.ell_runs.specs.Starts.{MayStart, StartWords}
use Rattle.ell_runs.specs.Plans.{TablePlan}

-- zeros with the claim word and the fields of card 0, and then of so many cards more of the opening tree
listed_up_to : List (ℕ × ℕ) → ℕ → ℕ → List ℕ
listed_up_to start size zero = filled_list (slice_set (replicate size 0) 0 (length start + 1)) 0 (root_filling (length start))
listed_up_to start size (suc n) = filled_list (listed_up_to start size n) (suc n) (branch_filling (start_leaf start) (start_value start) (branch_of (length start + 1) (suc n)))

size_stays : (start : List (ℕ × ℕ)) (size n : ℕ) → length (listed_up_to start size n) ≡ size
unfolding listed_up_to
size_stays start size zero =
    length_after_fields (slice_set (replicate size 0) 0 (length start + 1)) 0 (root_filling (length start))
    ∙ (length-set (replicate {A = ℕ} size 0) 0 (length start + 1) ∙ length-replicate {A = ℕ} size 0)
size_stays start size (suc n) =
    length_after_fields (listed_up_to start size n) (suc n) (branch_filling (start_leaf start) (start_value start) (branch_of (length start + 1) (suc n)))
    ∙ size_stays start size n

-- they are the words that the opening tree has so far
words_grow : (start : List (ℕ × ℕ)) (last n : ℕ) → length start < greatest_card → n ≤ length start → n ≤ last → words_of (listed_up_to start (table_size last) n) ≡ growing start (n + 1)
unfolding listed_up_to
words_grow start last zero few most low =
    words_after_fields (slice_set (replicate (table_size last) 0) 0 (length start + 1)) last 0 (root_filling (length start))
    (length-set (replicate {A = ℕ} (table_size last) 0) 0 (length start + 1) ∙ length-replicate {A = ℕ} (table_size last) 0) low
    ∙ rooted_words start (table_size last) (omega arith)
words_grow start last (suc n) few most low =
    grows start (suc n) (words_of (listed_up_to start (table_size last) n)) (words_of (listed_up_to start (table_size last) (suc n))) (omega arith) most few
    (let next : n + 1 ≡ suc n = omega arith in words_grow start last n few (omega arith) (omega arith) ∙ ap (growing start) next)
    (words_after_fields (listed_up_to start (table_size last) n) last (suc n) (branch_filling (start_leaf start) (start_value start) (branch_of (length start + 1) (suc n)))
    (size_stays start (table_size last) n) low)

-- where a tree is flat, that is written too
flat_or_not : Bool → ℕ → List ℕ → List ℕ
flat_or_not true from words = slice_set words 1 from
flat_or_not false from words = words

size_flat : (flat : Bool) (from : ℕ) (words : List ℕ) → length (flat_or_not flat from words) ≡ length words
unfolding flat_or_not
size_flat true from words = length-set words 1 from
size_flat false from words = refl

words_flat : (flat : Bool) (start : List (ℕ × ℕ)) (words : List ℕ) → 1 < length words → words_of words ≡ start_words start
    → words_of (flat_or_not flat (length start + 1) words) ≡ words_at_start flat start
unfolding flat_or_not
words_flat true start words room are =
    flat_written words (length start + 1) room ∙ ap (λ (w : Words). record w { flat_from = length start + 1 }) are
words_flat false start words room are = are

-- a list of the words at the start
pub start_list : TablePlan → List ℕ
start_list plan = flat_or_not plan.flat (length plan.start + 1) (listed_up_to plan.start (table_size plan.last_card) (length plan.start))

pub start_list_starts : (plan : TablePlan) → MayStart plan → StartWords plan (start_list plan)
unfolding start_list
start_list_starts plan may =
    let words = listed_up_to plan.start (table_size plan.last_card) (length plan.start) in
    let size = size_stays plan.start (table_size plan.last_card) (length plan.start) in
    let are = words_grow plan.start plan.last_card (length plan.start) may.few (omega arith) may.room ∙ grown_up plan.start (length plan.start + 1) refl in
    record {
      size = size_flat plan.flat (length plan.start + 1) words ∙ size;
      are = words_flat plan.flat plan.start words (omega arith) are;
    }

-- the words of a table with one start key and three cards to give out: the nodes of cards 0 and 1, and their leaves
abbrev pub small_words : List ℕ
small_words =
    2 ∷ replicate 5 0
    ++ (infinity2 ∷ 4 ∷ 2 ∷ 3 ∷ infinity1 ∷ 5 ∷ 6 ∷ 3 ∷ replicate 248 0)
    ++ (infinity1 ∷ infinity2 ∷ 0 ∷ 0 ∷ 5 ∷ infinity1 ∷ 50 ∷ 0 ∷ replicate 268 0)

pub small_list : start_list small_plan ≡ small_words
unfolding start_list flat_or_not listed_up_to descend
small_list = refl
