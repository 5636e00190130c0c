use Rattle.std.proofs.Common.{◌≡◌, ℕ, zero, suc, ◌+◌, ◌<◌, All, eqb, Bool, true, false, List, [], ◌∷◌, ◌++◌, length, filter, arith, refl, ap, sym, ◌∙◌}
use Rattle.std.specs.Prelude.{nat_lt}
use Rattle.std.proofs.lemmas.Bool.{cond-true, cond-false}
use Rattle.std.proofs.lemmas.Bool.Decides.{nat_tests}
use Rattle.std.proofs.lemmas.List.{append-nil}
use Rattle.std.proofs.lemmas.List.Elements.{All-filter, filter-append}
use Rattle.std.proofs.lemmas.List.FromFn.{get_or-range_with_len, length-range_with_len}
use Rattle.ell_run.specs.Pieces.{all_workers, busy}
use Rattle.std.specs.List.{range_with_len}
use Rattle.std.specs.List.Sorted.{IsStrictlyIncreasing}
use Rattle.ell_ops.specs.declared.op.Op.{Op}
use Rattle.ell_parts.specs.PartedOps.{PartedOps, part}

-- counting one further
range_more : (a n : ℕ) → range_with_len a (n + 1) ≡ range_with_len a n ++ (a + n) ∷ []
range_more a zero = let same : a ≡ a + 0 = omega arith in ap (λ k. k ∷ []) same
range_more a (suc n) =
    let further : suc n + 1 ≡ suc (n + 1) = omega arith in
    let last : a + 1 + n ≡ a + suc n = omega arith in
    ap (range_with_len a) further ∙ ap (λ l. a ∷ l) (range_more (a + 1) n) ∙ ap (λ k. a ∷ range_with_len (a + 1) n ++ k ∷ []) last

pub counted : (n : ℕ) → range_with_len 0 (n + 1) ≡ range_with_len 0 n ++ n ∷ []
counted n = let same : 0 + n ≡ n = omega arith in range_more 0 n ∙ ap (λ k. range_with_len 0 n ++ k ∷ []) same

-- whether a worker has something to do
abbrev pub is_busy : PartedOps → ℕ → Bool
is_busy parting worker = nat_lt 0 (length (part parting worker))

pub no_items : {A : Type 0} (xs : List A) → nat_lt 0 (length xs) ≡ false → xs ≡ []
no_items [] none = refl
no_items (x ∷ xs) none = let no : ⊥ = grind (arith, nat_tests) in absurd no

-- the workers with something to do among the first
abbrev pub busy_below : PartedOps → ℕ → List ℕ
busy_below parting workers = filter (is_busy parting) (range_with_len 0 workers)

pub some_items : (n : ℕ) → false ≡ eqb n 0 → nat_lt 0 n ≡ true
some_items n none = grind (arith, nat_tests)

pub none_left : (n : ℕ) → true ≡ eqb n 0 → nat_lt 0 n ≡ false
none_left n none = grind (arith, nat_tests)

-- one worker more: it is busy where its part is not empty
pub busy_more : (parting : PartedOps) (worker : ℕ) (items : List (ℕ × Op)) →
    items ≡ part parting worker → false ≡ eqb (length items) 0 →
    busy_below parting (worker + 1) ≡ busy_below parting worker ++ worker ∷ []
busy_more parting worker items same some =
    let more : is_busy parting worker ≡ true = ap (λ l. nat_lt 0 (length l)) (sym same) ∙ some_items (length items) some in
    ap (filter (is_busy parting)) (counted worker)
    ∙ filter-append (is_busy parting) (range_with_len 0 worker) (worker ∷ [])
    ∙ ap (λ l. busy_below parting worker ++ l) (cond-true (is_busy parting worker) (worker ∷ []) [] more)

pub idle_more : (parting : PartedOps) (worker : ℕ) (items : List (ℕ × Op)) →
    items ≡ part parting worker → true ≡ eqb (length items) 0 →
    busy_below parting (worker + 1) ≡ busy_below parting worker
idle_more parting worker items same none =
    let idle : is_busy parting worker ≡ false = ap (λ l. nat_lt 0 (length l)) (sym same) ∙ none_left (length items) none in
    ap (filter (is_busy parting)) (counted worker)
    ∙ filter-append (is_busy parting) (range_with_len 0 worker) (worker ∷ [])
    ∙ ap (λ l. busy_below parting worker ++ l) (cond-false (is_busy parting worker) (worker ∷ []) [] idle)
    ∙ append-nil (busy_below parting worker)

-- a list of the busy ones among the first, with the next worker where it is busy
pub busy_pushed : (parting : PartedOps) (worker : ℕ) (items : List (ℕ × Op)) (before pushed after : List ℕ) →
    before ≡ busy_below parting worker → pushed ≡ before ++ worker ∷ [] → after ≡ pushed →
    items ≡ part parting worker → false ≡ eqb (length items) 0 → after ≡ busy_below parting (worker + 1)
busy_pushed parting worker items before pushed after all push end same some =
    end ∙ push ∙ ap (λ workers. workers ++ worker ∷ []) all ∙ sym (busy_more parting worker items same some)

-- each worker has a number below theirs
pub all_known : (parting : PartedOps) → All (λ worker. worker < parting.workers) (all_workers parting)
all_known parting k d below =
    let within : k < parting.workers = omega (arith, length-range_with_len 0 parting.workers) in
    let here = get_or-range_with_len 0 parting.workers k d within in
    omega arith

-- and so have the busy ones among them
pub busy_known : (parting : PartedOps) → All (λ worker. worker < parting.workers) (busy parting)
busy_known parting = All-filter (is_busy parting) (λ worker. worker < parting.workers) (all_workers parting) (all_known parting)

-- numbers counted from 0 ascend
pub counted_ascend : (n : ℕ) → IsStrictlyIncreasing (range_with_len 0 n)
counted_ascend n k below =
    let within : k + 1 < n = omega (arith, length-range_with_len 0 n) in
    let here = get_or-range_with_len 0 n k 0 (omega arith) in
    let next = get_or-range_with_len 0 n (k + 1) 0 within in
    omega arith

-- so all workers stand in their order
pub all_ascend : (parting : PartedOps) → IsStrictlyIncreasing (all_workers parting)
all_ascend parting = counted_ascend parting.workers
