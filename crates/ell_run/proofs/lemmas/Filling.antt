use Rattle.std.proofs.Common.{◌≡◌, ℕ, zero, suc, ◌+◌, ◌-◌, ◌<◌, ◌≤◌, true, false, eqb, List, [], ◌∷◌, ◌++◌, length, filter, take, drop, map, arith, refl, ap, sym, subst, ◌∙◌}
use Rattle.std.specs.Prelude.{nat_lt, slice_get}
use Rattle.std.specs.List.{insert, range_with_len, sum_by}
use Rattle.std.proofs.lemmas.Bool.{cond-true, cond-false}
use Rattle.std.proofs.lemmas.List.{append-nil, append_assoc, length-append}
use Rattle.std.proofs.lemmas.List.FromFn.{length-range_with_len}
use Rattle.std.proofs.lemmas.List.Sums.{sum_by-append, sum_by-cons, sum_by-take-drop}
use Rattle.ell_ops.specs.declared.op.Op.{Op}
use Rattle.ell_ops.specs.Contents.{Contents}
use Rattle.ell_ops.specs.Meaning.{final}
use Rattle.ell_parts.specs.PartedOps.{PartedOps, part}
use Rattle.ell_runs.specs.Plans.{TablePlan}
use Rattle.ell_tree.specs.Ledgers.{PassModel, present_in}
use Rattle.ell_run.specs.ByParts.{ops_in}
use Rattle.ell_run.specs.Pieces.{ArePieces, IsPiece, all_workers, busy, front, ops_done}
use Rattle.ell_run.specs.Work.{AreNotDone, IsWorked}
use Rattle.ell_run.proofs.lemmas.NotDone.{all_not_done-insert}
use Rattle.ell_run.proofs.lemmas.Busy.{counted, is_busy, no_items, some_items, none_left}
use Rattle.ell_ops.specs.declared.reply.Reply.{Reply}

-- the busy workers from one on
abbrev busy_from : PartedOps → ℕ → List ℕ
busy_from parting worker = filter (is_busy parting) (range_with_len worker (parting.workers - worker))

-- all workers below one, and the busy ones from it on
abbrev pub mixed : PartedOps → ℕ → List ℕ
mixed parting worker = range_with_len 0 worker ++ busy_from parting worker

pub mixed_none : (parting : PartedOps) → mixed parting 0 ≡ busy parting
mixed_none parting = let same : parting.workers - 0 ≡ parting.workers = omega arith in ap (λ n. filter (is_busy parting) (range_with_len 0 n)) same

pub mixed_all : (parting : PartedOps) (worker : ℕ) → worker ≡ parting.workers → mixed parting worker ≡ all_workers parting
mixed_all parting worker all =
    let none : parting.workers - worker ≡ 0 = omega arith in
    ap (λ n. range_with_len 0 worker ++ filter (is_busy parting) (range_with_len worker n)) none
    ∙ append-nil (range_with_len 0 worker) ∙ ap (range_with_len 0) all

pub mixed_room : (parting : PartedOps) (worker : ℕ) → worker ≤ length (mixed parting worker)
mixed_room parting worker = omega (arith, length-append (range_with_len 0 worker) (busy_from parting worker), length-range_with_len 0 worker)

from_here : (parting : PartedOps) (worker : ℕ) → worker < parting.workers →
    range_with_len worker (parting.workers - worker) ≡ worker ∷ range_with_len (worker + 1) (parting.workers - (worker + 1))
from_here parting worker below =
    let more : parting.workers - worker ≡ suc (parting.workers - (worker + 1)) = omega arith in
    ap (range_with_len worker) more

-- a busy worker has its piece
pub mixed_busy : (parting : PartedOps) (worker : ℕ) → worker < parting.workers → is_busy parting worker ≡ true →
    mixed parting (worker + 1) ≡ mixed parting worker
mixed_busy parting worker below some =
    ap (λ l. l ++ busy_from parting (worker + 1)) (counted worker)
    ∙ append_assoc (range_with_len 0 worker) (worker ∷ []) (busy_from parting (worker + 1))
    ∙ ap (λ l. range_with_len 0 worker ++ l)
    (sym (ap (filter (is_busy parting)) (from_here parting worker below)
    ∙ cond-true (is_busy parting worker) (worker ∷ busy_from parting (worker + 1)) (busy_from parting (worker + 1)) some))

-- one with nothing to do has none yet
pub mixed_idle : (parting : PartedOps) (worker : ℕ) → worker < parting.workers → is_busy parting worker ≡ false →
    mixed parting worker ≡ range_with_len 0 worker ++ busy_from parting (worker + 1)
mixed_idle parting worker below none =
    ap (λ l. range_with_len 0 worker ++ l)
    (ap (filter (is_busy parting)) (from_here parting worker below)
    ∙ cond-false (is_busy parting worker) (worker ∷ busy_from parting (worker + 1)) (busy_from parting (worker + 1)) none)

pub mixed_filled : (parting : PartedOps) (worker : ℕ) →
    mixed parting (worker + 1) ≡ range_with_len 0 worker ++ worker ∷ busy_from parting (worker + 1)
mixed_filled parting worker =
    ap (λ l. l ++ busy_from parting (worker + 1)) (counted worker)
    ∙ append_assoc (range_with_len 0 worker) (worker ∷ []) (busy_from parting (worker + 1))

-- the empty piece of an empty part
empty_piece : (s : Contents) (items : List (ℕ × Op)) → items ≡ [] → IsPiece s items []
empty_piece s items none = record {
  few = omega arith;
  done = refl;
  not_done = λ position op e. let no : ⊥ = (let e = ap (λ l. slice_get l 0) (sym none) ∙ e in cc) in absurd no;
}

-- among the pieces of workers
pieces-insert : (s : Contents) (parting : PartedOps) (xs ys : List ℕ) (worker : ℕ) (ps : List (List (ℕ × Reply))) → part parting worker ≡ [] →
    ArePieces s parting (xs ++ ys) ps → ArePieces s parting (xs ++ worker ∷ ys) (insert ps (length xs) [])
pieces-insert s parting [] ys worker ps none h = (empty_piece s (part parting worker) none, h)
pieces-insert s parting (x ∷ xs) ys worker [] none h = absurd h
pieces-insert s parting (x ∷ xs) ys worker (p ∷ ps) none h = (h.0, pieces-insert s parting xs ys worker ps none h.1)

done-insert : (parting : PartedOps) (xs ys : List ℕ) (worker : ℕ) (ps : List (List (ℕ × Reply))) (s : Contents) → ArePieces s parting (xs ++ ys) ps →
    ops_done parting (xs ++ worker ∷ ys) (insert ps (length xs) []) ≡ ops_done parting (xs ++ ys) ps
done-insert parting [] ys worker ps s h = refl
done-insert parting (x ∷ xs) ys worker [] s h = absurd h
done-insert parting (x ∷ xs) ys worker (p ∷ ps) s h = ap (λ l. ops_in (front (part parting x) p) ++ l) (done-insert parting xs ys worker ps s h.1)

sum-insert : (ps : List (List (ℕ × Reply))) (n : ℕ) → sum_by length (insert ps n []) ≡ sum_by length ps
sum-insert ps n =
    let front = take n ps in
    let back = drop n ps in
    omega (
      arith,
      sum_by-append (λ (p : List (ℕ × Reply)). length p) front ([] ∷ back),
      sum_by-cons (λ (p : List (ℕ × Reply)). length p) [] back,
      sum_by-take-drop (λ (p : List (ℕ × Reply)). length p) ps n,
    )

worked-insert : (plan : TablePlan) (tries : ℕ) (parting : PartedOps) (xs ys : List ℕ) (worker : ℕ) (before after : PassModel) (ps : List (List (ℕ × Reply))) → part parting worker ≡ [] →
    IsWorked plan tries parting (xs ++ ys) before after ps → IsWorked plan tries parting (xs ++ worker ∷ ys) before after (insert ps (length xs) [])
worked-insert plan tries parting xs ys worker before after ps none h =
    let answered = h.answers in
    record {
      table = h.table;
      idle = h.idle;
      told = pieces-insert (present_in before) parting xs ys worker ps none h.told;
      map = h.map ∙ ap (final (present_in before)) (sym (done-insert parting xs ys worker ps (present_in before) h.told));
      owned = h.owned;
      answers = omega (arith, sum-insert ps (length xs));
      not_done =
          subst (λ n. AreNotDone plan tries n before after)
          (sym (all_not_done-insert (present_in before) parting xs ys worker ps none h.told)) h.not_done;
    }

-- one worker more with nothing to do: its empty piece comes to its place
pub worked_idle : (plan : TablePlan) (tries : ℕ) (parting : PartedOps) (worker : ℕ) (items : List (ℕ × Op)) (before after : PassModel) (ps : List (List (ℕ × Reply))) → worker < parting.workers →
    items ≡ part parting worker → true ≡ eqb (length items) 0 →
    IsWorked plan tries parting (mixed parting worker) before after ps →
    IsWorked plan tries parting (mixed parting (worker + 1)) before after (insert ps worker [])
worked_idle plan tries parting worker items before after ps below same none h =
    let idle : is_busy parting worker ≡ false = ap (λ l. nat_lt 0 (length l)) (sym same) ∙ none_left (length items) none in
    let old : IsWorked plan tries parting (range_with_len 0 worker ++ busy_from parting (worker + 1)) before after ps =
    subst (λ workers. IsWorked plan tries parting workers before after ps) (mixed_idle parting worker below idle) h in
    let new : IsWorked plan tries parting (range_with_len 0 worker ++ worker ∷ busy_from parting (worker + 1)) before after (insert ps (length (range_with_len 0 worker)) []) =
    worked-insert plan tries parting (range_with_len 0 worker) (busy_from parting (worker + 1)) worker before after ps (no_items (part parting worker) idle) old in
    subst (λ workers. IsWorked plan tries parting workers before after (insert ps worker [])) (sym (mixed_filled parting worker))
    (subst (λ n. IsWorked plan tries parting (range_with_len 0 worker ++ worker ∷ busy_from parting (worker + 1)) before after (insert ps n [])) (length-range_with_len 0 worker) new)

pub length-mixed_idle : (parting : PartedOps) (worker : ℕ) (items : List (ℕ × Op)) → worker < parting.workers → items ≡ part parting worker →
    true ≡ eqb (length items) 0 → length (mixed parting (worker + 1)) ≡ length (mixed parting worker) + 1
length-mixed_idle parting worker items below same none =
    let idle : is_busy parting worker ≡ false = ap (λ l. nat_lt 0 (length l)) (sym same) ∙ none_left (length items) none in
    let one = ap length (mixed_idle parting worker below idle) in
    let other = ap length (mixed_filled parting worker) in
    omega (arith, length-append (range_with_len 0 worker) (busy_from parting (worker + 1)), length-append (range_with_len 0 worker) (worker ∷ busy_from parting (worker + 1)))

pub busy_here : (parting : PartedOps) (worker : ℕ) (items : List (ℕ × Op)) → worker < parting.workers → items ≡ part parting worker →
    false ≡ eqb (length items) 0 → mixed parting (worker + 1) ≡ mixed parting worker
busy_here parting worker items below same some =
    mixed_busy parting worker below (ap (λ l. nat_lt 0 (length l)) (sym same) ∙ some_items (length items) some)

-- what a list is seen as, with one element put in
pub map-insert : {X Y : Type 0} (f : X → Y) (xs : List X) (n : ℕ) (x : X) → map f (insert xs n x) ≡ insert (map f xs) n (f x)
map-insert f xs zero x = refl
map-insert f [] (suc n) x = refl
map-insert f (y ∷ xs) (suc n) x = ap (λ l. f y ∷ l) (map-insert f xs n x)
