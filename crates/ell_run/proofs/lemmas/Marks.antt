use Rattle.std.proofs.Common.{◌≡◌, ℕ, ◌+◌, ◌<◌, ◌≤◌, Bool, true, false, not, cond, List, [], ◌∷◌, ◌++◌, ◌||◌, Some, eqb, length, set, get_or, take, replicate, filter, arith, refl, ap, sym, ◌∙◌, ⊎_elim, length-set}
use Rattle.std.specs.Prelude.{slice_get}
use Rattle.std.specs.List.{enumerate_from}
use Rattle.std.proofs.Math.Bool.{or-false}
use Rattle.std.proofs.lemmas.Bool.{cases_eq, eq-eqb, ne_eqb}
use Rattle.std.proofs.lemmas.List.{append-nil, length-replicate, get_or-replicate, take_all}
use Rattle.std.proofs.lemmas.List.Elements.{filter_more}
use Rattle.std.proofs.lemmas.List.Folds.{list_any-append}
use Rattle.std.proofs.lemmas.List.FromFn.{get_or-enumerate_from, length-enumerate_from}
use Rattle.std.proofs.lemmas.Option.{slice_get-get_or}
use Rattle.ell_ops.specs.declared.op.Op.{Op}
use Rattle.ell_ops.proofs.lemmas.Places.{slice_get-set_same, slice_get-set_other}
use Rattle.ell_run.specs.Late.{AreMarks, is_answered, late_ops}
use Rattle.ell_ops.specs.declared.reply.Reply.{Reply}

or_true : (b : Bool) → (b || true) ≡ true
or_true true = refl
or_true false = refl

-- no item is there at the beginning
pub marks_none : (n : ℕ) → AreMarks [] (replicate n false)
marks_none n = record {
  each = λ position below.
      let within : position < n = omega (arith, length-replicate n false) in
      slice_get-get_or (replicate n false) position false below ∙ ap Some (get_or-replicate n position false false within);
}

-- one more item marks its position
pub marks_more : (items : List (ℕ × Reply)) (marks : List Bool) (item : ℕ × Reply) → AreMarks items marks → item.0 < length marks →
    AreMarks (items ++ item ∷ []) (set marks item.0 true)
marks_more items marks item h within = record {
  each = λ position below. ⊎_elim
      (λ same.
      ap (slice_get (set marks item.0 true)) same ∙ slice_get-set_same marks item.0 true within
      ∙ ap Some (sym (list_any-append (λ (other : ℕ × Reply). eqb other.0 position) items (item ∷ [])
      ∙ ap (λ b. is_answered items position || (b || false)) (eq-eqb item.0 position (sym same)) ∙ or_true (is_answered items position))))
      (λ other.
      slice_get-set_other marks item.0 position true other
      ∙ h.each position (omega (arith, length-set marks item.0 true))
      ∙ ap Some (sym (list_any-append (λ (other : ℕ × Reply). eqb other.0 position) items (item ∷ [])
      ∙ ap (λ b. is_answered items position || (b || false)) (ne_eqb item.0 position (λ e. other (sym e))) ∙ or-false (is_answered items position))))
      (cases_eq position item.0);
}

-- the late operations so far
abbrev pub late_so_far : List Op → List (ℕ × Reply) → ℕ → List (ℕ × Op)
late_so_far ops items i = filter (λ item. not (is_answered items item.0)) (take i (enumerate_from 0 ops))

pub late_more : (ops : List Op) (items : List (ℕ × Reply)) (i : ℕ) (d : Op) → i < length ops →
    late_so_far ops items (i + 1) ≡ late_so_far ops items i ++ cond (not (is_answered items i)) ((i, get_or ops i d) ∷ []) []
late_more ops items i d below =
    let here : get_or (enumerate_from 0 ops) i (0, d) ≡ (i, get_or ops i d) =
    get_or-enumerate_from 0 ops i (0, d) below ∙ ap (λ n. (n, get_or ops i d)) (omega arith) in
    filter_more (λ item. not (is_answered items item.0)) (enumerate_from 0 ops) i (0, d) (omega (arith, length-enumerate_from 0 ops))
    ∙ ap (λ (item : ℕ × Op). late_so_far ops items i ++ cond (not (is_answered items item.0)) (item ∷ []) []) here

-- a mark says whether its position is answered
mark_at : (items : List (ℕ × Reply)) (marks : List Bool) (i : ℕ) (mark : Bool) → AreMarks items marks → i < length marks → mark ≡ get_or marks i mark →
    is_answered items i ≡ mark
mark_at items marks i mark h below here =
    let told = h.each i below in
    let read = slice_get-get_or marks i mark below in
    cc

-- one operation further, where its position is not marked, and where it is
pub late_left : (ops : List Op) (items : List (ℕ × Reply)) (marks : List Bool) (i : ℕ) (d : Op) (mark : Bool) → AreMarks items marks → length marks ≡ length ops →
    i < length ops → mark ≡ get_or marks i mark → mark ≡ false → late_so_far ops items (i + 1) ≡ late_so_far ops items i ++ (i, get_or ops i d) ∷ []
late_left ops items marks i d mark h count below here unmarked =
    late_more ops items i d below
    ∙ ap (λ b. late_so_far ops items i ++ cond (not b) ((i, get_or ops i d) ∷ []) []) (mark_at items marks i mark h (omega arith) here ∙ unmarked)

pub late_taken : (ops : List Op) (items : List (ℕ × Reply)) (marks : List Bool) (i : ℕ) (d : Op) (mark : Bool) → AreMarks items marks → length marks ≡ length ops →
    i < length ops → mark ≡ get_or marks i mark → mark ≡ true → late_so_far ops items (i + 1) ≡ late_so_far ops items i
late_taken ops items marks i d mark h count below here marked =
    late_more ops items i d below
    ∙ ap (λ b. late_so_far ops items i ++ cond (not b) ((i, get_or ops i d) ∷ []) []) (mark_at items marks i mark h (omega arith) here ∙ marked)
    ∙ append-nil (late_so_far ops items i)

-- and at the end of the list
pub late_whole : (ops : List Op) (items : List (ℕ × Reply)) (i : ℕ) → length ops ≤ i → late_so_far ops items i ≡ late_ops ops items
late_whole ops items i past =
    ap (filter (λ item. not (is_answered items item.0))) (take_all i (enumerate_from 0 ops) (omega (arith, length-enumerate_from 0 ops)))
