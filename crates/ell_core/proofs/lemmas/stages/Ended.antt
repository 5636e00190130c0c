use Rattle.std.proofs.Common.{◌≡◌, ℕ, ◌⊎◌, true, false, inl, inr, sym, ◌∙◌, arith}
use Rattle.std.proofs.lemmas.Bool.{false≢true, false_from_ne_true}
use Rattle.ell_core.specs.declared.fact.Fact.TheVariants.{IOver, DOver, Backed}
use Rattle.ell_core.specs.history.Stages.{Stage, Stages, insert_open, insert_over, delete_open, delete_over, is_changed, is_marked, is_cut, is_unmarkable, is_backed}
use Rattle.ell_core.specs.history.Later.{StagesLater}
use Rattle.ell_core.specs.statements.Since.{has_ended}

-- an end is of one of three kinds
pub ended_cases : (s : Stage) → has_ended s ≡ true → (insert_over s ≡ true) ⊎ ((delete_over s ≡ true) ⊎ (is_backed s ≡ true))
ended_cases s h = grind arith

-- each kind is an end
pub insert_over-ended : (s : Stage) → insert_over s ≡ true → has_ended s ≡ true
insert_over-ended s h = grind arith

pub delete_over-ended : (s : Stage) → delete_over s ≡ true → has_ended s ≡ true
delete_over-ended s h = grind arith

pub backed-ended : (s : Stage) → is_backed s ≡ true → has_ended s ≡ true
backed-ended s h = grind arith

-- a delete that is over has cut
pub over-cut : (s : Stage) → delete_over s ≡ true → is_cut s ≡ true
over-cut s h = grind arith

-- a card that has done its work has ended once its flag does not stand
pub changed-ended : (s : Stage) → is_changed s ≡ true → insert_open s ≡ false → has_ended s ≡ true
changed-ended s h n = grind arith

pub cut-ended : (s : Stage) → is_cut s ≡ true → delete_open s ≡ false → has_ended s ≡ true
cut-ended s h n = grind arith

pub unmarkable-ended : (s : Stage) → is_unmarkable s ≡ true → delete_open s ≡ false → has_ended s ≡ true
unmarkable-ended s h n = grind arith

-- a card whose flag stands has not ended
pub insert_open-unended : (s : Stage) → insert_open s ≡ true → has_ended s ≡ false
insert_open-unended s h = grind arith

pub delete_open-unended : (s : Stage) → delete_open s ≡ true → has_ended s ≡ false
delete_open-unended s h = grind arith

-- a card that ended as an insert, or went back, was not marked
pub insert_over_not_marked : (s : Stage) → insert_over s ≡ true → is_marked s ≡ true → ⊥
insert_over_not_marked s h m = grind arith

pub backed_not_marked : (s : Stage) → is_backed s ≡ true → is_marked s ≡ true → ⊥
backed_not_marked s h m = grind arith

-- what has ended has ended later too
pub ends_last : (stage after : Stages) → StagesLater stage after → (c : ℕ) → has_ended (stage c) ≡ true → has_ended (after c) ≡ true
ends_last stage after later c ended = elim (ended_cases (stage c) ended) [
  | inl o ↦ insert_over-ended (after c) (later.told (IOver c) c o)
  | inr r ↦ elim r [
    | inl d ↦ delete_over-ended (after c) (later.told (DOver c) c d)
    | inr b ↦ backed-ended (after c) (later.told (Backed c) c b)
  ]
]

-- and what has not, had not before
pub unended_before : (stage after : Stages) → StagesLater stage after → (c : ℕ) → has_ended (after c) ≡ false → has_ended (stage c) ≡ false
unended_before stage after later c un = false_from_ne_true (has_ended (stage c)) (λ ended. false≢true (sym un ∙ ends_last stage after later c ended))
