use Rattle.std.proofs.Common.{◌≡◌, ℕ, ◌&&◌, if◌then◌else◌, Bool, true, false, Some, [], ◌∷◌, refl, ap, ◌∙◌, eq-eqb, arith}
use Rattle.std.proofs.lemmas.Bool.{false≢true}
use Rattle.ell_core.specs.declared.exchange.Exchange.{Exchange}
use Rattle.ell_core.specs.declared.exchange.Exchange.TheVariants as exchange
use Rattle.ell_core.specs.acts.Wins.{win_for}
use Rattle.ell_core.proofs.lemmas.stages.Sums.{child_changes, all_flags, sum_by, win_sum}
use Rattle.ell_runs.specs.declared.call.Call.{Call}
use Rattle.ell_runs.specs.declared.call.Call.TheVariants as call
use Rattle.ell_runs.specs.Calls.{atomic_of, is_won}
use Rattle.ell_runs.specs.States.{TableState}
use Rattle.ell_runs.specs.Turns.{Turn, Makes, Splits, Joins, found_by}
use Rattle.ell_runs.specs.TurnEffects.{win_of, turn_wins}
use Rattle.ell_runs.specs.Stretches.{is_flag, is_change, wins}

none_if : (f : Exchange → ℕ) (b : Bool) (k : Exchange) (c d : ℕ) → f k ≡ 0 → sum_by f (if b then win_for (Some c) k d else []) ≡ 0
none_if f true k c d none = win_sum f (Some c) k d none
none_if f false k c d none = refl

no_win : (f : Exchange → ℕ) (b : Bool) → sum_by f (if b then [] else []) ≡ 0
no_win f true = refl
no_win f false = refl

lost : (f : Exchange → ℕ) (b : Bool) (k : Exchange) (c d : ℕ) → b ≡ false → sum_by f (if b then win_for (Some c) k d else []) ≡ 0
lost f b k c d e = ap (λ b. sum_by f (if b then win_for (Some c) k d else [])) e

-- a call that wins no exchange of a child
call_unchanged : (c : Call) (n d : ℕ) → (is_change c && is_won (atomic_of c) n) ≡ false → sum_by child_changes (if is_won (atomic_of c) n then win_of c d else []) ≡ 0
call_unchanged (call.IChild c p l replaces right) n d e = lost child_changes (is_won (atomic_of (call.IChild c p l replaces right)) n) exchange.IChild c d e
call_unchanged (call.DChild c gp p y right) n d e = lost child_changes (is_won (atomic_of (call.DChild c gp p y right)) n) exchange.DChild c d e
call_unchanged (call.IFlag c p from) n d e = none_if child_changes (is_won (atomic_of (call.IFlag c p from)) n) exchange.IFlag c d refl
call_unchanged (call.IUnflag c p) n d e = none_if child_changes (is_won (atomic_of (call.IUnflag c p)) n) exchange.IUnflag c d refl
call_unchanged (call.DFlag c gp from) n d e = none_if child_changes (is_won (atomic_of (call.DFlag c gp from)) n) exchange.DFlag c d refl
call_unchanged (call.Mark c p was) n d e = none_if child_changes (is_won (atomic_of (call.Mark c p was)) n) exchange.Mark c d refl
call_unchanged (call.DUnflag c gp) n d e = none_if child_changes (is_won (atomic_of (call.DUnflag c gp)) n) exchange.DUnflag c d refl
call_unchanged (call.Backtrack c gp) n d e = none_if child_changes (is_won (atomic_of (call.Backtrack c gp)) n) exchange.Backtrack c d refl
call_unchanged c n d e = no_win child_changes (is_won (atomic_of c) n)

-- so of a turn
pub turn_unchanged : (s : TableState) (t : Turn) → wins is_change s t ≡ false → (d : ℕ) → sum_by child_changes (turn_wins s t d) ≡ 0
turn_unchanged s (Makes seat c) e d = call_unchanged c (found_by s c) d e
turn_unchanged s (Splits seat left) e d = refl
turn_unchanged s (Joins seat other) e d = refl

-- a turn that wins a flag wins one for a card
pub record FlagWon (s : TableState) (t : Turn) : Type 0 where
  pub card : ℕ
  pub one : sum_by all_flags (turn_wins s t card) ≡ 1

win_one : (b : Bool) (k : Exchange) (c : ℕ) → b ≡ true → all_flags k ≡ 1 → sum_by all_flags (if b then win_for (Some c) k c else []) ≡ 1
win_one b k c e is =
    ap (λ b. sum_by all_flags (if b then win_for (Some c) k c else [])) e
    ∙ (ap (λ (b : Bool). sum_by all_flags (if b then k ∷ [] else [])) (eq-eqb c c refl) ∙ omega arith)

pub turn_flags : (s : TableState) (t : Turn) → wins is_flag s t ≡ true → FlagWon s t
turn_flags s (Makes seat (call.IFlag c p from)) e = record {
  card = c;
  one = win_one (is_won (atomic_of (call.IFlag c p from)) (found_by s (call.IFlag c p from))) exchange.IFlag c e refl;
}
turn_flags s (Makes seat (call.DFlag c gp from)) e = record {
  card = c;
  one = win_one (is_won (atomic_of (call.DFlag c gp from)) (found_by s (call.DFlag c gp from))) exchange.DFlag c e refl;
}
turn_flags s (Makes seat c) e = absurd (false≢true e)
turn_flags s (Splits seat left) e = absurd (false≢true e)
turn_flags s (Joins seat other) e = absurd (false≢true e)
