use Rattle.std.proofs.Math.Nat.{mul-le-mul_right}
use Rattle.std.proofs.Common.{◌≡◌, Option, None, ℕ, ◌+◌, ◌*◌, ◌≤◌, ◌<◌, zero, suc, refl, sym, ap, ap₂, ◌∙◌, ◌-◌, arith}
use Rattle.ell_runs.specs.declared.view.Slots.{Slots}
use Rattle.ell_runs.specs.declared.view.View.{View}
use Rattle.ell_cards.specs.Models.{SeesInLook}
use Rattle.ell_runs.specs.Plans.{TablePlan}
use Rattle.ell_cards.specs.Models.{PassModel, Counts, LooksBy, Sees, one_more, some_more}
use Rattle.ell_tree.specs.Counts.{CountsAll, HasUncounted, Took, TookIn}

-- no steps
pub took_none : (a : PassModel) (n : ℕ) → Took a a n
took_none a n = record { steps = omega arith; made = omega arith }

-- one step, to this view
pub took_one : (a : PassModel) (v : View) → v.made ≡ a.view.made + 1 → Took a (record a { view = v; steps = one_more a.steps }) 1
took_one a v made = record { steps = omega arith; made = omega (arith, made) }

-- one step to this view that is not counted yet
pub took_unseen : (a : PassModel) (v : View) → v.made ≡ a.view.made + 1 → Took a (record a { view = v }) 1
took_unseen a v made = record { steps = omega arith; made = omega (arith, made) }

-- steps that are not counted yet, one after the other
pub uncounted_one : (a b : PassModel) (v : View) → Sees a b v → v.made ≡ a.view.made + 1 → HasUncounted a b 1
uncounted_one a b v s made = record { steps = ap (λ (m : PassModel). m.steps) s; made = ap (λ (m : PassModel). m.view.made) s ∙ made }

-- so is one of a look
pub uncounted_looked : (a b : PassModel) (v : View) → SeesInLook a b v → v.made ≡ a.view.made + 1 → HasUncounted a b 1
uncounted_looked a b v s made = record { steps = ap (λ (m : PassModel). m.steps) s.step; made = ap (λ (m : PassModel). m.view.made) s.step ∙ made }

-- and one that begins a look
pub look_uncounted : (slots : Option Slots) (a b : PassModel) (v : View) → LooksBy slots a b v → v.made ≡ a.view.made + 1 → HasUncounted a b 1
look_uncounted slots a b v s more = record {
  steps = ap (λ (m : PassModel). m.steps) s;
  made = ap (λ (m : PassModel). m.view.made) s ∙ more;
}

pub uncounted_none : (a : PassModel) → HasUncounted a a 0
uncounted_none a = record { steps = refl; made = omega arith }

pub uncounted_trans : (a b c : PassModel) (m n : ℕ) → HasUncounted a b m → HasUncounted b c n → HasUncounted a c (m + n)
uncounted_trans a b c m n h h' = record { steps = h'.steps ∙ h.steps; made = omega (arith, h.made, h'.made) }

-- once they are counted, no more are counted than were made, and no fewer
pub took_counted : (a b c : PassModel) (n k : ℕ) → Took a b n → HasUncounted a b k → Counts b c k → Took a c n
took_counted a b c n k h u s =
    let steps = ap (λ (m : PassModel). m.steps) s in
    let made = ap (λ (m : PassModel). m.view.made) s in
    record { steps = omega (arith, h.made, u.steps, u.made, steps); made = omega (arith, h.made, made) }

pub counted_all : (a b c : PassModel) (k : ℕ) → HasUncounted a b k → Counts b c k → CountsAll a c
counted_all a b c k u s =
    let steps = ap (λ (m : PassModel). m.steps) s in
    let made = ap (λ (m : PassModel). m.view.made) s in
    let many : c.view.made - a.view.made ≡ k = omega (arith, u.made, made) in
    steps ∙ ap₂ some_more (sym many) u.steps

pub took_within : (a b : PassModel) (m n : ℕ) → Took a b m → m ≤ n → Took a b n
took_within a b m n h le = record { steps = omega (arith, h.steps, le); made = omega (arith, h.made, le) }

pub took_trans : (a b c : PassModel) (m n k : ℕ) → Took a b m → Took b c n → m + n ≤ k → Took a c k
took_trans a b c m n k h h' le = record { steps = omega (arith, h.steps, h'.steps, le); made = omega (arith, h.made, h'.made, le) }

-- what is so of any table is so of each
pub took_in : (plan : TablePlan) (a b : PassModel) (n : ℕ) → Took a b n → TookIn plan a b n
took_in plan a b n h = record { steps = h.steps; made = λ plain. h.made }

pub took_in_within : (plan : TablePlan) (a b : PassModel) (m n : ℕ) → TookIn plan a b m → m ≤ n → TookIn plan a b n
took_in_within plan a b m n h le =
    record { steps = omega (arith, h.steps, le); made = λ plain. let made = h.made plain in omega (arith, made, le) }

pub took_in_trans : (plan : TablePlan) (a b c : PassModel) (m n k : ℕ) → TookIn plan a b m → TookIn plan b c n → m + n ≤ k → TookIn plan a c k
took_in_trans plan a b c m n k h h' le = record {
  steps = omega (arith, h.steps, h'.steps, le);
  made = λ plain. let few = h.made plain in let more = h'.made plain in omega (arith, few, more, le);
}

-- so many rounds of so many steps at most; before the first, the step that takes an operation in hand
pub record TookRounds (plan : TablePlan) (rounds most : ℕ) (old new : PassModel) : Type 0 where
  pub first : rounds ≡ 0 → TookIn plan old new 1
  pub later : 1 ≤ rounds → TookIn plan old new (rounds * most)

pub rounds_first : (plan : TablePlan) (most : ℕ) (old new : PassModel) → Took old new 1 → TookRounds plan 0 most old new
rounds_first plan most old new h = record { first = λ none. took_in plan old new 1 h; later = λ some. absurd (omega (arith, some)) }

pub rounds_later : (plan : TablePlan) (r most : ℕ) (old new : PassModel) → TookIn plan old new ((r + 1) * most) → TookRounds plan (r + 1) most old new
rounds_later plan r most old new h = record { first = λ none. absurd (omega (arith, none)); later = λ some. h }

-- the steps after one more round; the first starts at the root already
pub round_steps : (plan : TablePlan) (r most : ℕ) (start before begun after : PassModel) → TookRounds plan r most start before → Took before begun 1
    → (r ≡ 0 → begun ≡ before) → after.steps + 1 ≤ begun.steps + most → (plan.slots ≡ None → after.view.made + 1 ≤ begun.view.made + most)
    → TookIn plan start after ((r + 1) * most)
round_steps plan zero most start before begun after rounds again same steps made =
    let few = rounds.first refl in
    let row = ap (λ (p : PassModel). p.steps) (same refl) in
    let all = ap (λ (p : PassModel). p.view.made) (same refl) in
    record {
      steps = omega (arith, few.steps, row, steps);
      made = λ plain. let one = few.made plain in let more = made plain in omega (arith, one, all, more);
    }
round_steps plan (suc r) most start before begun after rounds again same steps made =
    let few = rounds.later (omega arith) in
    record {
      steps = omega (arith, few.steps, again.steps, steps);
      made = λ plain. let one = few.made plain in let more = made plain in omega (arith, one, again.made, more);
    }

-- no more than of all rounds
pub rounds_steps : (r tries most : ℕ) → r < tries → (r + 1) * most ≤ tries * most
rounds_steps r tries most h = mul-le-mul_right most (omega (arith, h))
