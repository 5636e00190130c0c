use Rattle.std.proofs.Common.{rules, ◌≡◌, ℕ, ◌+◌, ◌*◌, List, [], ◌∷◌, length, get_or, sum, sym, ap, ◌∙◌, subst, arith}
use Rattle.shared_counter.specs.Adding.{HasAdded}
use Rattle.shared_counter.proofs.lemmas.Additions.{added_both}
use Rattle.shared_counter.proofs.counting.add_by_four.Goals as goal

sum_of_four : (xs : List ℕ) → length xs ≡ 4 → sum xs ≡ get_or xs 0 0 + get_or xs 1 0 + (get_or xs 2 0 + get_or xs 3 0)
sum_of_four [] e = absurd (omega arith)
sum_of_four (a ∷ []) e = absurd (omega arith)
sum_of_four (a ∷ b ∷ []) e = absurd (omega arith)
sum_of_four (a ∷ b ∷ c ∷ []) e = absurd (omega arith)
sum_of_four (a ∷ b ∷ c ∷ d ∷ []) e = omega arith
sum_of_four (a ∷ b ∷ c ∷ d ∷ x ∷ rest) e = absurd (omega arith)

-- both pairs as one have added what each has
pub returns-in-Ok-clause-added : goal.returns-in-Ok-clause-added
returns-in-Ok-clause-added g c =
    let t = c.args.tree.now in
    let rounds = c.args.rounds in
    let xs = c.args.addends in
    let four : length xs ≡ 4 = search rules in
    let one = rounds * (get_or xs 0 0 + get_or xs 1 0) in
    let other = rounds * (get_or xs 2 0 + get_or xs 3 0) in
    let left : HasAdded t rounds one c.in_ok-one.field-0 = search rules in
    let right : HasAdded t rounds other c.in_ok-other.field-0 = search rules in
    let parts : one + other ≡ rounds * (get_or xs 0 0 + get_or xs 1 0 + (get_or xs 2 0 + get_or xs 3 0)) = omega arith in
    subst (λ (n : ℕ). HasAdded t rounds n c.in-Ok.all) (parts ∙ ap (λ n. rounds * n) (sym (sum_of_four xs four)))
    (added_both t rounds one other c.in_ok-one.field-0 c.in_ok-other.field-0 c.in-Ok.all left right c.in-Ok.ensures.joined)
