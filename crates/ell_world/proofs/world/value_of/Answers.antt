use Rattle.std.proofs.Common.{ℕ, nat_cmp, rules}
use Rattle.std.proofs.lemmas.Fn.{always_returns_same}
use Rattle.ell_core.proofs.lemmas.opening.KeyLists.{found_by_search, missed_by_search, search_order}
use Rattle.ell_world.proofs.world.value_of.Goals as goal

pub returns-in-Ok : goal.returns-in-Ok
returns-in-Ok c =
    found_by_search c.args.start.now c.args.key c.in-Ok.place c.requires c.in-Ok.ensures.bound
    (c.in-Ok.ensures.position (λ (p : ℕ × ℕ). nat_cmp p.0 c.args.key) (always_returns_same _ _ _ (λ a r f called. (search rules, search rules))))

pub returns-in-Err : goal.returns-in-Err
returns-in-Err c =
    let split = c.in-Err.ensures.position (λ (p : ℕ × ℕ). nat_cmp p.0 c.args.key) (always_returns_same _ _ _ (λ a r f called. (search rules, search rules)))
    (search_order c.args.start.now c.args.key c.requires) in
    missed_by_search c.args.start.now c.args.key c.in-Err.field-0 split.0 split.1
