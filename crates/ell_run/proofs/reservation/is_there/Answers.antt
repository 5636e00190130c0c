use Rattle.std.proofs.Common.{ℕ, nat_cmp, rules, ◌∙◌}
use Rattle.std.proofs.lemmas.Fn.{always_returns_same}
use Rattle.ell_run.proofs.lemmas.StartKeys.{is_ok-search}
use Rattle.ell_run.proofs.reservation.is_there.Goals as goal

pub returns : goal.returns
returns c =
    c.is_ok.ensures.value
    ∙ is_ok-search c.args.start.now c.args.key c.binary_search_by.result c.requires c.binary_search_by.ensures.bound
    (c.binary_search_by.ensures.position (λ (p : ℕ × ℕ). nat_cmp p.0 c.args.key) (always_returns_same _ _ _ (λ a r f called. (search rules, search rules))))
