use Rattle.std.proofs.Common.{◌≡◌, None}
use Rattle.ell_core.proofs.lemmas.outcomes.Decide.{some_not_none}
use Rattle.ell_runs.specs.Plans.{TablePlan}
use Rattle.ell_cards.specs.Models.{PassModel}
use Rattle.ell_cards.specs.Stepping.{LetsGo}

-- a pass with no card in hand lets none go
pub lets_none_go : (plan : TablePlan) (p : PassModel) → p.view.worker.card ≡ None → LetsGo plan p
lets_none_go plan p none s is = record {
  waiting = λ c h took. some_not_none h.0 none;
  taken = λ c h. absurd (some_not_none h.holds none);
  retired = λ c h. absurd (some_not_none h.holds none);
}
