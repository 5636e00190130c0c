use Rattle.std.proofs.Common.{◌≡◌, ◌∙◌, ap, codes}
use Rattle.clap.specs.Words.{App, app_of, new_app}
use Rattle.clap.specs.Simple.{app_of_fields}
use Rattle.ell_command.proofs.request.replay_command.Goals as goal

pub returns-clause-shape : goal.returns-clause-shape
returns-clause-shape c =
    let app : app_of c.long_about.result ≡ new_app (codes "replay") =
    ap app_of_fields c.long_about.ensures ∙ (ap app_of_fields c.override_usage.ensures ∙ (ap app_of_fields c.about.ensures ∙ c.new.ensures.app)) in
    ap (λ (a : App). a.top) app

pub returns-clause-local : goal.returns-clause-local
returns-clause-local c =
    ap (λ f. f.has_globals) c.long_about.ensures ∙ (ap (λ f. f.has_globals) c.override_usage.ensures ∙ (ap (λ f. f.has_globals) c.about.ensures ∙ c.new.ensures.local))
