use Rattle.std.proofs.Common.{◌≡◌, ◌∙◌, ap, ap₂, codes, true}
use Rattle.std.proofs.lemmas.Result.{IfOk-weaker}
use Rattle.clap.specs.Words.{App, app_of, new_app, with_subcommand}
use Rattle.clap.specs.Simple.{app_of_fields, on_top}
use Rattle.ell_command.specs.CommandLine.{IsElltree, app_at, run_shape}
use Rattle.ell_command.proofs.request.elltree_command.Goals as goal

abbrev without_name : App → App
without_name = on_top (λ s. record s { no_binary_name = true })

abbrev with_version : App → App
with_version = on_top (λ s. record s { has_version = true })

abbrev with_required : App → App
with_required = on_top (λ s. record s { subcommand_required = true })

pub returns : goal.returns
unfolding app_at
returns c =
    let about : app_of c.about.result ≡ new_app (codes "elltree") =
    ap app_of_fields c.about.ensures ∙ c.new.ensures.app in
    let versioned : app_of c.version.result ≡ with_version (new_app (codes "elltree")) =
    ap app_of_fields c.version.ensures ∙ ap with_version about in
    let nameless : app_of c.no_binary_name.result ≡ without_name (with_version (new_app (codes "elltree"))) =
    ap app_of_fields c.no_binary_name.ensures ∙ ap without_name versioned in
    let required : app_of c.subcommand_required.result
    ≡ with_required (without_name (with_version (new_app (codes "elltree")))) =
    ap app_of_fields c.subcommand_required.ensures ∙ ap with_required nameless in
    let named : app_of c.in_ok-bin_name.field-0
    ≡ with_required (without_name (with_version (new_app (codes "elltree")))) =
    ap app_of_fields c.in_ok-bin_name.ensures.0 ∙ required in
    let run = c.in_ok-run_command.ensures in
    let running : app_of c.in_ok-subcommand.field-0
    ≡ with_subcommand (with_required (without_name (with_version (new_app (codes "elltree"))))) (run_shape run.shape.0) =
    c.in_ok-subcommand.ensures.shape run.local ∙ ap₂ with_subcommand named run.shape.2 in
    let replay = c.replay_command.ensures in
    IfOk-weaker c.subcommand-2.result _ (λ r. IsElltree (app_of r)) (λ r h.
    (run.shape.0, run.shape.1, h.shape replay.local ∙ ap₂ with_subcommand running replay.shape)) c.subcommand-2.ensures
