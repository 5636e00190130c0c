use Rattle.std.proofs.Common.{◌≡◌, ◌∙◌, ◌||◌, ap, ap₂, codes, Bool, false}
use Rattle.std.proofs.lemmas.Result.{IfOk-weaker}
use Rattle.clap.specs.Words.{App, app_of, new_app, shape_of, with_rule}
use Rattle.clap.specs.declared.builder.command.Command.TheViews.{out-Command as fields_of}
use Rattle.clap.specs.Simple.{app_of_fields}
use Rattle.ell_command.specs.CommandLine.{BorrowedNames, NamesPartings, cards_rule, parting_rule, run_shape, tries_rule, workers_rule}
use Rattle.ell_command.proofs.request.run_command.Goals as goal

-- a command with one more argument that is not global
still_local : (before global after : Bool) → after ≡ (before || global) → before ≡ false → global ≡ false → after ≡ false
still_local before global after is none local = is ∙ ap₂ ◌||◌ none local

pub returns-clause-shape : goal.returns-clause-shape
returns-clause-shape c =
    let named = c.parting_option.ensures.rule in
    let start : app_of c.after_long_help.result ≡ new_app (codes "run") =
    ap app_of_fields c.after_long_help.ensures ∙ (ap app_of_fields c.long_about.ensures ∙ (ap app_of_fields c.override_usage.ensures ∙ (ap app_of_fields c.about.ensures ∙ c.new.ensures.app))) in
    let workers : app_of c.in_ok-arg.field-0 ≡ with_rule (new_app (codes "run")) workers_rule =
    c.in_ok-arg.ensures.shape c.workers_option.ensures.local ∙ ap₂ with_rule start c.workers_option.ensures.rule in
    let parting : app_of c.in_ok-arg-2.field-0 ≡ with_rule (with_rule (new_app (codes "run")) workers_rule) (parting_rule named.0) =
    c.in_ok-arg-2.ensures.shape c.parting_option.ensures.local ∙ ap₂ with_rule workers named.2 in
    let cards : app_of c.in_ok-arg-3.field-0 ≡ with_rule (with_rule (with_rule (new_app (codes "run")) workers_rule) (parting_rule named.0)) cards_rule =
    c.in_ok-arg-3.ensures.shape c.cards_option.ensures.local ∙ ap₂ with_rule parting c.cards_option.ensures.rule in
    let tries : app_of c.in_ok-arg-4.field-0 ≡ with_rule (with_rule (with_rule (with_rule (new_app (codes "run")) workers_rule) (parting_rule named.0)) cards_rule) tries_rule =
    c.in_ok-arg-4.ensures.shape c.tries_option.ensures.local ∙ ap₂ with_rule cards c.tries_option.ensures.rule in
    IfOk-weaker c.arg-5.result _ (λ r. (names : BorrowedNames) × NamesPartings names × (shape_of r ≡ run_shape names)) (λ r h.
    (named.0, named.1, ap (λ (a : App). a.top) (h.shape c.report_option.ensures.local ∙ ap₂ with_rule tries c.report_option.ensures.rule))) c.arg-5.ensures

pub returns-clause-local : goal.returns-clause-local
returns-clause-local c =
    let start : (fields_of c.after_long_help.result).has_globals ≡ false =
    ap (λ f. f.has_globals) c.after_long_help.ensures ∙ (ap (λ f. f.has_globals) c.long_about.ensures ∙ (ap (λ f. f.has_globals) c.override_usage.ensures ∙ (ap (λ f. f.has_globals) c.about.ensures ∙ c.new.ensures.local))) in
    let workers = still_local _ _ _ c.in_ok-arg.ensures.globals start c.workers_option.ensures.local in
    let parting = still_local _ _ _ c.in_ok-arg-2.ensures.globals workers c.parting_option.ensures.local in
    let cards = still_local _ _ _ c.in_ok-arg-3.ensures.globals parting c.cards_option.ensures.local in
    let tries = still_local _ _ _ c.in_ok-arg-4.ensures.globals cards c.tries_option.ensures.local in
    IfOk-weaker c.arg-5.result _ (λ r. (fields_of r).has_globals ≡ false) (λ r h. still_local _ _ _ h.globals tries c.report_option.ensures.local) c.arg-5.ensures
