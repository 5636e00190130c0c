use Rattle.std.proofs.Common.{◌≡◌, ◌∙◌, ◌⊎◌, ◌↔◌, Bool, List, Option, Some, None, inl, inr, true, false, codes, sym, ap, subst, rules}
use Rattle.std.specs.Prelude.{option_map, unwrap_or}
use Rattle.clap.specs.Words.{Row, Text, found_of, one_of, one_text, rows_of, subcommand_name_of, subcommand_rows_of}
use Rattle.clap.specs.declared.parser.matches.Found.{Found}
use Rattle.clap.proofs.WalkLemmas.{one_text-rows}
use Rattle.ell_command.specs.CommandLine.{AreOptions, AreSaid, WantReport, rows_in}
use Rattle.ell_command.proofs.request.request_in.Goals as goal

-- the rows of the subcommand that was met
rows_given : (met : Option (Text × List Row)) (rows : List Row) → Some rows ≡ option_map (λ p. p.1) met → rows ≡ rows_in met
rows_given None rows is = absurd (cc)
rows_given (Some p) rows is = ap (λ o. unwrap_or o rows) is

-- a flag is set where its text says so
flag_read : (f : Found) (flag : Bool) → (one_of (codes "report") (rows_of f) ≡ Some (codes "true")) ⊎ (one_of (codes "report") (rows_of f) ≡ Some (codes "false"))
    → (one_text f (codes "report") ≡ Some (codes "true") → flag ≡ true) → (one_text f (codes "report") ≡ Some (codes "false") → flag ≡ false)
    → flag ≡ true ↔ WantReport (rows_of f)
flag_read f flag (inl on) set unset = (λ set_now. on, λ is. set (one_text-rows f (codes "report") ∙ is))
flag_read f flag (inr off) set unset = (
  λ set_now.
      let not_set : flag ≡ false = unset (one_text-rows f (codes "report") ∙ off) in
      absurd (cc),
  λ is. set (one_text-rows f (codes "report") ∙ is),
)

pub settings_in-requires : goal.settings_in-requires
settings_in-requires c =
    let found = c.in-Some-run-default.ensures.rows in
    let named : subcommand_name_of c.args.matches.now ≡ Some (codes "run") = search rules in
    subst AreOptions (sym (rows_given (subcommand_rows_of c.args.matches.now) _ found)) (c.requires.options named)

pub returns-in-Some-run-default-clause-options : goal.returns-in-Some-run-default-clause-options
returns-in-Some-run-default-clause-options c =
    let f = found_of c.in-Some-run-default.options.now in
    let rows = rows_given (subcommand_rows_of c.args.matches.now) (rows_of f) c.in-Some-run-default.ensures.rows in
    let named : subcommand_name_of c.args.matches.now ≡ Some (codes "run") = search rules in
    let options : AreOptions (rows_of f) = subst AreOptions (sym rows) (c.requires.options named) in (
      c.settings_in.ensures.ranges,
      subst (λ rows. AreSaid rows c.settings_in.result) rows c.settings_in.ensures.said,
      subst (λ rows. c.get_flag.result ≡ true ↔ WantReport rows) rows
          (flag_read f c.get_flag.result options.report c.get_flag.ensures.value c.get_flag.ensures.other),
    )
