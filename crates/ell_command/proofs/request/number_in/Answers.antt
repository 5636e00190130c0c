use Rattle.std.proofs.Common.{◌≡◌, ◌∙◌, ◌≤◌, ap, sym, subst}
use Rattle.std.specs.Prelude.{IsSomeAnd, Some}
use Rattle.std.specs.Str.Parse.{ParsesUnsigned, ExplainsUnsignedError, HasUnsignedDigitsIfOk}
use Rattle.clap.specs.Matches.{ReadsOne}
use Rattle.clap.specs.Words.{found_of, one_of, rows_of, without_minus}
use Rattle.clap.proofs.CallerReads.{signed_reads}
use Rattle.clap.proofs.WalkLemmas.{one_text-rows}
use Rattle.ell_command.specs.CommandLine.{number_said}
use Rattle.ell_command.proofs.request.number_in.Goals as goal

pub returns-clause-none : goal.returns-clause-none
returns-clause-none c = λ none. c.get_one.ensures.none (one_text-rows (found_of c.args.options.now) c.args.name.now ∙ none)

pub returns-clause-some : goal.returns-clause-some
returns-clause-some c = λ most small number.
    let value = one_of c.args.name.now (rows_of (found_of c.args.options.now)) in
    let text = one_text-rows (found_of c.args.options.now) c.args.name.now ∙ number.1 in
    let one = c.get_one.ensures.value (without_minus number.0) text in
    let got = signed_reads _ (λ bs r. ParsesUnsigned 32 10 bs r × ExplainsUnsignedError 10 bs r × HasUnsignedDigitsIfOk bs r) 32 1 most number.0 c.get_one.result one (λ u x g. g.0) small number.2 in
    let read = subst (λ r. ReadsOne (λ bs x. ParsesUnsigned 32 10 bs x × ExplainsUnsignedError 10 bs x × HasUnsignedDigitsIfOk bs x) (without_minus number.0) r) got.1 one in
    let said : number_said value ≡ Some got.0 = ap number_said number.1 ∙ ap Some (sym read.0.1) in
    subst (λ r. IsSomeAnd r (λ n. (1 ≤ n) × (n ≤ most) × (number_said value ≡ Some n))) (sym got.1) (got.2, got.3, said)
