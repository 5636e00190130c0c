-- Each turn takes one digit more.
use Rattle.std.proofs.Common.{◌≡◌, get_or, refl, sym, ◌∙◌, true, arith, rules}
use Rattle.std.specs.Char.{is_ascii_digit}
use Rattle.ell_text.proofs.lemmas.Digits.{digits_more, value_by_digits, value_more}
use Rattle.ell_text.proofs.number.digits_in_front.Goals as goal

pub digits-preserved : goal.digits-preserved
digits-preserved c =
    let bytes = c.args.bytes.now in
    let known = c.digits.invariant in
    let digit : is_ascii_digit (get_or bytes c.digits.len 0) ≡ true = search rules in
    record {
      within = omega (arith, c.digits-test.true);
      digits = digits_more bytes c.digits.len c.digits-test.true digit known.digits;
      value = value_more bytes c.digits.len c.digits.number c.from.result _ c.digits-test.true digit known.value (search (rules, arith)) refl;
    }

pub returns-else-is_ascii_digit-clause-value : goal.returns-else-is_ascii_digit-clause-value
returns-else-is_ascii_digit-clause-value c = c.digits.invariant.value ∙ sym (value_by_digits _ c.digits.invariant.digits)

pub returns-after-digits-clause-value : goal.returns-after-digits-clause-value
returns-after-digits-clause-value c = c.digits.invariant.value ∙ sym (value_by_digits _ c.digits.invariant.digits)
