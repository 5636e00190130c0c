-- Digits are text, and `parse` reads their value.
use Rattle.std.proofs.Common.{arith}
use Rattle.std.proofs.lemmas.Grind.{common_steps}
use Rattle.std.proofs.lemmas.Str.{IsUtf8-from_ascii}
use Rattle.ell_text.proofs.lemmas.Digits.{IsAscii-from_number, value_from_parse}
use Rattle.ell_text.proofs.number.value.Goals as goal

pub unwrap-requires : goal.unwrap-requires
unwrap-requires c = grind (arith, common_steps, IsUtf8-from_ascii, IsAscii-from_number)

pub returns : goal.returns
returns c =
    let text = (rw c.unwrap.ensures at c.from_utf8.ensures.cases).0 in
    rw c.ok.ensures.value (value_from_parse c.args.digits.now c.parse.result c.requires (rw text at c.parse.ensures.value.0))
