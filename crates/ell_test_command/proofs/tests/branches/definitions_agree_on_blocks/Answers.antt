use Rattle.std.proofs.Common.{refl, arith}
use Rattle.ell_block.proofs.lemmas.Middles.{not_in_block}
use Rattle.ell_test_command.proofs.tests.branches.definitions_agree_on_blocks.Goals as goal

pub returns-clause-first : goal.returns-clause-first
returns-clause-first c = not_in_block (record { bit = 1; place = 1 }) _ (λ inside. (let from = inside.from in let before = inside.before in omega arith))

pub returns-clause-second : goal.returns-clause-second
returns-clause-second c = record {
  block = record { bit = 1; place = 1 };
  middle = refl;
  inside = record { from = omega arith; before = omega arith };
}

pub returns-clause-third : goal.returns-clause-third
returns-clause-third c = record {
  block = record { bit = 1; place = 1 };
  middle = refl;
  inside = record { from = omega arith; before = omega arith };
}

pub returns-clause-fourth : goal.returns-clause-fourth
returns-clause-fourth c = not_in_block (record { bit = 1; place = 1 }) _ (λ inside. (let from = inside.from in let before = inside.before in omega arith))

pub returns-clause-fifth : goal.returns-clause-fifth
returns-clause-fifth c = not_in_block (record { bit = 0; place = 3 }) _ (λ inside. (let from = inside.from in let before = inside.before in omega arith))

pub returns-clause-sixth : goal.returns-clause-sixth
returns-clause-sixth c = record {
  block = record { bit = 0; place = 3 };
  middle = refl;
  inside = record { from = omega arith; before = omega arith };
}

pub returns-clause-seventh : goal.returns-clause-seventh
returns-clause-seventh c = record {
  block = record { bit = 63; place = 0 };
  middle = refl;
  inside = record { from = omega arith; before = omega arith };
}

pub returns-clause-eighth : goal.returns-clause-eighth
returns-clause-eighth c = record {
  block = record { bit = 63; place = 0 };
  middle = refl;
  inside = record { from = omega arith; before = omega arith };
}

pub returns-clause-ninth : goal.returns-clause-ninth
returns-clause-ninth c = not_in_block (record { bit = 0; place = 9223372036854775807 }) _ (λ inside. (let from = inside.from in let before = inside.before in omega arith))
