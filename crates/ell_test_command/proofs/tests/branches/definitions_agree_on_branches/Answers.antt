use Rattle.std.proofs.Common.{refl, arith}
use Rattle.ell_test_command.proofs.tests.branches.definitions_agree_on_branches.Goals as goal

pub returns-clause-first : goal.returns-clause-first
returns-clause-first c = record {
  block = record { bit = 0; place = 0 };
  middle = refl;
  parts = record {
    lower = record { from = omega arith; before = omega arith };
    upper = record { from = omega arith; before = omega arith };
  };
}

pub returns-clause-second : goal.returns-clause-second
returns-clause-second c = record {
  block = record { bit = 2; place = 0 };
  middle = refl;
  parts = record {
    lower = record { from = omega arith; before = omega arith };
    upper = record { from = omega arith; before = omega arith };
  };
}

pub returns-clause-third : goal.returns-clause-third
returns-clause-third c = record {
  block = record { bit = 2; place = 0 };
  middle = refl;
  parts = record {
    lower = record { from = omega arith; before = omega arith };
    upper = record { from = omega arith; before = omega arith };
  };
}

pub returns-clause-fourth : goal.returns-clause-fourth
returns-clause-fourth c = record {
  block = record { bit = 1; place = 1 };
  middle = refl;
  parts = record {
    lower = record { from = omega arith; before = omega arith };
    upper = record { from = omega arith; before = omega arith };
  };
}

pub returns-clause-fifth : goal.returns-clause-fifth
returns-clause-fifth c = record {
  block = record { bit = 0; place = 3 };
  middle = refl;
  parts = record {
    lower = record { from = omega arith; before = omega arith };
    upper = record { from = omega arith; before = omega arith };
  };
}

pub returns-clause-sixth : goal.returns-clause-sixth
returns-clause-sixth c = record {
  block = record { bit = 63; place = 0 };
  middle = refl;
  parts = record {
    lower = record { from = omega arith; before = omega arith };
    upper = record { from = omega arith; before = omega arith };
  };
}

pub returns-clause-seventh : goal.returns-clause-seventh
returns-clause-seventh c = record {
  block = record { bit = 0; place = 9223372036854775807 };
  middle = refl;
  parts = record {
    lower = record { from = omega arith; before = omega arith };
    upper = record { from = omega arith; before = omega arith };
  };
}
