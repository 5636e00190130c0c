use Rattle.std.proofs.Common.{◌≡◌, Some, [], ◌∷◌, refl, true, codes}
use Rattle.clap.proofs.OnLiterals.{clap_on_literals}
use Rattle.clap.specs.Words.{is_simple, is_simple_and_free}
use Rattle.clap.specs.declared.error.kind.ErrorKind.TheVariants.{DisplayHelp, DisplayVersion, MissingSubcommand}
use Rattle.ell_command.specs.CommandLine.{BorrowedNames, app_at, faults_of, subcommand_in}

-- clap says of the command which words it takes
pub app_is_simple : (names : BorrowedNames) → is_simple_and_free (app_at names) ≡ true
unfolding clap_on_literals app_at
app_is_simple names = refl

-- and which subcommand they name
pub app_is_ready : (names : BorrowedNames) → is_simple (app_at names) ≡ true
unfolding clap_on_literals app_at
app_is_ready names = refl

pub run_is_taken : faults_of (codes "run" ∷ []) ≡ []
unfolding clap_on_literals app_at
run_is_taken = refl

pub replay_is_taken : faults_of (codes "replay" ∷ []) ≡ []
unfolding clap_on_literals app_at
replay_is_taken = refl

pub run_is_named : subcommand_in (codes "run" ∷ []) ≡ Some (codes "run")
unfolding clap_on_literals app_at
run_is_named = refl

pub replay_is_named : subcommand_in (codes "replay" ∷ []) ≡ Some (codes "replay")
unfolding clap_on_literals app_at
replay_is_named = refl

pub help_is_shown : faults_of (codes "--help" ∷ []) ≡ DisplayHelp ∷ []
unfolding clap_on_literals app_at
help_is_shown = refl

pub short_help_is_shown : faults_of (codes "-h" ∷ []) ≡ DisplayHelp ∷ []
unfolding clap_on_literals app_at
short_help_is_shown = refl

pub run_help_is_shown : faults_of (codes "run" ∷ codes "--help" ∷ []) ≡ DisplayHelp ∷ []
unfolding clap_on_literals app_at
run_help_is_shown = refl

pub run_short_help_is_shown : faults_of (codes "run" ∷ codes "-h" ∷ []) ≡ DisplayHelp ∷ []
unfolding clap_on_literals app_at
run_short_help_is_shown = refl

pub replay_help_is_shown : faults_of (codes "replay" ∷ codes "--help" ∷ []) ≡ DisplayHelp ∷ []
unfolding clap_on_literals app_at
replay_help_is_shown = refl

pub replay_short_help_is_shown : faults_of (codes "replay" ∷ codes "-h" ∷ []) ≡ DisplayHelp ∷ []
unfolding clap_on_literals app_at
replay_short_help_is_shown = refl

pub version_is_shown : faults_of (codes "--version" ∷ []) ≡ DisplayVersion ∷ []
unfolding clap_on_literals app_at
version_is_shown = refl

pub short_version_is_shown : faults_of (codes "-V" ∷ []) ≡ DisplayVersion ∷ []
unfolding clap_on_literals app_at
short_version_is_shown = refl

pub nothing_is_refused : faults_of [] ≡ MissingSubcommand ∷ []
unfolding clap_on_literals app_at
nothing_is_refused = refl
