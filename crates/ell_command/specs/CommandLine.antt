use Rattle.std.specs.Prelude.{◌≡◌, ◌≢◌, ◌⊎◌, ℕ, Bool, IsTrue, true, false, List, [], ◌∷◌, codes}
use Rattle.std.specs.Prelude.{◌↔◌, ◌++◌, Option, None, Some, map, option_map, pos, ⊤}
use Rattle.std.specs.Str.Parse.{digits_value, without_leading_plus}
use Rattle.std.specs.List.{list_all}
use Rattle.std.specs.Borrow.{Bor}
use Rattle.clap.specs.Words.{App, Kinds, Row, Rule, Shape, Text, fault_of, new_app, new_rule, one_of}
use Rattle.clap.specs.Words.{IsSignedIn, first_of, subcommand_of, with_subcommand, without_minus}
use Rattle.clap.specs.Simple.{new_shape, on_top}
use Rattle.clap.specs.declared.builder.action.ArgAction.TheVariants as action
use Rattle.clap.specs.declared.builder.value_parser.ValueParser.{ValueParser}
use Rattle.clap.specs.declared.builder.value_parser.ValueParser.TheVariants as value_parser
use Rattle.clap.specs.declared.error.kind.ErrorKind.{ErrorKind}
use Rattle.clap.specs.declared.error.kind.ErrorKind.TheVariants as kind
use Rattle.ell_word.specs.Node.{most_cards}
use Rattle.ell_run.specs.Settings.{AreSettings, most_tries, most_workers}
use Rattle.ell_run.specs.declared.settings.Settings.{Settings}
use Rattle.ell_run.specs.declared.settings.Parting.{Parting}
use Rattle.ell_run.specs.declared.settings.Parting.TheVariants.{Range, Stripe}
use Rattle.ell_command.specs.declared.request.Request.{Request}
use Rattle.ell_command.specs.declared.request.Request.TheVariants.{Replay, Run}

-- the subcommand that stands for a request
abbrev pub subcommand_for : Request → Text
subcommand_for (Run settings report) = codes "run"
subcommand_for Replay = codes "replay"

-- a list of names, as the parser borrows it
abbrev pub BorrowedNames : Type 0
BorrowedNames = Bor (List (Bor Text))

-- the names of the partings of keys
abbrev pub parting_names : List Text
parting_names = codes "stripe" ∷ codes "range" ∷ []

-- the list has the names of the partings
abbrev pub NamesPartings : BorrowedNames → Type 0
NamesPartings names = map (λ name. name.now) names.now ≡ parting_names

-- a value that lies at no particular place
abbrev pub placeless : {X : Type 0} → X → Bor X
placeless x = record { ref_ptr = (0, 0); now = x }

-- the names of the partings, at no particular place
abbrev pub partings : BorrowedNames
partings = placeless (placeless (codes "stripe") ∷ placeless (codes "range") ∷ [])

-- an option of one value, by its name, what its value has to be and what it is by default
abbrev pub option_rule : Text → ValueParser → List Text → Rule
option_rule name parser defaults = record (new_rule name) {
  long = Some name;
  value_names = 1;
  defaults = defaults;
  parser = Some parser;
}

-- the numbers from 1 to this one
abbrev pub up_to : ℕ → ValueParser
up_to most = value_parser.Signed (pos 1) (pos most)

-- `--workers`, from 1 on, and 4 by default
abbrev pub workers_rule : Rule
workers_rule = option_rule (codes "workers") (up_to most_workers) (codes "4" ∷ [])

-- `--parting`, one of the names, and `stripe` by default
abbrev pub parting_rule : BorrowedNames → Rule
parting_rule names =
    option_rule (codes "parting") (value_parser.Names names) (codes "stripe" ∷ [])

-- `--cards`, from 1 on, with no default
abbrev pub cards_rule : Rule
cards_rule = option_rule (codes "cards") (up_to most_cards) []

-- `--tries`, from 1 on, and 1000 by default
abbrev pub tries_rule : Rule
tries_rule = option_rule (codes "tries") (up_to most_tries) (codes "1000" ∷ [])

-- the flag `--report`
abbrev pub report_rule : Rule
report_rule = record (new_rule (codes "report")) {
  long = Some (codes "report");
  action = Some action.SetTrue;
}

-- the options of the subcommand `run`
abbrev pub run_rules : BorrowedNames → List Rule
run_rules names = workers_rule ∷ parting_rule names ∷ cards_rule ∷ tries_rule ∷ report_rule ∷ []

-- what a parse reads of the subcommand `run`
abbrev pub run_shape : BorrowedNames → Shape
run_shape names = record (new_shape (codes "run")) { rules = run_rules names }

-- what a parse reads of the subcommand `replay`, which has no options
abbrev pub replay_shape : Shape
replay_shape = new_shape (codes "replay")

-- what a parse reads of the command `elltree`, which has a version and whose words have to name a
-- subcommand, where the names of the partings lie here
unfoldable pub app_at : BorrowedNames → App
app_at names = with_subcommand (with_subcommand (on_top (λ s. record s {
  no_binary_name = true;
  subcommand_required = true;
  has_version = true;
}) (new_app (codes "elltree"))) (run_shape names)) replay_shape

-- what a parse reads of the command `elltree`: it finds the same wherever those names lie
abbrev pub elltree_app : App
elltree_app = app_at partings

-- the command is `elltree`, wherever the names of its partings lie
abbrev pub IsElltree : App → Type 0
IsElltree a = (names : BorrowedNames) × NamesPartings names × (a ≡ app_at names)

-- the kinds of error that the words may come to, and none where they are taken
abbrev pub faults_of : List Text → Kinds
faults_of = fault_of elltree_app

-- the words are taken
abbrev pub AreTaken : List Text → Type 0
AreTaken words = faults_of words ≡ []

-- the name of a subcommand that was met
abbrev pub name_in : Option (Text × List Row) → Option Text
name_in = option_map (λ entered. entered.0)

-- the subcommand that the words name
abbrev pub subcommand_in : List Text → Option Text
subcommand_in words = name_in (subcommand_of elltree_app words)

-- the words are taken, and name the subcommand `run`
abbrev pub AreTakenToRun : List Text → Type 0
AreTakenToRun words = AreTaken words × (subcommand_in words ≡ Some (codes "run"))

-- the words are taken, and name the subcommand `replay`
abbrev pub AreTakenToReplay : List Text → Type 0
AreTakenToReplay words = AreTaken words × (subcommand_in words ≡ Some (codes "replay"))

-- the words are the one word `run`
abbrev pub AsksToRun : List Text → Type 0
AsksToRun words = words ≡ codes "run" ∷ []

-- the words are the one word `replay`
abbrev pub AsksToReplay : List Text → Type 0
AsksToReplay words = words ≡ codes "replay" ∷ []

-- the words are `--help` or `-h`, after this
abbrev pub AsksForHelpAfter : List Text → List Text → Type 0
AsksForHelpAfter before words =
    (words ≡ before ++ codes "--help" ∷ []) ⊎ (words ≡ before ++ codes "-h" ∷ [])

-- the words are `--help` or `-h`, alone or after `run` or `replay`
abbrev pub AsksForHelp : List Text → Type 0
AsksForHelp words = AsksForHelpAfter [] words
    ⊎ (AsksForHelpAfter (codes "run" ∷ []) words ⊎ AsksForHelpAfter (codes "replay" ∷ []) words)

-- the words come to help and to no other error, as those of `AsksForHelp` do, and as `run --workers 2 --help` does
abbrev pub AreShownHelp : List Text → Type 0
AreShownHelp words = faults_of words ≡ kind.DisplayHelp ∷ []

-- the words are `--version` or `-V`, alone
abbrev pub AsksForVersion : List Text → Type 0
AsksForVersion words = (words ≡ codes "--version" ∷ []) ⊎ (words ≡ codes "-V" ∷ [])

-- a kind of error that is a mistake in the words: no help, no version, and no want of memory
abbrev pub is_mistake : ErrorKind → Bool
is_mistake kind.DisplayHelp = false
is_mistake kind.DisplayVersion = false
is_mistake kind.OutOfMemory = false
is_mistake _ = true

-- the error is a mistake in the words, or a want of memory
abbrev pub IsMistakeOrMemory : ErrorKind → Type 0
IsMistakeOrMemory k = (k ≡ kind.OutOfMemory) ⊎ IsTrue (is_mistake k)

-- the words are refused: each kind of error that they may come to is a mistake
abbrev pub AreRefused : List Text → Type 0
AreRefused words = (faults_of words ≢ []) × IsTrue (list_all is_mistake (faults_of words))

-- ---- the options of `run`

-- the rows of a subcommand that was met
abbrev pub rows_in : Option (Text × List Row) → List Row
rows_in None = []
rows_in (Some entered) = entered.1

-- what the words say of each option of the subcommand that they name, with the defaults
abbrev pub options_of : List Text → List Row
options_of words = rows_in (subcommand_of elltree_app words)

-- the text of an option is a number from 1 to this one
abbrev pub IsNumberUpTo : ℕ → Option Text → Type 0
IsNumberUpTo most value =
    (text : Text) × (value ≡ Some (without_minus text)) × IsSignedIn (pos 1) (pos most) text

-- each option of `run` has a value that it takes, or none where it has no default
pub record AreOptions (rows : List Row) : Type 0 where
  pub workers : IsNumberUpTo most_workers (one_of (codes "workers") rows)
  pub parting : (first_of (codes "parting") rows ≡ Some (codes "stripe"))
      ⊎ (first_of (codes "parting") rows ≡ Some (codes "range"))
  pub cards : (one_of (codes "cards") rows ≡ None)
      ⊎ IsNumberUpTo most_cards (one_of (codes "cards") rows)
  pub tries : IsNumberUpTo most_tries (one_of (codes "tries") rows)
  pub report : (one_of (codes "report") rows ≡ Some (codes "true"))
      ⊎ (one_of (codes "report") rows ≡ Some (codes "false"))

-- the name of a parting
abbrev pub name_of : Parting → Text
name_of Stripe = codes "stripe"
name_of Range = codes "range"

-- the number that the text of an option says
abbrev pub number_said : Option Text → Option ℕ
number_said = option_map (λ text. digits_value 10 (without_leading_plus text))

-- the settings are those that the options say
pub record AreSaid (rows : List Row) (settings : Settings) : Type 0 where
  pub workers : number_said (one_of (codes "workers") rows) ≡ Some settings.workers
  pub parting : first_of (codes "parting") rows ≡ Some (name_of settings.parting)
  pub cards : number_said (one_of (codes "cards") rows) ≡ settings.cards
  pub tries : number_said (one_of (codes "tries") rows) ≡ Some settings.tries

-- the options want a report
abbrev pub WantReport : List Row → Type 0
WantReport rows = one_of (codes "report") rows ≡ Some (codes "true")

-- the settings of a run are those that the options say, in their ranges, and so is whether a report
-- is wanted
abbrev pub IsRequestOf : List Row → Request → Type 0
IsRequestOf rows (Run settings report) =
    AreSettings settings × AreSaid rows settings × (report ≡ true ↔ WantReport rows)
IsRequestOf rows Replay = ⊤

-- the request is a run by the default settings, without a report
abbrev pub IsPlainRun : Request → Type 0
IsPlainRun (Run settings report) = (settings.workers ≡ 4) × (settings.parting ≡ Stripe)
    × (settings.cards ≡ None) × (settings.tries ≡ 1000) × (report ≡ false)
IsPlainRun Replay = ⊥

-- the words ask for a report after the run
abbrev pub AsksForReport : List Text → Type 0
AsksForReport words = (subcommand_in words ≡ Some (codes "run")) × WantReport (options_of words)
