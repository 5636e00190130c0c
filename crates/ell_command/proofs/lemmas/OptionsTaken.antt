use Rattle.std.proofs.Common.{◌≡◌, ◌∙◌, ◌||◌, ◌⊎◌, ℕ, Bool, List, Option, Some, None, inl, inr, [], refl, sym, subst, ap, true, false, is_some, codes}
use Rattle.std.specs.Prelude.{option_map}
use Rattle.std.specs.Str.{bytes_eq}
use Rattle.std.proofs.lemmas.Slice.Eq.{bytes_eq-Decides}
use Rattle.clap.specs.Walk.{Row, Rule, Text}
use Rattle.clap.specs.Walk.{settled, nothing_held, first_of, one_of, rows_after, walk}
use Rattle.std.specs.Option.{option_map_or}
use Rattle.clap.specs.Simple.{Shape, built, entered, filled, names_of, rows_at}
use Rattle.clap.specs.Kinds.{Kinds}
use Rattle.clap.specs.Faults.{entered_fault, level_fault}
use Rattle.clap.proofs.ValueTestLemmas.{accepts-Accepts}
use Rattle.clap.specs.ValueTests.{accepts}
use Rattle.clap.specs.Values.{read_as, reading_of}
use Rattle.clap.specs.Facts.{parser_of_value}
use Rattle.ell_command.specs.CommandLine.{AreOptions, AreTakenToRun, IsNumberUpTo, app_at, cards_rule, elltree_app, name_in, options_of, parting_rule, partings, report_rule, rows_in, tries_rule, up_to, workers_rule}
use Rattle.ell_command.proofs.lemmas.parser.Levels.{level_parts}
use Rattle.ell_command.proofs.lemmas.parser.Fits.{AllFit, AreSound, level_fits}
use Rattle.ell_command.proofs.lemmas.parser.Defaults.{defaults_made}
use Rattle.ell_command.proofs.lemmas.parser.Options.{IsGiven, option_given, option_maybe, passing}
use Rattle.ell_command.proofs.lemmas.Subcommands.{found_of_three}
use Rattle.ell_command.proofs.lemmas.PartingNames.{built_help, built_replay, built_run}

abbrev rules : List Rule
unfolding app_at
rules = (built_run partings).rules

-- each use of an option has a value
rules_sound : AreSound rules rules
unfolding app_at
rules_sound = (
  (inl refl, inl refl),
  (
    (inr (inl refl), inl refl),
    (
      (inr (inr (inl refl)), inl refl),
      (
        (inr (inr (inr (inl refl))), inl refl),
        (
          (inr (inr (inr (inr (inl refl)))), inr (inl tt)),
          ((inr (inr (inr (inr (inr (inl refl))))), inr (inr refl)), tt),
        ),
      ),
    ),
  ),
)

-- a number that an option takes
number_given : (most : ℕ) (id : Text) (rows : List Row) (a : Rule) → a.parser ≡ Some (up_to most) → IsGiven id rows a → IsNumberUpTo most (one_of id rows)
number_given most id rows a is given = (
  given.0,
  given.2 ∙ ap (λ p. Some (read_as (reading_of (parser_of_value p)) given.0)) is,
  accepts-Accepts a.ignore_case (up_to most) given.0 (subst (λ p. accepts a.ignore_case (parser_of_value p) given.0 ≡ true) is given.3),
)

-- one of two texts
one_of_two : (text first second : Text) → (bytes_eq first text || (bytes_eq second text || false)) ≡ true → (text ≡ first) ⊎ (text ≡ second)
one_of_two text first second is = go (bytes_eq first text) refl (bytes_eq second text) refl is
  where
    go : (a : Bool) → bytes_eq first text ≡ a → (b : Bool) → bytes_eq second text ≡ b → (a || (b || false)) ≡ true → (text ≡ first) ⊎ (text ≡ second)
    go true same b other is = inl (sym ((bytes_eq-Decides first text).0 same))
    go false same true other is = inr (sym ((bytes_eq-Decides second text).0 other))
    go false same false other is = absurd (cc)

either_of_two : (text first second : Text) → (bytes_eq text first || bytes_eq text second) ≡ true → (text ≡ first) ⊎ (text ≡ second)
either_of_two text first second is = go (bytes_eq text first) refl is
  where
    go : (a : Bool) → bytes_eq text first ≡ a → (a || bytes_eq text second) ≡ true → (text ≡ first) ⊎ (text ≡ second)
    go true same is = inl ((bytes_eq-Decides text first).0 same)
    go false same is = inr ((bytes_eq-Decides text second).0 is)

-- the text of an option is one of two
text_of_two : (o : Option Text) (text first second : Text) → o ≡ Some text → (text ≡ first) ⊎ (text ≡ second) → (o ≡ Some first) ⊎ (o ≡ Some second)
text_of_two o text first second given (inl is) = inl (given ∙ ap Some is)
text_of_two o text first second given (inr is) = inr (given ∙ ap Some is)

abbrev rows_by : List Text → List Row
rows_by words = rows_after rules [] words

-- the rows before the defaults
abbrev rows_given : List Text → List Row
rows_given words = (settled rules (walk rules [] nothing_held words).held).rows

abbrev HasNoFault : List Text → Type 0
HasNoFault words = level_fault (built_run partings) [] nothing_held words false [] ≡ []

rows_fit : (words : List Text) → HasNoFault words → AllFit rules (rows_by words)
unfolding app_at
rows_fit words none = level_fits (built_run partings) words rules_sound none

workers_taken : (words : List Text) → HasNoFault words → IsNumberUpTo 64 (one_of (codes "workers") (rows_by words))
unfolding app_at
workers_taken words none =
    let a = filled workers_rule in
    number_given 64 (codes "workers") (rows_by words) a refl (option_given rules (codes "workers") a
    (λ x of named. elim (passing (λ (y : Rule). bytes_eq y.id (codes "workers")) rules x of named) [ inl is ↦ is | inr none ↦ absurd none ])
    (rows_by words) (rows_fit words none) (defaults_made rules (rows_given words) a (inl refl) tt))

parting_taken : (words : List Text) → HasNoFault words → (first_of (codes "parting") (rows_by words) ≡ Some (codes "stripe")) ⊎ (first_of (codes "parting") (rows_by words) ≡ Some (codes "range"))
unfolding app_at
parting_taken words none =
    let a = filled (parting_rule partings) in
    let given = option_given rules (codes "parting") a
    (λ x of named. elim (passing (λ (y : Rule). bytes_eq y.id (codes "parting")) rules x of named) [ inl is ↦ is | inr none ↦ absurd none ])
    (rows_by words) (rows_fit words none) (defaults_made rules (rows_given words) a (inr (inl refl)) tt) in
    text_of_two _ given.0 _ _ given.1 (one_of_two given.0 (codes "stripe") (codes "range") given.3)

cards_taken : (words : List Text) → HasNoFault words → (one_of (codes "cards") (rows_by words) ≡ None) ⊎ IsNumberUpTo 1000000 (one_of (codes "cards") (rows_by words))
unfolding app_at
cards_taken words none =
    let a = filled cards_rule in
    let maybe = option_maybe rules (codes "cards") a
    (λ x of named. elim (passing (λ (y : Rule). bytes_eq y.id (codes "cards")) rules x of named) [ inl is ↦ is | inr none ↦ absurd none ])
    (rows_by words) (rows_fit words none) in
    elim maybe [
      | inl absent ↦ inl absent
      | inr given ↦ inr (number_given 1000000 (codes "cards") (rows_by words) a refl given)
    ]

tries_taken : (words : List Text) → HasNoFault words → IsNumberUpTo 1000000 (one_of (codes "tries") (rows_by words))
unfolding app_at
tries_taken words none =
    let a = filled tries_rule in
    number_given 1000000 (codes "tries") (rows_by words) a refl (option_given rules (codes "tries") a
    (λ x of named. elim (passing (λ (y : Rule). bytes_eq y.id (codes "tries")) rules x of named) [ inl is ↦ is | inr none ↦ absurd none ])
    (rows_by words) (rows_fit words none) (defaults_made rules (rows_given words) a (inr (inr (inr (inl refl)))) tt))

report_taken : (words : List Text) → HasNoFault words → (one_of (codes "report") (rows_by words) ≡ Some (codes "true")) ⊎ (one_of (codes "report") (rows_by words) ≡ Some (codes "false"))
unfolding app_at
report_taken words none =
    let a = filled report_rule in
    let given = option_given rules (codes "report") a
    (λ x of named. elim (passing (λ (y : Rule). bytes_eq y.id (codes "report")) rules x of named) [ inl is ↦ is | inr none ↦ absurd none ])
    (rows_by words) (rows_fit words none) (defaults_made rules (rows_given words) a (inr (inr (inr (inr (inl refl))))) tt) in
    text_of_two _ given.0 _ _ given.2 (either_of_two given.0 (codes "true") (codes "false") given.3)

run_options : (words : List Text) → HasNoFault words → AreOptions (rows_by words)
run_options words none = record {
  workers = workers_taken words none;
  parting = parting_taken words none;
  cards = cards_taken words none;
  tries = tries_taken words none;
  report = report_taken words none;
}

-- of three subcommands that of `run` was met, and has no fault
run_options_met : (rows : Shape → Text × List Row) (faults : Shape → Kinds) (run replay help : Shape) (first second third : Bool) → (Some (rows replay).0 ≡ Some (codes "run") → ⊥) → (Some (rows help).0 ≡ Some (codes "run") → ⊥)
    → name_in (option_map rows (found_of_three first second third run replay help)) ≡ Some (codes "run") → option_map_or faults (found_of_three first second third run replay help) [] ≡ []
    → (faults run ≡ [] → AreOptions (rows run).1) → AreOptions (rows_in (option_map rows (found_of_three first second third run replay help)))
run_options_met rows faults run replay help true second third others help_other named none options = options none
run_options_met rows faults run replay help false true third other help_other named none options = absurd (other named)
run_options_met rows faults run replay help false false true other help_other named none options = absurd (help_other named)
run_options_met rows faults run replay help false false false other help_other named none options = absurd (cc)

stop_has_options : (stop : Option (Text × List Text)) → name_in (entered (built (app_at partings)) stop) ≡ Some (codes "run") → entered_fault (built (app_at partings)) stop ≡ []
    → AreOptions (rows_in (entered (built (app_at partings)) stop))
unfolding app_at
stop_has_options None named none = absurd (cc)
stop_has_options (Some p) named none =
    run_options_met (λ s. rows_at s p.1) (λ s. level_fault s [] nothing_held p.1 false []) (built_run partings) built_replay built_help
    (bytes_eq (codes "run") p.0 || false) (bytes_eq (codes "replay") p.0 || false) (bytes_eq (codes "help") p.0 || false) (λ is. absurd (cc)) (λ is. absurd (cc)) named none (run_options p.1)

-- the options of words that name `run`, without a fault, were taken
pub options_taken : (words : List Text) → AreTakenToRun words → AreOptions (options_of words)
unfolding app_at
options_taken words (none, named) =
    let app = built elltree_app in
    let stop = (walk app.top.rules (names_of app) nothing_held words).stopped in
    let has = is_some (entered app stop) in
    let parts = level_parts app.top (names_of app) nothing_held words has (entered_fault app stop) none in
    stop_has_options stop named parts.nothing_below
