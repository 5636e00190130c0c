use Rattle.std.proofs.Common.{◌≡◌, ◌∙◌, ◌||◌, Bool, List, Option, Some, None, [], ◌∷◌, refl, ap, ap₂, true, false, is_some, codes}
use Rattle.std.specs.Prelude.{if◌then◌else◌, option_map}
use Rattle.std.specs.List.{list_any}
use Rattle.std.specs.Str.{bytes_eq}
use Rattle.clap.specs.Walk.{Text}
use Rattle.clap.specs.Walk.{nothing_held, walk}
use Rattle.std.specs.Borrow.{Bor}
use Rattle.std.specs.Option.{option_map_or}
use Rattle.clap.specs.Simple.{Shape, built, built_leaf, entered, help_shape, inherited, marked_built, names_of, rows_at, subcommand_of}
use Rattle.clap.specs.Kinds.{Kinds, value_kinds}
use Rattle.clap.specs.declared.builder.value_parser.ValueParser.TheVariants.{Names as OneOfNames}
use Rattle.clap.proofs.WalkLemmas.{list_any-map}
use Rattle.clap.specs.Faults.{entered_fault, level_fault}
use Rattle.clap.specs.Words.{fault_of}
use Rattle.clap.specs.declared.error.kind.ErrorKind.TheVariants.{InvalidValue}
use Rattle.ell_command.specs.CommandLine.{BorrowedNames, NamesPartings, app_at, parting_names, partings, replay_shape, run_shape}
use Rattle.ell_command.proofs.lemmas.parser.Places.{AreAlike, level_alike, rows_after_moved}
use Rattle.ell_command.proofs.lemmas.Subcommands.{found_of_three}

-- the subcommands as built
abbrev pub built_run : BorrowedNames → Shape
unfolding app_at
built_run names = built_leaf (inherited (marked_built (app_at names).top) (run_shape names))

abbrev pub built_replay : Shape
unfolding app_at
built_replay = built_leaf (inherited (marked_built (app_at partings).top) replay_shape)

abbrev pub built_help : Shape
built_help = built_leaf help_shape

partings_alike : (names : BorrowedNames) → NamesPartings names → (text : Text) → value_kinds false (OneOfNames names) text ≡ value_kinds false (OneOfNames partings) text
partings_alike names are text =
    let named : list_any (λ (name : Bor Text). bytes_eq name.now text) names.now ≡ list_any (λ (name : Text). bytes_eq name text) parting_names =
    list_any-map (λ (name : Text). bytes_eq name text) (λ (name : Bor Text). name.now) names.now ∙ ap (list_any (λ (name : Text). bytes_eq name text)) are in
    ap (λ b. if b then [] else InvalidValue ∷ []) named

rules_alike : (names : BorrowedNames) → NamesPartings names → AreAlike names (built_run partings).rules
unfolding app_at
rules_alike names are = (λ text. refl, (partings_alike names are, (λ text. refl, (λ text. refl, (λ text. refl, (λ text. refl, tt))))))

run_alike : (names : BorrowedNames) → NamesPartings names → (words : List Text) → level_fault (built_run names) [] nothing_held words false [] ≡ level_fault (built_run partings) [] nothing_held words false []
unfolding app_at
run_alike names are words = level_alike names (built_run partings) [] nothing_held words false [] (rules_alike names are)

run_rows_alike : (names : BorrowedNames) (words : List Text) → rows_at (built_run names) words ≡ rows_at (built_run partings) words
unfolding app_at
run_rows_alike names words = ap (λ rows. (codes "run", rows)) (rows_after_moved names (built_run partings).rules [] words)

-- what is found of three subcommands, where the first is another
found_alike : {X : Type 0} (f : Shape → X) (run other replay help : Shape) (first second third : Bool) → f run ≡ f other
    → option_map f (found_of_three first second third run replay help) ≡ option_map f (found_of_three first second third other replay help)
found_alike f run other replay help true second third same = ap Some same
found_alike f run other replay help false second third same = refl

faults_alike : (f : Shape → Kinds) (run other replay help : Shape) (first second third : Bool) → f run ≡ f other
    → option_map_or f (found_of_three first second third run replay help) [] ≡ option_map_or f (found_of_three first second third other replay help) []
faults_alike f run other replay help true second third same = same
faults_alike f run other replay help false second third same = refl

entered_alike : (names : BorrowedNames) (stop : Option (Text × List Text)) → entered (built (app_at names)) stop ≡ entered (built (app_at partings)) stop
unfolding app_at
entered_alike names None = refl
entered_alike names (Some p) =
    found_alike (λ s. rows_at s p.1) (built_run names) (built_run partings) built_replay built_help (bytes_eq (codes "run") p.0 || false) (bytes_eq (codes "replay") p.0 || false) (bytes_eq (codes "help") p.0 || false) (run_rows_alike names p.1)

entered_fault_alike : (names : BorrowedNames) → NamesPartings names → (stop : Option (Text × List Text)) → entered_fault (built (app_at names)) stop ≡ entered_fault (built (app_at partings)) stop
unfolding app_at
entered_fault_alike names are None = refl
entered_fault_alike names are (Some p) =
    faults_alike (λ s. level_fault s [] nothing_held p.1 false []) (built_run names) (built_run partings) built_replay built_help (bytes_eq (codes "run") p.0 || false) (bytes_eq (codes "replay") p.0 || false) (bytes_eq (codes "help") p.0 || false)
    (run_alike names are p.1)

-- wherever the names of the partings lie, the words come to the same errors
pub same_faults : (names : BorrowedNames) → NamesPartings names → (words : List Text) → fault_of (app_at names) words ≡ fault_of (app_at partings) words
unfolding app_at
same_faults names are words =
    let top = (built (app_at partings)).top in
    let subs = names_of (built (app_at partings)) in
    let stop = (walk top.rules subs nothing_held words).stopped in
    ap₂ (λ e f. level_fault top subs nothing_held words (is_some e) f) (entered_alike names stop) (entered_fault_alike names are stop)

-- and to the same options
pub same_rows : (names : BorrowedNames) (words : List Text) → subcommand_of (app_at names) words ≡ subcommand_of (app_at partings) words
unfolding app_at
same_rows names words =
    let top = (built (app_at partings)).top in
    let subs = names_of (built (app_at partings)) in
    entered_alike names (walk top.rules subs nothing_held words).stopped
