use Rattle.std.proofs.Common.{◌≡◌, ◌||◌, ◌⊎◌, Bool, List, Option, Some, None, inl, inr, [], refl, ap, true, false, is_some, codes, cond}
use Rattle.std.specs.Prelude.{option_map}
use Rattle.std.specs.Str.{bytes_eq}
use Rattle.clap.specs.Walk.{Row, Text}
use Rattle.clap.specs.Walk.{finished, nothing_held, walk, walk_from}
use Rattle.clap.specs.Simple.{Shape, built, entered, names_of, rows_at}
use Rattle.clap.specs.Faults.{entered_fault}
use Rattle.ell_command.specs.CommandLine.{AreTaken, AreTakenToReplay, AreTakenToRun, app_at, elltree_app, faults_of, name_in, subcommand_in}
use Rattle.ell_command.proofs.lemmas.parser.Levels.{level_parts}
use Rattle.ell_command.proofs.lemmas.parser.Stops.{IsNoHelp, no_help_named, walk_goes_on, was_met}

-- the subcommand that is found, by the tests of `run`, of `replay` and of `help`
abbrev pub found_of_three : Bool → Bool → Bool → Shape → Shape → Shape → Option Shape
found_of_three first second third run replay help = cond first (Some run) (cond second (Some replay) (cond third (Some help) None))

-- of three subcommands one was met, and not the third
one_is_met : (rows : Shape → Text × List Row) (run replay help : Shape) (first second third : Bool) → third ≡ false → is_some (option_map rows (found_of_three first second third run replay help)) ≡ true
    → (name_in (option_map rows (found_of_three first second third run replay help)) ≡ Some (rows run).0) ⊎ (name_in (option_map rows (found_of_three first second third run replay help)) ≡ Some (rows replay).0)
one_is_met rows run replay help true second third other met = inl refl
one_is_met rows run replay help false true third other met = inr refl
one_is_met rows run replay help false false true other met = absurd (cc)
one_is_met rows run replay help false false false other met = absurd (cc)

-- a walk that stops, and not at `help`, stops at `run` or at `replay`
stop_is_named : (stop : Option (Text × List Text)) → IsNoHelp stop → is_some (entered (built elltree_app) stop) ≡ true
    → (name_in (entered (built elltree_app) stop) ≡ Some (codes "run")) ⊎ (name_in (entered (built elltree_app) stop) ≡ Some (codes "replay"))
unfolding app_at
stop_is_named None other met = absurd (cc)
stop_is_named (Some p) other met =
    one_is_met (λ s. rows_at s p.1) _ _ _ (bytes_eq (codes "run") p.0 || false) (bytes_eq (codes "replay") p.0 || false) (bytes_eq (codes "help") p.0 || false) (ap (λ b. b || false) (no_help_named p.0 other)) met

-- words without a fault name the subcommand `run` or `replay`
pub one_is_named : (words : List Text) → faults_of words ≡ [] → (subcommand_in words ≡ Some (codes "run")) ⊎ (subcommand_in words ≡ Some (codes "replay"))
unfolding app_at
one_is_named words none =
    let app = built elltree_app in
    let stop = (walk app.top.rules (names_of app) nothing_held words).stopped in
    let has = is_some (entered app stop) in
    let parts = level_parts app.top (names_of app) nothing_held words has (entered_fault app stop) none in
    let met = was_met app.top (finished app.top.rules (walk app.top.rules (names_of app) nothing_held words).held) has refl parts.checks in
    stop_is_named stop (walk_goes_on app.top (names_of app) (walk_from nothing_held) words refl tt parts.walks) met

-- words that are taken name `run` or `replay`
pub one_is_taken : (words : List Text) → AreTaken words → AreTakenToRun words ⊎ AreTakenToReplay words
one_is_taken words none = elim (one_is_named words none) [
  | inl run ↦ inl (none, run)
  | inr replay ↦ inr (none, replay)
]
