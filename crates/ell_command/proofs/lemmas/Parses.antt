use Rattle.std.proofs.Common.{◌≡◌, ◌∙◌, ◌++◌, ◌⊎◌, List, Option, Some, None, Result, Ok, Err, IfErr, IsErrAnd, inl, inr, [], ◌∷◌, refl, sym, subst, ap, true, codes}
use Rattle.std.specs.Prelude.{IsTrue, option_map}
use Rattle.std.specs.List.{list_all}
use Rattle.std.proofs.lemmas.Bool.{and_parts}
use Rattle.clap.specs.Walk.{Text}
use Rattle.clap.specs.Simple.{subcommand_of}
use Rattle.clap.specs.Kinds.{Kinds}
use Rattle.clap.proofs.FaultLemmas.{failed_up}
use Rattle.clap.specs.Words.{App, FailsBy, HasKind, IsAmong, HasMatchesOf, fault_of, is_simple, is_simple_and_free, kind_of, subcommand_name_of, subcommand_rows_of}
use Rattle.clap.specs.declared.parser.matches.ArgMatches.{ArgMatches}
use Rattle.clap.specs.declared.parser.matches.ArgMatches.TheViews.{out-ArgMatches}
use Rattle.clap.specs.declared.error.Error.{Error}
use Rattle.clap.specs.declared.error.kind.ErrorKind.{ErrorKind}
use Rattle.clap.specs.declared.error.kind.ErrorKind.TheVariants.{DisplayHelp, DisplayVersion, MissingSubcommand, OutOfMemory}
use Rattle.ell_command.specs.CommandLine.{AreOptions, AreRefused, AreShownHelp, AreTaken, AsksForHelp, AsksForHelpAfter, AsksForVersion, AsksToReplay, AsksToRun, IsElltree, IsMistakeOrMemory, app_at, elltree_app, faults_of, is_mistake, name_in, options_of, rows_in, subcommand_in}
use Rattle.ell_command.proofs.lemmas.WrittenOut.{app_is_ready, app_is_simple, help_is_shown, nothing_is_refused, replay_help_is_shown, replay_is_taken, replay_short_help_is_shown, run_help_is_shown, run_is_taken, run_short_help_is_shown, short_help_is_shown, short_version_is_shown, version_is_shown}
use Rattle.ell_command.proofs.lemmas.Subcommands.{one_is_named}
use Rattle.ell_command.proofs.lemmas.PartingNames.{same_faults, same_rows}
use Rattle.ell_command.proofs.lemmas.OptionsTaken.{options_taken}

-- a parse by the command fails as the words say
pub fails_by_words : {T : Type 0} (a : App) (words : List Text) (r : Result T Error) → IsElltree a → (is_simple_and_free a ≡ true → FailsBy (fault_of a words) r) → FailsBy (faults_of words) r
fails_by_words a words r is fails =
    let by_names : FailsBy (fault_of (app_at is.0) words) r =
    subst (λ (b : App). FailsBy (fault_of b words) r) is.2 (fails (ap is_simple_and_free is.2 ∙ app_is_simple is.0)) in
    subst (λ kinds. FailsBy kinds r) (same_faults is.0 is.1 words) by_names

-- a parse whose words come to one kind of error fails by that kind
fails_with : {T : Type 0} (kinds : Kinds) (k : ErrorKind) (r : Result T Error) → FailsBy kinds r → kinds ≡ k ∷ [] → IsErrAnd r (HasKind (k ∷ []))
fails_with kinds k (Ok x) none is = absurd (cc)
fails_with kinds k (Err e) fails is = subst (λ ks. HasKind ks e) is fails

-- a parse of words that are taken fails only for want of memory
pub taken_fails : {T : Type 0} (words : List Text) (r : Result T Error) → FailsBy (faults_of words) r → AreTaken words → IfErr r (λ e. kind_of e ≡ OutOfMemory)
taken_fails words (Ok x) fails is = tt
taken_fails words (Err e) fails is = elim (subst (λ ks. HasKind ks e) is fails) [ inl memory ↦ memory | inr none ↦ absurd none ]

-- want of memory is among the faults of any words
pub memory_fails : {T : Type 0} (words : List Text) (r : Result T Error) → IsErrAnd r (λ e. kind_of e ≡ OutOfMemory) → FailsBy (faults_of words) r
memory_fails words (Ok x) memory = absurd memory
memory_fails words (Err e) memory = inl memory

-- the one word `run` is taken
pub run_taken : (words : List Text) → AsksToRun words → AreTaken words
run_taken words is = ap faults_of is ∙ run_is_taken

-- the one word `replay` is taken
pub replay_taken : (words : List Text) → AsksToReplay words → AreTaken words
replay_taken words is = ap faults_of is ∙ replay_is_taken

-- a request for help, by one of two words, comes to help
help_is_asked_after : (before words : List Text) → AsksForHelpAfter before words → faults_of (before ++ codes "--help" ∷ []) ≡ DisplayHelp ∷ [] → faults_of (before ++ codes "-h" ∷ []) ≡ DisplayHelp ∷ [] → faults_of words ≡ DisplayHelp ∷ []
help_is_asked_after before words (inl is) long short = ap faults_of is ∙ long
help_is_asked_after before words (inr is) long short = ap faults_of is ∙ short

-- the six requests for help come to help
help_is_asked : (words : List Text) → AsksForHelp words → faults_of words ≡ DisplayHelp ∷ []
help_is_asked words (inl alone) = help_is_asked_after [] words alone help_is_shown short_help_is_shown
help_is_asked words (inr (inl after_run)) = help_is_asked_after (codes "run" ∷ []) words after_run run_help_is_shown run_short_help_is_shown
help_is_asked words (inr (inr after_replay)) = help_is_asked_after (codes "replay" ∷ []) words after_replay replay_help_is_shown replay_short_help_is_shown

-- a parse of words that come to help alone answers with help, or fails for want of memory
pub help_shown : {T : Type 0} (words : List Text) (r : Result T Error) → FailsBy (faults_of words) r → AreShownHelp words → IsErrAnd r (HasKind (DisplayHelp ∷ []))
help_shown words = fails_with (faults_of words) DisplayHelp

-- a parse of a request for help answers with help, or fails for want of memory
pub help_fails : {T : Type 0} (words : List Text) (r : Result T Error) → FailsBy (faults_of words) r → AsksForHelp words → IsErrAnd r (HasKind (DisplayHelp ∷ []))
help_fails words r fails asks = fails_with (faults_of words) DisplayHelp r fails (help_is_asked words asks)

-- the two requests for the version come to it
version_is_asked : (words : List Text) → AsksForVersion words → faults_of words ≡ DisplayVersion ∷ []
version_is_asked words (inl is) = ap faults_of is ∙ version_is_shown
version_is_asked words (inr is) = ap faults_of is ∙ short_version_is_shown

-- a parse of a request for the version answers with it, or fails for want of memory
pub version_fails : {T : Type 0} (words : List Text) (r : Result T Error) → FailsBy (faults_of words) r → AsksForVersion words → IsErrAnd r (HasKind (DisplayVersion ∷ []))
version_fails words r fails asks = fails_with (faults_of words) DisplayVersion r fails (version_is_asked words asks)

-- a parse of no words wants a subcommand, or fails for want of memory
pub nothing_fails : {T : Type 0} (words : List Text) (r : Result T Error) → FailsBy (faults_of words) r → words ≡ [] → IsErrAnd r (HasKind (MissingSubcommand ∷ []))
nothing_fails words r fails is = fails_with (faults_of words) MissingSubcommand r fails (ap faults_of is ∙ nothing_is_refused)

-- `?` passes a parse's error up
pub fails_up : {T : Type 0} (words : List Text) (r : Result T Error) (e : Error) → IsErrAnd r (λ y. y ≡ e) → HasKind (faults_of words) e → FailsBy (faults_of words) r
fails_up words r e is has = failed_up r e (λ x. faults_of words ≡ []) (faults_of words) is has

-- the first of two things that are read of a value
first_of_both : {X A B : Type 0} (name : X → A) (rest : X → B) (o : Option X) → option_map (λ (p : A × B). p.0) (option_map (λ x. (name x, rest x)) o) ≡ option_map name o
first_of_both name rest None = refl
first_of_both name rest (Some x) = refl

-- the matches of the words have the subcommand of the words
rows_met : (a : App) (words : List Text) (m : ArgMatches) → IsElltree a → HasMatchesOf a words m → subcommand_rows_of m ≡ subcommand_of elltree_app words
rows_met a words m is has =
    (has (ap is_simple is.2 ∙ app_is_ready is.0)).1 ∙ (ap (λ (b : App). subcommand_of b words) is.2 ∙ same_rows is.0 words)

-- the matches of the words name the subcommand that the words name
pub name_is : (a : App) (words : List Text) (m : ArgMatches) → IsElltree a → HasMatchesOf a words m → subcommand_name_of m ≡ subcommand_in words
name_is a words m is has = sym (first_of_both _ _ (out-ArgMatches m).subcommand) ∙ ap name_in (rows_met a words m is has)

-- the matches of words without a fault have the subcommand `run` or `replay`
pub name_met : (a : App) (words : List Text) (m : ArgMatches) → IsElltree a → faults_of words ≡ [] → HasMatchesOf a words m → (subcommand_name_of m ≡ Some (codes "run")) ⊎ (subcommand_name_of m ≡ Some (codes "replay"))
name_met a words m is none has = elim (one_is_named words none) [
  | inl run ↦ inl (name_is a words m is has ∙ run)
  | inr replay ↦ inr (name_is a words m is has ∙ replay)
]

-- the options of the words are those of their matches
pub options_are : (a : App) (words : List Text) (m : ArgMatches) → IsElltree a → HasMatchesOf a words m → rows_in (subcommand_rows_of m) ≡ options_of words
options_are a words m is has = ap rows_in (rows_met a words m is has)

-- the options of words without a fault were taken, where their matches have the subcommand `run`
pub options_met : (a : App) (words : List Text) (m : ArgMatches) → IsElltree a → faults_of words ≡ [] → HasMatchesOf a words m → subcommand_name_of m ≡ Some (codes "run") → AreOptions (rows_in (subcommand_rows_of m))
options_met a words m is none has named = subst AreOptions (sym (options_are a words m is has)) (options_taken words (none, sym (name_is a words m is has) ∙ named))

-- a kind among mistakes is a mistake
among_mistakes : (kinds : Kinds) (k : ErrorKind) → IsTrue (list_all is_mistake kinds) → IsAmong k kinds → IsTrue (is_mistake k)
among_mistakes [] k all among = absurd among
among_mistakes (x ∷ xs) k all (inl is) = subst (λ y. IsTrue (is_mistake y)) (sym is) (and_parts (is_mistake x) (list_all is_mistake xs) all).0
among_mistakes (x ∷ xs) k all (inr among) = among_mistakes xs k (and_parts (is_mistake x) (list_all is_mistake xs) all).1 among

-- a parse of refused words fails by a mistake, or for want of memory
pub refused_fails : {T : Type 0} (words : List Text) (r : Result T Error) → FailsBy (faults_of words) r → AreRefused words → IsErrAnd r (λ e. IsMistakeOrMemory (kind_of e))
refused_fails words (Ok x) none are = are.0 none
refused_fails words (Err e) (inl memory) are = inl memory
refused_fails words (Err e) (inr among) are = inr (among_mistakes (faults_of words) (kind_of e) are.1 among)
