use Rattle.std.proofs.Common.{◌≡◌, ◌∙◌, map, Some, sym, rules, subst, Result, Ok, Err, IfErr, IfOk, IsErrAnd}
use Rattle.std.specs.Prelude.{MatchResult}
use Rattle.clap.specs.Words.{kind_of}
use Rattle.clap.specs.declared.error.kind.ErrorKind.TheVariants.{OutOfMemory}
use Rattle.clap.specs.declared.parser.matches.ArgMatches.{ArgMatches}
use Rattle.ell_command.specs.CommandLine.{IsRequestOf, subcommand_for, subcommand_in}
use Rattle.ell_command.proofs.lemmas.Subcommands.{one_is_taken}
use Rattle.ell_command.proofs.lemmas.Parses.{fails_by_words, fails_up, help_fails, help_shown, memory_fails, nothing_fails, refused_fails, replay_taken, run_taken, taken_fails, version_fails, name_is, name_met, options_are, options_met}
use Rattle.ell_command.proofs.lemmas.PlainRuns.{plain_replay, plain_run}
use Rattle.ell_command.proofs.request.request_of.Goals as goal

-- an error has no request
no_request : {T E : Type 0} (P : T → Type 0) (Q : E → Type 0) (r : Result T E) → IsErrAnd r Q → IfOk r P
no_request P Q (Ok x) is = absurd is
no_request P Q (Err y) is = tt

error_met : {T E : Type 0} (P : T → Type 0) (Q K : E → Type 0) (r : Result T E) → IsErrAnd r Q → IfErr r K → MatchResult r P K
error_met P Q K (Ok x) is fails = absurd is
error_met P Q K (Err y) is fails = fails

pub returns-in_err-texts : goal.returns-in_err-texts
returns-in_err-texts g c =
    let words = map g.S.AsStr.text c.args.words.now in
    let result = c.from_residual.result in
    let memory : IsErrAnd result (λ e. kind_of e ≡ OutOfMemory) = search rules in
    let kinds = memory_fails words result memory in
    record {
      kinds = kinds;
      request = no_request _ _ result memory;
      defaults = λ asks. no_request _ _ result memory;
      command = no_request _ _ result memory;
      named = one_is_taken words;
      taken = taken_fails words result kinds;
      run = λ asks. taken_fails words result kinds (run_taken words asks);
      replay = λ asks. error_met _ _ _ result memory (taken_fails words result kinds (replay_taken words asks));
      help = help_fails words result kinds;
      version = version_fails words result kinds;
      shown = help_shown words result kinds;
      refused = refused_fails words result kinds;
      nothing = nothing_fails words result kinds;
    }

pub returns-in_err-elltree_command : goal.returns-in_err-elltree_command
returns-in_err-elltree_command g c =
    let words = map g.S.AsStr.text c.args.words.now in
    let result = c.from_residual-in_err-elltree_command.result in
    let memory : IsErrAnd result (λ e. kind_of e ≡ OutOfMemory) = search rules in
    let kinds = memory_fails words result memory in
    record {
      kinds = kinds;
      request = no_request _ _ result memory;
      defaults = λ asks. no_request _ _ result memory;
      command = no_request _ _ result memory;
      named = one_is_taken words;
      taken = taken_fails words result kinds;
      run = λ asks. taken_fails words result kinds (run_taken words asks);
      replay = λ asks. error_met _ _ _ result memory (taken_fails words result kinds (replay_taken words asks));
      help = help_fails words result kinds;
      version = version_fails words result kinds;
      shown = help_shown words result kinds;
      refused = refused_fails words result kinds;
      nothing = nothing_fails words result kinds;
    }

pub returns-in_err-matches : goal.returns-in_err-matches
returns-in_err-matches g c =
    let words = map g.S.AsStr.text c.args.words.now in
    let error = c.in_err-matches.field-0.0 in
    let passed : IsErrAnd c.from_residual-in_err-matches.result (λ y. y ≡ error) = search rules in
    let kinds = fails_up words c.from_residual-in_err-matches.result error passed
    (fails_by_words {T = Unit {0}} _ words (Err error) c.in_ok-elltree_command.ensures c.in_err-matches.ensures.kinds) in
    record {
      kinds = kinds;
      request = no_request _ _ c.from_residual-in_err-matches.result passed;
      defaults = λ asks. no_request _ _ c.from_residual-in_err-matches.result passed;
      command = no_request _ _ c.from_residual-in_err-matches.result passed;
      named = one_is_taken words;
      taken = taken_fails words _ kinds;
      run = λ asks. taken_fails words _ kinds (run_taken words asks);
      replay = λ asks. error_met _ _ _ c.from_residual-in_err-matches.result passed (taken_fails words _ kinds (replay_taken words asks));
      help = help_fails words _ kinds;
      version = version_fails words _ kinds;
      shown = help_shown words _ kinds;
      refused = refused_fails words _ kinds;
      nothing = nothing_fails words _ kinds;
    }

pub request_in-requires : goal.request_in-requires
request_in-requires g c =
    let words = map g.S.AsStr.text c.args.words.now in
    let is = c.in_ok-elltree_command.ensures in
    let none = fails_by_words {T = ArgMatches} _ words (Ok c.in_ok-matches.matches) is c.in_ok-matches.ensures.kinds in
    record {
      name = name_met _ words c.in_ok-matches.matches is none c.in_ok-matches.ensures.matches;
      options = options_met _ words c.in_ok-matches.matches is none c.in_ok-matches.ensures.matches;
    }

pub returns : goal.returns
returns g c =
    let words = map g.S.AsStr.text c.args.words.now in
    let kinds = fails_by_words {T = ArgMatches} _ words (Ok c.in_ok-matches.matches) c.in_ok-elltree_command.ensures c.in_ok-matches.ensures.kinds in
    let request = subst (λ rows. IsRequestOf rows c.request_in.result) (options_are _ words c.in_ok-matches.matches c.in_ok-elltree_command.ensures c.in_ok-matches.ensures.matches) c.request_in.ensures.options in
    let command : subcommand_in words ≡ Some (subcommand_for c.request_in.result) =
    sym (name_is _ words c.in_ok-matches.matches c.in_ok-elltree_command.ensures c.in_ok-matches.ensures.matches) ∙ c.request_in.ensures.name in
    record {
      kinds = kinds;
      request = request;
      defaults = λ asks. plain_run words c.request_in.result asks command request;
      command = command;
      named = one_is_taken words;
      taken = taken_fails {T = ArgMatches} words (Ok c.in_ok-matches.matches) kinds;
      run = λ asks. tt;
      replay = λ asks. plain_replay words c.request_in.result asks command;
      help = help_fails {T = ArgMatches} words (Ok c.in_ok-matches.matches) kinds;
      version = version_fails {T = ArgMatches} words (Ok c.in_ok-matches.matches) kinds;
      shown = help_shown {T = ArgMatches} words (Ok c.in_ok-matches.matches) kinds;
      refused = refused_fails {T = ArgMatches} words (Ok c.in_ok-matches.matches) kinds;
      nothing = nothing_fails {T = ArgMatches} words (Ok c.in_ok-matches.matches) kinds;
    }
