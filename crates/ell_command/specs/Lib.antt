-- What the words of the command line come to.
pub mod CommandLine
-- How the program ends.
pub mod Program
-- what its public clauses cite of the crates below
pub use Rattle.ell_text.specs.replays.Replayed
pub use Rattle.ell_run.specs.Answered
pub use Rattle.ell_run.specs.Settings
