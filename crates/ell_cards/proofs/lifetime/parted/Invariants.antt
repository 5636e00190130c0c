use Rattle.std.proofs.Common.{◌≡◌, ◌++◌, drop}
use Rattle.ell_runs.proofs.lemmas.lifetimes.Parts.{without}
use Rattle.ell_cards.proofs.lifetime.parted.Given as goal

abbrev pub invariant-loop-key : goal.invariant-loop-key
invariant-loop-key g l = l.rest.items ++ without (drop l.key-index l.keys) l.left ≡ without l.keys l.some
