use Rattle.std.specs.Prelude.{◌≡◌, ℕ, ◌≤◌, IfSome, List}
use Rattle.ell_ops.specs.declared.op.Op.{Op}
pub use Rattle.ell_ops.specs.Meaning.{most_workers}
use Rattle.ell_parts.specs.PartedOps.{PartedOps, IsPartedToRun, IsWorkerCount, striped, IsRanged}
use Rattle.ell_word.specs.Node.{most_cards}
use Rattle.ell_run.specs.declared.settings.Parting.{Parting}
use Rattle.ell_run.specs.declared.settings.Parting.TheVariants.{Stripe, Range}
use Rattle.ell_run.specs.declared.settings.Settings.{Settings}

-- the most tries that an insert or a delete may have
abbrev pub most_tries : ℕ
most_tries = 1000000

-- the number is from 1 to the most that there may be
pub record IsAllowed (most count : ℕ) : Type 0 where
  pub some : 1 ≤ count
  pub few : count ≤ most

-- workers, cards and tries are as many as there may be
pub record AreSettings (settings : Settings) : Type 0 where
  pub workers : IsWorkerCount settings.workers
  pub cards : IfSome settings.cards (IsAllowed most_cards)
  pub tries : IsAllowed most_tries settings.tries

-- the owners of a parting are those in stripes, or in ranges
abbrev pub HasOwners : Parting → PartedOps → Type 0
HasOwners Stripe parting = parting.owners ≡ striped parting.ops parting.workers
HasOwners Range parting = IsRanged parting

-- a parting is that of the operations which the settings ask for, with each part in the order in which it is run
pub record IsPartedAs (settings : Settings) (ops : List Op) (parting : PartedOps) : Type 0 where
  pub parted : IsPartedToRun ops parting.owners settings.workers parting
  pub owners : HasOwners settings.parting parting
