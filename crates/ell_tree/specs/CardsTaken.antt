use Rattle.std.specs.Prelude.{◌≡◌, ℕ, ◌+◌, ◌≤◌, if◌then◌else◌, Bool, true, false, List, [], ◌∷◌, Result, Ok, Err}
use Rattle.ell_core.specs.declared.exchange.Exchange.{Exchange}
use Rattle.ell_runs.specs.Contention.{is_claim}
use Rattle.ell_ops.specs.declared.op.Op.{Op}
use Rattle.ell_cards.specs.Models.{PassModel}
use Rattle.ell_tree.specs.Ends.{changes_by}
use Rattle.ell_tree.specs.declared.trying.Tried.{Tried}
use Rattle.ell_tree.specs.declared.trying.Tried.TheVariants as tried

-- how many claims there are among these exchanges
abbrev pub claims_in : List (Exchange × ℕ) → ℕ
claims_in [] = 0
claims_in (e ∷ es) = if is_claim e.0 then claims_in es + 1 else claims_in es

-- how many cards a pass took: the claims that it won
abbrev pub cards_taken : PassModel → ℕ
cards_taken p = claims_in p.view.won

-- It takes no card.
abbrev pub TakesNoCard : PassModel → PassModel → Type 0
TakesNoCard old new = cards_taken new ≡ cards_taken old

-- it took one card
abbrev pub TakesOneCard : PassModel → PassModel → Type 0
TakesOneCard old new = cards_taken new ≡ cards_taken old + 1

-- it took at most this many cards
pub record TakesAtMost (n : ℕ) (old new : PassModel) : Type 0 where
  pub least : cards_taken old ≤ cards_taken new
  pub most : cards_taken new ≤ cards_taken old + n

-- it took at most one card for each try that something hindered
abbrev pub TakesByHindered : PassModel → PassModel → Type 0
TakesByHindered old new = cards_taken new + old.view.hindered ≤ cards_taken old + new.view.hindered

-- it took a card, and beside it at most one for each try that something hindered: just one, if nothing hindered any
pub record TakesOneAndByHindered (old new : PassModel) : Type 0 where
  pub one : cards_taken old + 1 ≤ cards_taken new
  pub more : cards_taken new + old.view.hindered ≤ cards_taken old + 1 + new.view.hindered

-- which cards an insert, a delete or a swap takes: one, and more only for hindered tries, if it changes the map; else
-- only those for hindered tries
abbrev pub TakesCards : {E : Type 0} → PassModel → PassModel → Result Bool E → Type 0
TakesCards old new (Ok false) = TakesByHindered old new
TakesCards old new (Ok true) = TakesOneAndByHindered old new
TakesCards old new (Err why) = TakesByHindered old new

-- one card, or none
abbrev pub TakesOneIf : Bool → PassModel → PassModel → Type 0
TakesOneIf true old new = TakesOneCard old new
TakesOneIf false old new = TakesNoCard old new

-- which cards a try takes: one, if it was answered and has changed the map
abbrev pub TryTakes : Op → PassModel → PassModel → Tried → Type 0
TryTakes op old new (tried.Answered had) = TakesOneIf (changes_by op had) old new
TryTakes op old new tried.Spent = TakesNoCard old new
TryTakes op old new tried.Hindered = TakesAtMost 1 old new
