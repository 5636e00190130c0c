use Rattle.std.specs.Prelude.{◌≡◌, ℕ, ◌==◌, ◌⊎◌, if◌then◌else◌, Option, Some, None, List, [], ◌∷◌, ◌++◌}
use Rattle.ell_core.specs.declared.exchange.Exchange.{Exchange}
use Rattle.ell_core.specs.declared.exchange.Exchange.TheVariants as exchange
use Rattle.ell_core.specs.declared.event.Act.{Act}
use Rattle.ell_core.specs.declared.event.Act.TheVariants as act
use Rattle.ell_core.specs.declared.event.Stepped.{Stepped}
use Rattle.ell_core.specs.declared.event.Stepped.TheVariants.{Won}

-- what is won for a card, if the card is this one
abbrev pub win_for : Option ℕ → Exchange → ℕ → List Exchange
win_for None k c = []
win_for (Some d) k c = if c == d then k ∷ [] else []

-- what a won act wins for a card: for the card that it names, or a flag for the card in hand
abbrev pub win_by : Act → Option ℕ → ℕ → List Exchange
win_by act.IFlag hand c = win_for hand exchange.IFlag c
win_by act.DFlag hand c = win_for hand exchange.DFlag c
win_by (act.IChild d) hand c = win_for (Some d) exchange.IChild c
win_by (act.IUnflag d) hand c = win_for (Some d) exchange.IUnflag c
win_by (act.Mark d) hand c = win_for (Some d) exchange.Mark c
win_by (act.DChild d) hand c = win_for (Some d) exchange.DChild c
win_by (act.DUnflag d) hand c = win_for (Some d) exchange.DUnflag c
win_by (act.Backtrack d) hand c = win_for (Some d) exchange.Backtrack c
win_by _ hand c = []

-- what an act wins for a card by its answer
abbrev pub wins_by : Act → Option ℕ → Stepped → ℕ → List Exchange
wins_by a hand Won c = win_by a hand c
wins_by a hand _ c = []

-- a list is a beginning of another
pub record BeginsWith (all some : List Exchange) : Type 0 where
  pub rest : List Exchange
  pub together : some ++ rest ≡ all

-- the order in which an insert's card wins, by the steps of the paper of 2010
abbrev pub insert_order : List Exchange
insert_order = exchange.IFlag ∷ exchange.IChild ∷ exchange.IUnflag ∷ []

-- that of a delete's card which is cut
abbrev pub cut_order : List Exchange
cut_order = exchange.DFlag ∷ exchange.Mark ∷ exchange.DChild ∷ exchange.DUnflag ∷ []

-- that of a delete's card which goes back
abbrev pub back_order : List Exchange
back_order = exchange.DFlag ∷ exchange.Backtrack ∷ []

-- wins come in one of these orders, as far as they come
abbrev pub InOrder : List Exchange → Type 0
InOrder wins = BeginsWith insert_order wins ⊎ (BeginsWith cut_order wins ⊎ BeginsWith back_order wins)
