use Rattle.std.proofs.Common.{◌≡◌, ◌≢◌, ◌<◌, ◌≤◌, ◌+◌, ◌*◌, ℕ, zero, suc, Option, Some, None, is_some, Ok, false, refl, arith}
use Rattle.ell_cards.specs.Models.{PassModel}
use Rattle.ell_tree.specs.CardsTaken.{TakesAtMost, TakesByHindered}
use Rattle.ell_tree.specs.declared.operations.NotDone.{NotDone}
use Rattle.ell_tree.specs.Ledgers.{Owns}
use Rattle.ell_tree.specs.Promises.{SpendsCards}
use Rattle.ell_tree.proofs.lemmas.Counts.{rounds_steps}

-- one round more is one of all rounds
pub rounds_within : (start most round tries : ℕ) → round < tries → start + round * most + most ≤ start + tries * most
rounds_within start most round tries less =
    let one : (round + 1) * most ≡ round * most + most = omega arith in
    let all = rounds_steps round tries most less in
    omega (arith, one, all)

pub one_round_more : (start most round : ℕ) → start + round * most + most ≤ start + (round + 1) * most
one_round_more start most round =
    let one : (round + 1) * most ≡ round * most + most = omega arith in
    omega (arith, one)

-- a call that has put nothing has taken no card but those of hindered tries, and of an own key none
pub spends_none : (key tries round : ℕ) (old new : PassModel) (made : Option ℕ) → TakesAtMost round old new → TakesByHindered old new → round ≤ tries
    → made ≡ None → (Owns old key → round ≡ 0) → SpendsCards {E = NotDone} key tries old new (Ok (is_some made))
spends_none key tries round old new (Some value) most few less none own = absurd cc
spends_none key tries round old new None most few less none own = record {
  most = record { least = most.least; most = let all = most.most in omega arith };
  each = few;
  unchanged = λ owns said. let start = own owns in let high = most.most in let low = most.least in omega arith;
}

-- no round was made, where a round would have left something to put
pub by_rounds : (round : ℕ) {made : Option ℕ} → (1 ≤ round → made ≢ None) → made ≡ None → round ≡ 0
by_rounds zero some none = refl
by_rounds (suc n) some none = absurd (some (omega arith) none)

pub not_some : (o : Option ℕ) → is_some o ≡ false → o ≡ None
not_some None e = refl
not_some (Some v) e = absurd cc
