use Rattle.std.specs.Prelude.{◌≡◌, ℕ, zero, suc, ◌+◌, ◌*◌, ◌≤◌, ◌==◌, ◌&&◌, ◌||◌, not, nat_le, if◌then◌else◌, Bool, true, false, is_some, List, [], ◌∷◌}
use Rattle.ell_core.specs.declared.exchange.Exchange.{Exchange}
use Rattle.ell_core.specs.declared.exchange.Exchange.TheVariants as exchange
use Rattle.ell_runs.specs.declared.view.View.{View}
use Rattle.ell_runs.specs.TurnEffects.{own_words}
use Rattle.ell_runs.specs.Meanwhile.{SearchRun}
use Rattle.ell_runs.specs.Plans.{TablePlan}

-- of how many of the numbers below one this is so
abbrev pub how_many : ℕ → (ℕ → Bool) → ℕ
how_many zero so = 0
how_many (suc n) so = (if so n then 1 else 0) + how_many n so

-- whether the claim of a card is among these wins
abbrev pub is_claim : Exchange → Bool
is_claim exchange.Claim = true
is_claim _ = false

abbrev pub has_claimed : List (Exchange × ℕ) → ℕ → Bool
has_claimed [] c = false
has_claimed (win ∷ wins) c = (is_claim win.0 && (c == win.1)) || has_claimed wins c

-- how many cards were given out in a run to others than the pass that searches: those that were below the claim word
-- only at the end, and that it has not claimed itself
abbrev pub given_to_others : (plan : TablePlan) → SearchRun plan → ℕ
given_to_others plan r =
    how_many (own_words r.now).next (λ c. nat_le (own_words r.begun).next c && not (has_claimed r.view.won c))

-- how many passes have a card in hand
abbrev pub cards_in_hand : List View → ℕ
cards_in_hand [] = 0
cards_in_hand (v ∷ vs) = (if is_some v.worker.card then 1 else 0) + cards_in_hand vs

-- of the tries that a pass has given up since it took its operation in hand, because of something that was in the way
-- and is over, there are at most so many: two for each card that was given out to another pass meanwhile, and one for
-- each that some pass had in hand at the beginning
abbrev pub TriesAreHinderedByOthers : Type 0
TriesAreHinderedByOthers = (plan : TablePlan) (r : SearchRun plan)
    → r.view.hindered ≤ r.begins.view.hindered + (2 * given_to_others plan r + cards_in_hand r.begun.views)

-- so many tries are no more than that, in every run of a table with these keys, start keys and this last card in which
-- a pass now knows this and had given up so many before it took its operation in hand
pub record AreHinderedByOthers (plan : TablePlan) (before : ℕ) (v : View) (tries : ℕ) : Type 0 where
  pub few : (r : SearchRun plan) → r.view ≡ v → r.begins.view.hindered ≡ before
      → tries ≤ 2 * given_to_others plan r + cards_in_hand r.begun.views
