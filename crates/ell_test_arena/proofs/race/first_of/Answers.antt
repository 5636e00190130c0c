use Rattle.std.proofs.Common.{ℕ, suc, List, [], ◌∷◌, sym, subst}
use Rattle.ell_arena.specs.Seats.{IsLentAs}
use Rattle.ell_arena.proofs.lemmas.Seats.{has_content_first}
use Rattle.ell_test_arena.proofs.race.first_of.Goals as goal

pub get-requires-clause-written : goal.get-requires-clause-written
get-requires-clause-written c = let a : ℕ = c.args.pair in
    (a, subst (λ (lent : List (ℕ × ℕ)). IsLentAs lent a a) (sym c.requires.0.2) (has_content_first a (suc a) ((suc a, 1) ∷ [])))
