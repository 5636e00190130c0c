-- The pieces are cut off one after another.
use Rattle.std.proofs.Common.{◌≡◌, ℕ, List, ap, ◌∙◌, inl, inr, ◌∷◌}
use Rattle.ell_text.proofs.lemmas.Pieces.{many_pieces, one_piece}
use Rattle.ell_text.proofs.replay_line.cut.Goals as goal

-- one piece more before the others
before : (piece : List ℕ) {some more : List (List ℕ)} → some ≡ more → piece ∷ some ≡ piece ∷ more
before piece same = ap (λ parts. piece ∷ parts) same

pub returns-in_default : goal.returns-in_default
returns-in_default c = inl (one_piece _ _ c.in_default.ensures)

pub returns-in_default-cut_at_space : goal.returns-in_default-cut_at_space
returns-in_default-cut_at_space c = c.in-Some.ensures ∙ before c.in-Some.first.now c.in_default-cut_at_space.ensures

pub returns-in_default-cut_at_space-2 : goal.returns-in_default-cut_at_space-2
returns-in_default-cut_at_space-2 c =
    c.in-Some.ensures ∙ before c.in-Some.first.now (c.in-Some-cut_at_space.ensures
    ∙ before c.in-Some-cut_at_space.second.now c.in_default-cut_at_space-2.ensures)

pub returns-in-None : goal.returns-in-None
returns-in-None c =
    c.in-Some.ensures ∙ before c.in-Some.first.now (c.in-Some-cut_at_space.ensures
    ∙ before c.in-Some-cut_at_space.second.now (c.in-Some-cut_at_space-2.ensures
    ∙ before c.in-Some-cut_at_space-2.third.now c.in-None.ensures))

pub returns-in-Some-cut_at_space-3 : goal.returns-in-Some-cut_at_space-3
returns-in-Some-cut_at_space-3 c =
    inr (many_pieces _ _ _ _ c.in-Some-cut_at_space-3.field-0.1.now _ (c.in-Some.ensures ∙ before c.in-Some.first.now (c.in-Some-cut_at_space.ensures
    ∙ before c.in-Some-cut_at_space.second.now (c.in-Some-cut_at_space-2.ensures
    ∙ before c.in-Some-cut_at_space-2.third.now c.in-Some-cut_at_space-3.ensures))))
