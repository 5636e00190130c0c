use Rattle.std.proofs.Common.{◌≡◌, ◌++◌, ◌∷◌, [], arith, map, ap, ap₂, sym, ◌∙◌}
use Rattle.std.specs.Prelude.{Ok}
use Rattle.std.proofs.lemmas.List.{append-nil, append_assoc, map-append, nil_from_length}
use Rattle.ell_parts.proofs.part.all_made.Goals as goal

pub loop-part-init : goal.loop-part-init
loop-part-init g c = ap₂ (λ parts rest. map Ok parts ++ rest) c.in_ok-parts.ensures.items c.into_iter-part-iterator.ensures.into_iter_gives.0

pub loop-part-preserved : goal.loop-part-preserved
loop-part-preserved g c =
    let parts = c.loop-part.parts.items in
    let part = c.in_ok-part.field-0 in
    let left = c.next.new.self.rest.items in
    ap (λ l. map Ok l ++ left) c.in_ok-push.ensures.items
    ∙ ap (λ l. l ++ left) (map-append Ok parts (part ∷ []))
    ∙ append_assoc (map Ok parts) (Ok part ∷ []) left
    ∙ ap (λ r. map Ok parts ++ r ∷ left) (sym c.in_ok-part.was)
    ∙ ap (λ l. map Ok parts ++ l) (sym c.in-Some.ensures.steps.0)
    ∙ c.loop-part.invariant

pub returns : goal.returns
returns g c =
    let parts = c.loop-part.parts.items in
    let left = c.loop-part.part-iterator.rest in
    let none : left.items ≡ [] = nil_from_length left.items (omega (arith, left.ok, c.in-None.ensures.steps.0)) in
    sym (append-nil (map Ok parts)) ∙ ap (λ l. map Ok parts ++ l) (sym none) ∙ c.loop-part.invariant
