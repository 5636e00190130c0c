use Rattle.std.proofs.Common.{◌≡◌, ◌<◌, [], length, arith, ap, sym, subst, ◌∙◌}
use Rattle.std.proofs.lemmas.List.{get_or-map, length-map}
use Rattle.ell_ops.specs.KeySet.{Lists}
use Rattle.ell_order.specs.declared.order.Part.{Part}
use Rattle.ell_order.specs.Orders.{HasItsKeys, keys_of_part}
use Rattle.ell_parts.specs.Made.{items_of}
use Rattle.ell_parts.specs.PartedOps.{part}
use Rattle.ell_parts.proofs.parts.Parts.keys.Goals as goal

pub returns : goal.returns
returns g c =
    let parts = c.self.inside.parts.items in
    let worker = c.args.worker in
    let mine = c.index.result.now in
    let as_many : length (items_of parts) ≡ c.args.self.now.workers = ap (λ p. p.workers) c.self.view_is in
    let below : worker < length parts = let long = length-map parts (λ (part : Part g.row.A.Denot). part.items.items) in let known = c.requires in omega arith in
    let here : part c.args.self.now worker ≡ mine.items.items =
    ap (λ p. part p worker) (sym c.self.view_is) ∙ get_or-map (λ (part : Part g.row.A.Denot). part.items.items) parts worker mine [] below
    ∙ ap (λ (part : Part g.row.A.Denot). part.items.items) (sym c.index.ensures) in
    subst (λ items. Lists (keys_of_part items) c.deref.result.now) (sym here)
    (subst (Lists (keys_of_part mine.items.items)) (sym c.deref.ensures.value)
    (subst HasItsKeys (sym c.index.ensures) (c.self.invariant.1 worker mine below)))
