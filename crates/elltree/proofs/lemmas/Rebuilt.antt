use Rattle.std.proofs.Common.{◌≡◌, true, false, [], ap, sym, subst, ◌∙◌}
use Rattle.std.specs.Arc.{arc_value}
use Rattle.std.proofs.Props.{props}
use Rattle.ell_runs.specs.Changes.{ownable_if}
use Rattle.ell_tree.specs.Ledgers.{IsIdle, PassModel}
use Rattle.elltree.specs.declared.handle.Handle.{Handle}

-- what is so of a handle's pass is so in one way
pub same_facts : (h : Handle) (own : h.pass.table ≡ (arc_value h.tree).id) (idle : IsIdle h.pass) (unpinned : h.pass.memory.is_pinned ≡ false) (shared : (arc_value h.tree).plan.shared ≡ true)
    (alone : (arc_value h.tree).plan.keys ≡ []) (knows : h.pass.view.worker.shared ≡ ownable_if true [])
    → record { tree = h.tree; pass = h.pass; own = own; idle = idle; unpinned = unpinned; shared = shared; alone = alone; knows = knows } ≡ h
same_facts h own idle unpinned shared alone knows =
    let first : IsProp (h.pass.table ≡ (arc_value h.tree).id) = hlevel props in
    let second : IsProp (IsIdle h.pass) = hlevel props in
    let none : IsProp (h.pass.memory.is_pinned ≡ false) = hlevel props in
    let third : IsProp ((arc_value h.tree).plan.shared ≡ true) = hlevel props in
    let fourth : IsProp ((arc_value h.tree).plan.keys ≡ []) = hlevel props in
    let fifth : IsProp (h.pass.view.worker.shared ≡ ownable_if true []) = hlevel props in
    ap (λ o. record { tree = h.tree; pass = h.pass; own = o; idle = idle; unpinned = unpinned; shared = shared; alone = alone; knows = knows }) (first own h.own)
    ∙ (ap (λ o. record { tree = h.tree; pass = h.pass; own = h.own; idle = o; unpinned = unpinned; shared = shared; alone = alone; knows = knows }) (second idle h.idle)
    ∙ (ap (λ o. record { tree = h.tree; pass = h.pass; own = h.own; idle = h.idle; unpinned = o; shared = shared; alone = alone; knows = knows }) (none unpinned h.unpinned)
    ∙ (ap (λ o. record { tree = h.tree; pass = h.pass; own = h.own; idle = h.idle; unpinned = h.unpinned; shared = o; alone = alone; knows = knows }) (third shared h.shared)
    ∙ (ap (λ o. record { tree = h.tree; pass = h.pass; own = h.own; idle = h.idle; unpinned = h.unpinned; shared = h.shared; alone = o; knows = knows }) (fourth alone h.alone)
    ∙ ap (λ o. record { tree = h.tree; pass = h.pass; own = h.own; idle = h.idle; unpinned = h.unpinned; shared = h.shared; alone = h.alone; knows = o }) (fifth knows h.knows)))))

-- a handle with the tree and the pass of another one is that
pub rebuilt : (h : Handle) (p : PassModel) → p ≡ h.pass → (own : p.table ≡ (arc_value h.tree).id) (idle : IsIdle p) (unpinned : p.memory.is_pinned ≡ false) (shared : (arc_value h.tree).plan.shared ≡ true)
    (alone : (arc_value h.tree).plan.keys ≡ []) (knows : p.view.worker.shared ≡ ownable_if true [])
    → record { tree = h.tree; pass = p; own = own; idle = idle; unpinned = unpinned; shared = shared; alone = alone; knows = knows } ≡ h
rebuilt h p is =
    subst (λ (q : PassModel). (own : q.table ≡ (arc_value h.tree).id) (idle : IsIdle q) (unpinned : q.memory.is_pinned ≡ false) (shared : (arc_value h.tree).plan.shared ≡ true)
    (alone : (arc_value h.tree).plan.keys ≡ []) (knows : q.view.worker.shared ≡ ownable_if true [])
    → record { tree = h.tree; pass = q; own = own; idle = idle; unpinned = unpinned; shared = shared; alone = alone; knows = knows } ≡ h) (sym is) (same_facts h)
