use Rattle.std.proofs.Common.{ℕ, List, filter, not, ap, ◌∙◌, sym, subst}
use Rattle.ell_cards.specs.Models.{PassModel}
use Rattle.ell_ops.specs.KeySet.{set_of}
use Rattle.ell_runs.specs.Changes.{ledger_keys, left_view, right_view}
use Rattle.ell_cards.specs.Stepping.{MayHave}
use Rattle.ell_cards.proofs.lemmas.lifetimes.Fits.{parts_share, owned_all, left_has, right_has}
use Rattle.ell_cards.proofs.table.CardTable.split.Goals as goal

pub parted-requires-clause-among : goal.parted-requires-clause-among
parted-requires-clause-among g c =
    owned_all c.args.pass.view.worker.ledger c.as_slice.result.now c.args.left_keys.now
    (c.as_slice.ensures.value ∙ c.pass.invariant.fits.owned ∙ ap (λ (m : PassModel). ledger_keys m.view.worker.ledger) c.pass.view_is) c.requires.owned

pub split_as-requires-clause-may : goal.split_as-requires-clause-may
split_as-requires-clause-may g c = record { free = c.requires.free; may = c.may_part.ensures.0 c.if-not-may_part.false }

pub split_as-requires-clause-shares : goal.split_as-requires-clause-shares
split_as-requires-clause-shares g c = parts_share c.args.pass.view c.in-Ok.left.items

pub split_as-requires-clause-left : goal.split_as-requires-clause-left
split_as-requires-clause-left g c =
    subst (λ (l : List ℕ). MayHave c.args.pass.view l (left_view l c.args.pass.view)) (sym c.in-Ok.ensures.some)
    (left_has c.args.pass.view c.pass.inside.keys.items c.args.left_keys.now
    (c.pass.invariant.fits.owned ∙ ap (λ (m : PassModel). ledger_keys m.view.worker.ledger) c.pass.view_is)
    c.pass.invariant.fits.ascending c.requires.ascending c.requires.owned)

pub split_as-requires-clause-right : goal.split_as-requires-clause-right
split_as-requires-clause-right g c =
    subst (λ (l : List ℕ). MayHave c.args.pass.view c.in-Ok.right.items (right_view l c.args.pass.view)) (sym c.in-Ok.ensures.some)
    (right_has c.args.pass.view c.pass.inside.keys.items c.args.left_keys.now
    (c.pass.invariant.fits.owned ∙ ap (λ (m : PassModel). ledger_keys m.view.worker.ledger) c.pass.view_is)
    c.pass.invariant.fits.ascending c.requires.ascending c.requires.owned c.in-Ok.right.items
    (c.in-Ok.ensures.rest ∙ ap (filter (λ k. not (set_of c.args.left_keys.now k))) c.as_slice.ensures.value))
