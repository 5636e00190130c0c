use Rattle.std.proofs.Common.{length, ap, ◌∙◌, subst, if◌then◌else◌, ◌+◌, ◌*◌}
use Rattle.ell_cards.specs.Closed.{HistoryEnds, TableEnds}
use Rattle.ell_cards.specs.Models.{last_slot_of}
use Rattle.ell_tree.specs.Ledgers.{TreeModel}
use Rattle.ell_tree.proofs.lemmas.Closing.{room_for, holds_keys, closes, of_history}
use Rattle.ell_tree.proofs.ending.Tree+FixedMemory+A.close.Goals as goal

pub pairs_of_tree-requires-clause-pairs_room : goal.pairs_of_tree-requires-clause-pairs_room
pairs_of_tree-requires-clause-pairs_room g c =
    let plain = ap (λ (t : TreeModel). t.plan.slots) c.self.view_is ∙ c.requires.plain in
    let ends = subst (λ (t : TreeModel). TableEnds t.plan c.args.pass.view c.close-closed.result) c.self.view_is (c.close-closed.ensures.ends plain) in
    let cards = c.close-closed.ensures.cards ∙ (ap (λ o. last_slot_of o c.self.inside.table.plan.last_card) plain ∙ ap (λ (t : TreeModel). t.plan.last_card) c.self.view_is) in
    let same = ap length c.keys.ensures.keys in
    holds_keys c.args.self c.args.pass c.close-closed.result ends c.requires.all _
    (room_for c.args.self.plan.shared c.args.self.plan.last_card c.close-closed.result.last_card (length c.keys.result.now) _ _ _
    (c.most_pairs-most.ensures ∙ ap (λ (t : TreeModel). if t.plan.shared then 2 * t.plan.last_card + 2 else length c.keys.result.now) c.self.view_is)
    cards same c.in-Ok.ensures.pairs.1)

pub returns-clause-pairs : goal.returns-clause-pairs
returns-clause-pairs g c =
    let plain = ap (λ (t : TreeModel). t.plan.slots) c.self.view_is ∙ c.requires.plain in
    let ends = subst (λ (t : TreeModel). TableEnds t.plan c.args.pass.view c.close-closed.result) c.self.view_is (c.close-closed.ensures.ends plain) in
    let cards = c.close-closed.ensures.cards ∙ (ap (λ o. last_slot_of o c.self.inside.table.plan.last_card) plain ∙ ap (λ (t : TreeModel). t.plan.last_card) c.self.view_is) in
    closes c.args.self c.args.pass c.close-closed.result ends c.requires.all c.pairs_of_tree.result.items c.pairs_of_tree.ensures cards

pub returns-clause-history : goal.returns-clause-history
returns-clause-history g c =
    let plain = ap (λ (t : TreeModel). t.plan.slots) c.self.view_is ∙ c.requires.plain in
    let ends = subst (λ (t : TreeModel). TableEnds t.plan c.args.pass.view c.close-closed.result) c.self.view_is (c.close-closed.ensures.ends plain) in
    let history = subst (λ (t : TreeModel). HistoryEnds t.plan c.args.pass c.close-closed.result) c.self.view_is (c.close-closed.ensures.history plain) in
    of_history c.args.self c.args.pass c.close-closed.result ends c.requires.all c.pairs_of_tree.result.items c.pairs_of_tree.ensures history
