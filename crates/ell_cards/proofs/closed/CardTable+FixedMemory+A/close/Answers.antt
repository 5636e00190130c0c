use Rattle.std.proofs.Common.{◌≢◌, ℕ, List, None, ap, ◌∙◌, sym, subst, ◌≡◌, true}
use mathlib.Core.Option.{some}
use lib.ListN.{get_elem?}
use Rattle.std.specs.List.{All}
use Rattle.std.specs.Slots.{slots_items}
use Rattle.ell_core.specs.state.Machine.{ledger_of}
use Rattle.ell_cards.specs.Models.{TableModel, PassModel, last_slot_of}
use Rattle.ell_runs.specs.Views.{IsFree, whole_share}
use Rattle.ell_cards.specs.Memories.{SeatModel}
use Rattle.ell_cards.specs.Shown.{shown}
use Rattle.ell_cards.specs.Whole.{WordsAre}
use Rattle.ell_cards.proofs.lemmas.whole.Calling.{tree_here}
use Rattle.ell_cards.proofs.lemmas.whole.Telling.{history_ends}
use Rattle.ell_cards.specs.Closed.{ClosedModel, HistoryEnds, TableEnds}
use Rattle.ell_cards.proofs.lemmas.shown.Ending.{ends}
use Rattle.ell_cards.proofs.closed.CardTable+FixedMemory+A.close.Goals as goal

pub returns-clause-ends : goal.returns-clause-ends
returns-clause-ends g c none =
    let plan = c.self.inside.table.table.shared.key in
    let v = c.pass.inside.seat.me.0.tree in
    let words = slots_items c.close_with.result.words in
    let last = c.close_with.ensures.values.2 in
    let whole_state = last.1.0 in
    let none : plan.slots ≡ None = ap (λ (m : TableModel). m.plan.slots) c.self.view_is ∙ none in
    let all = subst (λ (p : PassModel). All (λ k. ledger_of p.view.worker.ledger k ≢ None) plan.keys) (sym c.pass.view_is)
    (subst (λ (m : TableModel). All (λ k. ledger_of c.args.pass.view.worker.ledger k ≢ None) m.plan.keys) (sym c.self.view_is) c.requires.all) in
    let whole = subst (λ (p : PassModel). plan.shared ≡ true → p.view.share ≡ whole_share) (sym c.pass.view_is)
    (subst (λ (m : TableModel). m.plan.shared ≡ true → c.args.pass.view.share ≡ whole_share) (sym c.self.view_is) c.requires.whole) in
    let free = subst (λ (p : PassModel). IsFree p.view) (sym c.pass.view_is) c.requires.free in
    let seat = subst (λ (m : SeatModel). get_elem? last.0.views m.id ≡ some m.me.0) c.seat.view_is last.1.1 in
    let seen = tree_here plan last.0 whole_state c.pass.inside.seat.id c.pass.inside.seat.me.0 seat in
    let there = ends plan whole_state.tree whole_state.reached c.pass.inside.seat.id v seen free whole all in
    let same : whole_state.tree.words ≡ words = sym (subst (λ o. WordsAre o last.0.words whole_state.tree.words) none whole_state.words) ∙ last.2 in
    let number : plan.last_card ≡ c.last_slot.result =
    sym (ap (λ o. last_slot_of o plan.last_card) none) ∙ (sym (ap (λ o. last_slot_of o plan.last_card) c.self.invariant.slots) ∙ (sym (ap (last_slot_of c.self.inside.slots) c.self.invariant.last_card) ∙ sym c.last_slot.ensures)) in
    let ended : ClosedModel = record { words = words; last_card = c.last_slot.result } in
    subst (λ (m : TableModel). TableEnds m.plan c.args.pass.view ended) c.self.view_is
    (subst (λ (p : PassModel). TableEnds plan p.view ended) c.pass.view_is
    (subst (λ (n : ℕ). TableEnds plan (shown v) (record { words = words; last_card = n })) number
    (subst (λ (l : List ℕ). TableEnds plan (shown v) (record { words = l; last_card = plan.last_card })) same there)))

pub returns-clause-history : goal.returns-clause-history
returns-clause-history g c none =
    let plan = c.self.inside.table.table.shared.key in
    let words = slots_items c.close_with.result.words in
    let last = c.close_with.ensures.values.2 in
    let whole_state = last.1.0 in
    let none : plan.slots ≡ None = ap (λ (m : TableModel). m.plan.slots) c.self.view_is ∙ none in
    let k = c.pass.inside.seat.me.0 in
    let seat = subst (λ (m : SeatModel). get_elem? last.0.views m.id ≡ some m.me.0) c.seat.view_is last.1.1 in
    let same : whole_state.tree.words ≡ words = sym (subst (λ o. WordsAre o last.0.words whole_state.tree.words) none whole_state.words) ∙ last.2 in
    let there = history_ends plan last.0 whole_state c.pass.inside.seat.id k seat c.args.pass
    (sym (ap (λ (p : PassModel). p.view) c.pass.view_is)) (sym (ap (λ (p : PassModel). p.sight) c.pass.view_is)) c.last_slot.result in
    subst (λ (m : TableModel). HistoryEnds m.plan c.args.pass (record { words = words; last_card = c.last_slot.result })) c.self.view_is
    (subst (λ (l : List ℕ). HistoryEnds plan c.args.pass (record { words = l; last_card = c.last_slot.result })) same there)
