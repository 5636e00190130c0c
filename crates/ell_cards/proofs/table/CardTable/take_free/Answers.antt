use Rattle.std.proofs.Common.{◌==◌, ◌≡◌, ◌<◌, if◌then◌else◌, ap, sym, ◌∙◌, subst}
use Rattle.atomic_table.specs.Seated.{TableId}
use Rattle.ell_cards.specs.Claiming.{with_slot}
use Rattle.ell_cards.specs.Inside.{PassFits, StandingFits}
use Rattle.ell_cards.specs.Models.{PassModel}
use Rattle.ell_cards.specs.Epochs.{slot_word}
use Rattle.ell_cards.specs.Shown.{shown}
use Rattle.ell_cards.specs.SlotWords.{slot_of, retire_epoch_in}
use Rattle.ell_cards.proofs.lemmas.seats.SlotTaken.{could_free, could_past, pass_of, slot_has_words, slots_low, taken_fits, took_there}
use Rattle.ell_cards.proofs.lemmas.whole.TakingSlots.{takes_any}
use Rattle.ell_cards.proofs.lemmas.words.Slotted.{slot_inside}
use Rattle.ell_cards.proofs.table.CardTable.take_free.Goals as goal

pub epoch_exchange-requires-clause-rule : goal.epoch_exchange-requires-clause-rule
epoch_exchange-requires-clause-rule g c =
    let free = c.args.free in
    let safe_epoch = c.args.pass.now.memory.safe_epoch in
    let view = c.pass.view_is in
    takes_any c.args.self.now.plan c.args.slots c.requires.slots c.pass.inside.seat.me.0 free.card
    (ap (λ (p : PassModel). p.view.worker.card) view ∙ c.requires.hand.holds, ap (λ (p : PassModel). p.view.worker.flagged) view ∙ c.requires.hand.unflagged)
    (slot_inside c.args.slots.last free.card c.requires.free.slot) c.requires.free.slot c.pass.invariant.stands.lost
    (slots_low _ _ _ _ c.self.view_is c.pass.view_is c.requires.own c.self.invariant.words c.self.invariant.fit c.args.slots c.requires.slots)
    free.word c.slot_address-address.result c.generation_of.result (could_free free.word safe_epoch c.requires.free.could)
    (subst (λ n. retire_epoch_in free.word < n) (sym (ap (λ (p : PassModel). p.memory.safe_epoch) view)) (could_past free.word safe_epoch c.requires.free.could))
    (c.slot_address-address.ensures.word ∙ ap (slot_word c.args.slots) c.slot_of.ensures) c.generation_of.ensures

pub returns : goal.returns
returns g c =
    let free = c.args.free in
    let was = c.pass.inside.seat in
    let now = c.epoch_exchange.new.seat in
    let won = c.epoch_exchange.result == free.word in
    let leaves = c.epoch_exchange.ensures.leaves in
    let told = c.epoch_exchange.ensures.told free.card (ap (λ (p : PassModel). p.view.worker.card) c.pass.view_is ∙ c.requires.hand.holds) in
    let left : pass_of now.table_id (shown now.me.0.tree) c.pass.inside.steps c.pass.inside.label now.me.0.sight now.me.0.participant
    ≡ pass_of was.table_id (shown was.me.0.tree) c.pass.inside.steps c.pass.inside.label was.me.0.sight now.me.0.participant =
    λ i. pass_of (leaves.table i) (shown (leaves.tree i)) c.pass.inside.steps c.pass.inside.label (leaves.sight i) now.me.0.participant in
    record {
      took = left
          ∙ (took_there was.table_id (shown was.me.0.tree) c.pass.inside.steps c.pass.inside.label was.me.0.sight won free.card (slot_of free.card) c.epoch_exchange.result was.me.0.participant now.me.0.participant told
          ∙ ap (λ (p : PassModel). if won then with_slot free.card p else p) c.pass.view_is);
    }

-- the slot that it has taken is one of the table
pub invariant_of-pass : goal.invariant_of-pass
invariant_of-pass g c =
    let free = c.args.free in
    let was = c.pass.inside.seat in
    let now = c.epoch_exchange.new.seat in
    let leaves = c.epoch_exchange.ensures.leaves in
    let told = c.epoch_exchange.ensures.told free.card (ap (λ (p : PassModel). p.view.worker.card) c.pass.view_is ∙ c.requires.hand.holds) in
    let has = slot_has_words _ _ _ _ c.self.view_is c.pass.view_is c.requires.own c.self.invariant.words c.self.invariant.fit c.args.slots c.requires.slots free.card c.requires.free.slot in
    let words = ap (λ (id : TableId). id.words) leaves.table in
    record {
      fits = subst (λ n. PassFits c.pass.inside.keys.items c.pass.inside.share n (shown now.me.0.tree)) (sym words)
          (subst (λ v. PassFits c.pass.inside.keys.items c.pass.inside.share was.table_id.words (shown v)) (sym leaves.tree) c.pass.invariant.fits);
      bare = leaves.empty;
      stands = subst (λ n. StandingFits c.pass.inside.standing n now.me.0.participant) (sym words)
          (taken_fits c.pass.inside.standing was.table_id.words (c.epoch_exchange.result == free.word) free.card (slot_of free.card) c.epoch_exchange.result was.me.0.participant now.me.0.participant told
          c.pass.invariant.stands has);
    }
