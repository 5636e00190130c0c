use Rattle.std.proofs.Common.{◌≡◌, ◌==◌, ◌+◌, ◌*◌, ◌≤◌, Some, inr, ap, ◌∙◌, sym, subst}
use prog.Atomic.{either}
use Rattle.ell_cards.specs.declared.view.Participant.{Participant}
use Rattle.ell_cards.specs.Epochs.{after_freeing, after_retire_epoch, slot_word}
use Rattle.ell_cards.specs.SlotWords.{free_word, slot_of, taken_word}
use Rattle.ell_cards.specs.Stepping.{MayGoOn}
use Rattle.ell_cards.proofs.lemmas.whole.Losing.{frees_discarded}
use Rattle.ell_cards.proofs.lemmas.words.Slotted.{card_there}
use Rattle.ell_cards.proofs.table.CardTable.set_free.Goals as goal

-- the card of the word that is expected is the one that was discarded
pub retire_epoch-epoch-requires-clause-dead : goal.retire_epoch-epoch-requires-clause-dead
retire_epoch-epoch-requires-clause-dead g c =
    inr (c.requires.lost ∙ ap (λ d. Some d) (sym (card_there c.args.card c.slot_of.result c.generation_of.result c.slot_of.ensures c.generation_of.ensures)))

pub slot_address-address-requires-clause-slot : goal.slot_address-address-requires-clause-slot
slot_address-address-requires-clause-slot g c =
    subst (λ slot. slot ≤ c.args.slots.last) (sym c.slot_of-2.ensures) (c.retire_epoch-epoch.ensures.inside c.args.card c.requires.taken)

pub epoch_exchange-requires-clause-rule : goal.epoch_exchange-requires-clause-rule
epoch_exchange-requires-clause-rule g c =
    let k = c.retire_epoch-epoch.new.seat.me.0 in
    let word = c.slot_address-address.ensures.word ∙ ap (λ slot. slot_word c.args.slots slot) c.slot_of-2.ensures in
    let now = subst (λ generation. MayGoOn c.args.self.now.plan k (slot_word c.args.slots (slot_of c.args.card)) (λ n. either (n == taken_word generation) (free_word c.retire_epoch-epoch.result) n) (λ n p. p ≡ after_freeing k.participant))
    (sym c.generation_of.ensures)
    (frees_discarded c.args.self.now.plan c.args.slots c.requires.seat.slots k c.args.card c.retire_epoch-epoch.result
    (ap (λ (p : Participant). p.lost) c.retire_epoch-epoch.ensures.retire_epoch ∙ c.requires.lost)
    (ap (λ (p : Participant). p.slot) c.retire_epoch-epoch.ensures.retire_epoch ∙ c.requires.taken)
    (ap (λ (p : Participant). p.retire_epoch) c.retire_epoch-epoch.ensures.retire_epoch
    ∙ ap (λ d. Some (record { card = d; epoch = c.retire_epoch-epoch.result })) (card_there c.args.card c.slot_of.result c.generation_of.result c.slot_of.ensures c.generation_of.ensures))) in
    subst (λ i. MayGoOn c.args.self.now.plan k i (λ n. either (n == 8 * c.generation_of.result + 7) (8 * c.retire_epoch-epoch.result) n) (λ n p. p ≡ after_freeing k.participant)) (sym word) now

pub returns-clause-participant : goal.returns-clause-participant
returns-clause-participant g c = (
  c.retire_epoch-epoch.result,
  c.epoch_exchange.ensures.told
      ∙ ap after_freeing (c.retire_epoch-epoch.ensures.retire_epoch
      ∙ ap (λ d. after_retire_epoch d c.retire_epoch-epoch.result c.args.seat.now.me.0.participant) (card_there c.args.card c.slot_of.result c.generation_of.result c.slot_of.ensures c.generation_of.ensures)),
)
