use Rattle.std.proofs.Common.{◌==◌, Some, sym, ap, ◌∙◌, subst}
use Rattle.ell_cards.specs.declared.view.Participant.{Participant}
use Rattle.ell_runs.specs.declared.view.View.{View}
use Rattle.ell_cards.specs.RetiringInSlots.{MayRetireIn, MayRetireNext, MayRetire}
use Rattle.ell_cards.specs.Epochs.{after_retiring, after_retire_epoch}
use Rattle.ell_cards.specs.Shown.{shown}
use Rattle.ell_cards.specs.SlotWords.{card_by}
use Rattle.ell_cards.proofs.lemmas.whole.Retiring.{frees_slot, may_get_retire_epoch}
use Rattle.ell_cards.proofs.table.CardTable.retire_last.Goals as goal

pub retire_epoch-epoch-requires-clause-dead : goal.retire_epoch-epoch-requires-clause-dead
retire_epoch-epoch-requires-clause-dead g c =
    may_get_retire_epoch c.args.seat.now.me.0 c.args.whose c.args.card c.args.nodes c.args.word c.slot_of.result c.slot_of.ensures c.requires.may.read c.requires.may.may c.requires.last

pub exchange_retired-requires-clause-rule : goal.exchange_retired-requires-clause-rule
exchange_retired-requires-clause-rule g c =
    let same = sym c.retire_epoch-epoch.ensures.leaves.tree in
    frees_slot c.args.self.now.plan c.args.slots c.requires.seat.slots c.args.whose c.args.card c.args.nodes c.requires.seat.inside c.retire_epoch-epoch.new.seat.me.0
    (subst (λ (v : View). MayRetire (shown v) c.args.whose c.args.card c.args.nodes) same c.requires.may.retires)
    c.args.word c.retire_epoch-epoch.result (ap (λ (p : Participant). p.read) c.retire_epoch-epoch.ensures.retire_epoch ∙ c.requires.may.read)
    (subst (λ (v : View). MayRetireIn v c.args.whose c.args.card c.args.nodes c.args.word) same c.requires.may.may)
    (ap (λ (p : Participant). p.retire_epoch) c.retire_epoch-epoch.ensures.retire_epoch ∙ ap (λ y. Some (record { card = card_by y c.args.word; epoch = c.retire_epoch-epoch.result })) c.slot_of.ensures)

pub returns-clause-participant : goal.returns-clause-participant
returns-clause-participant g c = (
  c.retire_epoch-epoch.result,
  c.exchange_retired.ensures.told.0
      ∙ ap (after_retiring (c.exchange_retired.result == c.args.word) c.args.whose c.args.card c.args.nodes c.exchange_retired.result)
      (c.retire_epoch-epoch.ensures.retire_epoch ∙ ap (λ y. after_retire_epoch (card_by y c.args.word) c.retire_epoch-epoch.result c.args.seat.now.me.0.participant) c.slot_of.ensures),
)

pub returns-clause-next : goal.returns-clause-next
returns-clause-next g c =
    subst (λ (v : View). MayRetireNext v c.args.whose c.args.card c.args.nodes c.args.word c.exchange_retired.result) c.retire_epoch-epoch.ensures.leaves.tree c.exchange_retired.ensures.told.1
