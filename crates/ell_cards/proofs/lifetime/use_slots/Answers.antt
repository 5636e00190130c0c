use Rattle.std.proofs.Common.{◌+◌, slice_set, sym, subst, arith}
use Rattle.ell_cards.proofs.lemmas.whole.Opens.{UsedBelow, used_none, used_more}
use Rattle.ell_cards.proofs.lifetime.use_slots.Goals as goal

pub loop-slot-init : goal.loop-slot-init
loop-slot-init c = used_none c.args.slots c.args.words.now

pub loop-slot-preserved : goal.loop-slot-preserved
loop-slot-preserved c =
    let size = c.requires.size in
    let long = c.loop-slot.auto.words in
    let low = c.loop-slot-test.true in
    let inside = c.requires.inside in
    subst (λ i. UsedBelow c.args.slots (c.loop-slot.slot + 1) c.args.words.now (slice_set c.loop-slot.words i 7)) (sym c.slot_word.ensures)
    (used_more c.args.slots c.loop-slot.slot c.args.words.now c.loop-slot.words c.loop-slot.invariant (omega arith))

pub returns-clause-used : goal.returns-clause-used
returns-clause-used c = λ slot low. c.loop-slot.invariant.used slot (let past = c.loop-slot-test.false in omega arith)

pub returns-clause-same : goal.returns-clause-same
returns-clause-same c = λ i apart. c.loop-slot.invariant.same i (λ slot low. apart slot (let most = c.loop-slot.auto.slot-end in omega arith))
