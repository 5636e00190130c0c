use Rattle.ell_cards.proofs.lemmas.whole.Opens.{UsedBelow}
use Rattle.ell_cards.proofs.lifetime.use_slots.Given as goal

abbrev pub invariant-loop-slot : goal.invariant-loop-slot
invariant-loop-slot l = UsedBelow l.slots l.slot l.fn.words l.words
