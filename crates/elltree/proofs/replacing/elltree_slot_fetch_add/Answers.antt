use Rattle.std.proofs.Common.{rules}
use Rattle.elltree.specs.Calls.{Adds, Outcome}
use Rattle.elltree.specs.Codes.{code_of_value}
use Rattle.elltree.specs.Slots.{OfHandles, handle_of}
use Rattle.elltree.specs.Told.{value_of}
use Rattle.elltree.proofs.lemmas.Calling.{says_with}
use Rattle.elltree.proofs.replacing.elltree_slot_fetch_add.Goals as goal

-- the code tells how the handle's call has ended
pub returns-in-Some-clause-tells : goal.returns-in-Some-clause-tells
returns-in-Some-clause-tells c =
    let IsSo = Outcome c.args.key c.args.tries (Adds c.args.key c.args.addend c.args.tries) in
    let did : OfHandles (λ old new. IsSo old new c.in-Some.said)
    (handle_of c.args.slot.now.raw.inside) (handle_of c.with_handle.new.self.raw.inside) = search rules in
    says_with IsSo code_of_value value_of _ _ _ c.in-Some.said _ _ did (search rules) c.tell_value.ensures.value
