use Rattle.std.proofs.Common.{subst, sym, ap, ◌∙◌}
use Rattle.std.proofs.lemmas.Result.{IfOk-weaker}
use Rattle.std.specs.Map.{keys_of}
use Rattle.ell_core.specs.tree.Tree.{ListsKeys}
use Rattle.ell_world.specs.World.{machine_of}
use Rattle.ell_core.proofs.lemmas.tree.RealPairs.{ListsKeys-of_pairs}
use Rattle.ell_world.proofs.world.World.keys.Goals as goal

pub returns : goal.returns
returns g c =
    let w = (machine_of c.args.self.now).words in
    let pairs = c.in_ok-pairs.pairs.items in
    IfOk-weaker c.pair_keys.result _ _
    (λ keys same. subst (ListsKeys w) (sym (same ∙ ap keys_of c.deref.ensures.value)) (ListsKeys-of_pairs w pairs c.in_ok-pairs.ensures))
    c.pair_keys.ensures
