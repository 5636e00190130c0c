use Rattle.std.proofs.Common.{subst, rules}
use Rattle.ell_ops.specs.Contents.{contents_of}
use Rattle.ell_runs.specs.LookPlaces.{IsThere, SeesFound}
use Rattle.elltree.specs.Handles.{tree_of}
use Rattle.ell_tree.specs.LookPlaces.{SeesThere}
use Rattle.elltree.proofs.lemmas.Looking.{sees_ended}
use Rattle.ell_tree.specs.Ledgers.{TreeModel}
use Rattle.ell_tree.specs.Looks.{IsFoundIn}
use Rattle.elltree.proofs.handle.Handle.look.Goals as goal

-- the tree's look is of the handle's own tree
pub returns : goal.returns
returns c =
    let looked = c.look-there.new.pass in
    let there = c.look-there.result in record {
      so = λ up. record {
        looked = looked;
        so = subst (λ (t : TreeModel). IsFoundIn t looked.view c.args.key there) c.deref.ensures c.look-there.ensures.so;
        one = c.look-there.ensures.one;
        only = search rules;
        cards = c.look-there.ensures.cards;
        known = search rules;
        ends = search rules;
        sees = sees_ended (SeesFound (contents_of (tree_of c.args.self.now).plan.start) (IsThere c.args.key there) c.args.self.now.pass.sight) _ looked _ c.end_looks.ensures.ends
            (subst (λ (t : TreeModel). SeesThere t c.args.key there c.args.self.now.pass looked) c.deref.ensures c.look-there.ensures.sees);
        tree = search rules;
      };
      beyond = search rules;
    }
