use Rattle.std.proofs.Common.{◌≡◌, ◌+◌, ◌∙◌, ap, min, subst, arith, rules}
use Rattle.ell_ops.specs.Meaning.{greatest_key}
use Rattle.ell_ops.specs.Contents.{contents_of}
use Rattle.ell_tree.specs.LookPlaces.{LastStands, SeesLast}
use Rattle.elltree.specs.Handles.{tree_of}
use Rattle.elltree.proofs.lemmas.Looking.{sees_ended}
use Rattle.ell_tree.specs.Ledgers.{TreeModel}
use Rattle.ell_tree.specs.Scans.{IsLastIn}
use Rattle.elltree.specs.Calls.{real_end}
use Rattle.elltree.proofs.handle.Handle.last_at_most.Goals as goal

-- the last key is sought below the end of the keys that there are
pub returns : goal.returns
returns c =
    let said = c.last_at_most-there in
    let end : min c.args.key greatest_key + 1 ≡ real_end (c.args.key + 1) = omega arith in record {
      looked = said.new.pass;
      so = subst (λ (t : TreeModel). IsLastIn t said.new.pass.view (real_end (c.args.key + 1)) said.result)
          c.deref.ensures
          (subst (λ e. IsLastIn c.deref.result.now said.new.pass.view e said.result)
          (ap (λ k. k + 1) c.min.ensures ∙ end) said.ensures.so);
      one = said.ensures.one;
      only = search rules;
      cards = said.ensures.cards;
      known = search rules;
      ends = search rules;
      sees = sees_ended (LastStands (contents_of (tree_of c.args.self.now).plan.start) (real_end (c.args.key + 1)) said.result c.args.self.now.pass.sight) _ said.new.pass _ c.end_looks.ensures.ends
          (subst (λ (t : TreeModel). SeesLast t (real_end (c.args.key + 1)) said.result c.args.self.now.pass said.new.pass) c.deref.ensures
          (subst (λ e. SeesLast c.deref.result.now e said.result c.args.self.now.pass said.new.pass)
          (ap (λ k. k + 1) c.min.ensures ∙ end) said.ensures.sees));
      tree = search rules;
    }
