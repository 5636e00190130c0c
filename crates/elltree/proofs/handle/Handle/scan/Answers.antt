use Rattle.std.proofs.Common.{◌≡◌, ◌≤◌, ◌<◌, IfSome, length, subst, rules}
use Rattle.ell_ops.specs.Contents.{contents_of}
use Rattle.ell_tree.specs.Ledgers.{TreeModel}
use Rattle.ell_tree.specs.Scans.{AreFoundIn, AreInOrder, end_of, written}
use Rattle.ell_runs.specs.LookPlaces.{SeesEachFound}
use Rattle.ell_tree.specs.LookPlaces.{SeesScan}
use Rattle.elltree.specs.Calls.{real_end}
use Rattle.elltree.specs.Handles.{tree_of}
use Rattle.elltree.proofs.lemmas.Looking.{sees_ended}
use Rattle.elltree.proofs.handle.Handle.scan.Goals as goal

-- the scan ends at the end of the keys that there are
pub returns : goal.returns
returns c =
    let said = c.scan-scanned in
    let from = c.args.from in
    let pairs = written said.new.room said.result in
    let end : c.min-end.result ≡ real_end c.args.upto = c.min-end.ensures in record {
      so = record {
        looked = said.new.pass;
        so = subst (λ (t : TreeModel). AreFoundIn t said.new.pass.view from (end_of (real_end c.args.upto) said.result) (contents_of pairs))
            c.deref.ensures
            (subst (λ e. AreFoundIn c.deref.result.now said.new.pass.view from (end_of e said.result) (contents_of pairs)) end said.ensures.so);
        one = said.ensures.one;
        only = search rules;
        cards = said.ensures.cards;
        known = search rules;
        ends = search rules;
        sees = λ some. sees_ended (SeesEachFound (contents_of (tree_of c.args.self.now).plan.start) from (end_of (real_end c.args.upto) said.result) (contents_of pairs) c.args.self.now.pass.sight) _ said.new.pass _ c.end_looks.ensures.ends
            (subst (λ (t : TreeModel). SeesScan t from (end_of (real_end c.args.upto) said.result) (contents_of pairs) c.args.self.now.pass said.new.pass) c.deref.ensures
            (subst (λ e. SeesScan c.deref.result.now from (end_of e said.result) (contents_of pairs) c.args.self.now.pass said.new.pass) end said.ensures.sees) some);
        tree = search rules;
      };
      ordered = subst (λ e. AreInOrder from (end_of e said.result) pairs) end said.ensures.ordered;
      count = said.ensures.count;
      next = subst (λ e. IfSome said.result.next (λ next. (from ≤ next) × (next < e) × (said.result.count ≡ length c.args.room.now))) end said.ensures.next;
      others = said.ensures.rest;
    }
