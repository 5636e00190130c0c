use Rattle.std.proofs.Common.{ap, ◌∙◌, subst}
use Rattle.ell_tree.specs.Contents.{contents_of, nothing}
use Rattle.ell_tree.specs.Views.{IsFree}
use Rattle.ell_tree.specs.OneThread.{IsOfOneThread}
use Rattle.ell_tree.specs.Seeing.{AreApart}
use Rattle.one_winner.proofs.sharing.conclude.Goals as goal

-- what a pass with the whole share was answered is of one thread, which began with an empty map, as the tree did
pub returns : goal.returns
returns c =
    let p = c.story.new.pass in
    let free : IsFree p.view = ap (λ w. w.operation) c.story.ensures.worker ∙ c.requires.may.1 in
    let thread = c.stories_are_of_one_thread.ensures c.args.map.now.plan p.view p.sight c.story.ensures.all c.requires.shares.shared (c.story.ensures.share ∙ c.requires.whole) free in
    record {
      thread = subst (IsOfOneThread nothing) c.story.ensures.more.mine
          (subst (λ l. IsOfOneThread (contents_of l) p.sight.mine) c.requires.shares.start thread);
      apart = subst AreApart c.story.ensures.more.mine c.story.ensures.all.apart;
      mine = c.story.ensures.more.mine;
      kept = c.story.ensures.share ∙ c.requires.whole;
    }
