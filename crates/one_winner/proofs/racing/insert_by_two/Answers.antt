use Rattle.std.proofs.Common.{rules, ◌<◌, List, ◌∷◌, ◌++◌, length, refl, ap, ap₂, ◌∙◌, subst, arith}
use Rattle.ell_tree.specs.Op.TheVariants.{Find, Insert}
use Rattle.ell_tree.specs.Contents.{nothing}
use Rattle.ell_tree.specs.Meaning.{found, yes_if}
use Rattle.ell_tree.specs.Act.{Act}
use Rattle.ell_tree.specs.Ends.{Answers}
use Rattle.ell_tree.specs.OneThread.{IsOfOneThread}
use Rattle.ell_tree.specs.Seeing.{AreApart}
use Rattle.ell_tree.specs.Sight.{Sight}
use Rattle.ell_tree.proofs.lemmas.Sights.{ends_inside, longer_left, longer_right}
use Rattle.one_winner.specs.Sharing.{answered}
use Rattle.one_winner.proofs.lemmas.Conclusions.{has_winner, the_act}
use Rattle.one_winner.proofs.racing.insert_by_two.Goals as goal

-- what both were answered, and then the find, is of one thread, and the find began once both inserts had ended
pub returns : goal.returns
returns g c =
    let t = c.args.map.now in
    let key = c.args.key in
    let one = c.in_ok-left.first_added in
    let other = c.in_ok-right.second_added in
    let left = c.in_ok-left.left in
    let right = c.in_ok-right.right in
    let there = c.find-both.result.1 in
    let first : Answers t (Insert key c.args.first) (yes_if one) c.args.passes.0 left = search rules in
    let second : Answers t (Insert key c.args.second) (yes_if other) c.args.passes.1 right = search rules in
    let finds = c.find-both.ensures.sees in
    let a = the_act first.sees.mine in
    let b = the_act second.sees.mine in
    let f = the_act finds.mine in
    let by_left = first.sees.mine ∙ ap (λ (l : List Act). a ∷ l) c.requires.new.one.none in
    let by_right = second.sees.mine ∙ ap (λ (l : List Act). b ∷ l) c.requires.new.other.none in
    let joined = c.in_ok-both.ensures.joined.sight in
    let mine = finds.mine ∙ ap (λ (l : List Act). f ∷ l) (ap (λ (g : Sight). g.mine) joined ∙ ap₂ (λ (l m : List Act). l ++ m) by_left by_right) in
    let ended = ends_inside left.sight.seen a.begin a.end a.op a.said a.took first.sees.call in
    let ended' = ends_inside right.sight.seen b.begin b.end b.op b.said b.took second.sees.call in
    let short = longer_left left.sight.seen right.sight.seen in
    let short' = longer_right left.sight.seen right.sight.seen in
    let same = ap (λ (g : Sight). length g.seen) joined in
    let after = finds.after in
    let late : a.end < f.begin = omega arith in
    let later : b.end < f.begin = omega arith in
    let h = has_winner key c.args.first c.args.second one other there a b f (subst (IsOfOneThread nothing) mine c.conclude-pass.ensures.thread)
    (subst AreApart mine c.conclude-pass.ensures.apart) (record { op = refl; said = refl }) (record { op = refl; said = refl }) (record { op = refl; said = refl }) late later in
    record { one = h.differ; there = h.its; calls = ap answered (c.conclude-pass.ensures.mine ∙ mine); whole = c.conclude-pass.ensures.kept; why = tt }
