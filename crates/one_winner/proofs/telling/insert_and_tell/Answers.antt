use Rattle.std.proofs.Common.{rules, ℕ, ◌+◌, ◌-◌, ◌%◌, ◌^◌, ◌<◌, List, [], ◌∷◌, ◌++◌, length, refl, ap, ap₂, ◌∙◌, subst, arith}
use Rattle.ell_tree.specs.Op.TheVariants.{Find, Insert}
use Rattle.ell_tree.specs.Contents.{nothing}
use Rattle.ell_tree.specs.Meaning.{found, yes_if}
use Rattle.ell_tree.specs.Act.{Act}
use Rattle.ell_tree.specs.Ends.{Answers}
use Rattle.ell_tree.specs.Views.{given_share}
use Rattle.ell_tree.specs.OneThread.{IsOfOneThread}
use Rattle.ell_tree.specs.Sight.{Sight}
use Rattle.ell_tree.proofs.lemmas.Sights.{ends_inside, longer_right}
use Rattle.one_winner.specs.Sharing.{answered}
use Rattle.one_winner.specs.Telling.{Heard, Tells}
use Rattle.one_winner.proofs.lemmas.Conclusions.{has_told, share_told, the_act}
use Rattle.one_winner.proofs.telling.insert_and_tell.Goals as goal

-- the message has come back, so that the pass has the whole share
pub conclude-pass-requires-clause-whole : goal.conclude-pass-requires-clause-whole
conclude-pass-requires-clause-whole g c =
    let t = c.args.map.now in
    let key = c.args.key in
    let message = c.in_ok-first.message in
    let tells : Tells t key c.args.value c.args.passes.0 c.in_ok-first.first message = search rules in
    let finds : Answers t (Find key) (found c.join-first.result.1.1) c.args.passes.1 c.join-first.result.1.0 = search rules in
    let heard : Heard t key c.join-first.result.1.0 message c.in_ok-second.second c.in_ok-second.late = c.in_ok-second.ensures.heard in
    share_told c.args.passes.0.view.share c.args.passes.1.view.share c.in_ok-first.first.view.share message.view.share heard.between.view.share
    c.in_ok-second.second.view.share c.in_ok-both.both.view.share
    (tells.keeps.share ∙ ap (λ (n : ℕ). n - given_share n) tells.inserts.share.share) (tells.hands.share ∙ ap given_share tells.inserts.share.share)
    (heard.joins.share ∙ ap (λ (n : ℕ). (n + message.view.share) % 2 ^ 64) finds.share.share) heard.finds.share.share c.in_ok-both.ensures.joined.share
    c.requires.new.whole

-- what the first was answered, and the second before and after it had the message, is of one thread
pub returns : goal.returns
returns g c =
    let t = c.args.map.now in
    let key = c.args.key in
    let value = c.args.value in
    let message = c.in_ok-first.message in
    let early = c.join-first.result.1.1 in
    let late = c.in_ok-second.late in
    let tells : Tells t key value c.args.passes.0 c.in_ok-first.first message = search rules in
    let finds : Answers t (Find key) (found early) c.args.passes.1 c.join-first.result.1.0 = search rules in
    let heard : Heard t key c.join-first.result.1.0 message c.in_ok-second.second late = c.in_ok-second.ensures.heard in
    let inserts = tells.inserts.sees in
    let found_it = heard.finds.sees in
    let a = the_act inserts.mine in
    let e = the_act finds.sees.mine in
    let l = the_act found_it.mine in
    let by_first = ap (λ (g : Sight). g.mine) tells.keeps.sight ∙ (inserts.mine ∙ ap (λ (m : List Act). a ∷ m) c.requires.new.one.none) in
    let before = finds.sees.mine ∙ ap (λ (m : List Act). e ∷ m) c.requires.new.other.none in
    let knows = ap (λ (g : Sight). g.mine) heard.joins.sight ∙ ap₂ (λ (m n : List Act). m ++ n) before (ap (λ (g : Sight). g.mine) tells.hands.sight) in
    let by_second = found_it.mine ∙ ap (λ (m : List Act). l ∷ m) knows in
    let mine = ap (λ (g : Sight). g.mine) c.in_ok-both.ensures.joined.sight ∙ ap₂ (λ (m n : List Act). m ++ n) by_first by_second in
    -- the late find began behind what the message had seen
    let told = ends_inside tells.between.sight.seen a.begin a.end a.op a.said a.took inserts.call in
    let handed = ap (λ (g : Sight). length g.seen) tells.hands.sight in
    let by_message = longer_right c.join-first.result.1.0.sight.seen message.sight.seen in
    let same = ap (λ (g : Sight). length g.seen) heard.joins.sight in
    let after = found_it.after in
    let first : a.end < l.begin = omega arith in
    let h = has_told key value tells.added early late a l e (subst (IsOfOneThread nothing) mine c.conclude-pass.ensures.thread)
    (record { op = refl; said = refl }) (record { op = refl; said = refl }) (record { op = refl; said = refl }) first in
    record {
      early = h.before;
      late = h.after;
      calls = ap answered (c.conclude-pass.ensures.mine ∙ mine) ∙ ap (λ b. (Insert key value, yes_if b) ∷ answered (l ∷ e ∷ [])) h.yes;
      whole = c.conclude-pass.ensures.kept;
      why = tt;
    }
