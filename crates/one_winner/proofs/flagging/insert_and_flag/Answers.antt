use Rattle.std.proofs.Common.{rules, ◌<◌, Bool, List, [], ◌∷◌, ◌++◌, refl, ap, ap₂, ◌∙◌, subst, arith}
use Rattle.ell_tree.specs.Op.TheVariants.{Insert}
use Rattle.ell_tree.specs.Contents.{nothing}
use Rattle.ell_tree.specs.Meaning.{yes_if}
use Rattle.ell_tree.specs.Act.{Act}
use Rattle.ell_tree.specs.OneThread.{IsOfOneThread}
use Rattle.ell_tree.specs.Sight.{Sight}
use Rattle.ell_tree.proofs.lemmas.Sights.{ends_inside}
use Rattle.one_winner.specs.Flagging.{Looks, Raises}
use Rattle.one_winner.specs.Sharing.{answered}
use Rattle.one_winner.proofs.lemmas.Conclusions.{has_flagged, the_act}
use Rattle.one_winner.proofs.flagging.insert_and_flag.Goals as goal

-- what both threads were answered is of one thread, in which each one's second call stands behind its first
pub returns : goal.returns
returns g c =
    let t = c.args.map.now in
    let key = c.args.key in
    let flag = c.args.flag in
    let value = c.args.value in
    let seen = c.join-first.result.0.1.flag in
    let there = c.join-first.result.0.1.there in
    let added = c.in_ok-second._told.0 in
    let raised = c.in_ok-second._told.1 in
    let raises : Raises t key flag value added raised c.args.passes.1 c.in_ok-second.second = search rules in
    let looks : Looks t key flag seen there c.args.passes.0 c.join-first.result.0.0 = search rules in
    let inserts = raises.first.sees in
    let flags = raises.second.sees in
    let sought = looks.first.sees in
    let found_it = looks.second.sees in
    let a = the_act inserts.mine in
    let b = the_act flags.mine in
    let f = the_act sought.mine in
    let l = the_act found_it.mine in
    let by_first = found_it.mine ∙ ap (λ (m : List Act). l ∷ m) (sought.mine ∙ ap (λ (m : List Act). f ∷ m) c.requires.new.one.none) in
    let by_second = flags.mine ∙ ap (λ (m : List Act). b ∷ m) (inserts.mine ∙ ap (λ (m : List Act). a ∷ m) c.requires.new.other.none) in
    let mine = ap (λ (g : Sight). g.mine) c.in_ok-both.ensures.joined.sight ∙ ap₂ (λ (m n : List Act). m ++ n) by_first by_second in
    let wrote = ends_inside raises.between.sight.seen a.begin a.end a.op a.said a.took inserts.call in
    let looked = ends_inside looks.between.sight.seen f.begin f.end f.op f.said f.took sought.call in
    let flags_after = flags.after in
    let finds_after = found_it.after in
    let first : a.end < b.begin = omega arith in
    let second : f.end < l.begin = omega arith in
    let h = has_flagged key flag value added raised seen there a b f l c.requires.apart (subst (IsOfOneThread nothing) mine c.conclude-pass.ensures.thread)
    (record { op = refl; said = refl }) (record { op = refl; said = refl }) (record { op = refl; said = refl }) (record { op = refl; said = refl }) first second in
    record {
      seen = h.so;
      calls = ap answered (c.conclude-pass.ensures.mine ∙ mine)
          ∙ ap₂ (λ (p q : Bool). answered (l ∷ f ∷ []) ++ (Insert flag value, yes_if q) ∷ (Insert key value, yes_if p) ∷ []) h.yes.0 h.yes.1;
      whole = c.conclude-pass.ensures.kept;
      why = tt;
    }
