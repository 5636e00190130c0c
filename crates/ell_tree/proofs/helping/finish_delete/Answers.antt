use Rattle.std.proofs.Common.{◌∙◌, ap, sym, subst, refl, rules, arith}
use Rattle.ell_tree.specs.Ledgers.{PassModel}
use Rattle.ell_tree.specs.Helps.{met_by_mark}
use Rattle.ell_tree.specs.Hindrances.{IsEnded}
use Rattle.ell_tree.specs.Keeping.{KeepsAll}
use Rattle.ell_tree.proofs.lemmas.Keeping.{keeps_but_met_more, keeps_all_within, keeps_all_none}
use Rattle.ell_tree.proofs.lemmas.Meeting.{ended_still, lost_ends, lost_behind}
use Rattle.ell_tree.proofs.helping.finish_delete.Given.{Over}
use Rattle.ell_tree.proofs.helping.finish_delete.Goals as goal
use Rattle.ell_tree.proofs.helping.finish_delete.Goals.{After-go_back-2, in-IFlag, in-Mark, in-Clean}

-- another delete's flag is in the way
pub returns-in-DFlag : goal.returns-in-DFlag
returns-in-DFlag g c =
    let v = c.args.pass.now.view in
    let mark = c.set_mark.new.pass in
    let back = c.go_back.ensures.keeps_all in
    let lost = lost_behind c.args.flag.card c.in-Some.found v mark.view c.go_back.new.pass.view
    (c.set_mark.ensures.hindrances ∙ ap (λ o. met_by_mark c.args.flag.card o v) c.in-Some.is) back.hindrances
    (λ f h. back.keeps.view.knows f (c.set_mark.ensures.keeps_but_met.keeps.view.knows f h)) c.in-DFlag.is c.go_back.ensures.backed in (
      keeps_but_met_more c.args.pass.now mark c.go_back.new.pass 1 1 2 c.set_mark.ensures.keeps_but_met back (omega arith),
      lost.0,
      lost.1,
      search rules,
      refl,
    )

-- what was found in place of the mark has ended
helped : (g : Over) (c : After-go_back-2 g) → KeepsAll c.set_mark.new.pass c.match-found.pass 8 × IsEnded c.match-found.pass.view c.in-Some.found.state c.in-Some.found.card
helped g c = elim c.match-found.branch [
  | in-IFlag w ↦ subst (λ (p : PassModel). KeepsAll c.set_mark.new.pass p 8 × IsEnded p.view c.in-Some.found.state c.in-Some.found.card) (sym w.pass-is) (
    keeps_all_within c.set_mark.new.pass w.help_insert.new.pass 6 8 w.help_insert.ensures.keeps_all (omega arith),
    subst (λ s. IsEnded w.help_insert.new.pass.view s c.in-Some.found.card) (sym w.in-IFlag.is) w.help_insert.ensures.over,
  )
  | in-Mark w ↦ subst (λ (p : PassModel). KeepsAll c.set_mark.new.pass p 8 × IsEnded p.view c.in-Some.found.state c.in-Some.found.card) (sym w.pass-is) (
    w.help_marked.ensures.keeps_all,
    subst (λ s. IsEnded w.help_marked.new.pass.view s c.in-Some.found.card) (sym w.in-Mark.is) w.help_marked.ensures.over,
  )
  | in-Clean w ↦ subst (λ (p : PassModel). KeepsAll c.set_mark.new.pass p 8 × IsEnded p.view c.in-Some.found.state c.in-Some.found.card) (sym w.pass-is) (
    keeps_all_none c.set_mark.new.pass 8,
    subst (λ s. IsEnded c.set_mark.new.pass.view s c.in-Some.found.card) (sym w.in-Clean.is) tt,
  )
]

pub returns : goal.returns
returns g c =
    let v = c.args.pass.now.view in
    let mark = c.set_mark.new.pass in
    let help = helped g c in
    let back = c.go_back-2.ensures.keeps_all in
    let new = c.go_back-2.new.pass in
    let lost = lost_ends c.args.flag.card c.in-Some.found v mark.view new.view
    (c.set_mark.ensures.hindrances ∙ ap (λ o. met_by_mark c.args.flag.card o v) c.in-Some.is) (back.hindrances ∙ help.0.hindrances)
    (λ f h. back.keeps.view.knows f (help.0.keeps.view.knows f (c.set_mark.ensures.keeps_but_met.keeps.view.knows f h)))
    (ended_still c.match-found.pass.view new.view c.in-Some.found.state c.in-Some.found.card back.keeps.view.knows help.1) c.go_back-2.ensures.backed in (
      keeps_but_met_more c.args.pass.now c.match-found.pass new 9 1 10
          (keeps_but_met_more c.args.pass.now mark c.match-found.pass 1 8 9 c.set_mark.ensures.keeps_but_met help.0 (omega arith)) back (omega arith),
      lost.0,
      lost.1,
    )
