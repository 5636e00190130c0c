use Rattle.std.proofs.Common.{◌∙◌, refl, sym, ap, subst}
use Rattle.ell_runs.specs.Plans.{TablePlan}
use Rattle.ell_runs.specs.Seeing.{HasSeenAll}
use Rattle.ell_cards.specs.Shown.{shown}
use Rattle.ell_cards.proofs.lemmas.seats.Opened.{stepped}
use Rattle.ell_cards.proofs.lemmas.whole.Standings.{same_standing}
use Rattle.ell_cards.proofs.lemmas.whole.Telling.{next_owed}
use Rattle.ell_cards.proofs.table.CardTable.load_all_as.Goals as goal

pub load-requires : goal.load-requires
load-requires g c =
    let old = c.pass.inside.seat.me.0 in
    let x = next_owed _ _ _ _ c.self.view_is c.pass.view_is c.requires.own c.self.invariant.words c.self.invariant.fit old refl c.pass.inside.seat.id c.pass.inside.seat.me.1
    g.J.TellingAll.then c.pass.invariant.stands.lost c.self.invariant.bare c.pass.invariant.bare c.requires.tells in (
      x.0,
      x.1,
      λ s holds homes here small. (let y = x.2 s holds homes here small in
          (y.0, y.1, y.2, y.3, (y.4.0, y.4.1, y.4.2, y.4.3.0, subst (λ (p : TablePlan). HasSeenAll p (shown old.tree) y.0.sight) (sym c.requires.plan) y.4.3.1, y.4.3.2))),
    )

pub invariant_of-pass : goal.invariant_of-pass
invariant_of-pass g c =
    let now = c.load.ensures in record {
      fits = stepped _ _ _ _ c.self.view_is c.pass.view_is c.requires.own c.self.invariant.words c.self.invariant.fit c.pass.inside.keys.items c.pass.inside.share _ _ _ g.J.TellingAll.then
          c.self.invariant.limit c.pass.invariant.fits (ap (λ i. i.words) now.0) c.requires.keeps now.2.0;
      bare = now.2.2 ∙ c.pass.invariant.bare;
      stands = same_standing _ _ _ _ _ (ap (λ i. i.words) now.0) now.2.1 c.pass.invariant.stands;
    }
