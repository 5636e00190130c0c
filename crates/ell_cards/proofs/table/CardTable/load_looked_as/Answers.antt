use Rattle.std.proofs.Common.{◌∙◌, refl, sym, ap, subst}
use Rattle.ell_runs.specs.LookPlaces.{FindsHavePlaces}
use Rattle.ell_runs.specs.Plans.{TablePlan}
use Rattle.ell_cards.specs.Shown.{shown}
use Rattle.ell_cards.proofs.lemmas.seats.Opened.{stepped}
use Rattle.ell_cards.proofs.lemmas.whole.LookTelling.{owed_looked}
use Rattle.ell_cards.proofs.lemmas.whole.Standings.{same_standing}
use Rattle.ell_cards.proofs.table.CardTable.load_looked_as.Goals as goal

pub load-requires : goal.load-requires
load-requires g c =
    let x = owed_looked _ _ _ _ c.self.view_is c.pass.view_is c.requires.own c.self.invariant.words c.self.invariant.fit c.pass.inside.seat.me.0 refl c.pass.inside.seat.id refl refl c.pass.inside.seat.me.1 c.pass.inside.keys.items c.pass.inside.share c.pass.inside.standing c.args.word
    g.J.TellingAll.then c.args.call c.self.invariant.bare c.pass.invariant.bare c.pass.invariant.fits c.pass.invariant.stands c.requires.word c.requires.may c.requires.kept c.requires.atomic c.requires.quiet c.requires.calm c.requires.tells in (
      x.0,
      x.1,
      λ s holds homes here small. (let y = x.2 s holds homes here small in
          (y.0, y.1, y.2, y.3, (y.4.0, y.4.1, y.4.2, y.4.3.0, subst (λ (p : TablePlan). FindsHavePlaces p (shown y.0.tree) y.0.sight) (sym c.requires.plan) y.4.3.1))),
    )

pub invariant_of-pass : goal.invariant_of-pass
invariant_of-pass g c =
    let now = c.load.ensures in record {
      fits = stepped _ _ _ _ c.self.view_is c.pass.view_is c.requires.own c.self.invariant.words c.self.invariant.fit c.pass.inside.keys.items c.pass.inside.share _ _ _ g.J.TellingAll.then
          c.self.invariant.limit c.pass.invariant.fits (ap (λ i. i.words) now.0) c.requires.keeps now.2.0;
      bare = now.2.2 ∙ c.pass.invariant.bare;
      stands = same_standing _ _ _ _ _ (ap (λ i. i.words) now.0) now.2.1 c.pass.invariant.stands;
    }
