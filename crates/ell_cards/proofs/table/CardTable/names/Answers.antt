use Rattle.std.proofs.Common.{refl, subst}
use Rattle.ell_cards.specs.Apart.{NamesLowBits}
use Rattle.ell_cards.specs.Models.{PassModel}
use Rattle.ell_cards.proofs.lemmas.seats.Opened.{named_there, placed_there, slot_there, tags_there, few_there}
use Rattle.ell_cards.proofs.lemmas.shown.ShownLow.{shown_names_low}
use Rattle.ell_cards.proofs.table.CardTable.names.Goals as goal

pub returns-clause-named : goal.returns-clause-named
returns-clause-named g c =
    named_there _ _ _ _ c.self.view_is c.pass.view_is c.requires.own c.self.invariant.words c.self.invariant.fit c.pass.inside.keys.items c.pass.inside.share c.pass.invariant.fits

pub returns-clause-placed : goal.returns-clause-placed
returns-clause-placed g c =
    placed_there _ _ _ _ c.self.view_is c.pass.view_is c.requires.own c.self.invariant.words c.self.invariant.fit c.pass.inside.keys.items c.pass.inside.share c.pass.invariant.fits

pub returns-clause-short : goal.returns-clause-short
returns-clause-short g c = subst (λ (m : PassModel). NamesLowBits m.view) c.pass.view_is (shown_names_low c.pass.inside.seat.me.0.tree)

pub returns-clause-slot : goal.returns-clause-slot
returns-clause-slot g c =
    slot_there _ _ _ _ c.self.view_is c.pass.view_is c.requires.own c.self.invariant.words c.self.invariant.fit c.pass.inside.standing c.pass.inside.seat.me.0.participant refl c.pass.invariant.stands

pub returns-clause-tags : goal.returns-clause-tags
returns-clause-tags g c =
    tags_there _ _ _ _ c.self.view_is c.pass.view_is c.requires.own c.self.invariant.words c.self.invariant.fit c.pass.inside.seat.me.0.tree refl

pub returns-clause-few : goal.returns-clause-few
returns-clause-few g c = few_there _ _ _ _ c.self.view_is c.pass.view_is c.requires.own c.self.invariant.words c.self.invariant.fit
