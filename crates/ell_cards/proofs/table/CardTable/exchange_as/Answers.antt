use Rattle.std.proofs.Common.{◌∙◌, ◌==◌, refl, ap}
use prog.Atomic.{either}
use Rattle.ell_runs.specs.Calls.{Exchange}
use Rattle.ell_cards.proofs.lemmas.seats.Opened.{owed, stepped}
use Rattle.ell_cards.proofs.lemmas.whole.Calling.Notes.{nothing}
use Rattle.ell_cards.proofs.lemmas.whole.Calling.{exchange_calm, none_flags, exchange_does, exchange_stores}
use Rattle.ell_cards.proofs.lemmas.whole.Lifts.{stores_word, plain_shown}
use Rattle.ell_cards.proofs.lemmas.whole.Standings.{same_standing}
use Rattle.ell_cards.proofs.table.CardTable.exchange_as.Goals as goal

pub compare_exchange-found-requires : goal.compare_exchange-found-requires
compare_exchange-found-requires g c =
    let does = c.requires.exchanges in
    owed _ _ _ _ c.self.view_is c.pass.view_is c.requires.own c.self.invariant.words c.self.invariant.fit c.pass.inside.seat.me.0 refl c.pass.inside.seat.id refl refl c.pass.inside.seat.me.1 c.pass.inside.keys.items c.pass.inside.share c.pass.inside.standing c.args.word
    (λ n. either (n == c.args.expected) c.args.value n) g.J.Telling.then (λ n. c.pass.inside.seat.me.0.participant) c.args.call c.self.invariant.bare c.pass.invariant.bare c.pass.invariant.fits c.pass.invariant.stands (stores_word c.args.call (Exchange c.args.expected does.whole) does.is tt (plain_shown c.args.call (exchange_stores c.args.call c.args.expected does.whole does.is))) c.requires.word c.requires.may
    c.requires.kept (exchange_does c.args.self.now.plan c.args.call c.args.expected c.args.value does) (λ placed none. c.requires.quiet) (λ fill. absurd (exchange_stores c.args.call c.args.expected does.whole does.is fill)) c.requires.tells (λ n small. nothing refl (λ some d flags. absurd (none_flags c.args.call c.requires.unflagging d flags))) (exchange_calm c.args.call c.args.expected does.whole does.is)

pub invariant_of-pass : goal.invariant_of-pass
invariant_of-pass g c =
    let now = c.compare_exchange-found.ensures in record {
      fits = stepped _ _ _ _ c.self.view_is c.pass.view_is c.requires.own c.self.invariant.words c.self.invariant.fit c.pass.inside.keys.items c.pass.inside.share _ _ _ g.J.Telling.then
          c.self.invariant.limit c.pass.invariant.fits (ap (λ i. i.words) now.0) c.requires.keeps now.2.0;
      bare = now.2.2 ∙ c.pass.invariant.bare;
      stands = same_standing _ _ _ _ _ (ap (λ i. i.words) now.0) now.2.1 c.pass.invariant.stands;
    }
