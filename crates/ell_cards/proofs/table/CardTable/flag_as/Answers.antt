use Rattle.std.proofs.Common.{◌∙◌, ◌==◌, refl, ap, sym, subst, arith}
use prog.Atomic.{either}
use Rattle.ell_runs.specs.Calls.{Exchange}
use Rattle.ell_cards.specs.Models.{PassModel}
use Rattle.ell_cards.specs.Shown.{shown}
use Rattle.ell_cards.proofs.lemmas.seats.Opened.{owed, stepped}
use Rattle.ell_cards.proofs.lemmas.shown.CutWords.{cut_same}
use Rattle.ell_cards.proofs.lemmas.whole.Calling.{exchange_calm, exchange_does, exchange_stores, flag_notes, flag_taken}
use Rattle.ell_cards.proofs.lemmas.whole.Lifts.{stores_word, plain_shown}
use Rattle.ell_cards.proofs.lemmas.whole.Standings.{still_standing, flagging_lost, flagging_stands, stands_on}
use Rattle.ell_cards.proofs.table.CardTable.flag_as.Goals as goal

pub compare_exchange-found-requires : goal.compare_exchange-found-requires
compare_exchange-found-requires g c =
    let participant = c.pass.inside.seat.me.0.participant in
    owed _ _ _ _ c.self.view_is c.pass.view_is c.requires.own c.self.invariant.words c.self.invariant.fit c.pass.inside.seat.me.0 refl c.pass.inside.seat.id refl refl c.pass.inside.seat.me.1 c.pass.inside.keys.items c.pass.inside.share c.pass.inside.standing c.args.word
    (λ n. either (n == c.args.expected) c.args.value n) g.J.Noting.then (λ n. g.J.Noting.notes n participant) c.args.call c.self.invariant.bare c.pass.invariant.bare c.pass.invariant.fits c.pass.invariant.stands
    (stores_word c.args.call (Exchange c.args.expected c.args.value) c.requires.atomic tt (plain_shown c.args.call (exchange_stores c.args.call c.args.expected c.args.value c.requires.atomic))) c.requires.word c.requires.may c.requires.kept
    (exchange_does c.args.self.now.plan c.args.call c.args.expected c.args.value (record { whole = c.args.value; is = c.requires.atomic; cut = sym (cut_same c.args.value (omega arith)); all = λ none. refl }))
    (λ placed none. c.requires.quiet) (λ fill. absurd (exchange_stores c.args.call c.args.expected c.args.value c.requires.atomic fill)) c.requires.tells
    (λ n small. flag_notes c.args.call c.args.card c.args.expected c.args.value n participant (g.J.Noting.notes n participant) c.requires.atomic c.requires.flags c.args.self.now.plan.slots (c.requires.notes n participant)) (exchange_calm c.args.call c.args.expected c.args.value c.requires.atomic)

pub invariant_of-pass : goal.invariant_of-pass
invariant_of-pass g c =
    let now = c.compare_exchange-found.ensures in
    let freed = c.free_discarded.ensures in
    let old = c.pass.inside.seat.me.0.participant in
    let flagged = flagging_stands c.args.self.now.plan.slots (c.compare_exchange-found.result == c.args.expected) c.args.card old c.compare_exchange-found.new.seat.me.0.participant
    (now.2.1 ∙ c.requires.notes c.compare_exchange-found.result old) in
    let words = ap (λ i. i.words) now.0 in record {
      fits = stepped _ _ _ _ c.self.view_is c.pass.view_is c.requires.own c.self.invariant.words c.self.invariant.fit c.pass.inside.keys.items c.pass.inside.share _ _ _ g.J.Noting.then
          c.self.invariant.limit c.pass.invariant.fits (ap (λ i. i.words) freed.leaves.table ∙ words) c.requires.keeps (subst (λ v. g.J.Noting.then c.compare_exchange-found.result (shown v)) (sym freed.leaves.tree) now.2.0);
      bare = freed.leaves.empty;
      stands = still_standing c.pass.inside.standing c.pass.inside.seat.table_id.words c.free_discarded.new.seat.table_id.words old c.free_discarded.new.seat.me.0.participant
          (ap (λ i. i.words) freed.leaves.table ∙ words) (stands_on flagged.0 freed.still) (freed.keeps.safe_epoch ∙ flagged.1) (freed.still.slot ∙ flagged.2) freed.still.lost c.pass.invariant.stands;
    }

pub free_discarded-requires-clause-lost : goal.free_discarded-requires-clause-lost
free_discarded-requires-clause-lost g c =
    let old = c.pass.inside.seat.me.0.participant in
    let taken = flag_taken c.args.self.now.plan c.args.pass.now c.args.call c.args.card c.requires.may c.requires.kept c.requires.flags in
    flagging_lost c.args.self.now.plan.slots c.compare_exchange-found.result c.args.expected c.args.card old c.compare_exchange-found.new.seat.me.0.participant
    (c.compare_exchange-found.ensures.2.1 ∙ c.requires.notes c.compare_exchange-found.result old) c.pass.invariant.stands.lost
    (λ some. ap (λ (m : PassModel). m.memory.slot) c.pass.view_is ∙ taken some)
