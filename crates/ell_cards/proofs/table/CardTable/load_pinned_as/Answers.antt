use Rattle.std.proofs.Common.{◌∙◌, refl, ap, is_some, sym, subst}
use Rattle.ell_runs.specs.Calls.{Load}
use Rattle.ell_runs.specs.Seeing.{Marks}
use Rattle.ell_cards.specs.Shown.{shown}
use Rattle.ell_cards.specs.Inside.{PassFits}
use Rattle.ell_cards.specs.Models.{PassModel, memory_of}
use Rattle.ell_cards.proofs.lemmas.seats.Opened.{owed_marked, stepped}
use Rattle.ell_cards.proofs.lemmas.whole.Calling.{load_flags, load_does, load_stores}
use Rattle.ell_cards.proofs.lemmas.whole.Calling.Notes.{nothing}
use Rattle.ell_cards.proofs.lemmas.whole.Lifts.{stores_word, plain_shown}
use Rattle.ell_cards.proofs.lemmas.whole.Standings.{none_is, same_standing}
use Rattle.ell_cards.proofs.table.CardTable.load_pinned_as.Goals as goal

pub load-requires : goal.load-requires
load-requires g c =
    let seat = c.pin.new.seat in
    let inside = c.pass.inside in
    let is = c.pin.ensures in
    let old : PassModel = record { table = inside.seat.table_id; view = shown inside.seat.me.0.tree; steps = inside.steps; label = inside.label; memory = memory_of inside.seat.me.0.participant; sight = inside.seat.me.0.sight } in
    let now : PassModel = record { table = seat.table_id; view = shown seat.me.0.tree; steps = inside.steps; label = inside.label; memory = record (memory_of seat.me.0.participant) { is_pinned = is_some inside.seat.me.0.participant.announced }; sight = seat.me.0.sight } in
    let same = (λ t. record { table = is.leaves.table t; view = shown (is.leaves.tree t); steps = inside.steps; label = inside.label; memory = record { safe_epoch = is.keeps.safe_epoch t; is_pinned = is_some inside.seat.me.0.participant.announced; surveyed = is.keeps.surveyed t; slot = is.slot t; retired = is.retired t }; sight = is.leaves.sight t }) ∙ c.pass.view_is in
    let fits = subst (λ (m : PassModel). PassFits inside.keys.items inside.share m.table.words m.view) (sym (λ t. record { table = is.leaves.table t; view = shown (is.leaves.tree t); steps = inside.steps; label = inside.label; memory = record { safe_epoch = is.keeps.safe_epoch t; is_pinned = is_some inside.seat.me.0.participant.announced; surveyed = is.keeps.surveyed t; slot = is.slot t; retired = is.retired t }; sight = is.leaves.sight t })) c.pass.invariant.fits in
    let x = owed_marked _ _ now _ c.self.view_is same c.requires.own c.self.invariant.words c.self.invariant.fit seat.me.0 refl seat.id refl refl seat.me.1 inside.keys.items inside.share c.pin.new.standing c.args.word
    (λ n. n) g.J.Marking.then (λ n. seat.me.0.participant) c.args.call c.self.invariant.bare is.leaves.empty fits is.fits (stores_word c.args.call Load c.requires.atomic tt (plain_shown c.args.call (load_stores c.args.call c.requires.atomic))) c.requires.word c.requires.may
    c.requires.kept (load_does c.args.self.now.plan c.args.call c.requires.atomic)
    (λ placed none. absurd (placed (none_is c.args.self.now.plan.slots (sym is.inside ∙ ap is_some none)))) (λ fill. absurd (load_stores c.args.call c.requires.atomic fill)) c.requires.tells (λ n small. nothing refl (λ some d flags. absurd (load_flags c.args.call c.requires.atomic d flags))) in (
      x.0,
      x.1,
      λ s holds homes here small. (let y = x.2 s holds homes here small in
          (y.0, y.1, y.2, y.3, (y.4.0, y.4.1, y.4.2, subst (λ d. Marks d (shown seat.me.0.tree) seat.me.0.sight y.0.sight) (sym c.requires.marks) y.4.3))),
    )

pub invariant_of-pass : goal.invariant_of-pass
invariant_of-pass g c =
    let seat = c.pin.new.seat in
    let inside = c.pass.inside in
    let is = c.pin.ensures in
    let now = c.load.ensures in
    let model : PassModel = record { table = seat.table_id; view = shown seat.me.0.tree; steps = inside.steps; label = inside.label; memory = record (memory_of seat.me.0.participant) { is_pinned = is_some inside.seat.me.0.participant.announced }; sight = seat.me.0.sight } in
    let same = (λ t. record { table = is.leaves.table t; view = shown (is.leaves.tree t); steps = inside.steps; label = inside.label; memory = record { safe_epoch = is.keeps.safe_epoch t; is_pinned = is_some inside.seat.me.0.participant.announced; surveyed = is.keeps.surveyed t; slot = is.slot t; retired = is.retired t }; sight = is.leaves.sight t }) ∙ c.pass.view_is in
    let fits = subst (λ (m : PassModel). PassFits inside.keys.items inside.share m.table.words m.view) (sym (λ t. record { table = is.leaves.table t; view = shown (is.leaves.tree t); steps = inside.steps; label = inside.label; memory = record { safe_epoch = is.keeps.safe_epoch t; is_pinned = is_some inside.seat.me.0.participant.announced; surveyed = is.keeps.surveyed t; slot = is.slot t; retired = is.retired t }; sight = is.leaves.sight t })) c.pass.invariant.fits in record {
      fits = stepped _ _ model _ c.self.view_is same c.requires.own c.self.invariant.words c.self.invariant.fit inside.keys.items inside.share _ _ _ g.J.Marking.then
          c.self.invariant.limit fits (ap (λ i. i.words) now.0) c.requires.keeps now.2.0;
      bare = now.2.2 ∙ is.leaves.empty;
      stands = same_standing _ _ _ _ _ (ap (λ i. i.words) now.0) now.2.1 is.fits;
    }
