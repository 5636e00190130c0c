use Rattle.std.proofs.Common.{◌≡◌, ◌+◌, ◌++◌, ◌∷◌, [], false, Some, length, get_or, take, drop, arith, ap, sym, subst, ◌∙◌, append_assoc}
use Rattle.std.proofs.lemmas.List.{take_more, take_all}
use Rattle.std.proofs.lemmas.Option.{slice_get-get_or}
use Rattle.ell_ops.specs.declared.reply.Reply.TheVariants.{No}
use Rattle.ell_parts.specs.declared.gathering.GatherFault.TheVariants.{Stranger, Doubled}
use Rattle.ell_parts.specs.Gathering.{IsFault}
use Rattle.ell_parts.proofs.lemmas.Placings.{IsPlaced-push, is_stranger, is_doubled, items-cut}
use Rattle.ell_parts.proofs.gathering.place.Goals as goal

pub returns-then-position-answered-clause-err : goal.returns-then-position-answered-clause-err
returns-then-position-answered-clause-err c = λ before after start.
    let piece = c.args.piece.now in
    let i = c.loop-position.position-index in
    let item = get_or piece i (0, No) in
    let n = length c.args.answered.now in
    subst (λ items. IsFault n items (Stranger item.0)) (sym (items-cut before piece after i (0, No) c.loop-position-test.true))
    (is_stranger n (before ++ take i piece) (drop (i + 1) piece ++ after) c.loop-position.answered c.loop-position.replies item
    (c.loop-position.invariant before start) c.loop-position.auto.answered (omega arith))

pub returns-then-answered-position-clause-err : goal.returns-then-answered-position-clause-err
returns-then-answered-position-clause-err c = λ before after start.
    let piece = c.args.piece.now in
    let i = c.loop-position.position-index in
    let item = get_or piece i (0, No) in
    let n = length c.args.answered.now in
    subst (λ items. IsFault n items (Doubled item.0)) (sym (items-cut before piece after i (0, No) c.loop-position-test.true))
    (is_doubled n (before ++ take i piece) (drop (i + 1) piece ++ after) c.loop-position.answered c.loop-position.replies item
    (c.loop-position.invariant before start) c.loop-position.auto.answered (omega arith) c.if-answered-position.true)

pub loop-position-preserved : goal.loop-position-preserved
loop-position-preserved c = λ before start.
    let piece = c.args.piece.now in
    let i = c.loop-position.position-index in
    let item = get_or piece i (0, No) in
    let more : before ++ take (i + 1) piece ≡ (before ++ take i piece) ++ item ∷ [] =
    ap (λ p. before ++ p) (take_more piece i (0, No) c.loop-position-test.true) ∙ sym (append_assoc before (take i piece) (item ∷ [])) in
    rw more (IsPlaced-push (before ++ take i piece) c.loop-position.answered c.loop-position.replies item.0 item.1 (c.loop-position.invariant before start)
    (omega arith) c.if-position-answered.false
    (slice_get-get_or c.loop-position.answered item.0 false c.if-position-answered.false ∙ ap Some c.if-answered-position.false))

pub returns-clause-ok : goal.returns-clause-ok
returns-clause-ok c = λ before start.
    rw (← take_all c.loop-position.position-index c.args.piece.now c.loop-position-test.false) (c.loop-position.invariant before start)
