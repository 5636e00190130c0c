use Rattle.std.proofs.Common.{◌≡◌, ◌<◌, ◌+◌, ◌++◌, ◌∷◌, [], length, get_or, take, arith, ap, sym, ◌∙◌, append_assoc}
use Rattle.std.proofs.lemmas.List.{take_more, take_all, append-nil}
use Rattle.ell_run.proofs.lemmas.Marks.{marks_more}
use Rattle.ell_run.proofs.late.mark.Goals as goal
use Rattle.ell_ops.specs.declared.reply.Reply.TheVariants.{No}

pub loop-position-init : goal.loop-position-init
loop-position-init c = λ items start. rw (append-nil items) start

pub loop-position-preserved : goal.loop-position-preserved
loop-position-preserved c = λ items start.
    let piece = c.args.piece.now in
    let i = c.loop-position.position-index in
    let item = get_or piece i (0, No) in
    let more : items ++ take (i + 1) piece ≡ (items ++ take i piece) ++ item ∷ [] =
    ap (λ p. items ++ p) (take_more piece i (0, No) c.loop-position-test.true) ∙ sym (append_assoc items (take i piece) (item ∷ [])) in
    let bound : item.0 < length c.args.answered.now = c.requires i (0, No) c.loop-position-test.true in
    let same = c.loop-position.auto.answered in
    rw more (marks_more (items ++ take i piece) c.loop-position.answered item (c.loop-position.invariant items start) (omega arith))

pub returns : goal.returns
returns c = λ items start.
    rw (← take_all c.loop-position.position-index c.args.piece.now c.loop-position-test.false) (c.loop-position.invariant items start)
