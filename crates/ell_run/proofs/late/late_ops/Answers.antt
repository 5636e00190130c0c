use Rattle.std.proofs.Common.{◌≡◌, ◌<◌, ◌++◌, ◌∷◌, true, false, [], All, length, get_or, ap, sym, subst, ◌∙◌}
use Rattle.std.specs.List.{flat_map}
use Rattle.ell_ops.specs.declared.op.Op.TheVariants.{Find}
use Rattle.ell_run.specs.Late.{late_ops}
use Rattle.ell_run.proofs.lemmas.Marks.{late_taken, late_left, late_whole}
use Rattle.ell_run.proofs.lemmas.Leftovers.{all_within, nothing_late, one_each}
use Rattle.ell_run.proofs.late.late_ops.Goals.{then-not-index+in_ok-push, else-not-index}
use Rattle.ell_run.proofs.late.late_ops.Goals as goal

pub loop-at-preserved : goal.loop-at-preserved
loop-at-preserved g c =
    let ops = c.args.ops.now in
    let items = flat_map (λ piece. piece.items) c.args.pieces.now in
    let marks = c.in_ok-answered.answered.items in
    let i = c.loop-at.at in
    let here = c.index.ensures in
    elim c.if-not-index.branch [
      | then-not-index+in_ok-push w ↦
          let unmarked : c.index.result.now ≡ false = w.if-not-index.true in
          ap (λ late. late.items) w.late-is ∙ w.in_ok-push.ensures.items
          ∙ sym (late_left ops items marks i (Find 0) c.index.result.now c.in_ok-answered.ensures.marks c.in_ok-answered.ensures.count c.loop-at-test.true here unmarked
          ∙ ap (λ late. late ++ (i, get_or ops i (Find 0)) ∷ []) (sym c.loop-at.invariant))
      | else-not-index w ↦
          let marked : c.index.result.now ≡ true = w.if-not-index.false in
          ap (λ late. late.items) w.late-is ∙ c.loop-at.invariant
          ∙ sym (late_taken ops items marks i (Find 0) c.index.result.now c.in_ok-answered.ensures.marks c.in_ok-answered.ensures.count c.loop-at-test.true here marked)
    ]

pub is_all_done-requires : goal.is_all_done-requires
is_all_done-requires g c = one_each (λ piece. piece.items) c.requires.pieces.0 c.args.parts.now c.args.pieces.now c.requires.pieces.1

pub returns-then-is_all_done : goal.returns-then-is_all_done
returns-then-is_all_done g c =
    c.new-late.ensures.items
    ∙ nothing_late (λ piece. piece.items) c.requires.pieces.0 c.args.parts.now c.args.pieces.now c.requires.pieces.1 c.is_all_done.ensures.lawful (c.is_all_done.ensures.done c.if-is_all_done.true)
    ∙ ap (λ ops. late_ops ops (flat_map (λ piece. piece.items) c.args.pieces.now)) c.requires.parted

pub answered-requires : goal.answered-requires
answered-requires g c =
    subst (λ ops. All (λ piece. All (λ item. item.0 < length ops) piece.items) c.args.pieces.now) c.requires.parted
    (all_within (λ piece. piece.items) c.requires.pieces.0 c.args.parts.now c.args.pieces.now c.requires.pieces.1 c.is_all_done.ensures.lawful)

pub returns : goal.returns
returns g c = c.loop-at.invariant ∙ late_whole c.args.ops.now (flat_map (λ piece. piece.items) c.args.pieces.now) c.loop-at.at c.loop-at-test.false
