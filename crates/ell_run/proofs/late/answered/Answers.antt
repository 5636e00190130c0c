use Rattle.std.proofs.Common.{◌≡◌, ◌<◌, ◌+◌, ◌++◌, All, false, replicate, rules, length, get_or, take, arith, ap, sym, subst, ◌∙◌}
use Rattle.std.specs.List.{flat_map}
use Rattle.std.proofs.lemmas.List.{length-replicate, take_all}
use Rattle.ell_ops.proofs.lemmas.Places.{flat_map-take_more}
use Rattle.ell_parts.proofs.lemmas.Placings.{take-written}
use Rattle.ell_run.specs.Late.{AreMarks}
use Rattle.ell_run.proofs.lemmas.Marks.{marks_none}
use Rattle.ell_run.proofs.late.answered.Goals as goal

pub loop-piece-init : goal.loop-piece-init
loop-piece-init g c =
    let fresh : c.in_ok-answered.answered.items ≡ replicate c.args.n false = search rules in
    rw fresh (record { count = length-replicate c.args.n false; marks = marks_none c.args.n })

pub mark-requires : goal.mark-requires
mark-requires g c =
    let pieces = c.args.pieces.now in
    let i = c.loop-piece.piece-index in
    let piece : c.deref.result.now ≡ (get_or pieces i c.piece-item.result).items = c.deref.ensures.value ∙ ap (λ piece. piece.items) c.piece-item.is in
    let count : length c.deref_mut.result.now ≡ c.args.n = ap length c.deref_mut.ensures.value ∙ c.loop-piece.invariant.count in
    subst (λ m. All (λ item. item.0 < m) c.deref.result.now) (sym count)
    (subst (All (λ item. item.0 < c.args.n)) (sym piece) (c.requires i c.piece-item.result c.loop-piece-test.true))

pub loop-piece-preserved : goal.loop-piece-preserved
loop-piece-preserved g c =
    let pieces = c.args.pieces.now in
    let i = c.loop-piece.piece-index in
    let before = flat_map (λ piece. piece.items) (take i pieces) in
    let same = c.loop-piece.invariant.count in
    let count : length c.mark.new.answered ≡ c.args.n = (let h = ap length c.deref_mut.ensures.value in omega arith) in
    let written = take-written c.loop-piece.answered.len c.mark.new.answered c.loop-piece.answered.items (omega arith) (omega arith) in
    let more : flat_map (λ piece. piece.items) (take (i + 1) pieces) ≡ before ++ c.deref.result.now =
    flat_map-take_more (λ piece. piece.items) pieces i c.piece-item.result c.loop-piece-test.true
    ∙ ap (λ p. before ++ p) (sym (c.deref.ensures.value ∙ ap (λ piece. piece.items) c.piece-item.is)) in
    rw (written, more) (record {
      count = count;
      marks = c.mark.ensures before (subst (AreMarks before) (sym c.deref_mut.ensures.value) c.loop-piece.invariant.marks);
    })

pub returns-clause-marks : goal.returns-clause-marks
returns-clause-marks g c =
    subst (λ taken. AreMarks (flat_map (λ piece. piece.items) taken) c.loop-piece.answered.items)
    (take_all c.loop-piece.piece-index c.args.pieces.now c.loop-piece-test.false) c.loop-piece.invariant.marks
