use Rattle.std.proofs.Common.{◌≡◌, ◌<◌, ◌+◌, ◌++◌, ℕ, true, false, length, get_or, take, drop, arith, ap, sym, subst, ◌∙◌}
use Rattle.std.specs.List.{flat_map}
use Rattle.std.proofs.lemmas.Grind.{common_steps}
use Rattle.std.proofs.lemmas.List.{take_all}
use Rattle.ell_parts.specs.Gathering.{IsGathered, IsFault, IsPlaced}
use Rattle.ell_parts.specs.declared.gathering.GatherFault.TheVariants.{Missing}
use Rattle.std.proofs.lemmas.Result.{err_from_is_err_and}
use Rattle.ell_ops.proofs.lemmas.Places.{flat_map-take_more}
use Rattle.ell_parts.proofs.lemmas.Placings.{pieces-cut, take-written, is_missing, is_gathered}
use Rattle.ell_parts.proofs.gathering.gather.Goals as goal

pub returns-in_err-place-clause-fault : goal.returns-in_err-place-clause-fault
returns-in_err-place-clause-fault g c =
    let pieces = c.args.pieces.now in
    let i = c.loop-piece.piece-index in
    let before = flat_map (λ piece. piece.items) (take i pieces) in
    let after = flat_map (λ piece. piece.items) (drop (i + 1) pieces) in
    let placed : IsPlaced before c.deref_mut.result.now c.deref_mut-in-loop-piece.result.now =
    rw (c.deref_mut.ensures.value, c.deref_mut-in-loop-piece.ensures.value) c.loop-piece.invariant.placed in
    let count : length c.deref_mut.result.now ≡ c.args.n = ap length c.deref_mut.ensures.value ∙ c.loop-piece.invariant.answered in
    let piece : c.deref.result.now ≡ (get_or pieces i c.piece-item.result).items = c.deref.ensures.value ∙ ap (λ piece. piece.items) c.piece-item.is in
    let cut : before ++ c.deref.result.now ++ after ≡ flat_map (λ piece. piece.items) pieces =
    ap (λ p. before ++ p ++ after) piece ∙ sym (pieces-cut (λ piece. piece.items) pieces i c.piece-item.result c.loop-piece-test.true) in
    let fault : IsFault c.args.n (flat_map (λ piece. piece.items) pieces) c.in_err-place.field-0.0 =
    subst (λ n. IsFault n (flat_map (λ piece. piece.items) pieces) c.in_err-place.field-0.0) count
    (subst (λ items. IsFault (length c.deref_mut.result.now) items c.in_err-place.field-0.0) cut (c.in_err-place.ensures.err before after placed)) in
    let p = err_from_is_err_and c.from_residual-in_err-place.result c.from_residual-in_err-place.ensures.1 in
    rw (p.1, p.2) fault

pub loop-piece-preserved : goal.loop-piece-preserved
loop-piece-preserved g c =
    let pieces = c.args.pieces.now in
    let i = c.loop-piece.piece-index in
    let before = flat_map (λ piece. piece.items) (take i pieces) in
    let answered_count : length c.place.new.answered ≡ c.args.n = let e = c.loop-piece.invariant.answered in let h = ap length c.deref_mut.ensures.value in omega arith in
    let replies_count : length c.place.new.replies ≡ c.args.n = let e = c.loop-piece.invariant.replies in let h = ap length c.deref_mut-in-loop-piece.ensures.value in omega arith in
    let answered = take-written c.loop-piece.answered.len c.place.new.answered c.loop-piece.answered.items (omega arith) (omega arith) in
    let replies = take-written c.loop-piece.replies.len c.place.new.replies c.loop-piece.replies.items (omega arith) (omega arith) in
    let placed : IsPlaced before c.deref_mut.result.now c.deref_mut-in-loop-piece.result.now =
    rw (c.deref_mut.ensures.value, c.deref_mut-in-loop-piece.ensures.value) c.loop-piece.invariant.placed in
    let more : flat_map (λ piece. piece.items) (take (i + 1) pieces) ≡ before ++ c.deref.result.now =
    flat_map-take_more (λ piece. piece.items) pieces i c.piece-item.result c.loop-piece-test.true
    ∙ ap (λ p. before ++ p) (sym (c.deref.ensures.value ∙ ap (λ piece. piece.items) c.piece-item.is)) in
    rw (answered, replies, more) (record { answered = answered_count; replies = replies_count; placed = c.in_ok-place.ensures.ok before placed })

pub returns-in-Some-clause-fault : goal.returns-in-Some-clause-fault
returns-in-Some-clause-fault g c =
    let at = c.in-Some.at in
    let answered = c.loop-piece.answered.items in
    let count = c.loop-piece.invariant.answered in
    let below : at < length answered = grind (arith, common_steps) in
    let fresh : get_or answered at true ≡ false = grind (arith, common_steps) in
    let all : (k : ℕ) → k < at → get_or answered k false ≡ true = grind (arith, common_steps) in
    let pieces = c.args.pieces.now in
    subst (λ taken. IsFault c.args.n (flat_map (λ piece. piece.items) taken) (Missing at)) (take_all c.loop-piece.piece-index pieces c.loop-piece-test.false)
    (is_missing c.args.n (flat_map (λ piece. piece.items) (take c.loop-piece.piece-index pieces)) answered c.loop-piece.replies.items at c.loop-piece.invariant.placed count
    (omega arith) fresh all)

pub returns-clause-ok : goal.returns-clause-ok
returns-clause-ok g c =
    let answered = c.loop-piece.answered.items in
    let count = c.loop-piece.invariant.answered in
    let all : (k : ℕ) → k < length answered → get_or answered k false ≡ true = grind (arith, common_steps) in
    let pieces = c.args.pieces.now in
    subst (λ taken. IsGathered c.args.n (flat_map (λ piece. piece.items) taken) c.loop-piece.replies.items) (take_all c.loop-piece.piece-index pieces c.loop-piece-test.false)
    (is_gathered c.args.n (flat_map (λ piece. piece.items) (take c.loop-piece.piece-index pieces)) answered c.loop-piece.replies.items c.loop-piece.invariant.placed count
    c.loop-piece.invariant.replies (λ k below. all k (omega arith)))
