use Rattle.std.proofs.Common.{length, map, arith, ap, sym, subst, ◌∙◌}
use Rattle.std.specs.List.{flat_map}
use Rattle.ell_ops.specs.Contents.{ListsPairs, contents_of}
use Rattle.ell_ops.specs.Meaning.{final, replies}
use Rattle.ell_parts.specs.Gathering.{IsFault, IsGathered}
use Rattle.ell_run.specs.ByParts.{ops_in}
use Rattle.ell_run.specs.Late.{late_ops}
use Rattle.ell_run.specs.Pieces.{ArePieces, all_workers, piece_from}
use Rattle.ell_run.proofs.lemmas.Leftovers.{all_answer, few_late, flat_map-seen, last_map, late_here}
use Rattle.ell_run.proofs.lemmas.Replies.{AreAnswers, only_memory, gathered}
use Rattle.ell_run.proofs.runs.finish.Goals as goal

pub late_ops-requires-clause-pieces : goal.late_ops-requires-clause-pieces
late_ops-requires-clause-pieces g c =
    let start = c.requires.left.0 in
    let left = c.requires.left.1 in (
      start,
      subst (λ pieces. ArePieces start c.args.parts.now (all_workers c.args.parts.now) (map (λ piece. piece.items) pieces)) (sym c.deref.ensures.value) left.told,
    )

pub only_memory-requires : goal.only_memory-requires
only_memory-requires g c =
    let start = c.requires.left.0 in
    let left = c.requires.left.1 in
    let parting = c.args.parts.now in
    let late = late_here (λ piece. piece.items) parting c.args.ops.now c.args.pieces.items c.deref.result.now c.in_ok-late.late.items
    c.requires.parted c.deref.ensures.value c.in_ok-late.ensures in
    let piece = c.in_ok-piece.ensures.piece ∙ ap (piece_from (contents_of c.args.pairs.items)) c.deref-2.ensures.value in
    let items = flat_map (λ piece. piece.items) c.deref-3.result.now in
    let answers : AreAnswers start parting.ops items =
    subst (λ pieces. AreAnswers start parting.ops (flat_map (λ piece. piece.items) pieces)) (sym (c.deref-3.ensures.value ∙ c.in_ok-push.ensures.items))
    (all_answer (λ piece. piece.items) start parting c.args.pieces.items left.told c.len.ensures.lawful c.args.pairs.items left.listed
    c.in_ok-late.late.items late c.in_ok-piece.piece piece) in
    only_memory start parting.ops items answers c.in-Err.fault (subst (λ n. IsFault n items c.in-Err.fault) c.len.ensures.value c.in-Err.ensures.fault)

pub returns-clause-outcome : goal.returns-clause-outcome
returns-clause-outcome g c = λ start left.
    let parting = c.args.parts.now in
    let late = late_here (λ piece. piece.items) parting c.args.ops.now c.args.pieces.items c.deref.result.now c.in_ok-late.late.items
    c.requires.parted c.deref.ensures.value c.in_ok-late.ensures in
    let piece = c.in_ok-piece.ensures.piece ∙ ap (piece_from (contents_of c.args.pairs.items)) c.deref-2.ensures.value in
    let items = flat_map (λ piece. piece.items) c.deref-3.result.now in
    let answers : AreAnswers start parting.ops items =
    subst (λ pieces. AreAnswers start parting.ops (flat_map (λ piece. piece.items) pieces)) (sym (c.deref-3.ensures.value ∙ c.in_ok-push.ensures.items))
    (all_answer (λ piece. piece.items) start parting c.args.pieces.items left.told c.len.ensures.lawful c.args.pairs.items left.listed
    c.in_ok-late.late.items late c.in_ok-piece.piece piece) in record {
      answer = record {
        told =
            gathered start parting.ops items answers c.in-Ok.replies.items (subst (λ n. IsGathered n items c.in-Ok.replies.items) c.len.ensures.value c.in-Ok.ensures.ok)
            ∙ ap (replies start) c.requires.parted;
        listed =
            subst (λ there. ListsPairs there c.in_ok-piece.pairs.items)
            (ap (λ items. final (contents_of c.args.pairs.items) (ops_in items)) c.deref-2.ensures.value
            ∙ last_map (λ piece. piece.items) start parting c.args.pieces.items left.told c.len.ensures.lawful c.args.pairs.items left.listed
            c.in_ok-late.late.items late
            ∙ ap (final start) c.requires.parted)
            c.in_ok-piece.ensures.pairs;
      };
      few =
          let same = ap length c.in_ok-late.ensures in
          let value = c.len-2.ensures in
          omega (arith, few_late c.args.ops.now (flat_map (λ piece. piece.items) c.deref.result.now));
      late = record {
        pieces = map (λ piece. piece.items) c.args.pieces.items;
        told = left.told;
        count =
            let same = ap length (late ∙ ap (late_ops parting.ops) (flat_map-seen (λ piece. piece.items) c.args.pieces.items)) in
            let value = c.len-2.ensures in
            omega arith;
      };
    }

pub returns-clause-count : goal.returns-clause-count
returns-clause-count g c =
    let same = ap length (late_here (λ piece. piece.items) c.args.parts.now c.args.ops.now c.args.pieces.items c.deref.result.now c.in_ok-late.late.items
    c.requires.parted c.deref.ensures.value c.in_ok-late.ensures) in
    let value = c.len-2.ensures in
    omega arith
