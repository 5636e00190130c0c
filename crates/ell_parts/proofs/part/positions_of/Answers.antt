use Rattle.std.proofs.Common.{◌<◌, ◌++◌, ◌∷◌, ℕ, [], arith, get_or, length, ap, sym, ◌∙◌}
use Rattle.std.proofs.lemmas.List.{map-append}
use Rattle.ell_ops.specs.declared.op.Op.{Op}
use Rattle.ell_ops.specs.declared.op.Op.TheVariants.{Find}
use Rattle.ell_parts.specs.Made.{positions_in}
use Rattle.ell_parts.proofs.lemmas.Making.{all_dealt, dealt_so_far, other_more, own_more}
use Rattle.ell_parts.proofs.part.positions_of.Goals as goal
use Rattle.ell_parts.proofs.part.positions_of.Goals.{then-owner-worker+in_ok-push, else-owner-worker}

pub loop-at-preserved : goal.loop-at-preserved
loop-at-preserved g c ops same =
    let owners = c.args.owners.now in
    let worker = c.args.worker in
    let i = c.loop-at.at in
    let below : i < length owners = c.loop-at-test.true in
    let within : i < length ops = omega arith in
    elim c.if-owner-worker.branch [
      | then-owner-worker+in_ok-push w ↦
          ap (λ positions. positions.items) w.positions-is ∙ w.in_ok-push.ensures.items ∙ ap (λ l. l ++ i ∷ []) (c.loop-at.invariant ops same)
          ∙ sym (ap positions_in (own_more ops owners worker i (Find 0) within w.if-owner-worker.true)
          ∙ map-append (λ (item : ℕ × Op). item.0) (dealt_so_far ops owners worker i) ((i, get_or ops i (Find 0)) ∷ []))
      | else-owner-worker w ↦
          ap (λ positions. positions.items) w.positions-is ∙ c.loop-at.invariant ops same
          ∙ sym (ap positions_in (other_more ops owners worker i (Find 0) within w.if-owner-worker.false))
    ]

pub returns : goal.returns
returns g c ops same =
    c.loop-at.invariant ops same ∙ ap positions_in (all_dealt ops c.args.owners.now c.args.worker c.loop-at.at (let past = c.loop-at-test.false in omega arith))
