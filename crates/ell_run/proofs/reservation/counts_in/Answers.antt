use mir.Val.{bool_byte}
use Rattle.std.proofs.Common.{◌≡◌, ℕ, ◌+◌, ◌<◌, ◌≤◌, cond, not, get_or, length, take, ap, ap₂, sym, arith, refl, true, ◌∙◌}
use Rattle.ell_ops.specs.declared.op.Op.TheVariants.{Find}
use Rattle.ell_ops.specs.Contents.{contents_of, keys_in}
use Rattle.ell_ops.specs.Meaning.{key_of}
use Rattle.ell_parts.specs.PartedOps.{keys_of_part}
use Rattle.ell_run.specs.Reservation.{may_change}
use Rattle.ell_run.proofs.lemmas.SideBySide.{all_counted, all_keys_counted, few_counted, few_keys_counted, key_known, key_new, known_anew, known_on, one_added, one_counted, there_of}
use Rattle.ell_run.proofs.reservation.counts_in.Goals as goal
use Rattle.ell_run.proofs.reservation.counts_in.Goals.{then-ne, else-ne}

pub loop-op-preserved : goal.loop-op-preserved
loop-op-preserved c =
    let start = contents_of c.args.start.now in
    let part = c.args.part.now in
    let i = c.loop-op.op-index in
    let last = c.loop-op.last in
    let there = c.loop-op.there in
    let changes = c.loop-op.changes in
    let keys = c.loop-op.keys in
    let are = c.loop-op.invariant in
    let below : i < length part = c.loop-op-test.true in
    let op = (get_or part i (0, Find 0)).1 in
    let new = not (keys_of_part (take i part) (key_of op)) in
    let known : c.if-ne.there ≡ there_of start (take i part) (key_of op) = elim c.if-ne.branch [
      | then-ne w ↦ w.there-is ∙ w.is_there-there.ensures ∙ ap (keys_in start) w.key-then-ne.ensures
          ∙ known_anew start part i last there changes keys c.key.result (0, Find 0) below are c.key.ensures (sym c.ne.ensures ∙ w.if-ne.true)
      | else-ne w ↦ w.there-is ∙ known_on start part i last there changes keys c.key.result (0, Find 0) are c.key.ensures (sym c.ne.ensures ∙ w.if-ne.false)
    ] in
    let few : keys ≤ i = few_keys_counted start part i last there changes keys (omega arith) are in
    let counted : c.if-ne.keys ≡ keys + cond new 1 0 = elim c.if-ne.branch [
      | then-ne w ↦ w.keys-is ∙ one_added true keys 1 w.saturating_add-keys.result (omega (arith, c.well_formed)) refl w.saturating_add-keys.ensures
          ∙ ap (λ b. keys + cond (not b) 1 0) (sym (key_new start part i last there changes keys c.key.result (0, Find 0) below are c.key.ensures (sym c.ne.ensures ∙ w.if-ne.true)))
      | else-ne w ↦ w.keys-is ∙ (let none : keys ≡ keys + cond (not true) 1 0 = omega arith in none)
          ∙ ap (λ b. keys + cond (not b) 1 0) (sym (key_known start part i last there changes keys c.key.result (0, Find 0) are c.key.ensures (sym c.ne.ensures ∙ w.if-ne.false)))
    ] in
    let room : changes < 18446744073709551615 = omega (arith, few_counted start part i last there changes keys (omega arith) are, c.well_formed) in
    one_counted start part i last there c.if-ne.there c.there_after-there.result changes c.saturating_add-changes.result keys c.if-ne.keys
    c.key-in-loop-op.result (0, Find 0) c.requires.rounds below are known c.key-in-loop-op.ensures c.there_after-there.ensures
    (one_added (may_change op c.if-ne.there) changes c.from.result c.saturating_add-changes.result room (c.from.ensures ∙ ap bool_byte c.may_change.ensures) c.saturating_add-changes.ensures)
    counted

pub returns : goal.returns
returns c =
    let start = contents_of c.args.start.now in
    let are = c.loop-op.invariant in
    ap₂ {C = ℕ × ℕ} (λ changes keys. (changes, keys))
    (all_counted start c.args.part.now c.loop-op.op-index c.loop-op.last c.loop-op.there c.loop-op.changes c.loop-op.keys c.loop-op-test.false are)
    (all_keys_counted start c.args.part.now c.loop-op.op-index c.loop-op.last c.loop-op.there c.loop-op.changes c.loop-op.keys c.loop-op-test.false are)
