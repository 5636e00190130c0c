use Rattle.std.proofs.Common.{◌≡◌, ◌+◌, ◌/◌, ◌≤◌, max, min, arith, ap, ◌∙◌}
use Rattle.ell_run.specs.Reservation.{known_keys, lost, most_changes}
use Rattle.ell_run.proofs.lemmas.Counts.{cut_off, lost-cut_off, with_spare}
use Rattle.ell_run.proofs.reservation.cards_by_default.Goals as goal

pub returns-clause-value : goal.returns-clause-value
returns-clause-value g c =
    let count = most_changes c.args.start.now c.args.ops.now c.args.parts.now in
    let keys = known_keys c.args.ops.now c.args.parts.now in
    let changes = c.min-changes.result in
    let capped : changes ≡ min count 1000000 = c.min-changes.ensures ∙ ap (λ n. min n 1000000) c.in_ok-changes.ensures.changes ∙ cut_off count in
    let few : changes ≤ 1000000 = omega arith in
    let divisor : c.max.result ≡ max 8 (c.in_ok-changes.keys / 256) = omega (arith, c.max.ensures) in
    let spare : changes / c.max.result ≡ lost changes keys =
    ap (λ n. changes / n) divisor ∙ ap (lost changes) c.in_ok-changes.ensures.keys ∙ lost-cut_off changes keys few in
    c.min.ensures ∙ ap (λ n. min (changes + n + 64) 1000000) spare ∙ ap (λ n. min (n + lost n keys + 64) 1000000) capped
    ∙ with_spare count (max 8 (keys / 256))
