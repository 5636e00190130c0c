use Rattle.std.proofs.Common.{◌≡◌, ◌<◌, [], length, arith}
use Rattle.ell_ops.specs.Contents.{contents_of}
use Rattle.ell_run.specs.Reservation.{counts_in}
use Rattle.ell_run.proofs.lemmas.Counts.{all_mapped}
use Rattle.ell_run.proofs.reservation.counts_in_threads.Goals as goal

pub returns : goal.returns
returns g c =
    let parts = c.args.parts.now.parts in
    let made = c.in_ok-map_indices.field-0 in
    let as_many : c.workers.result ≡ length parts = omega (arith, c.workers.ensures.value, c.workers.ensures.lawful.parts) in
    let count : length made.items ≡ length parts = omega (arith, made.ok, c.in_ok-map_indices.ensures.len) in
    all_mapped (counts_in (contents_of c.args.start.now)) parts made.items [] (0, 0) count
    (λ i below. let within : i < c.workers.result = omega arith in (c.in_ok-map_indices.ensures.each i (0, 0) within).1.met)
