use Rattle.std.proofs.Common.{rules, tests, cond, arith}
use Rattle.std.proofs.lemmas.Iterator.{YieldsList-from_map, YieldsList-from_slice}
use Rattle.std.proofs.lemmas.Iterator.Consumers.{fits_by_from_yields_list}
use Rattle.std.proofs.lemmas.List.Sums.{count_by-le-length}
use Rattle.ell_run.specs.Reservation.{is_change}
use Rattle.ell_run.proofs.reservation.count_changes.Goals as goal

pub sum-requires-clause-fits : goal.sum-requires-clause-fits
sum-requires-clause-fits c =
    let ops = c.args.ops.now in
    fits_by_from_yields_list (λ op. cond (is_change op) 1 0) ops c.map.result _
    (YieldsList-from_map _ (λ op. cond (is_change op) 1 0) (YieldsList-from_slice ops cc) c.map.ensures.closure (λ x r q k. search (rules, tests)))
    (omega (arith, count_by-le-length is_change ops, c.well_formed))
