use Rattle.std.proofs.Common.{◌%◌, ◌-◌, false, inr, ap, arith, slice_index_or}
use Rattle.ell_runs.specs.declared.glance.Glance.{Glance}
use Rattle.ell_tree.proofs.cursor.Cursor.start.Goals as goal

pub returns-then-key-kept-clause-among : goal.returns-then-key-kept-clause-among
returns-then-key-kept-clause-among c =
    let l = c.loop-self in
    let i = (l.self.count - 1) % 32 in
    let nowhere : Glance = record { node = 0; low = 0; high = 0; whole = false } in
    inr (i, omega arith, ap (λ gs. slice_index_or gs i nowhere) l.invariant.1)
