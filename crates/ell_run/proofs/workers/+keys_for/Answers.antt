use Rattle.std.proofs.Common.{◌/◌, length, arith}
use Rattle.ell_run.proofs.lemmas.Keys.{one_row, both_rows}
use Rattle.ell_run.proofs.workers.+keys_for.Goals as goal

pub returns-in_ok-from_slice-in-len1 : goal.returns-in_ok-from_slice-in-len1
returns-in_ok-from_slice-in-len1 g t c =
    one_row c.args.parts.now c.args.workers.now 0 c.keys.result.now c.in_ok-from_slice-in-len1.field-0.items
    (omega (arith, c.in-len1.len_at_least)) (omega (arith, c.in-len1.len_below)) c.keys.ensures c.in_ok-from_slice-in-len1.ensures.items

pub returns-in_ok-united_keys-in_default : goal.returns-in_ok-united_keys-in_default
returns-in_ok-united_keys-in_default g t c =
    both_rows c.args.parts.now (length c.args.workers.now / 2) c.args.workers.now c.split_at.result.0.now c.split_at.result.1.now
    c.in_ok-left-in_default.left.items c.in_ok-right-in_default.right.items c.deref.result.now c.deref-in_default.result.now
    c.in_ok-united_keys-in_default.field-0.items c.split_at.ensures.front c.split_at.ensures.back
    c.in_ok-left-in_default.ensures c.in_ok-right-in_default.ensures c.deref.ensures.value c.deref-in_default.ensures.value c.in_ok-united_keys-in_default.ensures
