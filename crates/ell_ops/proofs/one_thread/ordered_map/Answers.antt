use Rattle.std.proofs.Common.{take, get_or, ap, sym, ◌∙◌}
use Rattle.std.proofs.lemmas.List.{take_more}
use Rattle.ell_ops.specs.Contents.{contents_of, with_pair}
use Rattle.ell_ops.proofs.lemmas.Pairs.{contents_of-push}
use Rattle.ell_ops.proofs.one_thread.ordered_map.Goals as goal

pub loop-key-preserved : goal.loop-key-preserved
loop-key-preserved g c =
    let i = c.loop-key.key-index in
    let pairs = c.args.pairs.now in
    let e = get_or pairs i (0, 0) in
    c.in_ok-insert.ensures.after ∙ ap (λ there. with_pair there e.0 e.1) c.loop-key.invariant
    ∙ sym (contents_of-push (take i pairs) e) ∙ ap contents_of (sym (take_more pairs i (0, 0) c.loop-key-test.true))
