use Rattle.std.proofs.Common.{ap, ap₂, subst, ◌∙◌}
use Rattle.ell_ops.specs.Contents.{ListsPairs, contents_of}
use Rattle.ell_ops.specs.Meaning.{final, replies}
use Rattle.ell_run.specs.Pieces.{numbered}
use Rattle.ell_run.proofs.late.do_late.Goals as goal

pub returns-clause-piece : goal.returns-clause-piece
returns-clause-piece g c =
    c.in_ok-with_positions.ensures
    ∙ ap (numbered c.args.late.now)
    (c.deref-3.ensures.value ∙ c.in_ok-replies.ensures.replies
    ∙ ap₂ (λ pairs ops. replies (contents_of pairs) ops) c.deref.ensures.value (c.deref-2.ensures.value ∙ c.in_ok-ops.ensures))

pub returns-clause-pairs : goal.returns-clause-pairs
returns-clause-pairs g c =
    subst (λ there. ListsPairs there c.in_ok-replies.pairs.items)
    (ap₂ (λ pairs ops. final (contents_of pairs) ops) c.deref.ensures.value (c.deref-2.ensures.value ∙ c.in_ok-ops.ensures))
    c.in_ok-replies.ensures.pairs
