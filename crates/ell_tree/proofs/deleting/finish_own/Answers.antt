use Rattle.ell_tree.proofs.lemmas.Meeting.{up_to_end}
use Rattle.ell_tree.proofs.deleting.finish_own.Goals as goal

-- the chain behind another delete's flag has ended
pub returns-in-Behind-clause-meets : goal.returns-in-Behind-clause-meets
returns-in-Behind-clause-meets g c =
    up_to_end c.in-Behind.next.card c.args.pass.now.view c.finish_delete.new.pass.view c.help_delete.new.pass.view c.in-Behind.ensures.1
    c.help_delete.ensures.meets c.help_delete.ensures.ended
