use Rattle.ell_ops.proofs.lemmas.Presence.{present_keys, replies_by_presence}
use Rattle.ell_ops.proofs.laws.last_writer.Goals as goal

pub returns-clause-maps : goal.returns-clause-maps
returns-clause-maps c = present_keys

pub returns-clause-replies : goal.returns-clause-replies
returns-clause-replies c = replies_by_presence
