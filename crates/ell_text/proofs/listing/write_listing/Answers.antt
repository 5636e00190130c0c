use Rattle.ell_text.proofs.lemmas.Putting.{IsWritten-flushed}
use Rattle.ell_text.proofs.listing.write_listing.Goals as goal

pub returns : goal.returns
returns g c =
    let empty = c.new-output.ensures in IsWritten-flushed c.flush.result empty.waiting empty.written c.in_ok-put_listing.ensures.ok c.flush.ensures.put c.flush.ensures.empty
