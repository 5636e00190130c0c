-- The listing is in the version that has this number.
use Rattle.ell_text.proofs.answer.write_answer.Goals as goal

pub returns : goal.returns
returns g c = rw c.numbered.ensures at c.write_listing.ensures
