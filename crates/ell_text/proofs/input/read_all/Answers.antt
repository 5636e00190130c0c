-- A read adds what it gave to what was given.
use Rattle.ell_text.proofs.lemmas.Reading.{given_more}
use Rattle.ell_text.proofs.input.read_all.Goals as goal

pub loop-filled-preserved : goal.loop-filled-preserved
loop-filled-preserved g c =
    let read = c.in_ok-count.ensures in
    record {
      filled = read.fits;
      within = read.within;
      given = given_more _ _ _ c.loop-filled.bytes.items c.read_more.new.bytes.items c.loop-filled.filled c.in_ok-count.count read.read.front c.loop-filled.invariant.given read.read.ok;
    }
