-- What was appended had no fault, so all still fits.
use Rattle.std.proofs.Common.{◌≡◌, None, subst, sym, rules}
use Rattle.ell_text.specs.Bulk.{BulkFits, bulk_value, fault_of_said}
use Rattle.ell_text.specs.Line.{LineFits}
use Rattle.ell_text.proofs.lemmas.Bulks.{fits_more, on_ok_with}
use Rattle.ell_text.proofs.bulk.Bulk.append_read.Goals as goal

pub returns-clause-fits : goal.returns-clause-fits
returns-clause-fits g c =
    let within : LineFits c.in-Ok-Some.said = search rules in
    let sound : fault_of_said c.args.number (bulk_value c.args.self.now) c.in-Ok-Some.said ≡ None = search rules in
    on_ok_with c.append.result c.map_err.result c.map_err.ensures.variant
    (λ is. subst BulkFits (sym is) (fits_more c.args.number (bulk_value c.args.self.now) c.in-Ok-Some.said c.requires.fits within sound))
    c.append.ensures.ok
