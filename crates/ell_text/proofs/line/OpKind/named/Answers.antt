-- An arm's bytes, read one by one, are the name.
use Rattle.std.proofs.Common.{◌≡◌, refl, rules, arith, codes}
use Rattle.std.proofs.lemmas.Slice.Eq.{text_from_reads}
use Rattle.ell_text.proofs.line.OpKind.named.Goals as goal

pub returns-in-insert : goal.returns-in-insert
returns-in-insert c =
    let name : c.args.name.now ≡ codes "insert" = text_from_reads _ _ (omega arith) (search rules) in
    rw name refl

pub returns-in-delete : goal.returns-in-delete
returns-in-delete c =
    let name : c.args.name.now ≡ codes "delete" = text_from_reads _ _ (omega arith) (search rules) in
    rw name refl
