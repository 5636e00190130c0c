use Rattle.std.proofs.Common.{length, ap, subst, w32}
use Rattle.std.proofs.lemmas.Int.{to_z-of_z}
use Rattle.elltree.specs.Texts.{WritesText}
use Rattle.elltree.proofs.texts.elltree_code_text.Goals as goal

-- the text that is written is that of the code
pub returns-clause-length : goal.returns-clause-length
returns-clause-length c = ap length (simp (to_z-of_z w32 c.args.code c.ranges.code) at c.text_of-text.ensures.text)

pub returns-clause-text : goal.returns-clause-text
returns-clause-text c =
    subst (λ text. WritesText text c.args.out.now c.write_text.new.out)
    (simp (to_z-of_z w32 c.args.code c.ranges.code) at c.text_of-text.ensures.text)
    c.write_text.ensures
