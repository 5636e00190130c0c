-- An arm's bytes, read one by one, are the word.
use Rattle.std.proofs.Common.{◌≡◌, rules, arith, codes}
use Rattle.std.proofs.lemmas.Slice.Eq.{text_from_reads}
use Rattle.ell_text.proofs.replay_line.act_on.Goals as goal

pub returns-in-ichild : goal.returns-in-ichild
returns-in-ichild c =
    let word : c.args.word.now ≡ codes "ichild" = text_from_reads _ _ (omega arith) (search rules) in
    rw word (search rules)

pub returns-in-iunflag : goal.returns-in-iunflag
returns-in-iunflag c =
    let word : c.args.word.now ≡ codes "iunflag" = text_from_reads _ _ (omega arith) (search rules) in
    rw word (search rules)

pub returns-in-dchild : goal.returns-in-dchild
returns-in-dchild c =
    let word : c.args.word.now ≡ codes "dchild" = text_from_reads _ _ (omega arith) (search rules) in
    rw word (search rules)

pub returns-in-dunflag : goal.returns-in-dunflag
returns-in-dunflag c =
    let word : c.args.word.now ≡ codes "dunflag" = text_from_reads _ _ (omega arith) (search rules) in
    rw word (search rules)

pub returns-in-backtrack : goal.returns-in-backtrack
returns-in-backtrack c =
    let word : c.args.word.now ≡ codes "backtrack" = text_from_reads _ _ (omega arith) (search rules) in
    rw word (search rules)
