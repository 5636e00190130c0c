-- An arm's bytes, read one by one, are the word.
use Rattle.std.proofs.Common.{◌≡◌, refl, rules, arith, codes}
use Rattle.std.proofs.lemmas.Slice.Eq.{text_from_reads}
use Rattle.ell_text.proofs.replay_line.plain_act.Goals as goal

pub returns-in-down : goal.returns-in-down
returns-in-down c =
    let word : c.args.word.now ≡ codes "down" = text_from_reads _ _ (omega arith) (search rules) in
    rw word refl

pub returns-in-claim : goal.returns-in-claim
returns-in-claim c =
    let word : c.args.word.now ≡ codes "claim" = text_from_reads _ _ (omega arith) (search rules) in
    rw word refl

pub returns-in-iflag : goal.returns-in-iflag
returns-in-iflag c =
    let word : c.args.word.now ≡ codes "iflag" = text_from_reads _ _ (omega arith) (search rules) in
    rw word refl

pub returns-in-dflag : goal.returns-in-dflag
returns-in-dflag c =
    let word : c.args.word.now ≡ codes "dflag" = text_from_reads _ _ (omega arith) (search rules) in
    rw word refl

pub returns-in-again : goal.returns-in-again
returns-in-again c =
    let word : c.args.word.now ≡ codes "again" = text_from_reads _ _ (omega arith) (search rules) in
    rw word refl

pub returns-in-leave : goal.returns-in-leave
returns-in-leave c =
    let word : c.args.word.now ≡ codes "leave" = text_from_reads _ _ (omega arith) (search rules) in
    rw word refl

pub returns-in-answer : goal.returns-in-answer
returns-in-answer c =
    let word : c.args.word.now ≡ codes "answer" = text_from_reads _ _ (omega arith) (search rules) in
    rw word refl
