-- Zeros, the claim word and the fields of card 0 begin the words, and each card's fields make them grow.
use Rattle.std.proofs.Common.{◌<◌, ◌+◌, length, sym, ap, ◌∙◌, length-set, arith}
use Rattle.std.proofs.lemmas.List.{length-replicate}
use Rattle.ell_layout.specs.Layout.{table_size}
use Rattle.ell_layout.specs.Words.{Words, words_of}
use Rattle.ell_layout.specs.Cards.{table_filled}
use Rattle.ell_layout.specs.declared.branch.Branch.{Branch}
use Rattle.ell_layout.specs.Branches.{branch_of}
use Rattle.ell_layout.specs.Start.{start_leaf, start_value, branch_filling, words_at_start}
use Rattle.ell_layout.proofs.lemmas.Branches.{branch_card, branch_holds, branch_within, cards_within}
use Rattle.ell_layout.proofs.lemmas.Listed.{flat_written}
use Rattle.ell_layout.proofs.lemmas.Growing.{begins, grows, grown_up}
use Rattle.ell_layout.proofs.start.write_opening.Goals as goal

pub loop-card-init : goal.loop-card-init
loop-card-init c =
    c.write_fields.ensures
    ∙ begins c.args.words.now c.args.start.now (table_size c.args.last) c.left_child.result c.right_leaf_of.result c.update_word.result c.requires.zeros
    (omega arith) c.left_child.ensures c.right_leaf_of.ensures c.update_word.ensures

pub write_branch-requires-clause-inside : goal.write_branch-requires-clause-inside
write_branch-requires-clause-inside c =
    let leaves = length c.args.start.now + 1 in
    let below : c.loop-card.card < length c.args.start.now + 1 = omega arith in
    let is = ap (λ (b : Branch). b.card) c.branch_of.ensures ∙ branch_card (length c.args.start.now + 1) (omega arith) c.loop-card.card below in
    let size = ap length c.requires.zeros ∙ length-replicate (table_size c.args.last) 0 in
    let set = length-set c.args.words.now 0 (length c.args.start.now + 1) in
    let filled = c.write_fields.auto.words in
    let same = c.loop-card.auto.words in
    let room = c.requires.room in
    omega arith

pub write_branch-requires-clause-leaves : goal.write_branch-requires-clause-leaves
write_branch-requires-clause-leaves c =
    let below : c.loop-card.card < length c.args.start.now + 1 = omega arith in
    let first = ap (λ (b : Branch). b.first) c.branch_of.ensures in
    let left = ap (λ (b : Branch). b.left) c.branch_of.ensures in
    let within = branch_within (length c.args.start.now + 1) (omega arith) c.loop-card.card below in
    let some = (branch_holds (length c.args.start.now + 1) (omega arith) c.loop-card.card below).some_right in
    omega arith

pub write_branch-requires-clause-most : goal.write_branch-requires-clause-most
write_branch-requires-clause-most c =
    let below : c.loop-card.card < length c.args.start.now + 1 = omega arith in
    let is = ap (λ (b : Branch). b.card) c.branch_of.ensures ∙ branch_card (length c.args.start.now + 1) (omega arith) c.loop-card.card below in
    let left = ap (λ (b : Branch). b.left) c.branch_of.ensures in
    let within = cards_within (length c.args.start.now + 1) (omega arith) c.loop-card.card below in
    let some = (branch_holds (length c.args.start.now + 1) (omega arith) c.loop-card.card below).some_right in
    let room = c.requires.room in
    let few = c.requires.few in
    omega arith

pub write_branch-requires-clause-card : goal.write_branch-requires-clause-card
write_branch-requires-clause-card c =
    let below : c.loop-card.card < length c.args.start.now + 1 = omega arith in
    let is = ap (λ (b : Branch). b.card) c.branch_of.ensures ∙ branch_card (length c.args.start.now + 1) (omega arith) c.loop-card.card below in
    let room = c.requires.room in
    let few = c.requires.few in
    omega arith

pub loop-card-preserved : goal.loop-card-preserved
loop-card-preserved c =
    let below : c.loop-card.card < length c.args.start.now + 1 = omega arith in
    let some : 0 < c.loop-card.card = omega arith in
    let few = c.requires.few in
    grows c.args.start.now c.loop-card.card (words_of c.loop-card.words) (words_of c.write_branch.new.words) some (omega arith) few c.loop-card.invariant
    (c.write_branch.ensures
    ∙ (ap (λ (b : Branch). table_filled (words_of c.loop-card.words) b.card (branch_filling (start_leaf c.args.start.now) (start_value c.args.start.now) b)) c.branch_of.ensures
    ∙ ap (λ n. table_filled (words_of c.loop-card.words) n
    (branch_filling (start_leaf c.args.start.now) (start_value c.args.start.now) (branch_of (length c.args.start.now + 1) c.loop-card.card)))
    (branch_card (length c.args.start.now + 1) (omega arith) c.loop-card.card below)))

pub returns-else-flat : goal.returns-else-flat
returns-else-flat c =
    (c.loop-card.invariant ∙ grown_up c.args.start.now c.loop-card.card (omega arith))
    ∙ ap (λ flat. words_at_start flat c.args.start.now) (sym c.if-flat.false)

pub returns-then-flat : goal.returns-then-flat
returns-then-flat c =
    let size = ap length c.requires.zeros ∙ length-replicate (table_size c.args.last) 0 in
    let set = length-set c.args.words.now 0 (length c.args.start.now + 1) in
    let filled = c.write_fields.auto.words in
    let same = c.loop-card.auto.words in
    flat_written c.loop-card.words (length c.args.start.now + 1) (omega arith)
    ∙ (ap (λ (w : Words). record w { flat_from = length c.args.start.now + 1 }) (c.loop-card.invariant ∙ grown_up c.args.start.now c.loop-card.card (omega arith))
    ∙ ap (λ flat. words_at_start flat c.args.start.now) (sym c.if-flat.true))
