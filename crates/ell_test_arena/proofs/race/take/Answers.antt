use Rattle.std.proofs.Common.{◌≡◌, ◌+◌, ◌-◌, ◌<◌, ◌≤◌, refl, arith}
use Rattle.ell_test_arena.proofs.lemmas.Pairs.{take_allowed}
use Rattle.ell_test_arena.proofs.race.take.Goals as goal

pub compare_exchange-requires-clause-rule : goal.compare_exchange-requires-clause-rule
compare_exchange-requires-clause-rule c = let sized = c.requires.0 in let key = c.args.words.now.shared.key in let mark = c.load-mark.result in
    let same : key ≡ c.args.words.now.shared.id.count = sized.0 in let two : 2 ≤ c.args.words.now.shared.id.count = sized.1 in
    let long : c.len.result ≡ c.args.words.now.shared.id.count = c.len.ensures in let low : mark < c.len.result - 1 = c.if-mark-len.false in
    take_allowed key c.load-mark.new.seat.id c.load-mark.new.seat.me mark (mark + 2) refl (omega arith)
