use Rattle.std.proofs.Common.{rules, arith}
use Rattle.ell_cards.proofs.lemmas.whole.Words.{some_announcements}
use Rattle.ell_cards.proofs.table.CardTable.scan.Goals as goal

-- a table whose cards come back has one, so there is one to look at first
pub loop-announcement-init : goal.loop-announcement-init
loop-announcement-init g c =
    let some = some_announcements _ _ c.self.view_is c.self.invariant.words c.self.invariant.fit c.args.slots c.requires.seat.slots in record {
      leaves = search rules;
      still = search rules;
      retired = search rules;
      looked = search rules;
      least = search rules;
      unsettled = search rules;
      epoch = search rules;
      later = search rules;
      since = search rules;
      low = search rules;
      surveyed = λ none. absurd (omega arith);
      safe_epoch = λ none. absurd (omega arith);
    }
