use Rattle.std.proofs.Common.{inl, inr, rules, arith}
use Rattle.ell_command.proofs.request.settings_in.Goals as goal

pub unwrap-requires : goal.unwrap-requires
unwrap-requires c =
    let workers = c.number_in.ensures.some 64 (omega arith) c.requires.workers in
    search rules

pub unwrap-requires-2 : goal.unwrap-requires-2
unwrap-requires-2 c =
    let tries = c.number_in-3.ensures.some 1000000 (omega arith) c.requires.tries in
    search rules

pub returns : goal.returns
returns c =
    let workers = c.number_in.ensures.some 64 (omega arith) c.requires.workers in
    let tries = c.number_in-3.ensures.some 1000000 (omega arith) c.requires.tries in
    elim c.requires.cards [
      | inl none ↦
          let gone = c.number_in-2.ensures.none none in
          record {
            ranges = record { workers = search rules; cards = search rules; tries = search rules };
            said = record { workers = search rules; parting = search rules; cards = search rules; tries = search rules };
          }
      | inr number ↦
          let cards = c.number_in-2.ensures.some 1000000 (omega arith) number in
          record {
            ranges = record { workers = search rules; cards = search rules; tries = search rules };
            said = record { workers = search rules; parting = search rules; cards = search rules; tries = search rules };
          }
    ]
