use denote.RattleType.{RattleType}
use denote.Param.Send.{IsSend}
use Rattle.ell_arena.specs.contracts.shared.Seat.{the_row}
use Rattle.ell_arena.proofs.lemmas.Sent.{seat_keyless}

pub send : (V : RattleType) → IsSend (the_row V)
send V = record { owned = λ d vs. ((λ vss. (tt, ((λ uss. (tt, tt)), tt))), seat_keyless V.coded.code d.words d.id d.me); leaving = λ k f vs. tt }
