use denote.RattleType.{RattleType}
use denote.Param.Send.{IsSend}
use Rattle.atomic_table.specs.declared.shared.TableRule.{Ghosts}
use denote.Builtin.{u64}
use Rattle.ell_arena.specs.contracts.shared.Shared.{the_row}
use Rattle.ell_arena.proofs.lemmas.Sent.{owns_keyless}

pub send : (V K P : RattleType) (g : Ghosts P.Denot u64.Denot V.Denot K.Denot) → IsSend (the_row V K P g)
send V K P g = record { owned = λ d vs. ((λ vss. (tt, ((λ uss. (tt, tt)), tt))), owns_keyless V.coded.code d.id (g.holds d.key)); leaving = λ k f vs. tt }
