use denote.RattleType.{RattleType}
use denote.Param.Send.{IsSync, sendable}
use Rattle.atomic_table.specs.declared.shared.TableRule.{Ghosts}
use denote.Builtin.{u64}
use denote.Struct.Struct.{Struct}
use denote.Struct.Owning.{shape}
use Rattle.ell_arena.specs.contracts.shared.Shared.{the_row, the_type}
use Rattle.ell_arena.proofs.lemmas.Sent.{shares_keyless}

pub sync : (V K P : RattleType) (g : Ghosts P.Denot u64.Denot V.Denot K.Denot) → IsSync (the_row V K P g)
sync V K P g = let fields : IsSync (Struct (shape (the_type V K P g))) = search sendable depth 20 in
    record { shared = λ d b o ν. (fields.shared (tt, tt) b o ν, shares_keyless V.coded.code d.id (g.holds d.key) ν) }
