-- A `&` to the words holds what can be had twice. Assumes `Logic`.
use Rattle.std.proofs.Common.{ℕ}
use denote.RawPtr.{RawPtr}
use denote.RattleType.{RattleType}
use denote.Param.Laws.{Laws}
use denote.Param.Shared.{copy_shared}
use denote.Struct.Laws.{field_copy}
use denote.Struct.Lending.{of_Lends}
use Rattle.core.specs.contracts.marker.PhantomData as P
use Rattle.atomic_table.specs.declared.shared.TableRule.{Ghosts}
use Rattle.ell_arena.specs.contracts.shared.Shared as C
use Rattle.ell_arena.proofs.shared.Shared.TheLaw.Statement.{statement}
use Rattle.ell_arena.proofs.lemmas.Shown.{shown_laws, lends_shown}

pub shares : (U X Y : RattleType) (g : Ghosts Y.Denot ℕ U.Denot X.Denot) (L₁ : Laws U) (L₂ : Laws X) (L₃ : Laws Y) → statement U X Y g L₁ L₂ L₃
shares U X Y g L₁ L₂ L₃ = let All = RawPtr in
    of_Lends (C.struct U X Y g) (C.the_codes U.Denot X.Denot Y.Denot U.coded X.coded Y.coded (P.the_row All).coded) (C.the_heap U X Y g) (C.the_lent U X Y g)
    (λ d p. shown_laws U.coded d.id (g.holds d.key))
    (copy_shared (P.the_field All) (field_copy (P.the_type All) tt), tt)
    (λ M 𝓤 𝓛 d p. lends_shown U.coded d.id (g.holds d.key) 𝓛 (C.the_row U X Y g).lives)
