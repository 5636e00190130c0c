-- The machine value of a base. Assumes `Logic`.
use Rattle.std.proofs.Common.{◌≡◌, T, List, [], ◌∷◌, ◌++◌, refl, ap, ◌∙◌, arith}
use seplogic.Ra.Ura.{Ura}
use mir.Syntax.{ty_ptr, ty_struct, tcons, tnil}
use mir.Val.{Val, vstruct, vcons, vnil, of_list, has_ty, WT}
use base.Logic.{ent, emp}
use types.Logic.{Logic, sem}
use denote.Laws.{Is}
use denote.RawPtr.{Ptr, block_ptr, null_ptr, ptr_val}
use denote.Shadow.{makes_shadow}
use denote.RattleType.{RattleType}
use denote.Struct.Struct.{Struct}
use denote.Struct.Owning.{shape}
use denote.Builtin.{u64}
use Rattle.std.specs.contracts.alloc.Global as heap
use Rattle.std.specs.contracts.impls.GlobalAllocator.TheImpl.{ghosts}
use Rattle.core.specs.declared.alloc.Allocator as Allocator
use Rattle.ell_arena.specs.contracts.block.Block as block
use Rattle.ell_arena.specs.contracts.shared.Base as place

abbrev pub place_val : Ptr → Val
place_val p = vstruct (vcons (ptr_val p) vnil)

pub place_good : (p : Ptr) → T (has_ty (ty_struct [] (tcons ty_ptr tnil)) (place_val p)) × WT (place_val p)
place_good (block_ptr b o) = (tt, (tt, tt))
place_good null_ptr = (tt, (record { fits = omega arith }, tt))

pub place_told : (x : place.the_row.Denot) (vs : List Val) → Is place.the_row x vs → vs ≡ place_val x.ptr ∷ []
place_told x vs is = is.1.0 ∙ ap (λ (ws : List Val). vstruct (of_list (ws ++ [])) ∷ []) is.1.1.0

pub place_made : {M : Type 1} {𝓤 : Ura M} (𝓛 : Logic 𝓤) (p : Ptr) → ent 𝓤 (emp 𝓤) (sem 𝓛 (place.the_row.own_val (record { ptr = p }) (place_val p ∷ [])))
place_made 𝓛 p = makes_shadow 𝓛 (place.the_row.own_val (record { ptr = p }) (place_val p ∷ [])) (λ vss. (tt, (tt, tt))) ((ptr_val p ∷ [], tt), (refl, (refl, tt)))

-- ---- a block of words, from Global
abbrev pub Words : RattleType
Words = block.the_row u64 heap.the_row ghosts

abbrev pub block_val : Ptr → Val
block_val p = vstruct (vcons (ptr_val p) (vcons (vstruct vnil) vnil))

pub block_good : (p : Ptr) → T (has_ty (ty_struct [] (tcons ty_ptr (tcons (ty_struct [] tnil) tnil))) (block_val p)) × WT (block_val p)
block_good (block_ptr b o) = (tt, (tt, (tt, tt)))
block_good null_ptr = (tt, (record { fits = omega arith }, (tt, tt)))

-- its fields alone, at any type and allocator
module _ (R Z : RattleType) (ga : Allocator.Ghosts Z.Denot) where
  abbrev pub AnyData : RattleType
  AnyData = Struct (shape (block.the_type R Z ga))

  pub any_told : (x : (block.the_row R Z ga).Denot) (vs : List Val) → Is (block.the_row R Z ga) x vs → vs ≡ block_val x.ptr ∷ []
  any_told x vs so = let is = so.0 in is.1.0 ∙ ap (λ (ws : List Val). vstruct (of_list (ws ++ (is.0.1.0 ++ []))) ∷ []) is.1.1.0 ∙ ap (λ (ws : List Val). vstruct (of_list (ptr_val x.ptr ∷ (ws ++ []))) ∷ []) is.1.1.1.0.1.0

  pub any_made : {M : Type 1} {𝓤 : Ura M} (𝓛 : Logic 𝓤) (p : Ptr) → ent 𝓤 (emp 𝓤) (sem 𝓛 (AnyData.own_val (p, (tt, tt)) (block_val p ∷ [])))
  any_made 𝓛 p = makes_shadow 𝓛 (AnyData.own_val (p, (tt, tt)) (block_val p ∷ [])) (λ vss. (tt, (tt, ((λ uss. (tt, tt)), tt)))) ((ptr_val p ∷ [], (vstruct vnil ∷ [], tt)), (refl, (refl, ((tt, (refl, tt)), tt))))

abbrev pub BlockData : RattleType
BlockData = AnyData u64 heap.the_row ghosts

pub block_told : (x : Words.Denot) (vs : List Val) → Is Words x vs → vs ≡ block_val x.ptr ∷ []
block_told = any_told u64 heap.the_row ghosts

pub block_made : {M : Type 1} {𝓤 : Ura M} (𝓛 : Logic 𝓤) (p : Ptr) → ent 𝓤 (emp 𝓤) (sem 𝓛 (BlockData.own_val (p, (tt, tt)) (block_val p ∷ [])))
block_made = any_made u64 heap.the_row ghosts
