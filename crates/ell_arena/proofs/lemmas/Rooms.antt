-- Room that becomes a block, one value more in it, and its room again. Assumes `Logic`.
use Rattle.std.proofs.Common.{◌≡◌, ℕ, suc, ◌+◌, ◌*◌, ◌^◌, ◌<◌, ◌≤◌, List, [], ◌∷◌, ◌++◌, length, sym, refl, ap, ◌∙◌, subst, arith, suc-mul, zero-mul, length-append, mul-le-mul_right}
use seplogic.Ra.Ura.{Ura}
use mir.Syntax.{Ty, ty_array}
use mir.Raw.{raw as bare}
use base.Fraction.{full_share}
use base.Logic.{SProp, ent, sep, wand, all, guard}
use base.Fml.{Fml, ftrue, froom}
use prog.Memory.{size, align, capped}
use prog.RawLaws.{size-raw, align-raw}
use prog.Capped.{capped_is}
use types.Logic.{Logic, sem}
use types.Kit.{‵, ◌⊛◌, ◌$◌, ◌∵◌, !, qed, by, move, keep, drop, split, fsplit, fsplit3, fjoin, fjoin3, fpick, fpack, check, frame, each, assume, use1, use2, rewrite, done}
use types.SemTy.{cells}
use denote.RattleType.{RattleType}
use denote.Memory.{mem, lone, part_at}
use denote.RawPtr.{Ptr, block_ptr, block_of, count_of, InBlock}
use denote.Steps.{nothing}
use Rattle.ell_arena.specs.Blocks.{block_ty, Fits, block_owns}

pub block_size : (R : RattleType) (n : ℕ) → n * size (lone R.mir) < 2 ^ 64 → capped (size (block_ty R n)) ≡ n * size (lone R.mir)
block_size R n small = ap capped (size-raw (ty_array (lone R.mir) n)) ∙ capped_is (n * size (lone R.mir)) small

pub block_align : (R : RattleType) (n : ℕ) → capped (align (block_ty R n)) ≡ capped (align (lone R.mir))
block_align R n = ap capped (align-raw (ty_array (lone R.mir) n))

module _ {M : Type 1} {𝓤 : Ura M} (𝓛 : Logic 𝓤) (R : RattleType) (token : Ty → Ptr → Fml) where
  open 𝓛 use {H}

  abbrev ◌⊢◌ : SProp 𝓤 → SProp 𝓤 → Type 1
  P ⊢ Q = ent 𝓤 P Q

  abbrev ◌∗◌ : SProp 𝓤 → SProp 𝓤 → SProp 𝓤
  P ∗ Q = sep 𝓤 P Q

  abbrev ⟦◌⟧ : Fml → SProp 𝓤
  ⟦ P ⟧ = sem 𝓛 P

  infix 26 ◌⊢◌
  infixr 35 ◌∗◌
  abbrev s : ℕ
  s = (mem R).size

  abbrev τ : Ty
  τ = bare (lone R.mir)

  pub fresh : (b o n : ℕ) → Fits R n → H.room (block_ty R n) b o ∗ ⟦ token (block_ty R n) (block_ptr b o) ⟧ ⊢ ⟦ block_owns R token (block_ptr b o) [] n ⟧
  fresh b o n fits = let p : Ptr = block_ptr b o in let z = zero-mul s in let same : n ≡ 0 + n = omega arith in
      qed 𝓛 (‵ (froom (ty_array τ n) b o) ∷ ‵ (token (block_ty R n) p) ∷ []) ∵ rewrite ! 0 (λ (i : ℕ). ‵ (froom (ty_array τ n) b i)) (let r : o ≡ 0 * s + o = omega arith in r) refl $
      rewrite ! 1 (λ (m : ℕ). ‵ (token (block_ty R m) p)) same refl $ fjoin ! $ nothing ! $ nothing ! $ fpack ! (InBlock p × Fits R (0 + n)) (λ _. ftrue) (tt, subst (Fits R) same fits) $ move ! (0 ∷ 1 ∷ 2 ∷ []) $ fjoin3 ! $ done !

  cells_more : (xs : List R.Denot) (x : R.Denot) (b o e : ℕ) → e ≡ length xs * s + o → ⟦ cells (mem R) xs b o ⟧ ∗ ⟦ part_at R full_share x b e ⟧ ⊢ ⟦ cells (mem R) (xs ++ x ∷ []) b o ⟧
  cells_more [] x b o e is = let z = zero-mul s in let same : e ≡ o = omega arith in qed 𝓛 (‵ ftrue ∷ ‵ (part_at R full_share x b e) ∷ []) ∵ rewrite ! 1 (λ (i : ℕ). ‵ (part_at R full_share x b i)) same refl $ move ! (1 ∷ 0 ∷ []) $ done !
  cells_more (y ∷ ys) x b o e is = let z = suc-mul (length ys) s in qed 𝓛 (‵ (cells (mem R) (y ∷ ys) b o) ∷ ‵ (part_at R full_share x b e) ∷ []) ∵ fsplit ! $ frame ! $ by ! (cells_more ys x b (o + s) e (omega arith))

  abbrev pub More : Ptr → List R.Denot → ℕ → ℕ → R.Denot → SProp 𝓤
  More p xs left e x = wand 𝓤 ⟦ part_at R full_share x (block_of p) e ⟧ ⟦ block_owns R token p (xs ++ x ∷ []) left ⟧

  -- room for the next value
  pub next_room : (p : Ptr) (xs : List R.Denot) (left e : ℕ) → e ≡ length xs * s + count_of p → ⟦ block_owns R token p xs (suc left) ⟧ ⊢ guard 𝓤 (length xs * s < 2 ^ 63) (H.room τ (block_of p) e ∗ all 𝓤 (More p xs left e))
  next_room p xs left e is = let b : ℕ = block_of p in let o : ℕ = count_of p in let k : ℕ = length xs in let n : ℕ = k + suc left in
      qed 𝓛 (‵ (block_owns R token p xs (suc left)) ∷ []) ∵ fsplit3 ! $ fpick ! (λ so. drop ! $ check ! (let a : k * s ≤ n * s = mul-le-mul_right s (let l : k ≤ n = omega arith in l) in let f : n * s < 2 ^ 63 = so.1 in omega arith) $
      move ! (1 ∷ []) $ fsplit ! $ rewrite ! 0 (λ (i : ℕ). ‵ (froom (ty_array τ (suc left)) b i)) (sym is) refl $
      use1 𝓛 (‵ (froom τ b e) ⊛ ‵ (froom (ty_array τ left) b (e + size τ))) (𝓛.laws.room_uncons τ left b e) $ split ! $ frame ! $
      -- [the room behind; the token; the values]
      each ! (More p xs left e) (λ x. let long : length (xs ++ x ∷ []) ≡ k + 1 = length-append xs (x ∷ []) in let m : ℕ = length (xs ++ x ∷ []) in let same : n ≡ m + left = omega arith in
      let behind : e + size τ ≡ m * s + o = ap (λ (w : ℕ). e + w) (size-raw (lone R.mir)) ∙ (omega (arith, suc-mul k s, ap (λ (w : ℕ). w * s) (let r : m ≡ suc k = omega arith in r))) in
      assume ! (‵ (part_at R full_share x b e)) $ move ! (3 ∷ 0 ∷ []) $ use2 𝓛 (‵ (cells (mem R) (xs ++ x ∷ []) b o)) (cells_more xs x b o e is) $
      rewrite ! 1 (λ (i : ℕ). ‵ (froom (ty_array τ left) b i)) behind refl $ rewrite ! 2 (λ (w : ℕ). ‵ (token (block_ty R w) p)) same refl $
      move ! (1 ∷ 2 ∷ []) $ fjoin ! $ move ! (1 ∷ 0 ∷ []) $ nothing ! $ fpack ! (InBlock p × Fits R (m + left)) (λ _. ftrue) (so.0, subst (Fits R) same so.1) $ fjoin3 ! $ done !))

  -- the room of values, with what lies behind them
  module _ (gives : (x : R.Denot) (b o : ℕ) → ⟦ part_at R full_share x b o ⟧ ⊢ H.room τ b o) where
    emptied : (xs : List R.Denot) (left b o e : ℕ) → e ≡ length xs * s + o → ⟦ cells (mem R) xs b o ⟧ ∗ H.room (ty_array τ left) b e ⊢ H.room (ty_array τ (length xs + left)) b o
    emptied [] left b o e at = let z = zero-mul s in let same : e ≡ o = omega arith in let long : left ≡ 0 + left = omega arith in qed 𝓛 (‵ ftrue ∷ ‵ (froom (ty_array τ left) b e) ∷ []) ∵ keep ! (1 ∷ []) $
        rewrite ! 0 (λ (i : ℕ). ‵ (froom (ty_array τ left) b i)) same refl $ rewrite ! 0 (λ (n : ℕ). ‵ (froom (ty_array τ n) b o)) long refl $ done !
    emptied (x ∷ xs) left b o e at = let z = suc-mul (length xs) s in let n : ℕ = length xs + left in let next : o + s ≡ o + size τ = ap (λ (w : ℕ). o + w) (sym (size-raw (lone R.mir))) in let long : suc n ≡ suc (length xs) + left = omega arith in
        qed 𝓛 (‵ (cells (mem R) (x ∷ xs) b o) ∷ ‵ (froom (ty_array τ left) b e) ∷ []) ∵ fsplit ! $ use1 𝓛 (‵ (froom τ b o)) (gives x b o) $ move ! (1 ∷ 2 ∷ []) $
        use2 𝓛 (‵ (froom (ty_array τ n) b (o + s))) (emptied xs left b (o + s) e (omega arith)) $ rewrite ! 0 (λ (i : ℕ). ‵ (froom (ty_array τ n) b i)) next refl $ move ! (1 ∷ 0 ∷ []) $
        use2 𝓛 (‵ (froom (ty_array τ (suc n)) b o)) (𝓛.laws.room_cons τ n b o) $ rewrite ! 0 (λ (k : ℕ). ‵ (froom (ty_array τ k) b o)) long refl $ done !

    pub gathers : (p : Ptr) (xs : List R.Denot) (left n : ℕ) → length xs + left ≡ n → ⟦ block_owns R token p xs left ⟧ ⊢ guard 𝓤 (InBlock p × Fits R n) (H.room (block_ty R n) (block_of p) (count_of p) ∗ ⟦ token (block_ty R n) p ⟧)
    gathers p xs left n long = let b : ℕ = block_of p in let o : ℕ = count_of p in
        qed 𝓛 (‵ (block_owns R token p xs left) ∷ []) ∵ fsplit3 ! $ fpick ! (λ so. drop ! $ check ! (so.0, subst (Fits R) long so.1) $ move ! (1 ∷ []) $ fsplit ! $ move ! (2 ∷ 0 ∷ []) $
        use2 𝓛 (‵ (froom (ty_array τ (length xs + left)) b o)) (emptied xs left b o (length xs * s + o) refl) $ rewrite ! 0 (λ (k : ℕ). ‵ (froom (ty_array τ k) b o)) long refl $ rewrite ! 1 (λ (k : ℕ). ‵ (token (block_ty R k) p)) long refl $ done !)
