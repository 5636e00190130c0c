-- A word among those at home, or among those that are out with a seat. Assumes `Logic`.
use Rattle.std.proofs.Common.{◌≡◌, ℕ, zero, suc, ◌+◌, ◌<◌, List, [], ◌∷◌, ◌++◌, length, set, sym, refl, ◌∙◌, subst, arith, length-set}
use mathlib.Core.Option.{Option, none, some, some-injective, some-ne-none}
use lib.ListN.{get_elem?}
use mathlib.Mathlib.Data.Part.{◌∈◌}
use seplogic.Ra.Ura.{Ura}
use base.Fraction.{full_share}
use base.Share.{quarter, three_quarters}
use base.Stored.{coded_ℕ}
use base.Logic.{SProp, ent, sep, wand, ex, all, guard, emp, via, apply∗, all_e, ex_e, guard_e, guard_i}
use base.Fml.{Lft, Share, Fml, ftrue}
use base.Stored.{Gv}
use types.Logic.{Logic, sem}
use types.Keyed.{entry, entry_glue}
use types.Kit.{‵, raw, ◌⊛◌, given, ◌$◌, ◌∵◌, !, qed, by, move, drop, split, fsplit3, fpick, fpack, learn, check, frame, each, assume, done, use1, use2, rewrite}
use denote.RawPtr.{Ptr}
use denote.Steps.{nothing}
use Rattle.atomic_table.specs.Seated.{fact, halved}
use Rattle.atomic_table.specs.Table.{Act, keeps, takes, gives, chain, homes_after, carried_after, Valid}
use Rattle.ell_arena.specs.Ownership.{told, tracked, home, shelf, carried}

pub set_twice : (hs : List (Option ℕ)) (i : ℕ) (x y : Option ℕ) → set (set hs i x) i y ≡ set hs i y
set_twice [] i x y = refl
set_twice (h ∷ hs) zero x y = refl
set_twice (h ∷ hs) (suc i) x y = λ j. h ∷ set_twice hs i x y j

module _ {M : Type 1} {𝓤 : Ura M} (𝓛 : Logic 𝓤) (κ : Lft) (p : Ptr) (ω : ℕ) where
  abbrev Pr : Type 2
  Pr = SProp 𝓤

  abbrev ◌⊢◌ : Pr → Pr → Type 1
  P ⊢ Q = ent 𝓤 P Q

  abbrev ◌∗◌ : Pr → Pr → Pr
  P ∗ Q = sep 𝓤 P Q

  abbrev ◌-∗◌ : Pr → Pr → Pr
  P -∗ Q = wand 𝓤 P Q

  abbrev ⟦◌⟧ : Fml → Pr
  ⟦ P ⟧ = sem 𝓛 P

  infix 26 ◌⊢◌
  infixr 35 ◌∗◌
  infixr 30 ◌-∗◌
  pub told_joined : (k w v : ℕ) → ⟦ told ω k quarter w ⟧ ∗ ⟦ told ω k three_quarters v ⟧ ⊢ guard 𝓤 (w ≡ v) ⟦ told ω k full_share w ⟧
  told_joined k w v = let c : ℕ → Gv = coded_ℕ.code in let F : Share × Gv → Pr = λ x. guard 𝓤 (x ∈ halved.op (quarter, c w) (three_quarters, c v)) ⟦ entry halved ω k x ⟧ in let Z : Pr = guard 𝓤 (w ≡ v) ⟦ told ω k full_share w ⟧ in
      via 𝓤 (ex 𝓤 F) (entry_glue halved 𝓛 ω k (quarter, c w) (three_quarters, c v)) (ex_e 𝓤 F (λ x. guard_e 𝓤 (x ∈ halved.op (quarter, c w) (three_quarters, c v)) ⟦ entry halved ω k x ⟧ (λ m.
      subst (λ (y : Share × Gv). ⟦ entry halved ω k y ⟧ ⊢ Z) m.1 (guard_i 𝓤 (w ≡ v) ⟦ told ω k full_share w ⟧ (coded_ℕ.inj w v m.0.1)))))

  pub taken : (hs : List (Option ℕ)) (k i j y : ℕ) → j ≡ k + i → get_elem? hs i ≡ some (some y) → ⟦ shelf κ p ω k hs ⟧ ⊢ guard 𝓤 (i < length hs) (⟦ tracked κ p ω j y ⟧ ∗ ⟦ shelf κ p ω k (set hs i none) ⟧)
  taken [] k i j y e at = absurd (some-ne-none (some y) (sym at))
  taken (h ∷ hs) k zero j y e at = let is : k ≡ j = omega arith in qed 𝓛 (‵ (home κ p ω k h) ∷ ‵ (shelf κ p ω (suc k) hs) ∷ []) ∵ check ! (let r : zero < suc (length hs) = omega arith in r) $
      rewrite ! 0 (λ (x : Option ℕ). ‵ (home κ p ω k x)) (some-injective h (some y) at) refl $ rewrite ! 0 (λ (m : ℕ). ‵ (home κ p ω m (some y))) is refl $ frame ! $ by ! (base.Logic.emp∗ 𝓤 ⟦ shelf κ p ω (suc k) hs ⟧)
  taken (h ∷ hs) k (suc i) j y e at = qed 𝓛 (‵ (home κ p ω k h) ∷ ‵ (shelf κ p ω (suc k) hs) ∷ []) ∵ move ! (1 ∷ []) $
      use1 𝓛 (given (i < length hs) (‵ (tracked κ p ω j y) ⊛ ‵ (shelf κ p ω (suc k) (set hs i none)))) (taken hs (suc k) i j y (omega arith) at) $ learn ! (λ l. check ! (let r : suc i < suc (length hs) = omega arith in r) $
      split ! $ frame ! $ move ! (1 ∷ 0 ∷ []) $ done !)

  pub returned : (hs : List (Option ℕ)) (k i j y : ℕ) → j ≡ k + i → ⟦ shelf κ p ω k hs ⟧ ∗ ⟦ tracked κ p ω j y ⟧ ⊢ ⟦ shelf κ p ω k (set hs i (some y)) ⟧
  returned [] k i j y e = base.Logic.fst∗ 𝓤 (emp 𝓤) ⟦ tracked κ p ω j y ⟧
  returned (h ∷ hs) k zero j y e = let is : j ≡ k = omega arith in qed 𝓛 ((‵ (home κ p ω k h) ⊛ ‵ (shelf κ p ω (suc k) hs)) ∷ ‵ (tracked κ p ω j y) ∷ []) ∵ split ! $ drop ! $
      rewrite ! 1 (λ (m : ℕ). ‵ (tracked κ p ω m y)) is refl $ move ! (1 ∷ 0 ∷ []) $ done !
  returned (h ∷ hs) k (suc i) j y e = qed 𝓛 ((‵ (home κ p ω k h) ⊛ ‵ (shelf κ p ω (suc k) hs)) ∷ ‵ (tracked κ p ω j y) ∷ []) ∵ split ! $ frame ! $ by ! (returned hs (suc k) i j y (omega arith))

  -- words come and go
  module _ (n : ℕ) where
    pub acts : (hs : List (Option ℕ)) (cs : List (ℕ × ℕ)) (a : Act ℕ) → length hs ≡ n → Valid hs cs a
        → ⟦ shelf κ p ω 0 hs ⟧ ∗ ⟦ carried κ p ω n cs ⟧ ⊢ guard 𝓤 (length (homes_after hs cs a) ≡ n) (⟦ shelf κ p ω 0 (homes_after hs cs a) ⟧ ∗ ⟦ carried κ p ω n (carried_after cs a) ⟧)
    acts hs cs keeps long ok = guard_i 𝓤 (length hs ≡ n) _ long
    acts hs cs (takes k y) long ok = qed 𝓛 (‵ (shelf κ p ω 0 hs) ∷ ‵ (carried κ p ω n cs) ∷ []) ∵ check ! (length-set hs k none ∙ long) $
        use1 𝓛 (given (k < length hs) (‵ (tracked κ p ω k y) ⊛ ‵ (shelf κ p ω 0 (set hs k none)))) (taken hs 0 k k y (omega arith) ok) $ learn ! (λ near. split ! $ move ! (1 ∷ []) $ frame ! $
        nothing ! $ fpack ! (k < n) (λ _. ftrue) (subst (λ (m : ℕ). k < m) long near) $ done !)
    acts hs [] gives long ok = guard_i 𝓤 (length hs ≡ n) _ long
    acts hs (x ∷ xs) gives long ok = qed 𝓛 (‵ (shelf κ p ω 0 hs) ∷ ‵ (carried κ p ω n (x ∷ xs)) ∷ []) ∵ check ! (length-set hs x.0 (some x.1) ∙ long) $ move ! (1 ∷ []) $ fsplit3 ! $ drop ! $ move ! (2 ∷ 0 ∷ []) $
        use2 𝓛 (‵ (shelf κ p ω 0 (set hs x.0 (some x.1)))) (returned hs 0 x.0 x.0 x.1 (omega arith)) $ done !
    acts hs cs (chain a a') long ok = let hs' : List (Option ℕ) = homes_after hs cs a in let cs' : List (ℕ × ℕ) = carried_after cs a in qed 𝓛 (‵ (shelf κ p ω 0 hs) ∷ ‵ (carried κ p ω n cs) ∷ []) ∵
        use2 𝓛 (given (length hs' ≡ n) (‵ (shelf κ p ω 0 hs') ⊛ ‵ (carried κ p ω n cs'))) (acts hs cs a long ok.0) $ learn ! (λ long'. split ! $ by ! (acts hs' cs' a' long' ok.1))

    -- what is lent to one seat and to another, together
    pub carried_both : (xs ys : List (ℕ × ℕ)) → ⟦ carried κ p ω n xs ⟧ ∗ ⟦ carried κ p ω n ys ⟧ ⊢ ⟦ carried κ p ω n (xs ++ ys) ⟧
    carried_both [] ys = base.Logic.snd∗ 𝓤 (emp 𝓤) ⟦ carried κ p ω n ys ⟧
    carried_both (x ∷ xs) ys = qed 𝓛 (‵ (carried κ p ω n (x ∷ xs)) ∷ ‵ (carried κ p ω n ys) ∷ []) ∵ fsplit3 ! $ frame ! $ frame ! $ by ! (carried_both xs ys)

    abbrev pub Put : List (ℕ × ℕ) → ℕ → ℕ → ℕ → Pr
    Put cs j k y = ⟦ tracked κ p ω k y ⟧ -∗ ⟦ carried κ p ω n (set cs j (k, y)) ⟧

    -- the j-th word that is out with a seat
    pub carried_at : (cs : List (ℕ × ℕ)) (j k y : ℕ) → get_elem? cs j ≡ some (k, y) → ⟦ carried κ p ω n cs ⟧ ⊢ guard 𝓤 (k < n) (⟦ tracked κ p ω k y ⟧ ∗ all 𝓤 (Put cs j k))
    carried_at [] j k y at = absurd (some-ne-none (k, y) (sym at))
    carried_at (x ∷ xs) zero k y at = subst (λ (t : ℕ × ℕ). ⟦ carried κ p ω n (t ∷ xs) ⟧ ⊢ guard 𝓤 (k < n) (⟦ tracked κ p ω k y ⟧ ∗ all 𝓤 (Put (t ∷ xs) zero k))) (sym (some-injective x (k, y) at))
        (qed 𝓛 (‵ (fact (k < n)) ∷ ‵ (tracked κ p ω k y) ∷ ‵ (carried κ p ω n xs) ∷ []) ∵ fpick ! (λ near. drop ! $ check ! near $ frame ! $
        each ! (Put ((k, y) ∷ xs) zero k) (λ u. assume ! (‵ (tracked κ p ω k u)) $ nothing ! $ fpack ! (k < n) (λ _. ftrue) near $ done !)))
    carried_at (x ∷ xs) (suc j) k y at = qed 𝓛 (‵ (fact (x.0 < n)) ∷ ‵ (tracked κ p ω x.0 x.1) ∷ ‵ (carried κ p ω n xs) ∷ []) ∵ move ! (2 ∷ []) $
        use1 𝓛 (given (k < n) (‵ (tracked κ p ω k y) ⊛ raw (all 𝓤 (Put xs j k)))) (carried_at xs j k y at) $ learn ! (λ near. check ! near $ split ! $ frame ! $
        each ! (Put (x ∷ xs) (suc j) k) (λ u. use1 𝓛 (raw (Put xs j k u)) (all_e 𝓤 (Put xs j k) u) $ assume ! (‵ (tracked κ p ω k u)) $
        use2 𝓛 (‵ (carried κ p ω n (set xs j (k, u)))) (apply∗ 𝓤 ⟦ tracked κ p ω k u ⟧ ⟦ carried κ p ω n (set xs j (k, u)) ⟧) $ move ! (1 ∷ 2 ∷ 0 ∷ []) $ done !))
