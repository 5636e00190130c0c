-- A `&` to the words shows their invariant, and that their lifetime lasts. Assumes `Logic`.
use Rattle.std.proofs.Common.{[], ◌∷◌}
use seplogic.Ra.Ura.{Ura}
use base.Logic.{sep, wand, apply∗, snd∗}
use base.Fraction.{full_share}
use base.Stored.{Coded}
use base.Fml.{Lft, Share, Fml, fsep, fbor, flent, flft, fshr_bor}
use types.Logic.{Logic, sem, lfts}
use types.Kit.{‵, raw, ◌⊛◌, later, ◌$◌, !, qed, move, drop, split, fsplit, fjoin, fpick, fpack, frame, use1, use2, updating, await, now, done}
use types.Tokens.{bor_fracture}
use denote.Steps.{nothing}
use denote.Sharing.{ShrLaws, one, said}
use denote.SharingLaws.{beside_shr_laws, one_shr_laws}
use denote.Struct.Lending.{Lends, Lends-both}
use Rattle.ell_arena.specs.Words.{State}
use Rattle.ell_arena.specs.Ownership.{WordsId, age, Placed, inner, common, rights, words_own, words_share}

module _ {V : Type 0} (cv : Coded V) (z : WordsId) (holds : State V → Type 0) where
  abbrev I : Fml
  I = inner cv.code z holds

  abbrev C : Fml
  C = common cv.code z holds

  abbrev Φ : Share → Fml
  Φ q = flft (age z) q

  twice : {M : Type 1} {𝓤 : Ura M} (𝓛 : Logic 𝓤) → base.Logic.ent 𝓤 (sem 𝓛 C) (sep 𝓤 (sem 𝓛 C) (sem 𝓛 C))
  twice 𝓛 = let J : Fml = base.Fml.finv (fbor (age z) I) in qed 𝓛 (‵ C ∷ []) (fsplit ! $ fpick ! (λ placed. drop ! $ use1 𝓛 (‵ J ⊛ ‵ J) (𝓛.invs.inv_dup (fbor (age z) I)) $ split ! $
      nothing ! $ fpack ! (Placed z) (λ _. base.Fml.ftrue) placed $ fjoin ! $ frame ! $ nothing ! $ fpack ! (Placed z) (λ _. base.Fml.ftrue) placed $ done !))

  pub shown_laws : ShrLaws (words_share cv.code z holds)
  unfolding Rattle.ell_arena.specs.Ownership.seal
  shown_laws = beside_shr_laws (one Φ) (said C) (one_shr_laws Φ)
      record { contraction = λ M 𝓤 𝓛 ν. twice 𝓛; mono = λ M 𝓤 𝓛 μ ν. snd∗ 𝓤 (sem 𝓛 (base.Before.before μ ν)) (sem 𝓛 C) }

  module _ {M : Type 1} {𝓤 : Ura M} (𝓛 : Logic 𝓤) (l : Lft) where
    open 𝓛 use {H, A}

    lasting : Lends 𝓛 (Φ full_share) (one Φ) l
    lasting ν ts inc sp = qed 𝓛 (‵ (fbor ν (Φ full_share)) ∷ raw (lfts 𝓛 ts) ∷ []) {P = H.⇛ (sep 𝓤 (sem 𝓛 (fshr_bor ν Φ)) (lfts 𝓛 ts))} (updating ! $ bor_fracture ! tt Φ full_share $ now ! $ done !)

    knowledge : Lends 𝓛 (fsep C (rights cv.code z holds)) (said C) l
    knowledge ν ts inc sp = let P : Fml = fsep C (rights cv.code z holds) in let Back = H.⇛ (sep 𝓤 (A.bor ν P) (lfts 𝓛 ts)) in
        qed 𝓛 (‵ (fbor ν P) ∷ raw (lfts 𝓛 ts) ∷ []) {P = H.⇛ (sep 𝓤 (sem 𝓛 C) (lfts 𝓛 ts))} (
        updating ! $ use2 𝓛 (later (‵ P ⊛ raw (wand 𝓤 (sem 𝓛 P) Back))) (𝓛.more.bor_acc_by ν ts P sp) $ await ! tt $ split ! $ fsplit ! $
        use1 𝓛 (‵ C ⊛ ‵ C) (twice 𝓛) $ split ! $ move ! (0 ∷ 2 ∷ []) $ fjoin ! $ move ! (0 ∷ 2 ∷ []) $
        use2 𝓛 (later (‵ (fbor ν P) ⊛ raw (lfts 𝓛 ts))) (apply∗ 𝓤 (sem 𝓛 P) Back) $ await ! tt $ split ! $ drop ! $ move ! (1 ∷ 0 ∷ []) $ now ! $ done !)

    pub lends_shown : Lends 𝓛 (words_own cv.code z holds) (words_share cv.code z holds) l
    unfolding Rattle.ell_arena.specs.Ownership.seal
    lends_shown = Lends-both 𝓛 (Φ full_share) (fsep C (rights cv.code z holds)) (one Φ) (said C) l lasting knowledge
