-- `get_at` reads a word that is lent to the seat.
use Rattle.std.proofs.Common.{T, ◌≡◌, ℕ, ◌+◌, ◌*◌, ◌^◌, ◌<◌, List, [], ◌∷◌, suc, set, sym, refl, ◌∙◌, subst, arith, w64}
use mir.Syntax.{ty_int, a_type, dcons, dnil, named}
use mir.Val.{Val, vint, vptr, has_ty, WT}
use mir.MapTy.{inst_fn}
use base.Stored.{Coded, coded_ℕ}
use base.Fraction.{full_share}
use base.Share.{quarter, three_quarters}
use types.Logic.{sem}
use types.Owned.{basic}
use base.Logic.{SProp, ent, sep, emp, all, all_e, apply∗, via, id⊢}
use base.Fml.{Lft, Fml, ftrue, fsep, fbor, flft}
use prog.Wp.{WpFn}
use types.Kit.{◌∵◌, ‵, raw, ◌⊛◌, given, at_ret, ◌$◌, !, qed, by, move, keep, drop, use0, use1, use2, later, await, fpack, split, split3, join, fsplit, fsplit3, fjoin, fjoin3, fpick, learn, suffices, rewrite, feq_i, flt_i}
use types.Run.{stop, fld, lit, look, load, of_opd, bin, first, blocks, exec, returns, enter}
use types.ByLocal.{sets_last, alloc_all, pass_all, free_all, look_at, get, get_in, through, sets, env}
use types.Part.{sub, whole as all_of_it}
use types.Tokens.{shr_bor-open, bor_open, obor_close}
use types.Within.{tokens_halve}
use contract.Running.{tables}
use contract.Monad.{fact, fact_i}
use denote.Exit.{yes}
use denote.RattleType.{RattleType, owns}
use denote.Signature.{types_at, plain}
use denote.RawPtr.{Ptr, block_ptr, block_of, count_of, at_block}
use denote.Steps.{nothing, heard, opens, closes}
use denote.Opens.{unhide}
use denote.Param.{param, bounded}
use denote.Builtin.{RefOf, usize}
use denote.Ref.{mut_vals, mut_Tells, shr_vals, shr_Tells}
use denote.Plain.{uint_vals, uint_Tells}
use denote.Triple.Walked.{Stays, stay_dropped, stay_ref, walk_of, Goes-dropped, Goes-ref}
use Rattle.core.proofs.atomic.Steps.{tail}
use Rattle.atomic_table.proofs.Walks.{proved, leaves}
use Rattle.atomic_table.proofs.Lists.{set_again}
use Rattle.atomic_table.proofs.Roster.{resets}
use Rattle.ell_arena.proofs.lemmas.Shelves.{told_joined}
use Rattle.ell_arena.specs.Seats.{IsLentAs, IsWritten, place_of}
use Rattle.ell_arena.specs.Words.{Me}
use Rattle.ell_arena.specs.Ownership.{WordsId, age, content, told, holding, held, tracked, mine}
use Rattle.atomic_table.specs.Seated.{word}
use Rattle.ell_arena.specs.contracts.shared.Base as place
use Rattle.ell_arena.specs.contracts.shared.Shared as words
use Rattle.ell_arena.specs.contracts.shared.Seat as seat
use Rattle.ell_arena.proofs.lemmas.Made.{place_val, place_told, place_good}
use Rattle.ell_arena.proofs.lemmas.Moves as moves
use Rattle.ell_arena.specs.contracts.shared.Shared.get_at.{ended, clauses}
use Rattle.ell_arena.specs.contracts.shared.Shared.get_at.Key.{name as #self}
use Rattle.ell_arena.proofs.shared.Shared.get_at.Statement.{statement}
use Rattle.ell_arena.proofs.shared.Shared.get_at.Code as code

pub get_at_spec : {M : Type 1} → statement M
unfolding Rattle.ell_arena.specs.Ownership.seal
get_at_spec 𝓤 𝓛 𝓜 𝓡 wired U Q P _ _ _ g d _ =
    let H = 𝓛.H in let 𝓣 = tables 𝓤 H 𝓜 𝓡 𝓡.env in let W : RattleType = param 0 U in let X : RattleType = param 1 Q in let Y : RattleType = param 2 P in
    let Row : RattleType = words.the_row W X Y g in let Sr : RattleType = seat.the_row W in let Lk : RattleType = place.the_row in let cv : Coded U.Denot = W.coded in let En = ended U Q P g d in let c = clauses U Q P g d 𝓛 𝓜.mem 𝓡.returns in
    let inst = bounded (a_type ∷ a_type ∷ a_type ∷ []) (U, (Q, (P, tt))) (dcons d dnil) in let fn = inst_fn inst code.function in
    let self = RefOf (0 ∷ []) tt (plain (λ _. Row)) (λ _. tt) in
    let hs : Stays En.signature.params En.kept = (stay_dropped self yes, (stay_ref (1 ∷ []) tt (plain (λ _. Sr)), (stay_dropped (plain (λ _. Lk)) yes, (stay_dropped (plain (λ _. usize)) yes, tt)))) in
    proved 𝓛 En hs c 𝓜 𝓡 (Goes-dropped 𝓛 5 self yes (λ κs x f. refl), (Goes-ref 𝓛 5 1 tt (plain (λ _. Sr)), (Goes-dropped 𝓛 5 (plain (λ _. Lk)) yes (λ κs x f. refl), (Goes-dropped 𝓛 5 (plain (λ _. usize)) yes (λ κs x f. refl), tt)))) (#self inst) fn (code.unfolded 𝓤 H 𝓜 𝓡 wired (U, (Q, (P, tt))) d)
    (λ κs. (shr_vals, (mut_vals, ((λ x. place_val x.ptr ∷ []), (uint_vals w64, tt))))) (λ κs. (shr_Tells (named 0) κs.0 Row, (mut_Tells (named 1) κs.1.0 Sr, (place_told, (uint_Tells w64, tt))))) (λ κs qs bounds a gh are.
    let y : (walk_of 𝓛 En hs c).Ghost = ((κs, qs, bounds, a, (vptr a.0.ref_ptr.0 a.0.ref_ptr.1 ∷ [], (vptr a.1.0.ref_ptr.0 a.1.0.ref_ptr.1 ∷ [], (place_val a.1.1.0.ptr ∷ [], (vint w64 a.1.1.1.0 ∷ [], tt))))), gh) in let Post : Val → SProp 𝓤 = (walk_of 𝓛 En hs c).post y in
    let κ : Lft = κs.0 in let t : Row.Denot = a.0.now in let z : WordsId = t.id in let α : Lft = age z in let holds = g.holds t.key in
    let b' : ℕ = a.1.0.ref_ptr.0 in let o' : ℕ = a.1.0.ref_ptr.1 in let h : Sr.Denot = a.1.0.now in let id : ℕ = h.id in let v : Me U.Denot = h.me in let p : Ptr = a.1.1.0.ptr in
    let i : ℕ = a.1.1.1.0 in let j : ℕ = place_of v.1 i in let b : ℕ = block_of z.base in let ω : ℕ = z.words_name in let others : Fml = fsep (flft κs.1.1.0 qs.1.1.0) (fsep (flft κs.1.1.1.0 qs.1.1.1.0) (fsep (flft κs.1.1.1.1.0 qs.1.1.1.1.0) ftrue)) in
    qed 𝓛 (((‵ (flft κ qs.0) ⊛ ‵ (flft κs.1.0 qs.1.0) ⊛ ‵ others) ⊛ ‵ (owns (types_at En.signature.params κs) a y.0.4)) ∷ raw (fact 𝓤 _) ∷ raw (fact 𝓤 _) ∷ raw (fact 𝓤 _)
    ∷ raw (fact 𝓤 (h.words ≡ z)) ∷ raw (fact 𝓤 (p ≡ z.base)) ∷ raw (fact 𝓤 (IsWritten v.1 i)) ∷ []) ∵
    keep ! (4 ∷ 5 ∷ 6 ∷ 0 ∷ []) $ heard ! (h.words ≡ z) (λ h₀. heard ! (p ≡ z.base) (λ h₁. heard ! (IsWritten v.1 i) (λ h₂. let asked : (h.words ≡ z) × (p ≡ z.base) × (IsWritten v.1 i) = (h₀, h₁, h₂) in split ! $ split3 ! $ move ! (3 ∷ []) $ fsplit3 ! $ fsplit ! $ move ! (2 ∷ []) $ fsplit3 ! $ keep ! (4 ∷ 6 ∷ 1 ∷ 2 ∷ 7 ∷ 8 ∷ []) $ unhide ! $ fsplit ! $ drop ! $ fsplit ! $ move ! (1 ∷ []) $ fsplit ! $ fpick ! (λ rooted. drop ! $ move ! (1 ∷ 0 ∷ []) $
    let us : Ptr → List Val = λ u. vptr a.0.ref_ptr.0 a.0.ref_ptr.1 ∷ vptr a.1.0.ref_ptr.0 a.1.0.ref_ptr.1 ∷ place_val u ∷ vint w64 a.1.1.1.0 ∷ [] in let Run : List Val → SProp 𝓤 = λ ws. WpFn 𝓤 H 𝓣.C 𝓣.Λ fn ws Post in let p' : Ptr = block_ptr (block_of z.base) (count_of z.base) in
    suffices ! (Run (us p')) (subst (λ (u : Ptr). ent 𝓤 (Run (us p')) (Run (us u))) (sym (asked.1 ∙ at_block z.base rooted.0)) (id⊢ 𝓤 (Run (us p')))) $
    enter ! 𝓣.C 𝓣.Λ fn (us p') Post $ alloc_all ! (λ l. pass_all ! refl ((tt, tt), ((tt, tt), (place_good p', ((tt, record { fits = are.1.1.1.0.1 }), tt)))) $ let Ev = env fn.locals l in
    move ! (0 ∷ 2 ∷ []) $ shr_bor-open ! tt (tokens_halve 𝓛 α) (λ s. move ! (3 ∷ 4 ∷ 5 ∷ []) $ opens ! tt Sr b' o' (λ ts. move ! (1 ∷ []) $ fsplit ! $
    rewrite ! 1 (λ (x : WordsId). ‵ (mine cv.code x id v)) asked.0 refl $
    -- [the seat's fields; the seat; its place; open; obs; auth; the words' open token; the words' token; the invariant; the others]
    let n : ℕ = asked.2.0 in let Back = moves.Gives 𝓛 cv holds z id v.0 v.1 j i in let F : Fml = held α z.base ω i in let e : ℕ = i * 8 + count_of z.base in move ! (1 ∷ 7 ∷ []) $
    use1 𝓛 (given (i < z.count) (‵ (told ω i three_quarters (suc n)) ⊛ ‵ (fbor α F) ⊛ raw (all 𝓤 Back))) (moves.lent 𝓛 cv holds z id v j i (suc n) asked.2.1) $ learn ! (λ near. split3 ! $ move ! (1 ∷ 3 ∷ []) $ bor_open ! tt $ move ! (1 ∷ []) $ fpick ! (λ x. fsplit ! $
    move ! (1 ∷ 3 ∷ []) $ use2 𝓛 (given (x ≡ suc n) (‵ (told ω i full_share x))) (told_joined 𝓛 α z.base ω i x (suc n)) $ learn ! (λ same. move ! (1 ∷ []) $ rewrite ! 0 (λ (u : ℕ). ‵ (content b e u)) same refl $
    use1 𝓛 (given (T (has_ty (ty_int w64) (vint w64 n)) × WT (vint w64 n)) (‵ (word b e n))) (𝓛.laws.at_wt full_share (ty_int w64) b e (vint w64 n)) $ learn ! (λ typed.
    -- [the word; what is told; the open borrow; the way back; the others]
    let room : z.count * 8 < 2 ^ 63 = rooted.1 in let small : i * 8 < 2 ^ 64 = omega arith in first ! $ blocks ! $
    sets ! (bin ! (get ! refl) (lit ! tt) (record { fits = small })) refl (tt, record { fits = small }) $ sets ! (bin ! (get_in ! (fld ! refl (stop !)) (sub ! 0 refl (all_of_it !))) (get ! refl) tt) refl (tt, tt) $
    sets_last ! (of_opd ! (load ! (through ! refl (stop !)) (look ! 0 refl))) refl typed $ exec ! 𝓣.C 𝓣.Λ Ev (tail fn.body) (at_ret Ev Post) $ sets ! (of_opd ! (get ! refl)) refl typed $
    let L : Fml = told ω i quarter (suc n) in let R : Fml = told ω i three_quarters (suc n) in move ! (1 ∷ []) $
    use1 𝓛 (later (‵ L ⊛ ‵ R)) (via 𝓤 _ (resets 𝓛 coded_ℕ ω i x (suc n)) (basic 𝓛 (sep 𝓤 (sem 𝓛 L) (sem 𝓛 R)))) $ await ! tt $ split ! $ move ! (2 ∷ 0 ∷ []) $ fjoin ! $ fpack ! ℕ (holding α z.base ω i) (suc n) $
    move ! (2 ∷ 0 ∷ []) $ obor_close ! tt $ move ! (2 ∷ 0 ∷ []) $ fjoin ! $ move ! (2 ∷ []) $ use1 𝓛 (raw (Back (suc n))) (all_e 𝓤 Back (suc n)) $ move ! (1 ∷ 0 ∷ []) $
    use2 𝓛 (‵ (mine cv.code z id (v.0, set v.1 j (i, suc n)))) (apply∗ 𝓤 (sem 𝓛 (tracked α z.base ω i (suc n))) (sem 𝓛 (mine cv.code z id (v.0, set v.1 j (i, suc n))))) $
    rewrite ! 0 (λ (xs : List (ℕ × ℕ)). ‵ (mine cv.code z id (v.0, xs))) (set_again v.1 j (i, suc n) asked.2.1) refl $
    -- [the seat; the words' token; its fields; its place; open; obs; auth; the words' open token; the invariant; the others]
    move ! (7 ∷ 1 ∷ []) $ obor_close ! tt $ drop ! $ move ! (7 ∷ []) $ drop ! $ move ! (1 ∷ []) $
    let h' : Sr.Denot = record { marker = h.marker; words = z; id = id; me = v } in
    move ! (2 ∷ 0 ∷ []) $ fjoin ! $ move ! (2 ∷ 0 ∷ 3 ∷ 4 ∷ 5 ∷ []) $ closes ! tt Sr h' ts b' o' $ feq_i ! (List Val) (vptr b' o' ∷ []) (vptr b' o' ∷ []) refl $ fjoin3 ! $
    nothing ! $ nothing ! $ fjoin ! $ nothing ! $ fjoin ! $ move ! (1 ∷ 0 ∷ []) $ fjoin ! $ nothing ! $ fjoin ! $ move ! (1 ∷ 3 ∷ []) $ join ! $ move ! (2 ∷ 0 ∷ []) $ join ! $
    use0 𝓛 (raw (fact 𝓤 (IsLentAs v.1 i n))) (fact_i 𝓤 (IsLentAs v.1 i n) (emp 𝓤) asked.2.1) $ use0 𝓛 (raw (fact 𝓤 (v ≡ v))) (fact_i 𝓤 (v ≡ v) (emp 𝓤) refl) $ join ! $ use0 𝓛 (raw (fact 𝓤 ((z ≡ h.words) × (id ≡ id)))) (fact_i 𝓤 ((z ≡ h.words) × (id ≡ id)) (emp 𝓤) (sym asked.0, refl)) $ join ! $ flt_i ! n (2 ^ 64) typed.1.fits $ feq_i ! (List Val) (vint w64 n ∷ []) (vint w64 n ∷ []) refl $ fjoin ! $
    returns ! (look_at ! 0 refl) $ free_all ! refl $ keep ! (2 ∷ 3 ∷ 0 ∷ 1 ∷ []) $ by ! (leaves 𝓛 En hs c y (vint w64 n) n (tt, (h', (tt, (tt, tt)))) (tt, (tt, (tt, (tt, tt)))))))))))))))))
