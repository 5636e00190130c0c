-- `split_at` loads a word at home, and cuts the view in two.
use Rattle.std.proofs.Common.{◌≡◌, ℕ, ◌+◌, ◌*◌, ◌^◌, ◌<◌, List, [], ◌∷◌, sym, refl, ◌∙◌, subst, arith, lit<, w64}
use mir.Syntax.{a_type, dcons, dnil, named}
use mir.Val.{Val, vint, vptr}
use mir.MapTy.{inst_fn}
use base.Stored.{Coded}
use base.Logic.{SProp, ent, emp, via, id⊢}
use base.Fml.{Lft, Fml, ftrue, fsep, fex, flft}
use Rattle.atomic_blocks.proofs.RowMade.{token_val, Token, token_made}
use prog.Wp.{WpFn}
use types.Kit.{◌∵◌, mean, ‵, raw, ◌⊛◌, at_ret, ◌$◌, !, qed, by, move, keep, drop, use0, use3, split, split3, join, fsplit, fsplit3, fjoin, fjoin3, fpick, suffices, rewrite, feq_i}
use types.Run.{stop, fld, lit, bin, no_more, and_then, first, blocks, exec, Calls-last, returns, enter}
use types.ByLocal.{alloc_all, pass_all, free_all, look_at, get, get_in, sets, lands_last, env}
use types.Part.{agg, sub, whole as all_of_it}
use types.Tokens.{shr_bor-open, obor_close}
use types.Within.{tokens_halve}
use contract.Running.{tables}
use contract.Monad.{fact, fact_i}
use denote.Exit.{yes}
use denote.RattleType.{RattleType, owns}
use denote.Signature.{types_at, plain}
use denote.RawPtr.{Ptr, block_ptr, block_of, count_of, at_block}
use denote.Steps.{nothing, heard, opens, closes}
use denote.Opens.{unhide}
use denote.Param.{param, bounded}
use denote.Builtin.{RefOf, usize}
use denote.Ref.{mut_vals, mut_Tells, shr_vals, shr_Tells}
use denote.Plain.{uint_vals, uint_Tells}
use denote.Triple.Walked.{Stays, stay_dropped, stay_ref, walk_of, Goes-dropped, Goes-ref}
use Rattle.core.proofs.atomic.Steps.{tail}
use Rattle.atomic_table.proofs.Walks.{proved, leaves}
use Rattle.atomic_table.proofs.Calls.{fm, seq_cst, found, finds, loads}
use Rattle.ell_arena.specs.Words.{Me, Splits}
use Rattle.ell_arena.specs.Ownership.{WordsId, age, mine}
use Rattle.ell_arena.specs.contracts.shared.Base as place
use Rattle.ell_arena.specs.contracts.shared.Shared as words
use Rattle.ell_arena.specs.contracts.shared.Seat as seat
use Rattle.ell_arena.proofs.lemmas.Made.{place_val, place_told, place_good}
use Rattle.ell_arena.proofs.lemmas.Moves as moves
use Rattle.ell_arena.specs.contracts.shared.Shared.split_at.{ended, clauses}
use Rattle.ell_arena.specs.contracts.shared.Shared.split_at.Key.{name as #self}
use Rattle.ell_arena.proofs.shared.Shared.split_at.Statement.{statement}
use Rattle.ell_arena.proofs.shared.Shared.split_at.Code as code

pub split_at_spec : {M : Type 1} → statement M
unfolding Rattle.ell_arena.specs.Ownership.seal
split_at_spec 𝓤 𝓛 𝓜 𝓡 wired U Q P Mv _ _ _ _ g d g' d' _ _ =
    let H = 𝓛.H in let 𝓣 = tables 𝓤 H 𝓜 𝓡 𝓡.env in let W : RattleType = param 0 U in let X : RattleType = param 1 Q in let Y : RattleType = param 2 P in
    let Row : RattleType = words.the_row W X Y g in let Sr : RattleType = seat.the_row W in let Lk : RattleType = place.the_row in let cv : Coded U.Denot = W.coded in let En = ended U Q P Mv g d g' d' in let c = clauses U Q P Mv g d g' d' 𝓛 𝓜.mem 𝓡.returns in
    let inst = bounded (a_type ∷ a_type ∷ a_type ∷ a_type ∷ []) (U, (Q, (P, (Mv, tt)))) (dcons d (dcons d' dnil)) in let fn = inst_fn inst code.function in
    let self = RefOf (0 ∷ []) tt (plain (λ _. Row)) (λ _. tt) in
    let hs : Stays En.signature.params En.kept = (stay_dropped self yes, (stay_ref (1 ∷ []) tt (plain (λ _. Sr)), (stay_dropped (plain (λ _. Lk)) yes, (stay_dropped (plain (λ _. usize)) yes, tt)))) in
    proved 𝓛 En hs c 𝓜 𝓡 (Goes-dropped 𝓛 6 self yes (λ κs x f. refl), (Goes-ref 𝓛 6 1 tt (plain (λ _. Sr)), (Goes-dropped 𝓛 6 (plain (λ _. Lk)) yes (λ κs x f. refl), (Goes-dropped 𝓛 6 (plain (λ _. usize)) yes (λ κs x f. refl), tt)))) (#self inst) fn (code.unfolded 𝓤 H 𝓜 𝓡 wired (U, (Q, (P, (Mv, tt)))) d d')
    (λ κs. (shr_vals, (mut_vals, ((λ x. place_val x.ptr ∷ []), (uint_vals w64, tt))))) (λ κs. (shr_Tells (named 0) κs.0 Row, (mut_Tells (named 1) κs.1.0 Sr, (place_told, (uint_Tells w64, tt))))) (λ κs qs bounds a gh are.
    let y : (walk_of 𝓛 En hs c).Ghost = ((κs, qs, bounds, a, (vptr a.0.ref_ptr.0 a.0.ref_ptr.1 ∷ [], (vptr a.1.0.ref_ptr.0 a.1.0.ref_ptr.1 ∷ [], (place_val a.1.1.0.ptr ∷ [], (vint w64 a.1.1.1.0 ∷ [], tt))))), gh) in let Post : Val → SProp 𝓤 = (walk_of 𝓛 En hs c).post y in
    let κ : Lft = κs.0 in let t : Row.Denot = a.0.now in let z : WordsId = t.id in let α : Lft = age z in let holds = g.holds t.key in
    let b' : ℕ = a.1.0.ref_ptr.0 in let o' : ℕ = a.1.0.ref_ptr.1 in let h : Sr.Denot = a.1.0.now in let id : ℕ = h.id in let v : Me U.Denot = h.me in let p : Ptr = a.1.1.0.ptr in
    let i : ℕ = a.1.1.1.0 in let lv : U.Denot = g'.left v.0 in let rv : U.Denot = g'.right v.0 in let others : Fml = fsep (flft κs.1.1.0 qs.1.1.0) (fsep (flft κs.1.1.1.0 qs.1.1.1.0) (fsep (flft κs.1.1.1.1.0 qs.1.1.1.1.0) (fsep (flft κs.1.1.1.1.1.0 qs.1.1.1.1.1.0) ftrue))) in
    qed 𝓛 (((‵ (flft κ qs.0) ⊛ ‵ (flft κs.1.0 qs.1.0) ⊛ ‵ others) ⊛ ‵ (owns (types_at En.signature.params κs) a y.0.4)) ∷ raw (fact 𝓤 _) ∷ raw (fact 𝓤 _) ∷ raw (fact 𝓤 _) ∷ raw (fact 𝓤 _)
    ∷ raw (fact 𝓤 (h.words ≡ z)) ∷ raw (fact 𝓤 (p ≡ z.base)) ∷ raw (fact 𝓤 (i < z.count)) ∷ raw (fact 𝓤 (Splits holds i id v.0 lv rv)) ∷ []) ∵
    keep ! (5 ∷ 6 ∷ 7 ∷ 8 ∷ 0 ∷ []) $ heard ! (h.words ≡ z) (λ h₀. heard ! (p ≡ z.base) (λ h₁. heard ! (i < z.count) (λ h₂. heard ! (Splits holds i id v.0 lv rv) (λ h₃. let asked : (h.words ≡ z) × (p ≡ z.base) × (i < z.count) × (Splits holds i id v.0 lv rv) = (h₀, h₁, h₂, h₃) in split ! $ split3 ! $ move ! (3 ∷ []) $ fsplit3 ! $ fsplit ! $ move ! (2 ∷ []) $ fsplit3 ! $ keep ! (4 ∷ 6 ∷ 1 ∷ 2 ∷ 7 ∷ 8 ∷ []) $ unhide ! $ fsplit ! $ drop ! $ fsplit ! $ move ! (1 ∷ []) $ fsplit ! $ fpick ! (λ rooted. drop ! $ move ! (1 ∷ 0 ∷ []) $
    let us : Ptr → List Val = λ u. vptr a.0.ref_ptr.0 a.0.ref_ptr.1 ∷ vptr a.1.0.ref_ptr.0 a.1.0.ref_ptr.1 ∷ place_val u ∷ vint w64 a.1.1.1.0 ∷ [] in let Run : List Val → SProp 𝓤 = λ ws. WpFn 𝓤 H 𝓣.C 𝓣.Λ fn ws Post in let p' : Ptr = block_ptr (block_of z.base) (count_of z.base) in
    suffices ! (Run (us p')) (subst (λ (u : Ptr). ent 𝓤 (Run (us p')) (Run (us u))) (sym (asked.1 ∙ at_block z.base rooted.0)) (id⊢ 𝓤 (Run (us p')))) $
    enter ! 𝓣.C 𝓣.Λ fn (us p') Post $ alloc_all ! (λ l. pass_all ! refl ((tt, tt), ((tt, tt), (place_good p', ((tt, record { fits = are.1.1.1.0.1 }), tt)))) $ let Ev = env fn.locals l in
    move ! (0 ∷ 2 ∷ []) $ shr_bor-open ! tt (tokens_halve 𝓛 α) (λ s. move ! (3 ∷ 4 ∷ 5 ∷ []) $ opens ! tt Sr b' o' (λ ts. move ! (1 ∷ []) $ fsplit ! $
    rewrite ! 1 (λ (x : WordsId). ‵ (mine cv.code x id v)) asked.0 refl $ first ! $ blocks ! $
    -- [the seat's fields; the seat; its place; open; obs; auth; the words' open token; the words' token; the invariant; the others]
    let near : i < z.count = asked.2 in let room : z.count * 8 < 2 ^ 63 = rooted.1 in let small : i * 8 < 2 ^ 64 = omega arith in let e : ℕ = i * 8 + count_of z.base in sets ! (bin ! (get ! refl) (lit ! tt) (record { fits = small })) refl (tt, record { fits = small }) $
    sets ! (bin ! (get_in ! (fld ! refl (stop !)) (sub ! 0 refl (all_of_it !))) (get ! refl) tt) refl (tt, tt) $ move ! (8 ∷ 7 ∷ 1 ∷ []) $ let out = λ (n : ℕ). fsep (flft α s) (fex ℕ (moves.two 𝓛 cv holds z id v s i lv rv)) in
    use3 𝓛 (raw (𝓣.C _ (vptr (block_of z.base) e ∷ seq_cst ∷ []) (λ u. mean 𝓛 (found out u)))) (via 𝓤 _ (moves.forks 𝓛 cv holds z id v s i lv rv asked.3) (loads 𝓛 𝓜 𝓡 (code.calls-core::raw_atomic::load 𝓡.env wired) (block_ptr (block_of z.base) e) out)) $
    sets ! (agg ! (and_then ! (lit ! tt) (no_more !))) refl (tt, (record { fits = lit< tt }, tt)) $
    Calls-last ! (fm 𝓛 𝓜 𝓡) (found out) (and_then ! (get ! refl) (and_then ! (get ! refl) (no_more !))) (λ u. finds ! out (λ n fits.
    lands_last ! refl (tt, record { fits = fits }) $ exec ! 𝓣.C 𝓣.Λ Ev (tail fn.body) (at_ret Ev Post) $ sets ! (agg ! (no_more !)) refl (tt, tt) $ sets ! (agg ! (and_then ! (get ! refl) (no_more !))) refl (tt, (tt, tt)) $
    fsplit ! $ move ! (7 ∷ 0 ∷ []) $ obor_close ! tt $ drop ! $ move ! (1 ∷ []) $ fpick ! (λ j. fsplit ! $
    let h' : Sr.Denot = record { marker = h.marker; words = z; id = id; me = (lv, v.1) } in
    move ! (3 ∷ 0 ∷ []) $ fjoin ! $ move ! (3 ∷ 0 ∷ 4 ∷ 5 ∷ 6 ∷ []) $ closes ! tt Sr h' ts b' o' $ feq_i ! (List Val) (vptr b' o' ∷ []) (vptr b' o' ∷ []) refl $ fjoin3 ! $
    nothing ! $ nothing ! $ fjoin ! $ nothing ! $ fjoin ! $ move ! (1 ∷ 0 ∷ []) $ fjoin ! $ nothing ! $ fjoin ! $ move ! (1 ∷ 4 ∷ []) $ join ! $ move ! (3 ∷ 0 ∷ []) $ join ! $
    let r : Sr.Denot = record { marker = record {}; words = z; id = j; me = (rv, []) } in move ! (2 ∷ []) $
    use0 𝓛 (‵ ((Token W).own_val (record {}, tt) (token_val ∷ []))) (token_made W 𝓛) $ fjoin ! $ use0 𝓛 (raw (fact 𝓤 (r.me ≡ r.me))) (fact_i 𝓤 (r.me ≡ r.me) (emp 𝓤) (refl)) $ use0 𝓛 (raw (fact 𝓤 (z ≡ h.words))) (fact_i 𝓤 (z ≡ h.words) (emp 𝓤) (sym asked.0)) $ join ! $ use0 𝓛 (raw (fact 𝓤 (h'.me ≡ h'.me))) (fact_i 𝓤 (h'.me ≡ h'.me) (emp 𝓤) (refl)) $ join ! $ use0 𝓛 (raw (fact 𝓤 ((z ≡ h.words) × (id ≡ id)))) (fact_i 𝓤 ((z ≡ h.words) × (id ≡ id)) (emp 𝓤) (sym asked.0, refl)) $ join ! $ returns ! (look_at ! 0 refl) $ free_all ! refl $ keep ! (2 ∷ 3 ∷ 1 ∷ 0 ∷ []) $ by ! (leaves 𝓛 En hs c y token_val r (tt, (h', (tt, (tt, tt)))) (tt, (tt, (tt, (tt, tt)))))))))))))))))
