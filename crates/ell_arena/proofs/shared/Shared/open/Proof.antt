-- `open` begins the lifetime, and lends each word.
use denote.RawPtr.{RawPtr}
use Rattle.std.proofs.Common.{◌≡◌, List, [], ◌∷◌, refl}
use mir.Syntax.{a_type, dcons, dnil, named}
use mir.Val.{Val, vptr, vstruct, vcons, vnil}
use mir.MapTy.{inst_fn}
use base.Stored.{Coded}
use base.Logic.{SProp, emp}
use types.Kit.{join}
use types.Kit.{◌∵◌, ‵, raw, ◌⊛◌, some, given, later, ◌$◌, !, qed, by, move, keep, drop, use0, use1, split, fsplit, fsplit3, fjoin, fjoin3, fpick, fpack, pick, learn, await, feq_i}
use types.Run.{no_more, and_then, returns, enter}
use types.ByLocal.{alloc_all, pass_all, free_all, look_at, get, sets, env}
use types.Part.{agg}
use contract.Running.{tables}
use contract.Monad.{fact, fact_i}
use denote.Exit.{yes}
use denote.RattleType.{RattleType, owns, Valss}
use denote.Signature.{types_at, plain}
use denote.Steps.{nothing, heard}
use denote.Param.{param, bounded}
use denote.Builtin.{RefOf, u64}
use denote.Ref.{shr_vals, shr_Tells}
use denote.Struct.Struct.{within}
use denote.Struct.Declared as declared
use denote.Struct.Tuple.{tuple_type}
use denote.Triple.Entry.{alive}
use denote.Triple.Walked.{Stays, stay_dropped, walk_of, Goes-dropped}
use Rattle.atomic_table.proofs.Walks.{proved, leaves}
use Rattle.atomic_blocks.proofs.RowMade.{token_val, Token, token_made}
use Rattle.ell_arena.specs.Words.{opening}
use Rattle.ell_arena.specs.Ownership.{WordsId, mine, words_own}
use Rattle.std.proofs.Common.{ℕ, ◌+◌, length, sym, ◌∙◌, subst}
use Rattle.ell_arena.specs.contracts.shared.Base as place
use Rattle.ell_arena.specs.Blocks.{Fits}
use denote.RawPtr.{Ptr, block_ptr, block_of, count_of, at_block, InBlock}
use base.Fml.{ftrue}
use base.Logic.{ent, id⊢}
use prog.Wp.{WpFn}
use types.Kit.{suffices}
use types.Run.{stop, fld, of_opd}
use types.ByLocal.{get_in}
use types.Part.{sub, whole as all_of_it}
use Rattle.ell_arena.proofs.lemmas.Made.{Words, place_val, place_good, place_made, block_val, block_good, block_told}
use Rattle.ell_arena.specs.contracts.shared.Shared as words
use Rattle.ell_arena.specs.contracts.shared.Seat as seat
use Rattle.ell_arena.proofs.lemmas.Moves as moves
use Rattle.ell_arena.specs.contracts.shared.Shared.open.{ended, clauses}
use Rattle.ell_arena.specs.contracts.shared.Shared.open.Key.{name as #self}
use Rattle.ell_arena.proofs.shared.Shared.open.Statement.{statement}
use Rattle.ell_arena.proofs.shared.Shared.open.Code as code

pub open_spec : {M : Type 1} → statement M
unfolding Rattle.ell_arena.specs.Ownership.seal
open_spec 𝓤 𝓛 𝓜 𝓡 wired U Q P _ _ _ g d _ =
    let H = 𝓛.H in let 𝓣 = tables 𝓤 H 𝓜 𝓡 𝓡.env in let W : RattleType = param 0 U in let X : RattleType = param 1 Q in let Y : RattleType = param 2 P in
    let Row : RattleType = words.the_row W X Y g in let Sr : RattleType = seat.the_row W in let Lk : RattleType = place.the_row in let cv : Coded U.Denot = W.coded in let En = ended U Q P g d in let c = clauses U Q P g d 𝓛 𝓜.mem 𝓡.returns in
    let inst = bounded (a_type ∷ a_type ∷ a_type ∷ []) (U, (Q, (P, tt))) (dcons d dnil) in let fn = inst_fn inst code.function in
    let about = RefOf (0 ∷ []) tt (plain (λ _. X)) (λ _. tt) in
    let hs : Stays En.signature.params En.kept = (stay_dropped about yes, (stay_dropped (plain (λ _. Words)) yes, tt)) in
    proved 𝓛 En hs c 𝓜 𝓡 (Goes-dropped 𝓛 4 about yes (λ κs x f. refl), (Goes-dropped 𝓛 4 (plain (λ _. Words)) yes (λ κs x f. refl), tt)) (#self inst) fn (code.unfolded 𝓤 H 𝓜 𝓡 wired (U, (Q, (P, tt))) d)
    (λ κs. (shr_vals, ((λ x. block_val x.ptr ∷ []), tt))) (λ κs. (shr_Tells (named 0) κs.0 X, (block_told, tt))) (λ κs qs bounds a gh are.
    let y : (walk_of 𝓛 En hs c).Ghost = ((κs, qs, bounds, a, (vptr a.0.ref_ptr.0 a.0.ref_ptr.1 ∷ [], (block_val a.1.0.ptr ∷ [], tt))), gh) in let Post : Val → SProp 𝓤 = (walk_of 𝓛 En hs c).post y in
    let key : Q.Denot = a.0.now in let x : Words.Denot = a.1.0 in let p : Ptr = x.ptr in let ns : List ℕ = x.items in let left : ℕ = x.left in let holds = g.holds key in let v : U.Denot = g.first key in let p' : Ptr = block_ptr (block_of p) (count_of p) in
    let Rule : Type 0 = holds (opening ns left v) in let all_three : Val = vstruct (vcons token_val (vcons token_val (vcons (place_val p') vnil))) in
    qed 𝓛 ((raw (alive 𝓛 En.signature κs qs) ⊛ ‵ (owns (types_at En.signature.params κs) a y.0.4)) ∷ raw (fact 𝓤 _) ∷ raw (fact 𝓤 _) ∷ raw (fact 𝓤 _) ∷ raw (fact 𝓤 Rule) ∷ []) ∵
    keep ! (4 ∷ 0 ∷ []) $ heard ! Rule (λ good. split ! $ move ! (1 ∷ []) $ fsplit3 ! $ drop ! $ fsplit ! $ drop ! $ fsplit ! $ fpick ! (λ so. fpack ! (InBlock p × Fits u64 (length ns + left)) (λ _. ftrue) so $ fjoin ! $
    -- [the block; the rest]
    let us : Ptr → List Val = λ u. vptr a.0.ref_ptr.0 a.0.ref_ptr.1 ∷ block_val u ∷ [] in let Run : List Val → SProp 𝓤 = λ ws. WpFn 𝓤 H 𝓣.C 𝓣.Λ fn ws Post in let at : p ≡ p' = at_block p so.0 in
    suffices ! (Run (us p')) (subst (λ (u : Ptr). ent 𝓤 (Run (us p')) (Run (us u))) (sym at) (id⊢ 𝓤 (Run (us p')))) $
    enter ! 𝓣.C 𝓣.Λ fn (us p') Post $ alloc_all ! (λ l. pass_all ! refl ((tt, tt), (block_good p', tt)) $ let Ev = env fn.locals l in
    use1 𝓛 (later (some (λ (z : WordsId). given ((z.base ≡ p) × (z.count ≡ length ns + left) × InBlock p) (‵ (words_own cv.code z holds) ⊛ ‵ (mine cv.code z 0 (v, [])))))) (moves.begins 𝓛 cv holds x.heap p ns left v good) $ await ! tt $ pick ! (λ z. learn ! (λ is. split ! $
    let w : Row.Denot = record { marker = record {}; id = z; key = key } in let r : Sr.Denot = record { marker = record {}; words = z; id = 0; me = (v, []) } in let k : Lk.Denot = record { ptr = p' } in
    sets ! (of_opd ! (get_in ! (fld ! refl (stop !)) (sub ! 0 refl (all_of_it !)))) refl (tt, tt) $
    sets ! (agg ! (no_more !)) refl (tt, tt) $ sets ! (agg ! (and_then ! (get ! refl) (no_more !))) refl (tt, (tt, tt)) $ sets ! (agg ! (no_more !)) refl (tt, tt) $ sets ! (agg ! (and_then ! (get ! refl) (no_more !))) refl (tt, (tt, tt)) $
    sets ! (agg ! (and_then ! (get ! refl) (no_more !))) refl (place_good p') $ sets ! (agg ! (and_then ! (get ! refl) (and_then ! (get ! refl) (and_then ! (get ! refl) (no_more !))))) refl (tt, ((tt, tt), ((tt, tt), ((tt, tt), tt)))) $
    use0 𝓛 (‵ ((Token RawPtr).own_val (record {}, tt) (token_val ∷ []))) (token_made RawPtr 𝓛) $ fjoin ! $ move ! (1 ∷ []) $
    use0 𝓛 (‵ ((Token W).own_val (record {}, tt) (token_val ∷ []))) (token_made W 𝓛) $ fjoin ! $ use0 𝓛 (‵ (Lk.own_val k (place_val p' ∷ []))) (place_made 𝓛 p') $ nothing ! $ move ! (1 ∷ 0 ∷ []) $ fjoin ! $ move ! (2 ∷ 1 ∷ 0 ∷ []) $ fjoin3 ! $
    feq_i ! (List Val) (all_three ∷ []) (all_three ∷ []) refl $ fjoin ! $
    fpack ! (Valss (Row ∷ Sr ∷ Lk ∷ [])) (within (declared.shape (tuple_type (Row ∷ Sr ∷ Lk ∷ []))) (w, (r, (k, tt))) (all_three ∷ [])) (token_val ∷ [], (token_val ∷ [], (place_val p' ∷ [], tt))) $
    use0 𝓛 (raw (fact 𝓤 (p' ≡ z.base))) (fact_i 𝓤 (p' ≡ z.base) (emp 𝓤) (sym at ∙ sym is.0)) $ use0 𝓛 (raw (fact 𝓤 (r.me ≡ r.me))) (fact_i 𝓤 (r.me ≡ r.me) (emp 𝓤) (refl)) $ join ! $ use0 𝓛 (raw (fact 𝓤 (r.id ≡ r.id))) (fact_i 𝓤 (r.id ≡ r.id) (emp 𝓤) (refl)) $ join ! $ use0 𝓛 (raw (fact 𝓤 (z ≡ z))) (fact_i 𝓤 (z ≡ z) (emp 𝓤) (refl)) $ join ! $ use0 𝓛 (raw (fact 𝓤 (z.count ≡ length ns + left))) (fact_i 𝓤 (z.count ≡ length ns + left) (emp 𝓤) (is.1)) $ join ! $ use0 𝓛 (raw (fact 𝓤 (key ≡ key))) (fact_i 𝓤 (key ≡ key) (emp 𝓤) (refl)) $ join ! $ nothing ! $ nothing ! $ fjoin ! $ nothing ! $ fjoin ! $
    returns ! (look_at ! 0 refl) $ free_all ! refl $ keep ! (4 ∷ 0 ∷ 2 ∷ 1 ∷ []) $ by ! (leaves 𝓛 En hs c y all_three (w, r, k) (tt, (tt, tt)) (tt, (tt, tt)))))))))
