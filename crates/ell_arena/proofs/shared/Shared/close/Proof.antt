-- `close` ends the lifetime, and has the block back.
use denote.RawPtr.{RawPtr}
use Rattle.std.proofs.Common.{◌≡◌, List, [], ◌∷◌, refl}
use mir.Syntax.{a_type, dcons, dnil}
use mir.Val.{Val, vptr}
use mir.MapTy.{inst_fn}
use base.Stored.{Coded}
use base.Logic.{SProp, emp}
use types.Kit.{join}
use types.Kit.{‵, raw, ◌⊛◌, given, later, ◌$◌, ◌∵◌, !, qed, by, move, keep, use0, use1, split, fsplit, fjoin, learn, await}
use types.Run.{no_more, and_then, returns, enter}
use types.ByLocal.{alloc_all, pass_all, free_all, look_at, get, sets, env}
use types.Part.{agg}
use contract.Running.{tables}
use contract.Monad.{fact, fact_i}
use denote.Exit.{yes, no}
use denote.RattleType.{RattleType, owns}
use denote.Signature.{types_at, plain}
use denote.RawPtr.{Ptr, block_ptr, block_of, count_of, at_block}
use Rattle.std.specs.Global.{Global}
use Rattle.std.specs.contracts.impls.GlobalAllocator.TheImpl.{ghosts}
use denote.Steps.{nothing, heard}
use denote.Param.{param, bounded}
use denote.Builtin.{RefOf, u64}
use denote.Triple.Entry.{alive}
use denote.Triple.Walked.{Stays, stay_dropped, walk_of, Goes-dropped}
use Rattle.atomic_table.proofs.Walks.{proved, leaves}
use Rattle.atomic_blocks.proofs.RowMade.{token_val, token_told}
use Rattle.ell_arena.specs.Ownership.{WordsId, Placed}
use Rattle.std.specs.contracts.alloc.Global as heap
use Rattle.ell_arena.specs.contracts.shared.Base as place
use Rattle.ell_arena.specs.Blocks.{block_owns}
use Rattle.ell_arena.proofs.lemmas.Made.{Words, place_val, place_good, place_told, block_val, block_good, block_made, BlockData}
use denote.Ref.{shr_vals, shr_Tells}
use mir.Syntax.{named}
use prog.Wp.{WpFn}
use base.Logic.{ent, id⊢}
use types.Kit.{suffices, rewrite}
use types.Run.{stop, fld}
use types.ByLocal.{get_in}
use types.Part.{sub, whole as all_of_it}
use Rattle.std.proofs.Common.{ℕ, ◌+◌, sym, ◌∙◌, subst, arith}
use Rattle.ell_arena.specs.contracts.shared.Shared as words
use Rattle.ell_arena.proofs.lemmas.Moves as moves
use Rattle.ell_arena.specs.contracts.shared.Shared.close.{ended, clauses}
use Rattle.ell_arena.specs.contracts.shared.Shared.close.Key.{name as #self}
use Rattle.ell_arena.proofs.shared.Shared.close.Statement.{statement}
use Rattle.ell_arena.proofs.shared.Shared.close.Code as code

pub close_spec : {M : Type 1} → statement M
unfolding Rattle.ell_arena.specs.Ownership.seal
close_spec 𝓤 𝓛 𝓜 𝓡 wired U Q P _ _ _ g d _ =
    let H = 𝓛.H in let 𝓣 = tables 𝓤 H 𝓜 𝓡 𝓡.env in let W : RattleType = param 0 U in let X : RattleType = param 1 Q in let Y : RattleType = param 2 P in
    let Row : RattleType = words.the_row W X Y g in let Lk : RattleType = place.the_row in let cv : Coded U.Denot = W.coded in let En = ended U Q P g d in let c = clauses U Q P g d 𝓛 𝓜.mem 𝓡.returns in
    let inst = bounded (a_type ∷ a_type ∷ a_type ∷ []) (U, (Q, (P, tt))) (dcons d dnil) in let fn = inst_fn inst code.function in
    let handle = RefOf (0 ∷ []) tt (plain (λ _. heap.the_row)) (λ _. tt) in
    let hs : Stays En.signature.params En.kept = (stay_dropped (plain (λ _. Row)) no, (stay_dropped (plain (λ _. Lk)) yes, (stay_dropped handle yes, tt))) in
    proved 𝓛 En hs c 𝓜 𝓡 (Goes-dropped 𝓛 4 (plain (λ _. Row)) no (λ κs x f. refl), (Goes-dropped 𝓛 4 (plain (λ _. Lk)) yes (λ κs x f. refl), (Goes-dropped 𝓛 4 handle yes (λ κs x f. refl), tt))) (#self inst) fn (code.unfolded 𝓤 H 𝓜 𝓡 wired (U, (Q, (P, tt))) d)
    (λ κs. ((λ _. token_val ∷ []), ((λ x. place_val x.ptr ∷ []), (shr_vals, tt)))) (λ κs. ((λ x vs so. token_told RawPtr vs so.0), (place_told, (shr_Tells (named 0) κs.0 heap.the_row, tt)))) (λ κs qs bounds a gh are.
    let y : (walk_of 𝓛 En hs c).Ghost = ((κs, qs, bounds, a, (token_val ∷ [], (place_val a.1.0.ptr ∷ [], (vptr a.1.1.0.ref_ptr.0 a.1.1.0.ref_ptr.1 ∷ [], tt)))), gh) in let Post : Val → SProp 𝓤 = (walk_of 𝓛 En hs c).post y in
    let t : Row.Denot = a.0 in let z : WordsId = t.id in let holds = g.holds t.key in let p : Ptr = a.1.0.ptr in let p' : Ptr = block_ptr (block_of z.base) (count_of z.base) in let n : ℕ = z.count in let alloc : Global = a.1.1.0.now in let Asked : Type 0 = p ≡ z.base in
    qed 𝓛 ((raw (alive 𝓛 En.signature κs qs) ⊛ ‵ (owns (types_at En.signature.params κs) a y.0.4)) ∷ raw (fact 𝓤 _) ∷ raw (fact 𝓤 _) ∷ raw (fact 𝓤 _) ∷ raw (fact 𝓤 Asked) ∷ []) ∵ keep ! (4 ∷ 0 ∷ []) $ heard ! Asked (λ asked. split ! $ move ! (1 ∷ []) $ fsplit ! $ fsplit ! $ keep ! (1 ∷ 3 ∷ []) $
    use1 𝓛 (given (Placed z) (‵ (Rattle.ell_arena.specs.Ownership.words_own cv.code z holds))) (moves.lies 𝓛 cv holds z) $ learn ! (λ so. let at : z.base ≡ p' = at_block z.base so.0 in
    let us : Ptr → List Val = λ u. token_val ∷ place_val u ∷ vptr a.1.1.0.ref_ptr.0 a.1.1.0.ref_ptr.1 ∷ [] in let Run : List Val → SProp 𝓤 = λ ws. WpFn 𝓤 H 𝓣.C 𝓣.Λ fn ws Post in
    suffices ! (Run (us p')) (subst (λ (u : Ptr). ent 𝓤 (Run (us p')) (Run (us u))) (sym (asked ∙ at)) (id⊢ 𝓤 (Run (us p')))) $
    enter ! 𝓣.C 𝓣.Λ fn (us p') Post $ alloc_all ! (λ l. pass_all ! refl ((tt, (tt, tt)), (place_good p', ((tt, tt), tt))) $ let Ev = env fn.locals l in
    use1 𝓛 (later (given (Placed z) (‵ (block_owns u64 (ghosts.dealloc_token alloc) z.base [] n)))) (moves.ends 𝓛 cv holds z alloc) $ await ! tt $ learn ! (λ _. rewrite ! 0 (λ (u : Ptr). ‵ (block_owns u64 (ghosts.dealloc_token alloc) u [] n)) at refl $
    sets ! (agg ! (no_more !)) refl (tt, tt) $ sets ! (agg ! (and_then ! (get_in ! (fld ! refl (stop !)) (sub ! 0 refl (all_of_it !))) (and_then ! (get ! refl) (no_more !)))) refl (block_good p') $
    let r : Words.Denot = record { ptr = p'; marker = record {}; heap = alloc; items = []; left = n } in use0 𝓛 (‵ (BlockData.own_val (p', (tt, tt)) (block_val p' ∷ []))) (block_made 𝓛 p') $ fjoin ! $
    use0 𝓛 (raw (fact 𝓤 (0 + n ≡ n))) (fact_i 𝓤 (0 + n ≡ n) (emp 𝓤) (omega arith)) $ use0 𝓛 (raw (fact 𝓤 (alloc ≡ alloc))) (fact_i 𝓤 (alloc ≡ alloc) (emp 𝓤) (refl)) $ join ! $ nothing ! $ nothing ! $ fjoin ! $ nothing ! $ fjoin ! $ nothing ! $ fjoin ! $
    returns ! (look_at ! 0 refl) $ free_all ! refl $ keep ! (3 ∷ 0 ∷ 2 ∷ 1 ∷ []) $ by ! (leaves 𝓛 En hs c y (block_val p') r (tt, (tt, (tt, tt))) (tt, (tt, (tt, tt)))))))))
