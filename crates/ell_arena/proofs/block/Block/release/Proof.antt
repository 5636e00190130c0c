-- `release` gives the room back.
use Rattle.std.proofs.Common.{◌≡◌, ℕ, ◌+◌, ◌*◌, ◌^◌, ◌<◌, List, [], ◌∷◌, length, sym, refl, ap, subst, arith, w64}
use mir.Syntax.{Ty, a_type, dcons, dnil, named}
use mir.Val.{Val, vunit, vint, vptr}
use mir.MapTy.{inst_fn}
use base.Fraction.{full_share}
use base.Logic.{SProp, ent, id⊢}
use base.Fml.{Lft, Share, Fml, Incl-trans, ftrue, fsep, fat, froom, flft}
use prog.Memory.{align, capped, size}
use prog.Capped.{capped_fits}
use prog.Wp.{WpFn}
use contract.BorrowLft.{◌⊑◌}
use types.Kit.{◌∵◌, ‵, raw, ◌⊛◌, some, given, later, at_ret, ◌$◌, !, qed, by, move, keep, use1, use3, split, join, fsplit, fsplit3, fjoin, pick, learn, suffices, await, rewrite, feq_i}
use types.Run.{stop, fld, size_word, align_word, unit_lit, of_opd, bin, no_more, and_then, first, blocks, exec, returns, enter}
use types.ByLocal.{alloc_all, pass_all, free_all, look_at, get, get_in, sets, lands_last, is, env}
use types.Part.{sub, whole as all_of_it}
use contract.Running.{tables}
use contract.Monad.{fact}
use denote.Exit.{yes, no}
use denote.RattleType.{RattleType, owns}
use denote.Signature.{types_at, plain}
use denote.RawPtr.{Ptr, block_ptr, block_of, count_of, at_block, InBlock}
use denote.Steps.{nothing, heard}
use denote.Memory.{lone, part_at}
use denote.Param.{param, bounded}
use denote.Builtin.{RefOf, usize}
use denote.Ref.{shr_vals, shr_Tells}
use denote.Plain.{uint_vals, uint_Tells}
use denote.Triple.Call.{calls_at_last}
use denote.Triple.Walked.{Stays, stay_dropped, walk_of, Goes-dropped}
use Rattle.core.proofs.slots.Bodies.{after}
use Rattle.core.proofs.mem.Param.{El, elτ, Good}
use Rattle.core.proofs.slice.Rows.{el_out}
use Rattle.core.proofs.alloc.Calls.{Al as Handle, Gives, at_gives, Gives-goes, Gives-Gives}
use Rattle.atomic_table.proofs.Walks.{proved, leaves}
use Rattle.atomic_table.proofs.Calls.{fm}
use Rattle.atomic_blocks.proofs.RowMade.{uncapped}
use Rattle.ell_arena.specs.Blocks.{block_ty, Fits, block_owns}
use Rattle.ell_arena.specs.contracts.block.Block as block
use Rattle.ell_arena.proofs.lemmas.Made.{block_val, block_good, any_told}
use Rattle.ell_arena.proofs.lemmas.Rooms as rooms
use Rattle.ell_arena.specs.contracts.block.Block.release.{ended, clauses}
use Rattle.ell_arena.specs.contracts.block.Block.release.Key.{name as #self}
use Rattle.ell_arena.proofs.block.Block.release.Statement.{statement}
use Rattle.ell_arena.proofs.block.Block.release.Code as code

pub release_spec : {M : Type 1} → statement M
release_spec 𝓤 𝓛 𝓜 𝓡 wired T Al L LA ga da dd met _ =
    let H = 𝓛.H in let 𝓣 = tables 𝓤 H 𝓜 𝓡 𝓡.env in let R : RattleType = param 0 T in let Z : RattleType = param 1 Al in let Bk : RattleType = block.the_row R Z ga in let E : El = record { row = T; laws = L } in
    let En = ended T Al ga da dd in let c = clauses T Al ga da dd 𝓛 𝓜.mem 𝓡.returns in let inst = bounded (a_type ∷ a_type ∷ []) (T, (Al, tt)) (dcons da (dcons dd dnil)) in let fn = inst_fn inst code.function in
    let Hd : Handle = record { row = Al; laws = LA; g = ga; d = da; drops = dd } in let el : Ty = lone R.mir in
    let al : ℕ = capped (align el) in let handle = RefOf (0 ∷ []) tt (plain (λ _. Z)) (λ _. tt) in
    let hs : Stays En.signature.params En.kept = (stay_dropped (plain (λ _. Bk)) no, (stay_dropped handle yes, (stay_dropped (plain (λ _. usize)) yes, tt))) in
    proved 𝓛 En hs c 𝓜 𝓡 (Goes-dropped 𝓛 3 (plain (λ _. Bk)) no (λ κs x f. refl), (Goes-dropped 𝓛 3 handle yes (λ κs x f. refl), (Goes-dropped 𝓛 3 (plain (λ _. usize)) yes (λ κs x f. refl), tt))) (#self inst) fn (code.unfolded 𝓤 H 𝓜 𝓡 wired (T, (Al, tt)) da dd)
    (λ κs. ((λ x. block_val x.ptr ∷ []), (shr_vals, (uint_vals w64, tt)))) (λ κs. (any_told R Z ga, (shr_Tells (named 0) κs.0 Z, (uint_Tells w64, tt)))) (λ κs qs bounds a gh are.
    let h : Bk.Denot = a.0 in let hp : ℕ × ℕ = a.1.0.ref_ptr in let heap : Al.Denot = a.1.0.now in let p : Ptr = h.ptr in let n : ℕ = a.1.1.0 in let τ : Ty = block_ty R n in let s : ℕ = n * size el in let κ : Lft = κs.0 in let q : Share = qs.0 in let token : Ty → Ptr → Fml = ga.dealloc_token heap in
    let y : (walk_of 𝓛 En hs c).Ghost = ((κs, qs, bounds, a, (block_val p ∷ [], (vptr hp.0 hp.1 ∷ [], (vint w64 n ∷ [], tt)))), gh) in let Post : Val → SProp 𝓤 = (walk_of 𝓛 En hs c).post y in
    let others : Fml = fsep (flft κs.1.0 qs.1.0) (fsep (flft κs.1.1.0 qs.1.1.0) ftrue) in let b : ℕ = block_of p in let o : ℕ = count_of p in let p' : Ptr = block_ptr b o in
    let us : Ptr → List Val = λ u. block_val u ∷ vptr hp.0 hp.1 ∷ vint w64 n ∷ [] in let Run : List Val → SProp 𝓤 = λ ws. WpFn 𝓤 H 𝓣.C 𝓣.Λ fn ws Post in
    let gives = λ (x : R.Denot) (b o : ℕ). qed 𝓛 (‵ (part_at R full_share x b o) ∷ []) ∵ use1 𝓛 (some (λ (v : Val). given (Good E v) (‵ (fat full_share (elτ E) b o v) ⊛ ‵ (E.row.own_val x (v ∷ []))))) (el_out E 𝓛 b x o) $ pick ! (λ v. learn ! (λ tv. split ! $
    keep ! (0 ∷ []) $ use1 𝓛 (‵ (froom (elτ E) b o)) (𝓛.laws.at_room (elτ E) b o v) $ by ! (𝓛.laws.room-raw (elτ E) b o))) in
    qed 𝓛 (((‵ (flft κ q) ⊛ ‵ others) ⊛ ‵ (owns (types_at En.signature.params κs) a y.0.4)) ∷ raw (fact 𝓤 _) ∷ raw (fact 𝓤 (κs.1.1.0 ⊑ Al.lives)) ∷ raw (fact 𝓤 (h.heap ≡ heap)) ∷ raw (fact 𝓤 (length h.items + h.left ≡ n)) ∷ []) ∵
    keep ! (2 ∷ 3 ∷ 4 ∷ 0 ∷ []) $ heard ! (κs.1.1.0 ⊑ Al.lives) (λ inside. heard ! (h.heap ≡ heap) (λ h₀. heard ! (length h.items + h.left ≡ n) (λ h₁. let asked : (h.heap ≡ heap) × (length h.items + h.left ≡ n) = (h₀, h₁) in split ! $ split ! $ move ! (2 ∷ []) $ fsplit3 ! $ fsplit ! $ move ! (2 ∷ []) $ fsplit ! $ keep ! (3 ∷ 1 ∷ 5 ∷ 6 ∷ []) $
    rewrite ! 0 (λ (u : Al.Denot). ‵ (block_owns R (ga.dealloc_token u) p h.items h.left)) asked.0 refl $
    use1 𝓛 (given (InBlock p × Fits R n) (‵ (froom τ b o) ⊛ ‵ (token τ p))) (rooms.gathers 𝓛 R token gives p h.items h.left n asked.1) $ learn ! (λ fits. let small : s < 2 ^ 64 = (let x : s < 2 ^ 63 = fits.1 in omega arith) in split ! $ rewrite ! 1 (λ (u : Ptr). ‵ (token τ u)) (at_block p fits.0) refl $
    suffices ! (Run (us p')) (subst (λ (u : Ptr). ent 𝓤 (Run (us p')) (Run (us u))) (sym (at_block p fits.0)) (id⊢ 𝓤 (Run (us p')))) $
    enter ! 𝓣.C 𝓣.Λ fn (us p') Post $ alloc_all ! (λ l. pass_all ! refl (block_good p', ((tt, tt), ((tt, record { fits = are.1.1.0.1 }), tt))) $ let Ev = env fn.locals l in
    sets ! (of_opd ! (get_in ! (fld ! refl (stop !)) (sub ! 0 refl (all_of_it !)))) refl (tt, tt) $ first ! $ blocks ! $
    sets ! (of_opd ! (get ! refl)) refl (tt, tt) $
    sets ! (is ! (bin ! (get ! refl) (size_word !) (record { fits = subst (λ (j : ℕ). j < 2 ^ 64) (sym (uncapped n (size el) small)) small })) (ap (vint w64) (uncapped n (size el) small))) refl (tt, record { fits = small }) $
    move ! (2 ∷ 3 ∷ []) $ join ! $ move ! (1 ∷ 2 ∷ 0 ∷ []) $ let Asks = Gives Hd 𝓛 𝓜.mem 𝓡.returns in let w : Asks.Ghost = at_gives Hd 𝓛 𝓜.mem 𝓡.returns κ q hp heap b o s al τ in
    use3 𝓛 (raw (Asks.pre w)) (Gives-goes Hd 𝓛 𝓜.mem 𝓡.returns κ q hp heap (Incl-trans bounds.0 inside) b o s al τ (rooms.block_size R n small) (rooms.block_align R n) small (capped_fits (align el))) $
    calls_at_last ! (fm 𝓛 𝓜 𝓡) Asks (met.deallocate dd) w (and_then ! (get ! refl) (and_then ! (get ! refl) (and_then ! (get ! refl) (and_then ! (align_word !) (no_more !))))) (λ u.
    use1 𝓛 (later (given (u ≡ vunit) (‵ (flft κ q)))) (Gives-Gives Hd 𝓛 𝓜.mem 𝓡.returns κ q hp heap b o s al τ u) $ await ! tt $ learn ! (λ e. lands_last ! refl (subst (λ (z : Val). lib.Dec.T (mir.Val.has_ty mir.Syntax.ty_unit z) × mir.Val.WT z) (sym e) (tt, tt)) $
    exec ! 𝓣.C 𝓣.Λ Ev (after 2 fn.body) (at_ret Ev Post) $ sets ! (of_opd ! (unit_lit !)) refl (tt, tt) $ join ! $ nothing ! $ feq_i ! (List Val) (vunit ∷ []) (vunit ∷ []) refl $ nothing ! $ nothing ! $ fjoin ! $ nothing ! $ fjoin ! $ nothing ! $ fjoin ! $
    returns ! (look_at ! 0 refl) $ free_all ! refl $ keep ! (3 ∷ 0 ∷ 1 ∷ 2 ∷ []) $ by ! (leaves 𝓛 En hs c y vunit tt (tt, (tt, (tt, tt))) (tt, (tt, (tt, tt))))))))))))
