-- `push` writes the next value.
use Rattle.std.proofs.Common.{◌≡◌, ℕ, ◌+◌, ◌-◌, ◌*◌, ◌^◌, ◌<◌, List, [], ◌∷◌, ◌++◌, length, suc, sym, refl, ap, ◌∙◌, subst, arith, w64}
use mir.Syntax.{Ty, a_type, dcons, dnil}
use mir.Val.{Val, vint}
use mir.MapTy.{inst_fn}
use base.Fraction.{full_share}
use base.Logic.{SProp, ent, emp, all, all_e, apply∗, id⊢}
use base.Fml.{Fml, ftrue, fsep, fat, froom, flft}
use mir.Raw.{raw as bare}
use prog.Memory.{size}
use prog.Wp.{WpFn}
use types.Logic.{sem}
use types.Kit.{join}
use types.Kit.{◌∵◌, ‵, raw, ◌⊛◌, given, at_ret, ◌$◌, !, qed, by, move, keep, use0, use1, use2, split, fsplit, fsplit3, fjoin, fpick, fpack, learn, suffices, rewrite}
use types.Run.{stop, fld, size_word, of_opd, bin, init, assigns_last, no_more, and_then, first, blocks, exec, returns, enter}
use types.ByLocal.{alloc_all, pass_all, free_all, look_at, get, get_in, through, sets, is, env}
use types.Part.{agg, sub, whole as all_of_it}
use contract.Running.{tables}
use contract.Monad.{fact, fact_i}
use denote.Exit.{yes, no}
use denote.RattleType.{RattleType, owns}
use denote.Signature.{types_at, plain}
use denote.RawPtr.{Ptr, block_ptr, block_of, count_of, at_block, InBlock}
use denote.Steps.{nothing, heard}
use denote.Memory.{lone, part_at}
use denote.Param.{param, bounded, layout}
use denote.Param.Laws.{param_laws}
use denote.Struct.Members.{Member}
use denote.Builtin.{usize}
use denote.Triple.Walked.{Stays, stay_dropped, walk_of, Goes-dropped}
use Rattle.core.proofs.cell.Inside.{one, gather}
use Rattle.core.proofs.slots.Bodies.{after}
use Rattle.atomic_table.proofs.Walks.{proved_at, leaves}
use Rattle.atomic_blocks.proofs.RowMade.{uncapped}
use Rattle.ell_arena.specs.Blocks.{Fits, block_owns}
use Rattle.ell_arena.specs.contracts.block.Block as block
use Rattle.ell_arena.proofs.lemmas.Made.{block_val, block_good, AnyData, any_told, any_made}
use Rattle.ell_arena.proofs.lemmas.Rooms as rooms
use Rattle.ell_arena.specs.contracts.block.Block.push.{ended, clauses}
use Rattle.ell_arena.specs.contracts.block.Block.push.Key.{name as #self}
use Rattle.ell_arena.proofs.block.Block.push.Statement.{statement}
use Rattle.ell_arena.proofs.block.Block.push.Code as code

pub push_spec : {M : Type 1} → statement M
push_spec 𝓤 𝓛 𝓜 𝓡 wired T Al L _ ga da dd _ _ =
    let H = 𝓛.H in let 𝓣 = tables 𝓤 H 𝓜 𝓡 𝓡.env in let R : RattleType = param 0 T in let Z : RattleType = param 1 Al in let Bk : RattleType = block.the_row R Z ga in let En = ended T Al ga da dd in let c = clauses T Al ga da dd 𝓛 𝓜.mem 𝓡.returns in
    let inst = bounded (a_type ∷ a_type ∷ []) (T, (Al, tt)) (dcons da (dcons dd dnil)) in let fn = inst_fn inst code.function in let s : ℕ = size (lone R.mir) in
    let hs : Stays En.signature.params En.kept = (stay_dropped (plain (λ _. Bk)) no, (stay_dropped (plain (λ _. usize)) yes, (stay_dropped (plain (λ _. R)) no, tt))) in
    proved_at 𝓛 En hs c 𝓜 𝓡 (Goes-dropped 𝓛 2 (plain (λ _. Bk)) no (λ κs x f. refl), (Goes-dropped 𝓛 2 (plain (λ _. usize)) yes (λ κs x f. refl), (Goes-dropped 𝓛 2 (plain (λ _. R)) no (λ κs x f. refl), tt)))
    (#self inst) fn (code.unfolded 𝓤 H 𝓜 𝓡 wired (T, (Al, tt)) da dd) (λ y are. let κs = y.0.0 in let qs = y.0.1 in let a = y.0.3 in let vss = y.0.4 in let Post : Val → SProp 𝓤 = (walk_of 𝓛 En hs c).post y in
    let h : Bk.Denot = a.0 in let token : Ty → Ptr → Fml = ga.dealloc_token h.heap in let p : Ptr = h.ptr in let j : ℕ = a.1.0 in let new : T.Denot = a.1.1.0 in
    let b : ℕ = block_of p in let e : ℕ = j * s + count_of p in let left : ℕ = h.left - 1 in let LR = (param_laws 0 T L).lawful 𝓛 in let m : Member = record { row = R; ty = layout T } in let got = one (layout T) vss.1.1.0 (LR.typed new vss.1.1.0 are.1.1.0) in let vy : Val = got.0 in
    let others : Fml = fsep (flft κs.0 qs.0) (fsep (flft κs.1.0 qs.1.0) ftrue) in
    qed 𝓛 ((‵ others ⊛ ‵ (owns (types_at En.signature.params κs) a vss)) ∷ raw (fact 𝓤 _) ∷ raw (fact 𝓤 _) ∷ raw (fact 𝓤 (j ≡ length h.items)) ∷ raw (fact 𝓤 (0 < h.left)) ∷ []) ∵
    keep ! (3 ∷ 4 ∷ 0 ∷ []) $ heard ! (j ≡ length h.items) (λ h₀. heard ! (0 < h.left) (λ h₁. let asked : (j ≡ length h.items) × (0 < h.left) = (h₀, h₁) in split ! $ move ! (1 ∷ []) $ fsplit3 ! $ move ! (2 ∷ []) $ fsplit ! $ move ! (2 ∷ []) $ fsplit ! $
    -- [the block's fields; what it owns; the value; nothing; the index; the tokens]
    keep ! (1 ∷ 2 ∷ 5 ∷ []) $ fsplit ! $ fpick ! (λ so. fpack ! (InBlock p × Fits R (length h.items + h.left)) (λ _. ftrue) so $ fjoin ! $
    let pos : 0 < h.left = asked.1 in let long : j ≡ length h.items = asked.0 in let p' : Ptr = block_ptr b (count_of p) in let Again = rooms.More 𝓛 R token p h.items left e in
    rewrite ! 0 (λ (n : ℕ). ‵ (block_owns R token p h.items n)) (let r : h.left ≡ suc left = omega arith in r) refl $ rewrite ! 1 (λ (ws : List Val). ‵ (R.own_val new ws)) got.1 refl $
    use1 𝓛 (given (length h.items * s < 2 ^ 63) (‵ (froom (bare (layout T)) b e) ⊛ raw (all 𝓤 Again))) (rooms.next_room 𝓛 R token p h.items left e (ap (λ (z : ℕ). z * s + count_of p) long)) $ learn ! (λ low. split ! $
    use1 𝓛 (‵ (froom (layout T) b e)) (𝓛.laws.raw-room (layout T) b e) $
    let small : j * s < 2 ^ 64 = (let x : j * s < 2 ^ 63 = subst (λ (z : ℕ). z * s < 2 ^ 63) (sym long) low in omega arith) in
    let us : List Val = block_val p' ∷ vint w64 j ∷ vy ∷ [] in let Run : List Val → SProp 𝓤 = λ ws. WpFn 𝓤 H 𝓣.C 𝓣.Λ fn ws Post in let told : vss.0 ≡ block_val p' ∷ [] = any_told R Z ga h vss.0 are.0 ∙ ap (λ (u : Ptr). block_val u ∷ []) (at_block p so.0) in
    suffices ! (Run us) (subst (λ (ws : List Val). ent 𝓤 (Run us) (Run ws)) (sym (λ i. told i ++ (are.1.0.0 i ++ (got.1 i ++ [])))) (id⊢ 𝓤 (Run us))) $
    enter ! 𝓣.C 𝓣.Λ fn us Post $ alloc_all ! (λ l. pass_all ! refl (block_good p', ((tt, record { fits = are.1.0.1 }), (got.2, tt))) $ let Ev = env fn.locals l in
    -- [the room; the way back; the value; the tokens]
    sets ! (of_opd ! (get_in ! (fld ! refl (stop !)) (sub ! 0 refl (all_of_it !)))) refl (tt, tt) $ sets ! (of_opd ! (get_in ! (fld ! refl (stop !)) (sub ! 1 refl (all_of_it !)))) refl (tt, tt) $ first ! $ blocks ! $
    sets ! (is ! (bin ! (get ! refl) (size_word !) (record { fits = subst (λ (j : ℕ). j < 2 ^ 64) (sym (uncapped j s small)) small })) (ap (vint w64) (uncapped j s small))) refl (tt, record { fits = small }) $
    sets ! (bin ! (get ! refl) (get ! refl) tt) refl (tt, tt) $ sets ! (of_opd ! (get ! refl)) refl got.2 $ assigns_last ! (of_opd ! (get ! refl)) (through ! refl (stop !)) (init ! 0 refl got.2) $
    exec ! 𝓣.C 𝓣.Λ Ev (after 3 fn.body) (at_ret Ev Post) $ sets ! (agg ! (and_then ! (get ! refl) (and_then ! (get ! refl) (no_more !)))) refl (block_good p') $
    use1 𝓛 (‵ (fat full_share (bare (layout T)) b e vy)) (𝓛.laws.at_raw full_share (layout T) b e vy) $ move ! (0 ∷ 2 ∷ []) $ gather m ! new vy b e $
    let new_items : List T.Denot = h.items ++ new ∷ [] in move ! (1 ∷ []) $ use1 𝓛 (raw (Again new)) (all_e 𝓤 Again new) $ move ! (1 ∷ 0 ∷ []) $
    use2 𝓛 (‵ (block_owns R token p new_items left)) (apply∗ 𝓤 (sem 𝓛 (part_at R full_share new b e)) (sem 𝓛 (block_owns R token p new_items left))) $
    let r : Bk.Denot = record { ptr = p; marker = record {}; heap = h.heap; items = new_items; left = left } in
    use0 𝓛 (‵ ((AnyData R Z ga).own_val (p, (tt, tt)) (block_val p ∷ []))) (any_made R Z ga 𝓛 p) $ fjoin ! $ rewrite ! 0 (λ (u : Ptr). ‵ (Bk.own_val r (block_val u ∷ []))) (at_block p so.0) refl $
    use0 𝓛 (raw (fact 𝓤 (left + 1 ≡ h.left))) (fact_i 𝓤 (left + 1 ≡ h.left) (emp 𝓤) (omega arith)) $ use0 𝓛 (raw (fact 𝓤 (new_items ≡ new_items))) (fact_i 𝓤 (new_items ≡ new_items) (emp 𝓤) (refl)) $ join ! $ use0 𝓛 (raw (fact 𝓤 (h.heap ≡ h.heap))) (fact_i 𝓤 (h.heap ≡ h.heap) (emp 𝓤) (refl)) $ join ! $ use0 𝓛 (raw (fact 𝓤 (p ≡ h.ptr))) (fact_i 𝓤 (p ≡ h.ptr) (emp 𝓤) (refl)) $ join ! $
    nothing ! $ nothing ! $ fjoin ! $ nothing ! $ fjoin ! $ nothing ! $ fjoin ! $
    returns ! (look_at ! 0 refl) $ free_all ! refl $ keep ! (3 ∷ 0 ∷ 2 ∷ 1 ∷ []) $ by ! (leaves 𝓛 En hs c y (block_val p') r (tt, (tt, (tt, tt))) (tt, (tt, (tt, tt))))))))))
