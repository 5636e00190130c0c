-- One step on a word at home, under the invariant, and how the words begin and end. Assumes `Logic`.
use Rattle.std.proofs.Common.{◌≡◌, ℕ, zero, suc, ◌+◌, ◌*◌, ◌<◌, T, List, [], ◌∷◌, ◌++◌, length, set, sym, refl, ap, ◌∙◌, subst, arith, length-set, suc-mul, w64}
use mathlib.Core.Option.{Option, some-injective}
use mathlib.Core.Option as maybe
use lib.ListN.{get_elem?}
use seplogic.Ra.Ura.{Ura}
use mir.Syntax.{ty_int, ty_array}
use mir.Raw.{raw as bare}
use mir.Val.{vint, has_ty, WT}
use base.Fraction.{full_share}
use base.Share.{quarter, three_quarters}
use base.Stored.{Coded, coded_ℕ}
use base.Logic.{SProp, ent, sep, wand, ex, all, guard, upd, via, apply∗, all_e, upd_i}
use base.Fml.{Lft, Share, Fml, ftrue, fsep, fex, fbor, finv, flft, fdead, flent, froom}
use prog.Memory.{size}
use prog.RawLaws.{size-raw}
use types.Logic.{Logic, sem}
use types.Owned.{basic}
use types.Keyed.{entries_from, entries_new, entries_take}
use types.Tokens.{lft_new, lft_end, bor_new, lent_back}
use types.SemTy.{cells}
use types.Kit.{‵, raw, ◌⊛◌, some, given, later, ◌$◌, ◌∵◌, !, qed, by, move, keep, drop, use0, use1, use2, use3, split, split3, fsplit, fsplit3, fjoin, fjoin3, fpick, fpack, pick, learn, check, show, frame, each, assume, suffices, await, updating, now, rewrite, settle, done}
use denote.Builtin.{u64}
use denote.Memory.{mem, lone}
use denote.RawPtr.{Ptr, block_ptr, block_of, count_of, InBlock}
use denote.Steps.{nothing}
use Rattle.core.specs.Sync.RawAtomic.{asks, always}
use Rattle.core.proofs.tally.Steps.{word_out}
use Rattle.std.specs.Global.{Global}
use Rattle.std.specs.contracts.impls.GlobalAllocator.TheImpl.{ghosts}
use Rattle.atomic_table.specs.Table.{Act, carried_after, Valid}
use Rattle.atomic_table.specs.Seated.{word, fact, seen, roster, halved, unused}
use Rattle.atomic_table.proofs.Lists.{set_again}
use Rattle.atomic_table.proofs.Roster.{Moved, moves, Joined, joins, apart, resets}
use Rattle.ell_arena.specs.Blocks.{block_ty, Fits, block_owns, right_to_free}
use Rattle.ell_arena.specs.Words.{State, Me, written, IsShared, unwritten, opening, stepped, Allows, Splits, Joins}
use Rattle.ell_arena.specs.Ownership.{WordsId, age, content, told, holding, held, tracked, shelf, carried, owed, mine, Good, standing, inner, Placed, common, rights, words_own}
use Rattle.ell_arena.proofs.lemmas.Borrows as borrows
use Rattle.ell_arena.proofs.lemmas.Shelves.{carried_both, set_twice, told_joined, taken, returned, acts, Put, carried_at}

-- a word has one content
home_once : (homes : List (Option ℕ)) (a n m : ℕ) → IsShared homes a n → IsShared homes a m → n ≡ m
home_once homes a n m p q = let e : suc n ≡ suc m = some-injective (suc n) (suc m) (some-injective (written n) (written m) (sym p ∙ q)) in omega arith

module _ {M : Type 1} {𝓤 : Ura M} (𝓛 : Logic 𝓤) {V : Type 0} (cv : Coded V) (holds : State V → Type 0) (z : WordsId) where
  open 𝓛 use {H, A}

  abbrev Pr : Type 2
  Pr = SProp 𝓤

  abbrev ◌⊢◌ : Pr → Pr → Type 1
  P ⊢ Q = ent 𝓤 P Q

  abbrev ◌∗◌ : Pr → Pr → Pr
  P ∗ Q = sep 𝓤 P Q

  abbrev ◌-∗◌ : Pr → Pr → Pr
  P -∗ Q = wand 𝓤 P Q

  abbrev ⟦◌⟧ : Fml → Pr
  ⟦ P ⟧ = sem 𝓛 P

  infix 26 ◌⊢◌
  infixr 35 ◌∗◌
  infixr 30 ◌-∗◌
  abbrev γ : ℕ
  γ = z.views_name

  abbrev ω : ℕ
  ω = z.words_name

  abbrev κ : Lft
  κ = age z

  abbrev b : ℕ
  b = block_of z.base

  abbrev o : ℕ
  o = count_of z.base

  abbrev I : Fml
  I = inner cv.code z holds

  abbrev sat : ℕ → Me V → Fml
  sat = mine cv.code z

  abbrev half : ℕ → V → Fml
  half id v = seen cv.code γ id three_quarters v

  abbrev on : List (Option ℕ) → Fml
  on hs = shelf κ z.base ω 0 hs

  abbrev out : List (ℕ × ℕ) → Fml
  out cs = carried κ z.base ω z.count cs

  packs : (t : State V) → Good cv.code z holds t → ⟦ on t.homes ⟧ ∗ ⟦ roster cv.code γ 0 t.views ⟧ ⊢ ⟦ I ⟧
  packs t good = qed 𝓛 (‵ (on t.homes) ∷ ‵ (roster cv.code γ 0 t.views) ∷ []) ∵
      nothing ! $ fpack ! (Good cv.code z holds t) (λ _. ftrue) good $ move ! (1 ∷ 2 ∷ 0 ∷ []) $ fjoin3 ! $ fpack ! (State V) (standing cv.code z holds) t $ done !

  -- ---- a step on the word a, which K shows to be at home, with Q left
  module _ (q : Share) (a : ℕ) (f : ℕ → ℕ) (after : ℕ → Fml) (K : Fml) (Q : State V → Pr) where
    abbrev e : ℕ
    e = a * 8 + o

    abbrev W : Fml
    W = held κ z.base ω a

    abbrev Is : State V → ℕ → Type 0
    Is s n = Good cv.code z holds s × IsShared s.homes a n

    abbrev Showing : State V → ℕ → Pr
    Showing s n = guard 𝓤 (IsShared s.homes a n) (Q s)

    abbrev Bare : ℕ → State V → Pr
    Bare n s = guard 𝓤 (Is s n) (⟦ told ω a three_quarters (suc n) ⟧ ∗ ⟦ on (set s.homes a maybe.none) ⟧ ∗ Q s)

    abbrev Mid : Pr
    Mid = ex 𝓤 (λ (t : ℕ × State V). Bare t.0 t.1)

    abbrev Turned : ℕ → State V → Pr
    Turned n s = guard 𝓤 (Is s n × (n < 18446744073709551616)) (⟦ told ω a three_quarters (suc (f n)) ⟧ ∗ ⟦ on (set s.homes a maybe.none) ⟧ ∗ Q s)

    abbrev Past : ℕ → Pr
    Past n = ex 𝓤 (Turned n)

    pub opened : ((s : State V) → Good cv.code z holds s → ⟦ roster cv.code γ 0 s.views ⟧ ∗ ⟦ K ⟧ ⊢ ex 𝓤 (Showing s))
        → ((s : State V) (n : ℕ) → Is s n → n < 18446744073709551616 → ⟦ on (set s.homes a (written (f n))) ⟧ ∗ Q s ⊢ upd 𝓤 (⟦ I ⟧ ∗ ⟦ after n ⟧))
        → A.inv (fbor κ I) ∗ A.lft κ q ∗ ⟦ K ⟧ ⊢ asks 𝓛 (block_ptr b e) f always (λ n. fsep (flft κ q) (after n))
    opened shows ends = borrows.borrowed_twice 𝓛 κ q I W b e f always after Mid Past ⟦ K ⟧
        (qed 𝓛 (‵ I ∷ ‵ K ∷ []) ∵ suffices ! _ (upd_i 𝓤 (⟦ fbor κ W ⟧ ∗ Mid)) $ fpick ! (λ s. fsplit3 ! $ move ! (2 ∷ []) $ fpick ! (λ so. drop ! $ move ! (1 ∷ 2 ∷ []) $
        use2 𝓛 (some (λ (n : ℕ). given (IsShared s.homes a n) (raw (Q s)))) (shows s so) $ pick ! (λ n. learn ! (λ is. move ! (1 ∷ []) $
        use1 𝓛 (given (a < length s.homes) (‵ (tracked κ z.base ω a (suc n)) ⊛ ‵ (on (set s.homes a maybe.none)))) (taken 𝓛 κ z.base ω s.homes 0 a a (suc n) (omega arith) is) $ learn ! (λ near. split ! $ fsplit ! $
        move ! (1 ∷ []) $ frame ! $ show ! (λ (t : ℕ × State V). Bare t.0 t.1) (n, s) $ check ! (so, is) $ done !))))))
        (qed 𝓛 (‵ W ∷ some (λ (t : ℕ × State V). given (Is t.1 t.0) (‵ (told ω a three_quarters (suc t.0)) ⊛ ‵ (on (set t.1.homes a maybe.none)) ⊛ raw (Q t.1))) ∷ []) ∵
        suffices ! _ (upd_i 𝓤 (ex 𝓤 (borrows.Lies 𝓛 κ q I W b e f always after Mid Past))) $ move ! (1 ∷ []) $ pick ! (λ t. let n : ℕ = t.0 in let s : State V = t.1 in learn ! (λ is. split3 ! $ move ! (3 ∷ []) $ fpick ! (λ y. fsplit ! $ move ! (1 ∷ 2 ∷ []) $
        use2 𝓛 (given (y ≡ suc n) (‵ (told ω a full_share y))) (told_joined 𝓛 κ z.base ω a y (suc n)) $ learn ! (λ same. move ! (1 ∷ []) $ rewrite ! 0 (λ (u : ℕ). ‵ (content b e u)) same refl $
        -- [the word; what is told; the others; Q]
        use1 𝓛 (given (T (has_ty (ty_int w64) (vint w64 n)) × WT (vint w64 n)) (‵ (word b e n))) (𝓛.laws.at_wt full_share (ty_int w64) b e (vint w64 n)) $ learn ! (λ typed.
        show ! (borrows.Lies 𝓛 κ q I W b e f always after Mid Past) n $ frame ! $ each ! (λ (_ : Unit {0}). borrows.Again 𝓛 κ q I W b e f always after Mid Past n) (λ _.
        assume ! (‵ (word b e (f n))) $ move ! (1 ∷ []) $ let Z : Pr = ⟦ W ⟧ ∗ Past n in let L : Fml = told ω a quarter (suc (f n)) in let R : Fml = told ω a three_quarters (suc (f n)) in
        use1 𝓛 (raw (upd 𝓤 (⟦ L ⟧ ∗ ⟦ R ⟧))) (resets 𝓛 coded_ℕ ω a y (suc (f n))) $ settle 𝓛 Z (‵ L ⊛ ‵ R) $ suffices ! _ (upd_i 𝓤 Z) $ split ! $ move ! (2 ∷ 0 ∷ []) $ fjoin ! $
        fpack ! ℕ (holding κ z.base ω a) (suc (f n)) $ frame ! $ show ! (Turned n) s $ check ! (is, typed.1.fits) $ done !)))))))
        (λ n. qed 𝓛 (‵ (fbor κ W) ∷ some (λ (s : State V). given (Is s n × (n < 18446744073709551616)) (‵ (told ω a three_quarters (suc (f n))) ⊛ ‵ (on (set s.homes a maybe.none)) ⊛ raw (Q s))) ∷ []) ∵
        move ! (1 ∷ []) $ pick ! (λ s. learn ! (λ is. split3 ! $ move ! (0 ∷ 3 ∷ []) $ fjoin ! $ move ! (1 ∷ 0 ∷ []) $
        use2 𝓛 (‵ (on (set (set s.homes a maybe.none) a (written (f n))))) (returned 𝓛 κ z.base ω (set s.homes a maybe.none) 0 a a (suc (f n)) (omega arith)) $
        rewrite ! 0 (λ (hs : List (Option ℕ)). ‵ (on hs)) (set_twice s.homes a maybe.none (written (f n))) refl $ by ! (ends s n is.0 is.1))))

  module _ (id : ℕ) (m : Me V) where
    abbrev At : State V → Type 0
    At s = get_elem? s.views id ≡ maybe.some m.0

    -- the seat's view stands in the roster, and both may move
    abbrev Moves : State V → Pr
    Moves s = guard 𝓤 (At s) (all 𝓤 (Moved 𝓛 cv γ 0 s.views id id) ∗ ⟦ out m.1 ⟧)

    module _ (q : Share) (a : ℕ) (f : ℕ → ℕ) (then : ℕ → Me V → Type 0) where
      abbrev pub next : ℕ → Me V → Fml
      next n u = fsep (fact (then n u)) (sat id u)

      abbrev pub after : ℕ → Fml
      after n = fex (Me V) (next n)

      abbrev Yields : State V → ℕ → Type 0
      Yields s n = n < 18446744073709551616 → (w : V) × (act : Act ℕ) × Valid (set s.homes a (written (f n))) m.1 act × holds (stepped holds s a (f n) id m.1 w act) × then n (w, carried_after m.1 act)

      pub steps : Allows holds id m a f then → A.inv (fbor κ I) ∗ A.lft κ q ∗ ⟦ sat id m ⟧ ⊢ asks 𝓛 (block_ptr b (a * 8 + o)) f always (λ n. fsep (flft κ q) (after n))
      steps law = opened q a f after (sat id m) Moves
          (λ s so. qed 𝓛 (‵ (roster cv.code γ 0 s.views) ∷ ‵ (half id m.0) ∷ ‵ (out m.1) ∷ []) ∵
          use2 𝓛 (given (At s) (raw (all 𝓤 (Moved 𝓛 cv γ 0 s.views id id)))) (moves 𝓛 cv γ s.views 0 id id m.0 (omega arith)) $ learn ! (λ at. let r = law s so.0 at in
          show ! (λ (n : ℕ). guard 𝓤 (IsShared s.homes a n) (Moves s)) r.0 $ check ! r.1 $ check ! at $ done !))
          (λ s n is small. let hs : List (Option ℕ) = set s.homes a (written (f n)) in qed 𝓛 (‵ (on hs) ∷ given (At s) (raw (all 𝓤 (Moved 𝓛 cv γ 0 s.views id id)) ⊛ ‵ (out m.1)) ∷ []) ∵
          move ! (1 ∷ []) $ learn ! (λ at. split ! $ let r = law s is.0.0 at in let u = subst (Yields s) (home_once s.homes a r.0 n r.1 is.1) r.2 small in let w : V = u.0 in let act : Act ℕ = u.1 in
          let t : State V = stepped holds s a (f n) id m.1 w act in let m' : Me V = (w, carried_after m.1 act) in let Z : Pr = ⟦ I ⟧ ∗ ⟦ after n ⟧ in
          -- [the moves; what is out; the words]
          move ! (2 ∷ 1 ∷ []) $ use2 𝓛 (given (length t.homes ≡ z.count) (‵ (on t.homes) ⊛ ‵ (out m'.1))) (acts 𝓛 κ z.base ω z.count hs m.1 act (length-set s.homes a (written (f n)) ∙ is.0.1) u.2) $ learn ! (λ long. split ! $
          move ! (2 ∷ []) $ use1 𝓛 (raw (Moved 𝓛 cv γ 0 s.views id id w)) (all_e 𝓤 (Moved 𝓛 cv γ 0 s.views id id) w) $ settle 𝓛 Z (‵ (roster cv.code γ 0 t.views) ⊛ ‵ (half id w)) $ split ! $
          -- [the roster; the view; the words; what is out]
          move ! (2 ∷ 0 ∷ []) $ use2 𝓛 (‵ I) (packs t (u.3, long)) $ suffices ! _ (upd_i 𝓤 Z) $ frame ! $ fjoin ! $ nothing ! $ fpack ! (then n m') (λ _. ftrue) u.4 $ fjoin ! $ fpack ! (Me V) (next n) m' $ done !)))

    module _ (q : Share) (a : ℕ) (l r : V) where
      abbrev pub two : ℕ → Fml
      two j = fsep (sat id (l, m.1)) (sat j (r, []))

      pub forks : Splits holds a id m.0 l r → A.inv (fbor κ I) ∗ A.lft κ q ∗ ⟦ sat id m ⟧ ⊢ asks 𝓛 (block_ptr b (a * 8 + o)) (λ n. n) always (λ n. fsep (flft κ q) (fex ℕ two))
      forks law = opened q a (λ n. n) (λ _. fex ℕ two) (sat id m) Moves
          (λ s so. qed 𝓛 (‵ (roster cv.code γ 0 s.views) ∷ ‵ (half id m.0) ∷ ‵ (out m.1) ∷ []) ∵
          use2 𝓛 (given (At s) (raw (all 𝓤 (Moved 𝓛 cv γ 0 s.views id id)))) (moves 𝓛 cv γ s.views 0 id id m.0 (omega arith)) $ learn ! (λ at. let u = law s so.0 at in
          show ! (λ (n : ℕ). guard 𝓤 (IsShared s.homes a n) (Moves s)) u.0.0 $ check ! u.0.1 $ check ! at $ done !))
          (λ s n is small. let hs : List (Option ℕ) = set s.homes a (written n) in let same : hs ≡ s.homes = set_again s.homes a (written n) is.1 in let Z : Pr = ⟦ I ⟧ ∗ ⟦ fex ℕ two ⟧ in let vs : List V = set s.views id l in
          qed 𝓛 (‵ (on hs) ∷ given (At s) (raw (all 𝓤 (Moved 𝓛 cv γ 0 s.views id id)) ⊛ ‵ (out m.1)) ∷ []) ∵ rewrite ! 0 (λ (x : List (Option ℕ)). ‵ (on x)) same refl $ move ! (1 ∷ []) $ learn ! (λ at. split ! $
          let good = (law s is.0.0 at).1 in let t : State V = record { words = s.words; homes = s.homes; views = vs ++ r ∷ [] } in
          use1 𝓛 (raw (Moved 𝓛 cv γ 0 s.views id id l)) (all_e 𝓤 (Moved 𝓛 cv γ 0 s.views id id) l) $ settle 𝓛 Z (‵ (roster cv.code γ 0 vs) ⊛ ‵ (half id l)) $ split ! $
          use1 𝓛 (raw (upd 𝓤 (ex 𝓤 (Joined 𝓛 cv γ 0 vs r)))) (joins 𝓛 cv γ vs 0 r) $ settle 𝓛 Z (some (λ (j : ℕ). ‵ (roster cv.code γ 0 t.views) ⊛ ‵ (half j r))) $ pick ! (λ j. split ! $
          -- [the roster; the new view; the old one; what is out; the words]
          move ! (4 ∷ 0 ∷ []) $ use2 𝓛 (‵ I) (packs t (good, is.0.1)) $ suffices ! _ (upd_i 𝓤 Z) $ frame ! $ show ! (λ (x : ℕ). ⟦ two x ⟧) j $
          nothing ! $ move ! (1 ∷ 0 ∷ []) $ fjoin ! $ move ! (1 ∷ 2 ∷ []) $ fjoin ! $ done !)))

    module _ (q : Share) (a other : ℕ) (it : Me V) (both spent : V) where
      abbrev pub merged : Fml
      merged = fsep (sat id (both, m.1 ++ it.1)) (sat other (spent, []))

      abbrev Both : State V → Pr
      Both s = guard 𝓤 (At s × ¬ (other ≡ id)) (all 𝓤 (Moved 𝓛 cv γ 0 s.views id id) ∗ ⟦ out m.1 ⟧ ∗ ⟦ sat other it ⟧)

      pub absorbs : Joins holds a id m.0 other it.0 both spent → A.inv (fbor κ I) ∗ A.lft κ q ∗ ⟦ fsep (sat id m) (sat other it) ⟧ ⊢ asks 𝓛 (block_ptr b (a * 8 + o)) (λ n. n) always (λ n. fsep (flft κ q) merged)
      absorbs law = opened q a (λ n. n) (λ _. merged) (fsep (sat id m) (sat other it)) Both
          (λ s so. qed 𝓛 (‵ (roster cv.code γ 0 s.views) ∷ ‵ (sat id m) ∷ ‵ (sat other it) ∷ []) ∵ move ! (1 ∷ []) $ fsplit ! $ move ! (3 ∷ []) $ fsplit ! $ move ! (2 ∷ 0 ∷ []) $
          -- [a view; the other's; what is lent to the other; what is lent; the roster]
          use2 𝓛 (given (¬ (other ≡ id)) (‵ (half id m.0) ⊛ ‵ (half other it.0))) (apart 𝓛 cv γ id other m.0 it.0) $ learn ! (λ distinct. split ! $ move ! (4 ∷ 0 ∷ []) $
          use2 𝓛 (given (At s) (raw (all 𝓤 (Moved 𝓛 cv γ 0 s.views id id)))) (moves 𝓛 cv γ s.views 0 id id m.0 (omega arith)) $ learn ! (λ at. let u = law s so.0 at in
          show ! (λ (n : ℕ). guard 𝓤 (IsShared s.homes a n) (Both s)) u.0.0 $ check ! u.0.1 $ check ! (at, distinct) $ move ! (1 ∷ 2 ∷ []) $ fjoin ! $ move ! (1 ∷ 2 ∷ 0 ∷ []) $ done !)))
          (λ s n is small. let hs : List (Option ℕ) = set s.homes a (written n) in let same : hs ≡ s.homes = set_again s.homes a (written n) is.1 in let Z : Pr = ⟦ I ⟧ ∗ ⟦ merged ⟧ in let vs : List V = set s.views id both in
          qed 𝓛 (‵ (on hs) ∷ given (At s × ¬ (other ≡ id)) (raw (all 𝓤 (Moved 𝓛 cv γ 0 s.views id id)) ⊛ ‵ (out m.1) ⊛ ‵ (sat other it)) ∷ []) ∵ rewrite ! 0 (λ (x : List (Option ℕ)). ‵ (on x)) same refl $ move ! (1 ∷ []) $ learn ! (λ at. split3 ! $
          let t : State V = record { words = s.words; homes = s.homes; views = set vs other spent } in
          use1 𝓛 (raw (Moved 𝓛 cv γ 0 s.views id id both)) (all_e 𝓤 (Moved 𝓛 cv γ 0 s.views id id) both) $ settle 𝓛 Z (‵ (roster cv.code γ 0 vs) ⊛ ‵ (half id both)) $ split ! $ move ! (3 ∷ []) $ fsplit ! $ move ! (2 ∷ 0 ∷ []) $
          -- [the roster; the other's view; what is lent to the other; a view; what is lent; the words]
          use2 𝓛 (given (get_elem? vs other ≡ maybe.some it.0) (raw (all 𝓤 (Moved 𝓛 cv γ 0 vs other other)))) (moves 𝓛 cv γ vs 0 other other it.0 (omega arith)) $ learn ! (λ there.
          use1 𝓛 (raw (Moved 𝓛 cv γ 0 vs other other spent)) (all_e 𝓤 (Moved 𝓛 cv γ 0 vs other other) spent) $ settle 𝓛 Z (‵ (roster cv.code γ 0 t.views) ⊛ ‵ (half other spent)) $ split ! $
          move ! (5 ∷ 0 ∷ []) $ use2 𝓛 (‵ I) (packs t ((law s is.0.0 at.0).1 at.1 there, is.0.1)) $ suffices ! _ (upd_i 𝓤 Z) $ frame ! $ move ! (3 ∷ 1 ∷ []) $
          use2 𝓛 (‵ (out (m.1 ++ it.1))) (carried_both 𝓛 κ z.base ω z.count m.1 it.1) $ move ! (2 ∷ 0 ∷ []) $ fjoin ! $ move ! (1 ∷ []) $ nothing ! $ move ! (1 ∷ 0 ∷ []) $ fjoin ! $ move ! (1 ∷ 0 ∷ []) $ done !)))

  -- ---- plain memory
  pub emptied_word : (y x : ℕ) → ⟦ content b x y ⟧ ⊢ ⟦ froom (ty_int w64) b x ⟧
  emptied_word zero x = base.Logic.id⊢ 𝓤 ⟦ froom (ty_int w64) b x ⟧
  emptied_word (suc n) x = 𝓛.laws.at_room (ty_int w64) b x (vint w64 n)

  -- the j-th word that is out with a seat: the room of the word, and what it takes to give it back with another content
  abbrev pub Gives : ℕ → V → List (ℕ × ℕ) → ℕ → ℕ → ℕ → Pr
  Gives id v cs j a y = ⟦ tracked κ z.base ω a y ⟧ -∗ ⟦ sat id (v, set cs j (a, y)) ⟧

  pub lent : (id : ℕ) (m : Me V) (j a y : ℕ) → get_elem? m.1 j ≡ maybe.some (a, y) → ⟦ sat id m ⟧ ⊢ guard 𝓤 (a < z.count) (⟦ told ω a three_quarters y ⟧ ∗ ⟦ fbor κ (held κ z.base ω a) ⟧ ∗ all 𝓤 (Gives id m.0 m.1 j a))
  lent id m j a y at = qed 𝓛 (‵ (half id m.0) ∷ ‵ (out m.1) ∷ []) ∵ move ! (1 ∷ []) $
      use1 𝓛 (given (a < z.count) (‵ (tracked κ z.base ω a y) ⊛ raw (all 𝓤 (Put 𝓛 κ z.base ω z.count m.1 j a)))) (carried_at 𝓛 κ z.base ω z.count m.1 j a y at) $ learn ! (λ near. check ! near $ split ! $ fsplit ! $ frame ! $ frame ! $
      each ! (Gives id m.0 m.1 j a) (λ u. use1 𝓛 (raw (Put 𝓛 κ z.base ω z.count m.1 j a u)) (all_e 𝓤 (Put 𝓛 κ z.base ω z.count m.1 j a) u) $ assume ! (‵ (tracked κ z.base ω a u)) $
      use2 𝓛 (‵ (out (set m.1 j (a, u)))) (apply∗ 𝓤 ⟦ tracked κ z.base ω a u ⟧ ⟦ out (set m.1 j (a, u)) ⟧) $ move ! (1 ∷ 0 ∷ []) $ done !))

  -- ---- the end
  collects : (n k e : ℕ) → e ≡ k * 8 + o → A.dead κ ∗ ⟦ owed κ z.base ω k n ⟧ ⊢ H.⇛ ⟦ froom (ty_array (bare (lone u64.mir)) n) b e ⟧
  collects zero k e is = qed 𝓛 (‵ (fdead κ) ∷ ‵ ftrue ∷ []) ∵ updating ! $ now ! $ drop ! $ drop ! $ by ! (𝓛.laws.room_nil (bare (lone u64.mir)) b e)
  collects (suc n) k e is = let next : e + 8 ≡ e + size (bare (lone u64.mir)) = ap (λ (w : ℕ). e + w) (sym (size-raw (lone u64.mir))) in
      qed 𝓛 (‵ (fdead κ) ∷ ‵ (owed κ z.base ω k (suc n)) ∷ []) ∵ updating ! $ use1 𝓛 (‵ (fdead κ) ⊛ ‵ (fdead κ)) (𝓛.lfts.dead_dup κ) $ split ! $ move ! (2 ∷ []) $ fsplit ! $ move ! (2 ∷ 0 ∷ []) $ lent_back ! tt $
      fpick ! (λ y. fsplit ! $ use1 𝓛 (‵ (froom (bare (lone u64.mir)) b (k * 8 + o))) (emptied y (k * 8 + o)) $ rewrite ! 0 (λ (x : ℕ). ‵ (froom (bare (lone u64.mir)) b x)) (sym is) refl $
      -- [the room; what was told; the owed; dead]
      move ! (3 ∷ 2 ∷ []) $ use2 𝓛 (later (‵ (froom (ty_array (bare (lone u64.mir)) n) b (e + 8)))) (collects n (suc k) (e + 8) (omega (arith, suc-mul k 8))) $ await ! tt $
      rewrite ! 0 (λ (x : ℕ). ‵ (froom (ty_array (bare (lone u64.mir)) n) b x)) next refl $ now ! $ move ! (1 ∷ 0 ∷ []) $ use2 𝓛 (‵ (froom (ty_array (bare (lone u64.mir)) (suc n)) b e)) (𝓛.laws.room_cons (bare (lone u64.mir)) n b e) $ keep ! (0 ∷ []) $ done !)
    where
      emptied : (y x : ℕ) → ⟦ content b x y ⟧ ⊢ ⟦ froom (bare (lone u64.mir)) b x ⟧
      emptied zero x = 𝓛.laws.room-raw (ty_int w64) b x
      emptied (suc n) x = qed 𝓛 (‵ (word b x n) ∷ []) ∵ use1 𝓛 (‵ (froom (ty_int w64) b x)) (𝓛.laws.at_room (ty_int w64) b x (vint w64 n)) $ by ! (𝓛.laws.room-raw (ty_int w64) b x)

  pub lies : ⟦ words_own cv.code z holds ⟧ ⊢ guard 𝓤 (Placed z) ⟦ words_own cv.code z holds ⟧
  unfolding Rattle.ell_arena.specs.Ownership.seal
  lies = qed 𝓛 (‵ (flft κ full_share) ∷ ‵ (common cv.code z holds) ∷ ‵ (rights cv.code z holds) ∷ []) ∵ move ! (1 ∷ []) $ fsplit ! $ fpick ! (λ at. check ! at $ fpack ! (Placed z) (λ _. ftrue) at $ fjoin ! $ move ! (1 ∷ 0 ∷ []) $ done !)

  -- what one handle to the heap may free, any other may
  any_handle : (heap : Global) → ⟦ right_to_free (block_ty u64 z.count) z.base ⟧ ⊢ ⟦ ghosts.dealloc_token heap (block_ty u64 z.count) z.base ⟧
  any_handle heap = qed 𝓛 (‵ (right_to_free (block_ty u64 z.count) z.base) ∷ []) ∵ fpick ! (λ _. done !)

  pub ends : (heap : Global) → ⟦ words_own cv.code z holds ⟧ ⊢ H.⇛ (guard 𝓤 (Placed z) ⟦ block_owns u64 (ghosts.dealloc_token heap) z.base [] z.count ⟧)
  unfolding Rattle.ell_arena.specs.Ownership.seal
  ends heap = qed 𝓛 (‵ (flft κ full_share) ∷ ‵ (common cv.code z holds) ∷ ‵ (rights cv.code z holds) ∷ []) ∵ updating ! $ lft_end ! tt $ move ! (1 ∷ []) $ fsplit ! $ fpick ! (λ at. drop ! $ drop ! $ move ! (1 ∷ []) $ fsplit ! $
      move ! (1 ∷ []) $ use1 𝓛 (‵ (ghosts.dealloc_token heap (block_ty u64 z.count) z.base)) (any_handle heap) $ move ! (2 ∷ 1 ∷ []) $
      use2 𝓛 (later (‵ (froom (ty_array (bare (lone u64.mir)) z.count) b (0 * 8 + o)))) (collects z.count 0 (0 * 8 + o) refl) $ await ! tt $ let long : z.count ≡ 0 + z.count = omega arith in
      rewrite ! 1 (λ (n : ℕ). ‵ (ghosts.dealloc_token heap (block_ty u64 n) z.base)) long refl $ nothing ! $ nothing ! $ fpack ! (InBlock z.base × Fits u64 (0 + z.count)) (λ _. ftrue) (at.0, subst (Fits u64) long at.1) $
      now ! $ check ! at $ keep ! (0 ∷ 1 ∷ 2 ∷ 3 ∷ []) $ done !)

-- ---- the start
module _ {M : Type 1} {𝓤 : Ura M} (𝓛 : Logic 𝓤) (κ : Lft) (p : Ptr) (ω : ℕ) where
  open 𝓛 use {H}

  abbrev ◌⊢₂◌ : SProp 𝓤 → SProp 𝓤 → Type 1
  P ⊢₂ Q = ent 𝓤 P Q

  abbrev ⟪◌⟫ : Fml → SProp 𝓤
  ⟪ P ⟫ = sem 𝓛 P

  infix 26 ◌⊢₂◌
  abbrev τ : mir.Syntax.Ty
  τ = bare (lone u64.mir)

  abbrev names : ℕ → Fml
  names k = entries_from halved ω k (λ _. (full_share, coded_ℕ.code 0))

  lends_one : (k e y : ℕ) → e ≡ k * 8 + count_of p → sep 𝓤 ⟪ names k ⟫ ⟪ content (block_of p) e y ⟫ ⊢₂ H.⇛ (sep 𝓤 ⟪ tracked κ p ω k y ⟫ (sep 𝓤 ⟪ flent κ (held κ p ω k) ⟫ ⟪ names (suc k) ⟫))
  lends_one k e y is = let L : Fml = told ω k quarter y in let R : Fml = told ω k three_quarters y in qed 𝓛 (‵ (names k) ∷ ‵ (content (block_of p) e y) ∷ []) ∵ updating ! $
      use1 𝓛 (‵ (told ω k full_share 0) ⊛ ‵ (names (suc k))) (entries_take halved 𝓛 ω k (λ _. (full_share, coded_ℕ.code 0))) $ split ! $
      use1 𝓛 (later (‵ L ⊛ ‵ R)) (via 𝓤 _ (resets 𝓛 coded_ℕ ω k 0 y) (basic 𝓛 (sep 𝓤 ⟪ L ⟫ ⟪ R ⟫))) $ await ! tt $ split ! $ move ! (3 ∷ 0 ∷ []) $ rewrite ! 0 (λ (x : ℕ). ‵ (content (block_of p) x y)) is refl $ fjoin ! $
      fpack ! ℕ (holding κ p ω k) y $ bor_new ! tt κ $ move ! (2 ∷ 0 ∷ []) $ fjoin ! $ now ! $ done !

  lends_fresh : (n k e : ℕ) → e ≡ k * 8 + count_of p → sep 𝓤 ⟪ names k ⟫ ⟪ froom (ty_array τ n) (block_of p) e ⟫ ⊢₂ H.⇛ (sep 𝓤 ⟪ shelf κ p ω k (unwritten n) ⟫ ⟪ owed κ p ω k n ⟫)
  lends_fresh zero k e is = qed 𝓛 (‵ (names k) ∷ ‵ (froom (ty_array τ 0) (block_of p) e) ∷ []) ∵ updating ! $ nothing ! $ nothing ! $ keep ! (0 ∷ 1 ∷ []) $ now ! $ done !
  lends_fresh (suc n) k e is = let b : ℕ = block_of p in let next : e + size τ ≡ e + 8 = ap (λ (w : ℕ). e + w) (size-raw (lone u64.mir)) in qed 𝓛 (‵ (names k) ∷ ‵ (froom (ty_array τ (suc n)) b e) ∷ []) ∵ updating ! $ move ! (1 ∷ []) $
      use1 𝓛 (‵ (froom τ b e) ⊛ ‵ (froom (ty_array τ n) b (e + size τ))) (𝓛.laws.room_uncons τ n b e) $ split ! $ use1 𝓛 (‵ (content b e 0)) (𝓛.laws.raw-room (ty_int w64) b e) $ move ! (2 ∷ 0 ∷ []) $
      use2 𝓛 (later (‵ (tracked κ p ω k 0) ⊛ ‵ (flent κ (held κ p ω k)) ⊛ ‵ (names (suc k)))) (lends_one k e 0 is) $ await ! tt $ split3 ! $ move ! (2 ∷ 3 ∷ []) $ rewrite ! 1 (λ (x : ℕ). ‵ (froom (ty_array τ n) b x)) next refl $
      use2 𝓛 (later (‵ (shelf κ p ω (suc k) (unwritten n)) ⊛ ‵ (owed κ p ω (suc k) n))) (lends_fresh n (suc k) (e + 8) (omega (arith, suc-mul k 8))) $ await ! tt $ split ! $
      -- [the words; the owed; the word; its right]
      move ! (2 ∷ 0 ∷ []) $ fjoin ! $ move ! (2 ∷ 1 ∷ []) $ fjoin ! $ now ! $ move ! (1 ∷ 0 ∷ []) $ done !

  pub lends : {V : Type 0} (v : V) (ns : List ℕ) (left k e e' : ℕ) → e ≡ k * 8 + count_of p → e' ≡ length ns * 8 + e
      → sep 𝓤 ⟪ names k ⟫ (sep 𝓤 ⟪ cells (mem u64) ns (block_of p) e ⟫ ⟪ froom (ty_array τ left) (block_of p) e' ⟫) ⊢₂ H.⇛ (sep 𝓤 ⟪ shelf κ p ω k (opening ns left v).homes ⟫ ⟪ owed κ p ω k (length ns + left) ⟫)
  lends v [] left k e e' is at = let same : e' ≡ e = omega arith in let none : left ≡ 0 + left = omega arith in qed 𝓛 (‵ (names k) ∷ ‵ ftrue ∷ ‵ (froom (ty_array τ left) (block_of p) e') ∷ []) ∵ move ! (0 ∷ 2 ∷ []) $ rewrite ! 1 (λ (x : ℕ). ‵ (froom (ty_array τ left) (block_of p) x)) same refl $ updating ! $
      use2 𝓛 (later (‵ (shelf κ p ω k (unwritten left)) ⊛ ‵ (owed κ p ω k left))) (lends_fresh left k e is) $ await ! tt $ split ! $ rewrite ! 1 (λ (x : ℕ). ‵ (owed κ p ω k x)) none refl $ now ! $ keep ! (0 ∷ 1 ∷ []) $ done !
  lends v (n ∷ ns) left k e e' is at = let b : ℕ = block_of p in let long : suc (length ns + left) ≡ suc (length ns) + left = omega arith in qed 𝓛 (‵ (names k) ∷ ‵ (cells (mem u64) (n ∷ ns) b e) ∷ ‵ (froom (ty_array τ left) b e') ∷ []) ∵ updating ! $ move ! (1 ∷ []) $ fsplit ! $
      use1 𝓛 (‵ (content b e (suc n))) (word_out 𝓛 b e n) $ move ! (2 ∷ 0 ∷ []) $ use2 𝓛 (later (‵ (tracked κ p ω k (suc n)) ⊛ ‵ (flent κ (held κ p ω k)) ⊛ ‵ (names (suc k)))) (lends_one k e (suc n) is) $ await ! tt $ split3 ! $
      move ! (2 ∷ 3 ∷ 4 ∷ []) $ use3 𝓛 (later (‵ (shelf κ p ω (suc k) (opening ns left v).homes) ⊛ ‵ (owed κ p ω (suc k) (length ns + left)))) (lends v ns left (suc k) (e + 8) e' (omega (arith, suc-mul k 8)) (omega (arith, suc-mul (length ns) 8))) $ await ! tt $ split ! $
      move ! (2 ∷ 0 ∷ []) $ fjoin ! $ move ! (2 ∷ 1 ∷ []) $ fjoin ! $ rewrite ! 0 (λ (x : ℕ). ‵ (owed κ p ω k x)) long refl $ now ! $ move ! (1 ∷ 0 ∷ []) $ done !

pub opening_long : {V : Type 0} (v : V) (ns : List ℕ) (left : ℕ) → length (opening ns left v).homes ≡ length ns + left
opening_long v [] left = unwritten_long left ∙ (let r : left ≡ 0 + left = omega arith in r)
  where
    unwritten_long : (n : ℕ) → length (unwritten n) ≡ n
    unwritten_long zero = refl
    unwritten_long (suc n) = ap suc (unwritten_long n)
opening_long v (n ∷ ns) left = ap suc (opening_long v ns left) ∙ (let r : suc (length ns + left) ≡ suc (length ns) + left = omega arith in r)

opening_views : {V : Type 0} (v : V) (ns : List ℕ) (left : ℕ) → (opening ns left v).views ≡ v ∷ []
opening_views v [] left = refl
opening_views v (n ∷ ns) left = refl

module _ {M : Type 1} {𝓤 : Ura M} (𝓛 : Logic 𝓤) {V : Type 0} (cv : Coded V) (holds : State V → Type 0) (heap : Global) (p : Ptr) (ns : List ℕ) (left : ℕ) (v : V) where
  open 𝓛 use {H}

  abbrev pub Begun : WordsId → SProp 𝓤
  Begun z = guard 𝓤 ((z.base ≡ p) × (z.count ≡ length ns + left) × InBlock p) (sep 𝓤 (sem 𝓛 (words_own cv.code z holds)) (sem 𝓛 (mine cv.code z 0 (v, []))))

  pub begins : holds (opening ns left v) → ent 𝓤 (sem 𝓛 (block_owns u64 (ghosts.dealloc_token heap) p ns left)) (H.⇛ (ex 𝓤 Begun))
  unfolding Rattle.ell_arena.specs.Ownership.seal
  begins good = let s₀ : State V = opening ns left v in let b : ℕ = block_of p in let o : ℕ = count_of p in let n : ℕ = length ns + left in
      qed 𝓛 (‵ (block_owns u64 (ghosts.dealloc_token heap) p ns left) ∷ []) ∵ updating ! $ fsplit3 ! $ fpick ! (λ so. drop ! $ move ! (1 ∷ []) $ fsplit ! $
      -- [the room; the token; the words]
      use0 𝓛 (later (some (λ (ω : ℕ). ‵ (entries_from halved ω 0 (λ _. (full_share, coded_ℕ.code 0)))))) (via 𝓤 _ (entries_new halved 𝓛 0 (λ _. (full_share, coded_ℕ.code 0))) (basic 𝓛 (ex 𝓤 (λ (ω : ℕ). sem 𝓛 (entries_from halved ω 0 (λ _. (full_share, coded_ℕ.code 0))))))) $ await ! tt $ pick ! (λ ω.
      lft_new ! tt (λ a. let κ : Lft = a ∷ [] in
      use0 𝓛 (later (some (λ (γ : ℕ). ‵ (unused cv.code γ 0 v)))) (via 𝓤 _ (entries_new halved 𝓛 0 (λ _. (full_share, cv.code v))) (basic 𝓛 (ex 𝓤 (λ (γ : ℕ). sem 𝓛 (unused cv.code γ 0 v))))) $ await ! tt $ pick ! (λ γ.
      let z : WordsId = record { count = n; base = p; views_name = γ; words_name = ω; atom = a } in let I : Fml = inner cv.code z holds in let L : Fml = seen cv.code γ 0 quarter v in let Mine : Fml = seen cv.code γ 0 three_quarters v in
      -- [the views; the lifetime; the names; the room; the token; the words]
      move ! (2 ∷ 5 ∷ 3 ∷ []) $ use3 𝓛 (later (‵ (shelf κ p ω 0 s₀.homes) ⊛ ‵ (owed κ p ω 0 n))) (lends 𝓛 κ p ω v ns left 0 o (length ns * 8 + o) (let r : o ≡ 0 * 8 + o = omega arith in r) refl) $ await ! tt $ split ! $ move ! (2 ∷ []) $
      use1 𝓛 (‵ (seen cv.code γ 0 full_share v) ⊛ ‵ (unused cv.code γ 1 v)) (entries_take halved 𝓛 γ 0 (λ _. (full_share, cv.code v))) $ split ! $
      use1 𝓛 (later (‵ L ⊛ ‵ Mine)) (via 𝓤 _ (resets 𝓛 cv γ 0 v v) (basic 𝓛 (sep 𝓤 (sem 𝓛 L) (sem 𝓛 Mine)))) $ await ! tt $ split ! $ move ! (2 ∷ []) $ fpack ! V (unused cv.code γ 1) v $ move ! (1 ∷ 0 ∷ []) $ fjoin ! $
      -- [the roster; the view; the words at home; the owed; the lifetime; the token]
      rewrite ! 0 (λ (vs : List V). ‵ (Rattle.atomic_table.specs.Seated.roster cv.code γ 0 vs)) (sym (opening_views v ns left)) refl $
      move ! (2 ∷ 0 ∷ []) $ use2 𝓛 (‵ I) (packs 𝓛 cv holds z s₀ (good, opening_long v ns left)) $ bor_new ! tt κ $ use1 𝓛 (later (‵ (finv (fbor κ I)))) (𝓛.invs.inv_new (fbor κ I)) $ await ! tt $
      nothing ! $ fpack ! (Placed z) (λ _. ftrue) (so.0, so.1) $ fjoin ! $
      -- [what is common; the borrow's right; the view; the owed; the lifetime; the token]
      move ! (5 ∷ []) $ fpack ! Global (λ h. ghosts.dealloc_token h (block_ty u64 n) p) heap $ move ! (4 ∷ 0 ∷ []) $ fjoin ! $ move ! (4 ∷ 1 ∷ 0 ∷ []) $ fjoin3 ! $ nothing ! $ move ! (3 ∷ 0 ∷ []) $ fjoin ! $ now ! $ show ! Begun z $ check ! (refl, refl, so.0) $ keep ! (1 ∷ 0 ∷ []) $ done !))))
