-- What keeps the rule of pairs, and what each step owes it.
use Rattle.std.proofs.Common.{◌≡◌, ◌≢◌, ℕ, zero, suc, ◌+◌, ◌<◌, ◌≤◌, ◌⊎◌, inl, inr, List, [], ◌∷◌, length, set, sym, refl, ap, ◌∙◌, subst, arith, length-set}
use mathlib.Core.Logic.{dite}
use native.Mathlib.Decide.{ℕ_discrete, dec_le}
use mathlib.Core.Option.{Option, none, some, some-injective, some-ne-none}
use lib.ListN.{get_elem?}
use lib.Dec.{eqb}
use prog.Atomic.{either}
use Rattle.atomic_table.specs.Table.{keeps}
use Rattle.atomic_table.proofs.Lists.{at_set, set_here, set_else, at_snoc, exchanged}
use Rattle.ell_arena.specs.Words.{State, Me, IsShared, written, unwritten, opening, Allows, Outcome, Splits, Joins, Tells}
use Rattle.ell_arena.specs.Stretches.{lends, returns}
use Rattle.ell_arena.proofs.lemmas.Stretches.{valid_lends, valid_returns}
use Rattle.ell_test_arena.specs.declared.pairs.Known.{Known}
use Rattle.ell_test_arena.specs.Pairs.{HasWord, IsPair, IsFreshFrom, IsTrue, AreTrue, Stands, HoldsPairs, first_known, MarkFound, PairTaken, PairShared, DoorFound, Unchanged}

-- what is at an address is within
within : (hs : List (Option ℕ)) (a : ℕ) (x : Option ℕ) → get_elem? hs a ≡ some x → a < length hs
within [] a x at = absurd (some-ne-none x (sym at))
within (h ∷ hs) zero x at = omega arith
within (h ∷ hs) (suc a) x at = let r : a < length hs = within hs a x at in omega arith

-- a shared word may get another number, and nothing else is lost
word_kept : (hs : List (Option ℕ)) (a n : ℕ) → HasWord hs a → (b : ℕ) → HasWord hs b → HasWord (set hs a (written n)) b
word_kept hs a n here b there = dite (ℕ_discrete b a)
    (λ e. (n, subst (λ (i : ℕ). get_elem? (set hs a (written n)) i ≡ some (written n)) (sym e) (set_here hs a (written n) (within hs a (written here.0) here.1))))
    (λ apart. (there.0, set_else hs a b (written n) apart ∙ there.1))

-- a word that is not shared may go away, and nothing else is lost
word_stays : (hs : List (Option ℕ)) (a : ℕ) (x : Option ℕ) → get_elem? hs a ≡ some (some 0) → (b : ℕ) → HasWord hs b → HasWord (set hs a x) b
word_stays hs a x at b there = (there.0, set_else hs a b x (λ e. clash (subst (λ (i : ℕ). get_elem? hs i ≡ some (written there.0)) e there.1)) ∙ there.1)
  where
    clash : get_elem? hs a ≡ some (written there.0) → ⊥
    clash w = let e : 0 ≡ suc there.0 = some-injective 0 (suc there.0) (some-injective (some 0) (written there.0) (sym at ∙ w)) in omega arith

-- what was shared is shared
abbrev Keeps : List (Option ℕ) → List (Option ℕ) → Type 0
Keeps hs hs' = (b : ℕ) → HasWord hs b → HasWord hs' b

-- what seats know stays true, and one of them may know more
true_kept : (hs hs' : List (Option ℕ)) (m m' : ℕ) (views : List Known) (id : ℕ) (w : Known) → Keeps hs hs' → m ≤ m' → AreTrue hs m views → IsTrue hs' m' w
    → AreTrue hs' m' (set views id w)
true_kept hs hs' m m' views id w kept up are is k v at = go (at_set views id k w v at)
  where
    go : ((k ≡ id) × (w ≡ v)) ⊎ ((k ≢ id) × (get_elem? views k ≡ some v)) → IsTrue hs' m' v
    go (inl e) = subst (IsTrue hs' m') e.1 is
    go (inr e) = let t = are k v e.1 in ((kept v.pair t.0.0, kept (suc v.pair) t.0.1), (let r : v.reached ≤ m = t.1 in omega arith))

-- the rule after a step, of whose words and views this is known
stands_after : (count : ℕ) (hs hs' : List (Option ℕ)) (views : List Known) (m m' d d' id : ℕ) (w : Known) → Stands count hs views m d → Keeps hs hs' → length hs' ≡ length hs
    → IsShared hs' 0 m' → m ≤ m' → m' ≤ count → IsFreshFrom hs' m' → IsShared hs' 1 d' → IsPair hs' d' → IsTrue hs' m' w → Stands count hs' (set views id w) m' d'
stands_after count hs hs' views m m' d d' id w s kept long at up near fresh door pair is = record {
  long = long ∙ s.long;
  marked = at;
  low = (let r : 2 ≤ m = s.low in omega arith);
  high = near;
  fresh = fresh;
  opens = door;
  pair = pair;
  true_views = true_kept hs hs' m m' views id w kept up s.true_views is;
}

pair_kept : (hs hs' : List (Option ℕ)) (a : ℕ) → Keeps hs hs' → IsPair hs a → IsPair hs' a
pair_kept hs hs' a kept p = (kept a p.0, kept (suc a) p.1)

-- what is below the mark may change
fresh_set : (hs : List (Option ℕ)) (m a : ℕ) (x : Option ℕ) → a < m → IsFreshFrom hs m → IsFreshFrom (set hs a x) m
fresh_set hs m a x below fresh b l near = let q : length (set hs a x) ≡ length hs = length-set hs a x in set_else hs a b x (λ e. omega arith) ∙ fresh b l (omega arith)

fresh_above : (hs : List (Option ℕ)) (m m' : ℕ) → m ≤ m' → IsFreshFrom hs m → IsFreshFrom hs m'
fresh_above hs m m' up fresh b l near = fresh b (omega arith) near

-- a shared word is below the mark
below : (hs : List (Option ℕ)) (m a : ℕ) → IsFreshFrom hs m → HasWord hs a → a < m
below hs m a fresh there = dite (dec_le m a)
    (λ l. let e : 0 ≡ suc there.0 = some-injective 0 (suc there.0) (some-injective (some 0) (written there.0) (sym (fresh a l (within hs a (written there.0) there.1)) ∙ there.1)) in absurd (omega arith))
    (λ n. omega arith)

module _ (count : ℕ) (s : State Known) (m d id : ℕ) (st : Stands count s.homes s.views m d) where
  -- a shared word, which is neither the mark nor the door, gets a number
  aside : (a n : ℕ) (w : Known) → 2 ≤ a → HasWord s.homes a → IsTrue s.homes m w → Stands count (set s.homes a (written n)) (set s.views id w) m d
  aside a n w high here is = let hs : List (Option ℕ) = s.homes in let hs' : List (Option ℕ) = set hs a (written n) in let kept : Keeps hs hs' = word_kept hs a n here in
      stands_after count hs hs' s.views m m d d id w st kept (length-set hs a (written n)) (set_else hs a 0 (written n) (λ e. omega arith) ∙ st.marked) (omega arith) st.high
      (fresh_set hs m a (written n) (below hs m a st.fresh here) st.fresh) (set_else hs a 1 (written n) (λ e. omega arith) ∙ st.opens) (pair_kept hs hs' d kept st.pair) (pair_kept hs hs' w.pair kept is.0, is.1)

  -- the mark is written again
  mark_again : (w : Known) → IsTrue s.homes m w → Stands count (set s.homes 0 (written m)) (set s.views id w) m d
  mark_again w is = let hs : List (Option ℕ) = s.homes in let hs' : List (Option ℕ) = set hs 0 (written m) in let here : HasWord hs 0 = (m, st.marked) in let kept : Keeps hs hs' = word_kept hs 0 m here in
      stands_after count hs hs' s.views m m d d id w st kept (length-set hs 0 (written m)) (set_here hs 0 (written m) (within hs 0 (written m) st.marked)) (omega arith) st.high
      (fresh_set hs m 0 (written m) (below hs m 0 st.fresh here) st.fresh) (set_else hs 0 1 (written m) (λ e. omega arith) ∙ st.opens) (pair_kept hs hs' d kept st.pair) (pair_kept hs hs' w.pair kept is.0, is.1)

  -- the door is written again
  door_again : (w : Known) → IsTrue s.homes m w → Stands count (set s.homes 1 (written d)) (set s.views id w) m d
  door_again w is = let hs : List (Option ℕ) = s.homes in let hs' : List (Option ℕ) = set hs 1 (written d) in let here : HasWord hs 1 = (d, st.opens) in let kept : Keeps hs hs' = word_kept hs 1 d here in
      stands_after count hs hs' s.views m m d d id w st kept (length-set hs 1 (written d)) (set_else hs 1 0 (written d) (λ e. omega arith) ∙ st.marked) (omega arith) st.high
      (fresh_set hs m 1 (written d) (below hs m 1 st.fresh here) st.fresh) (set_here hs 1 (written d) (within hs 1 (written d) st.opens)) (pair_kept hs hs' d kept st.pair) (pair_kept hs hs' w.pair kept is.0, is.1)

  -- the mark moves up by a pair, which goes away
  takes_pair : (w : Known) (next : ℕ) → next ≡ m + 2 → next ≤ count → IsPair s.homes w.pair → w.reached ≡ next
      → Stands count (set (set (set s.homes 0 (written next)) (suc m) none) m none) (set s.views id w) next d
  takes_pair w next is near pair up = let hs : List (Option ℕ) = s.homes in let h1 : List (Option ℕ) = set hs 0 (written next) in let h2 : List (Option ℕ) = set h1 (suc m) none in let h3 : List (Option ℕ) = set h2 m none in
      let low : 2 ≤ m = st.low in let long : length hs ≡ count = st.long in let here : HasWord hs 0 = (m, st.marked) in let k1 : Keeps hs h1 = word_kept hs 0 next here in
      let f1 : get_elem? h1 (suc m) ≡ some (some 0) = set_else hs 0 (suc m) (written next) (λ e. omega arith) ∙ st.fresh (suc m) (omega arith) (omega arith) in let k2 : Keeps h1 h2 = word_stays h1 (suc m) none f1 in
      let f2 : get_elem? h2 m ≡ some (some 0) = set_else h1 (suc m) m none (λ e. omega arith) ∙ (set_else hs 0 m (written next) (λ e. omega arith) ∙ st.fresh m (omega arith) (omega arith)) in let k3 : Keeps h2 h3 = word_stays h2 m none f2 in
      let kept : Keeps hs h3 = λ b there. k3 b (k2 b (k1 b there)) in
      stands_after count hs h3 s.views m next d d id w st kept (length-set h2 m none ∙ (length-set h1 (suc m) none ∙ length-set hs 0 (written next)))
      (set_else h2 m 0 none (λ e. omega arith) ∙ (set_else h1 (suc m) 0 none (λ e. omega arith) ∙ set_here hs 0 (written next) (within hs 0 (written m) st.marked))) (omega arith) near
      (fresh_set h2 next m none (omega arith) (fresh_set h1 next (suc m) none (omega arith) (fresh_set hs next 0 (written next) (omega arith) (fresh_above hs m next (omega arith) st.fresh))))
      (set_else h2 m 1 none (λ e. omega arith) ∙ (set_else h1 (suc m) 1 none (λ e. omega arith) ∙ (set_else hs 0 1 (written next) (λ e. omega arith) ∙ st.opens)))
      (pair_kept hs h3 d kept st.pair) (pair_kept hs h3 w.pair kept pair, (omega arith))

  -- a pair comes back, and the door leads there
  shares_pair : (w : Known) (a x y : ℕ) → 2 ≤ a → suc (suc a) ≤ m → w.pair ≡ a → w.reached ≤ m
      → Stands count (set (set (set s.homes 1 (written a)) a (written x)) (suc a) (written y)) (set s.views id w) m a
  shares_pair w a x y low up is le = let hs : List (Option ℕ) = s.homes in let h1 : List (Option ℕ) = set hs 1 (written a) in let h2 : List (Option ℕ) = set h1 a (written x) in let h3 : List (Option ℕ) = set h2 (suc a) (written y) in
      let high : m ≤ count = st.high in let long : length hs ≡ count = st.long in let here : HasWord hs 1 = (d, st.opens) in let k1 : Keeps hs h1 = word_kept hs 1 a here in
      let n1 : length h1 ≡ length hs = length-set hs 1 (written a) in let n2 : length h2 ≡ length h1 = length-set h1 a (written x) in
      let pair : IsPair h3 a = ((x, set_else h2 (suc a) a (written y) (λ e. omega arith) ∙ set_here h1 a (written x) (omega arith)), (y, set_here h2 (suc a) (written y) (omega arith))) in
      let kept : Keeps hs h3 = λ b there. comes h2 (suc a) y (omega arith) b (comes h1 a x (omega arith) b (k1 b there)) in
      stands_after count hs h3 s.views m m d a id w st kept (length-set h2 (suc a) (written y) ∙ (n2 ∙ n1))
      (set_else h2 (suc a) 0 (written y) (λ e. omega arith) ∙ (set_else h1 a 0 (written x) (λ e. omega arith) ∙ (set_else hs 1 0 (written a) (λ e. omega arith) ∙ st.marked))) (omega arith) high
      (fresh_set h2 m (suc a) (written y) (omega arith) (fresh_set h1 m a (written x) (omega arith) (fresh_set hs m 1 (written a) (omega arith) st.fresh)))
      (set_else h2 (suc a) 1 (written y) (λ e. omega arith) ∙ (set_else h1 a 1 (written x) (λ e. omega arith) ∙ set_here hs 1 (written a) (within hs 1 (written d) st.opens)))
      pair (subst (IsPair h3) (sym is) pair, le)
    where
      comes : (hs : List (Option ℕ)) (a n : ℕ) → a < length hs → (b : ℕ) → HasWord hs b → HasWord (set hs a (written n)) b
      comes hs a n near b there = dite (ℕ_discrete b a) (λ e. (n, subst (λ (i : ℕ). get_elem? (set hs a (written n)) i ≡ some (written n)) (sym e) (set_here hs a (written n) near)))
          (λ apart. (there.0, set_else hs a b (written n) apart ∙ there.1))

-- ---- what each step owes
module _ (count id : ℕ) where
  pub mark_allowed : (me : Me Known) → Allows (HoldsPairs count) id me 0 (λ n. n) (Tells MarkFound 0 0 0 me)
  mark_allowed me s (m, d, st) at = (m, st.marked, λ _. (me.0, keeps, tt, (m, d, mark_again count s m d id st me.0 (st.true_views id me.0 at)), (st.low, refl)))

  pub take_allowed : (me : Me Known) (a next : ℕ) → next ≡ a + 2 → next ≤ count → Allows (HoldsPairs count) id me 0 (λ n. either (eqb n a) next n) (Tells PairTaken 0 a next me)
  take_allowed me a next is near s (m, d, st) at = (
    m,
    st.marked,
    λ _. exchanged m a next (λ (u : ℕ). Outcome (HoldsPairs count) s 0 u id me.1 (Tells PairTaken 0 a next me m))
        (λ e. subst (λ (i : ℕ). next ≡ i + 2 → Outcome (HoldsPairs count) s 0 next id me.1 (Tells PairTaken 0 i next me m)) e won is)
        (λ apart. (me.0, keeps, tt, (m, d, mark_again count s m d id st me.0 (st.true_views id me.0 at)), ((λ e. absurd (apart e)), λ _. refl))),
  )
    where
      won : next ≡ m + 2 → Outcome (HoldsPairs count) s 0 next id me.1 (Tells PairTaken 0 m next me m)
      won up = let w : Known = record { pair = me.0.pair; reached = next } in let h1 : List (Option ℕ) = set s.homes 0 (written next) in let long : length s.homes ≡ count = st.long in let low : 2 ≤ m = st.low in (
        w,
        lends m (0 ∷ 0 ∷ []),
        valid_lends h1 me.1 m (0 ∷ 0 ∷ []) (
          set_else s.homes 0 m (written next) (λ e. omega arith) ∙ st.fresh m (omega arith) (omega arith),
          (set_else s.homes 0 (suc m) (written next) (λ e. omega arith) ∙ st.fresh (suc m) (omega arith) (omega arith), tt),
        ),
        (next, d, takes_pair count s m d id st w next up near (st.true_views id me.0 at).0 refl),
        ((λ _. refl), λ apart. absurd (apart refl)),
      )

  share_as : (v : Known) (a x y : ℕ) (more : List (ℕ × ℕ)) → 2 ≤ a → suc (suc a) ≤ v.reached
      → Allows (HoldsPairs count) id (v, (a, suc x) ∷ (suc a, suc y) ∷ more) 1 (λ _. a) (λ _. Tells PairShared 1 a 0 (v, (a, suc x) ∷ (suc a, suc y) ∷ more) a)
  share_as v a x y more low up s (m, d, st) at = let le : v.reached ≤ m = (st.true_views id v at).1 in let w : Known = record { pair = a; reached = v.reached } in
      (d, st.opens, λ _. (w, returns 2, valid_returns (set s.homes 1 (written a)) ((a, suc x) ∷ (suc a, suc y) ∷ more) 2, (m, a, shares_pair count s m d id st w a x y low (omega arith) refl le), refl))

  -- the pair that was taken last, and has been written
  pub share_allowed : (me : Me Known) (a x y : ℕ) (more : List (ℕ × ℕ)) → me.1 ≡ (a, suc x) ∷ (suc a, suc y) ∷ more → 2 ≤ a → suc (suc a) ≤ me.0.reached
      → Allows (HoldsPairs count) id me 1 (λ _. a) (λ _. Tells PairShared 1 a 0 me a)
  share_allowed me a x y more is low up = subst (λ (lent : List (ℕ × ℕ)). Allows (HoldsPairs count) id (me.0, lent) 1 (λ _. a) (λ _. Tells PairShared 1 a 0 (me.0, lent) a)) (sym is) (share_as me.0 a x y more low up)

  pub door_allowed : (me : Me Known) → Allows (HoldsPairs count) id me 1 (λ n. n) (Tells DoorFound 1 0 0 me)
  door_allowed me s (m, d, st) at = (d, st.opens, λ _. (record { pair = d; reached = me.0.reached }, keeps, tt, (m, d, door_again count s m d id st (record { pair = d; reached = me.0.reached }) (st.pair, (st.true_views id me.0 at).1)), refl))

  -- any step on a word of the pair that the seat knows
  pub first_allowed : (me : Me Known) (a x y : ℕ) (f : ℕ → ℕ) → me.0.pair ≡ a → 2 ≤ a → Allows (HoldsPairs count) id me a f (Tells Unchanged a x y me)
  first_allowed me a x y f here high s (m, d, st) at = let is : IsTrue s.homes m me.0 = st.true_views id me.0 at in let there : HasWord s.homes a = subst (HasWord s.homes) here is.0.0 in
      (there.0, there.1, λ _. (me.0, keeps, tt, (m, d, aside count s m d id st a (f there.0) me.0 high there is), refl))

  pub second_allowed : (me : Me Known) (a b x y : ℕ) (f : ℕ → ℕ) → me.0.pair ≡ a → b ≡ a + 1 → 2 ≤ a → Allows (HoldsPairs count) id me b f (Tells Unchanged b x y me)
  second_allowed me a b x y f here next high s (m, d, st) at = let is : IsTrue s.homes m me.0 = st.true_views id me.0 at in
      let there : HasWord s.homes b = subst (HasWord s.homes) (let r : suc me.0.pair ≡ b = omega arith in r) is.0.1 in
      (there.0, there.1, λ _. (me.0, keeps, tt, (m, d, aside count s m d id st b (f there.0) me.0 (omega arith) there is), refl))

  pub split_allowed : (v : Known) → Splits (HoldsPairs count) 0 id v v v
  split_allowed v s (m, d, st) at = ((m, st.marked), (m, d, record { long = st.long; marked = st.marked; low = st.low; high = st.high; fresh = st.fresh; opens = st.opens; pair = st.pair; true_views = λ k u there. go k u (at_snoc (set s.views id v) v u k there) }))
    where
      old : AreTrue s.homes m (set s.views id v)
      old = true_kept s.homes s.homes m m s.views id v (λ b there. there) (omega arith) st.true_views (st.true_views id v at)

      go : (k : ℕ) (u : Known) → (get_elem? (set s.views id v) k ≡ some u) ⊎ (v ≡ u) → IsTrue s.homes m u
      go k u (inl there) = old k u there
      go k u (inr e) = subst (IsTrue s.homes m) e (st.true_views id v at)

  pub join_allowed : (v w : Known) (other : ℕ) → Joins (HoldsPairs count) 0 id v other w v (first_known count)
  join_allowed v w other s (m, d, st) at = (
    (m, st.marked),
    λ apart there. (
      m,
      d,
      record {
        long = st.long;
        marked = st.marked;
        low = st.low;
        high = st.high;
        fresh = st.fresh;
        opens = st.opens;
        pair = st.pair;
        true_views = true_kept s.homes s.homes m m (set s.views id v) other (first_known count) (λ b there. there) (omega arith)
            (true_kept s.homes s.homes m m s.views id v (λ b there. there) (omega arith) st.true_views (st.true_views id v at)) (((m, st.marked), (d, st.opens)), st.low);
      },
    ),
  )

-- ---- the start
fresh_tail : (left a : ℕ) → a < left → get_elem? (unwritten left) a ≡ some (some 0)
fresh_tail zero a near = absurd (omega arith)
fresh_tail (suc left) zero near = refl
fresh_tail (suc left) (suc a) near = fresh_tail left a (omega arith)

length_unwritten : (left : ℕ) → length (unwritten left) ≡ left
length_unwritten zero = refl
length_unwritten (suc left) = ap suc (length_unwritten left)

pub starts : (count left : ℕ) → left + 2 ≡ count → HoldsPairs count (opening (2 ∷ 0 ∷ []) left (first_known count))
starts count left is = (
  2,
  0,
  record {
    long = (let n : length (unwritten left) ≡ left = length_unwritten left in omega arith);
    marked = refl;
    low = omega arith;
    high = omega arith;
    fresh = fresh;
    opens = refl;
    pair = ((2, refl), (0, refl));
    true_views = known;
  },
)
  where
    fresh : IsFreshFrom (written 2 ∷ written 0 ∷ unwritten left) 2
    fresh zero l near = absurd (omega arith)
    fresh (suc zero) l near = absurd (omega arith)
    fresh (suc (suc a)) l near = fresh_tail left a (let n : length (unwritten left) ≡ left = length_unwritten left in let r : suc (suc a) < suc (suc (length (unwritten left))) = near in omega arith)

    known : AreTrue (written 2 ∷ written 0 ∷ unwritten left) 2 (first_known count ∷ [])
    known zero v at = subst (IsTrue (written 2 ∷ written 0 ∷ unwritten left) 2) (some-injective (first_known count) v at) (((2, refl), (0, refl)), omega arith)
    known (suc k) v at = absurd (some-ne-none v (sym at))
