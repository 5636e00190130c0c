use Rattle.std.proofs.Common.{◌≡◌, ◌≢◌, ℕ, suc, ◌+◌, ◌<◌, ◌==◌, ◌||◌, cond, if◌then◌else◌, eqb-true, eq-eqb, ne_eqb, not, filter, Bool, true, false, List, [], ◌∷◌, length, refl, sym, ap, ◌∙◌, subst, arith, true≢false, ◌⊎◌, inl, inr, Some, None}
use Rattle.std.specs.List.{All}
use Rattle.std.specs.List.Sorted.{IsStrictlyIncreasing}
use Rattle.ell_core.specs.state.Machine.{Ledger, ledger_of}
use Rattle.ell_core.specs.state.Handovers.{AreParted}
use Rattle.ell_ops.specs.KeySet.{set_of}
use Rattle.ell_runs.specs.Changes.{ledger_keys}
use Rattle.ell_core.proofs.lemmas.opening.KeyLists.{place_of}
use Rattle.ell_ops.proofs.lemmas.Rising.{Over, Rises, rises, over_less}
use Rattle.ell_runs.proofs.lemmas.words.Ascending.{over_among, not_among, among_rest}
use Rattle.ell_core.specs.declared.view.Entry.{Entry}

-- the part of a ledger on these keys
abbrev pub part_on : List ℕ → List (ℕ × Entry) → List (ℕ × Entry)
part_on keys l = filter (λ e. set_of keys e.0) l

-- the part of a ledger off these keys
abbrev pub part_off : List ℕ → List (ℕ × Entry) → List (ℕ × Entry)
part_off keys l = filter (λ e. not (set_of keys e.0)) l

-- the keys of the part of a ledger on some keys
pub keys_on : (keys : List ℕ) (l : List (ℕ × Entry)) → ledger_keys (part_on keys l) ≡ filter (set_of keys) (ledger_keys l)
keys_on keys [] = refl
keys_on keys (e ∷ es) = by (set_of keys e.0) (keys_on keys es)
  where
    by : (t : Bool) → ledger_keys (part_on keys es) ≡ filter (set_of keys) (ledger_keys es)
        → ledger_keys (if t then e ∷ part_on keys es else part_on keys es) ≡ cond t (e.0 ∷ filter (set_of keys) (ledger_keys es)) (filter (set_of keys) (ledger_keys es))
    by true rest = ap (λ ks. e.0 ∷ ks) rest
    by false rest = rest

-- those of the part off them
pub keys_off : (keys : List ℕ) (l : List (ℕ × Entry)) → ledger_keys (part_off keys l) ≡ filter (λ k. not (set_of keys k)) (ledger_keys l)
keys_off keys [] = refl
keys_off keys (e ∷ es) = by (set_of keys e.0) (keys_off keys es)
  where
    by : (t : Bool) → ledger_keys (part_off keys es) ≡ filter (λ k. not (set_of keys k)) (ledger_keys es)
        → ledger_keys (if not t then e ∷ part_off keys es else part_off keys es)
        ≡ cond (not t) (e.0 ∷ filter (λ k. not (set_of keys k)) (ledger_keys es)) (filter (λ k. not (set_of keys k)) (ledger_keys es))
    by true rest = rest
    by false rest = ap (λ ks. e.0 ∷ ks) rest

-- ascending keys without some of them, by one walk over both
abbrev pub without : List ℕ → List ℕ → List ℕ
without [] some = []
without (k ∷ ks) [] = k ∷ without ks []
without (k ∷ ks) (x ∷ xs) = if x == k then without ks xs else k ∷ without ks (x ∷ xs)

or_left : {s : Bool} (t : Bool) → s ≡ true → (s || t) ≡ true
or_left t e = ap (λ s. s || t) e

or_right : (s t : Bool) → t ≡ true → (s || t) ≡ true
or_right true t e = refl
or_right false t e = e

-- what a test keeps of numbers greater than k goes by what it says of those
filter_over : (k : ℕ) (p q : ℕ → Bool) (keys : List ℕ) → Over k keys → ((x : ℕ) → k < x → p x ≡ q x) → filter p keys ≡ filter q keys
filter_over k p q [] h same = refl
filter_over k p q (x ∷ xs) h same =
    (λ t. cond (same x h.0 t) (x ∷ filter_over k p q xs h.1 same t) (filter_over k p q xs h.1 same t))

-- how ascending keys part, of which some are taken: those that stay, those that are taken, and their numbers
pub record IsParted (keys some : List ℕ) : Type 0 where
  pub stay : without keys some ≡ filter (λ k. not (set_of some k)) keys
  pub taken : filter (set_of some) keys ≡ some
  pub count : length some + length (without keys some) ≡ length keys

-- where the first is taken
taken_first : (k : ℕ) (ks : List ℕ) (x : ℕ) (xs : List ℕ) → Over k ks → x ≡ k → IsParted ks xs → IsParted (k ∷ ks) (x ∷ xs)
taken_first k ks x xs over same rest =
    let here : set_of (x ∷ xs) k ≡ true = or_left (set_of xs k) (eq-eqb k x (sym same)) in
    let later : (y : ℕ) → k < y → set_of (x ∷ xs) y ≡ set_of xs y = λ y less. among_rest x xs y (omega arith) in record {
      stay = ap (λ t. if t then without ks xs else k ∷ without ks (x ∷ xs)) (eq-eqb x k same)
          ∙ (rest.stay
          ∙ (filter_over k (λ y. not (set_of xs y)) (λ y. not (set_of (x ∷ xs) y)) ks over (λ y less. ap not (sym (later y less)))
          ∙ ap (λ t. cond (not t) (k ∷ filter (λ y. not (set_of (x ∷ xs) y)) ks) (filter (λ y. not (set_of (x ∷ xs) y)) ks)) (sym here)));
      taken = ap (λ t. cond t (k ∷ filter (set_of (x ∷ xs)) ks) (filter (set_of (x ∷ xs)) ks)) here
          ∙ (ap (λ l. k ∷ l) (filter_over k (set_of (x ∷ xs)) (set_of xs) ks over later ∙ rest.taken) ∙ ap (λ y. y ∷ xs) (sym same));
      count = let n = rest.count in
          let e : without (k ∷ ks) (x ∷ xs) ≡ without ks xs = ap (λ t. if t then without ks xs else k ∷ without ks (x ∷ xs)) (eq-eqb x k same) in
          ap (λ (l : List ℕ). suc (length xs) + length l) e ∙ omega arith;
    }

-- where the first stays
kept_first : (k : ℕ) (ks : List ℕ) (x : ℕ) (xs : List ℕ) → k < x → Over k xs → IsParted ks (x ∷ xs) → IsParted (k ∷ ks) (x ∷ xs)
kept_first k ks x xs less over rest =
    let here : set_of (x ∷ xs) k ≡ false = not_among k (x ∷ xs) (less, over) in
    let step : without (k ∷ ks) (x ∷ xs) ≡ k ∷ without ks (x ∷ xs) =
    ap (λ t. if t then without ks xs else k ∷ without ks (x ∷ xs)) (ne_eqb x k (λ e. omega arith)) in record {
      stay = step ∙ (ap (λ l. k ∷ l) rest.stay
          ∙ ap (λ t. cond (not t) (k ∷ filter (λ y. not (set_of (x ∷ xs) y)) ks) (filter (λ y. not (set_of (x ∷ xs) y)) ks)) (sym here));
      taken = ap (λ t. cond t (k ∷ filter (set_of (x ∷ xs)) ks) (filter (set_of (x ∷ xs)) ks)) here ∙ rest.taken;
      count = let n = rest.count in ap (λ (l : List ℕ). suc (length xs) + length l) step ∙ omega arith;
    }

pub parts : (keys some : List ℕ) → Rises keys → Rises some → ((x : ℕ) → set_of some x ≡ true → set_of keys x ≡ true) → IsParted keys some
parts [] [] rises rise in_keys = record { stay = refl; taken = refl; count = refl }
parts [] (x ∷ xs) rises rise in_keys = absurd (true≢false (sym (in_keys x (ap (λ t. t || set_of xs x) (eq-eqb x x refl)))))
parts (k ∷ ks) [] rises rise in_keys =
    let rest = parts ks [] rises.1 tt (λ x among. absurd (true≢false (sym among))) in record {
      stay = ap (λ l. k ∷ l) rest.stay;
      taken = rest.taken;
      count = let n = rest.count in omega arith;
    }
parts (k ∷ ks) (x ∷ xs) rises rise in_keys =
    by (x == k) refl
    (λ same. parts ks xs rises.1 rise.1 (λ y among.
    let more = over_among x xs y rise.0 among in
    sym (among_rest k ks y (omega arith)) ∙ in_keys y (or_right (y == x) (set_of xs y) among)))
    (λ less. parts ks (x ∷ xs) rises.1 rise (λ y among.
    let more = over_among k (x ∷ xs) y (less, over_less k x xs less rise.0) among in
    sym (among_rest k ks y (omega arith)) ∙ in_keys y among))
  where
    by : (t : Bool) → (x == k) ≡ t → (x ≡ k → IsParted ks xs) → (k < x → IsParted ks (x ∷ xs)) → IsParted (k ∷ ks) (x ∷ xs)
    by true e same less = taken_first k ks x xs rises.0 (eqb-true x k e) (same (eqb-true x k e))
    by false e same less =
        let among = sym (among_rest k ks x (λ q. true≢false (sym (eq-eqb x k q) ∙ e))) ∙ in_keys x (or_left (set_of xs x) (eq-eqb x x refl)) in
        let more = over_among k ks x rises.0 among in
        kept_first k ks x xs more (over_less k x xs more rise.0) (less more)

-- the same of ascending lists
pub ascending_parts : (keys some : List ℕ) → IsStrictlyIncreasing keys → IsStrictlyIncreasing some → All (λ k. set_of keys k ≡ true) some → IsParted keys some
ascending_parts keys some rising rise all = parts keys some (rises keys rising) (rises some rise)
    (λ k among. let place = place_of some k 0 among in subst (λ x. set_of keys x ≡ true) place.2 (all place.0 0 place.1))

-- the part of a ledger on some keys has what the ledger has on them, and the part off them nothing
pub parts_on : (keys : List ℕ) (l : List (ℕ × Entry)) (k : ℕ) → set_of keys k ≡ true
    → (ledger_of (part_on keys l) k ≡ ledger_of l k) × (ledger_of (part_off keys l) k ≡ None)
parts_on keys [] k on = (refl, refl)
parts_on keys (e ∷ es) k on = by (set_of keys e.0) refl (parts_on keys es k on)
  where
    other : set_of keys e.0 ≡ false → (k == e.0) ≡ false
    other is = ne_eqb k e.0 (λ q. true≢false (sym on ∙ (ap (set_of keys) q ∙ is)))

    by : (b : Bool) → set_of keys e.0 ≡ b → (ledger_of (part_on keys es) k ≡ ledger_of es k) × (ledger_of (part_off keys es) k ≡ None)
        → (ledger_of (if b then e ∷ part_on keys es else part_on keys es) k ≡ ledger_of (e ∷ es) k)
        × (ledger_of (if not b then e ∷ part_off keys es else part_off keys es) k ≡ None)
    by true is rest = (ap (λ o. cond (k == e.0) (Some e.1) o) rest.0, rest.1)
    by false is rest = (
      rest.0 ∙ ap (λ t. cond t (Some e.1) (ledger_of es k)) (sym (other is)),
      ap (λ t. cond t (Some e.1) (ledger_of (part_off keys es) k)) (other is) ∙ rest.1,
    )

-- and the other way round
pub parts_off : (keys : List ℕ) (l : List (ℕ × Entry)) (k : ℕ) → set_of keys k ≡ false
    → (ledger_of (part_on keys l) k ≡ None) × (ledger_of (part_off keys l) k ≡ ledger_of l k)
parts_off keys [] k off = (refl, refl)
parts_off keys (e ∷ es) k off = by (set_of keys e.0) refl (parts_off keys es k off)
  where
    other : set_of keys e.0 ≡ true → (k == e.0) ≡ false
    other is = ne_eqb k e.0 (λ q. true≢false (sym is ∙ (ap (set_of keys) (sym q) ∙ off)))

    by : (b : Bool) → set_of keys e.0 ≡ b → (ledger_of (part_on keys es) k ≡ None) × (ledger_of (part_off keys es) k ≡ ledger_of es k)
        → (ledger_of (if b then e ∷ part_on keys es else part_on keys es) k ≡ None)
        × (ledger_of (if not b then e ∷ part_off keys es else part_off keys es) k ≡ ledger_of (e ∷ es) k)
    by false is rest = (rest.0, ap (λ o. cond (k == e.0) (Some e.1) o) rest.1)
    by true is rest = (
      ap (λ t. cond t (Some e.1) (ledger_of (part_on keys es) k)) (other is) ∙ rest.0,
      rest.1 ∙ ap (λ t. cond t (Some e.1) (ledger_of es k)) (sym (other is)),
    )

-- the two parts of a ledger are parts
pub ledger_parts : (keys : List ℕ) (l : List (ℕ × Entry)) → AreParted (ledger_of l) (ledger_of (part_on keys l)) (ledger_of (part_off keys l))
ledger_parts keys l k = by (set_of keys k) refl
  where
    by : (b : Bool) → set_of keys k ≡ b → ((ledger_of (part_on keys l) k ≡ ledger_of l k) × (ledger_of (part_off keys l) k ≡ None))
        ⊎ ((ledger_of (part_on keys l) k ≡ None) × (ledger_of (part_off keys l) k ≡ ledger_of l k))
    by true e = inl (parts_on keys l k e)
    by false e = inr (parts_off keys l k e)

-- what a part owns, the whole owned
pub part_owns : (whole left right : Ledger) → AreParted whole left right → (k : ℕ) → (left k ≢ None → whole k ≢ None) × (right k ≢ None → whole k ≢ None)
part_owns whole left right parts k = elim (parts k) [
  | inl a ↦ ((λ h e. h (a.0 ∙ e)), (λ h e. h a.1))
  | inr b ↦ ((λ h e. h b.0), (λ h e. h (b.1 ∙ e)))
]
