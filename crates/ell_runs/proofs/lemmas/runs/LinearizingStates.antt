use Rattle.std.proofs.Common.{◌≡◌, ℕ, zero, suc, ◌+◌, ◌<◌, Option, Some, None, List, [], ◌∷◌, length, take, drop, refl, sym, ap, ◌∙◌, subst, arith}
use mathlib.Core.Option.{some, some-injective, some-ne-none}
use lib.ListN.{get_elem?}
use Rattle.ell_ops.specs.Contents.{Contents}
use Rattle.ell_layout.specs.Words.{Words}
use Rattle.ell_core.proofs.lemmas.outcomes.Decide.{some_not_none}
use Rattle.ell_runs.specs.States.{TableState}
use Rattle.ell_runs.specs.Turns.{Turn, Makes, Splits, Joins, TableTurns, TableRun, state_after, state_split, state_joined}
use Rattle.ell_runs.specs.Meanwhile.{KeepOn}
use Rattle.ell_runs.specs.Changing.{HasMap}
use Rattle.ell_runs.specs.Plans.{TablePlan}

-- what a turn leads to is one state
pub turn_same : (plan : TablePlan) (s : TableState) (t : Turn) (a b : TableState) → TableTurns plan s t a → TableTurns plan s t b → a ≡ b
turn_same plan s (Makes seat c) a b h k =
    h.gives ∙ (ap (λ v. state_after s seat v c) (some-injective h.view k.view (sym h.there ∙ k.there)) ∙ sym k.gives)
turn_same plan s (Splits seat left) a b h k =
    h.gives ∙ (ap (λ v. state_split s seat v left) (some-injective h.view k.view (sym h.there ∙ k.there)) ∙ sym k.gives)
turn_same plan s (Joins seat other) a b h k =
    h.gives ∙ (ap (λ v. state_joined s seat other v h.view') (some-injective h.view k.view (sym h.there ∙ k.there))
    ∙ (ap (state_joined s seat other k.view) (some-injective h.view' k.view' (sym h.there' ∙ k.there')) ∙ sym k.gives))

-- and so is what a run leads to
pub run_same : (plan : TablePlan) (s : TableState) (turns : List Turn) (a b : TableState) → TableRun plan s turns a → TableRun plan s turns b → a ≡ b
run_same plan s [] a b h k = h ∙ sym k
run_same plan s (t ∷ ts) a b h k =
    run_same plan k.0 ts a b (subst (λ (x : TableState). TableRun plan x ts a) (turn_same plan s t h.0 k.0 h.1 k.1) h.2) k.2

module _ (plan : TablePlan) where
  -- the state of a run after so many turns
  abbrev pub state_at : (s : TableState) (turns : List Turn) (s' : TableState) → TableRun plan s turns s' → ℕ → TableState
  state_at s turns s' run zero = s
  state_at s [] s' run (suc p) = s
  state_at s (t ∷ ts) s' run (suc p) = state_at run.0 ts s' run.2 p

  -- the turn after it
  pub turn_at : (s : TableState) (turns : List Turn) (s' : TableState) (run : TableRun plan s turns s') (p : ℕ) (t : Turn) → get_elem? turns p ≡ some t
      → TableTurns plan (state_at s turns s' run p) t (state_at s turns s' run (suc p))
  turn_at s [] s' run p t e = absurd (some-ne-none t (sym e))
  turn_at s (u ∷ us) s' run zero t e = subst (λ x. TableTurns plan s x run.0) (some-injective u t e) run.1
  turn_at s (u ∷ us) s' run (suc p) t e = turn_at run.0 us s' run.2 p t e

  -- the last one
  pub at_end : (s : TableState) (turns : List Turn) (s' : TableState) (run : TableRun plan s turns s') → s' ≡ state_at s turns s' run (length turns)
  at_end s [] s' run = run
  at_end s (t ∷ ts) s' run = at_end run.0 ts s' run.2

  -- turns lead from one to a later one
  pub run_to : (s : TableState) (turns : List Turn) (s' : TableState) (run : TableRun plan s turns s') (p : ℕ) → TableRun plan s (take p turns) (state_at s turns s' run p)
  run_to s turns s' run zero = refl
  run_to s [] s' run (suc p) = refl
  run_to s (t ∷ ts) s' run (suc p) = (run.0, run.1, run_to run.0 ts s' run.2 p)

  pub run_between : (s : TableState) (turns : List Turn) (s' : TableState) (run : TableRun plan s turns s') (p n q : ℕ) → p + n ≡ q
      → TableRun plan (state_at s turns s' run p) (take n (drop p turns)) (state_at s turns s' run q)
  run_between s turns s' run zero n q e =
      let same : n ≡ q = omega arith in subst (λ k. TableRun plan s (take n turns) (state_at s turns s' run k)) same (run_to s turns s' run n)
  run_between s turns s' run (suc p) n zero e = absurd (omega arith)
  run_between s [] s' run (suc p) zero (suc q) e = refl
  run_between s [] s' run (suc p) (suc n) (suc q) e = refl
  run_between s (t ∷ ts) s' run (suc p) n (suc q) e = run_between run.0 ts s' run.2 p n q (omega arith)

-- where there is a turn, there is one before it
pub turn_inside : {A : Type 0} (l : List A) (n : ℕ) → n < length l → (a : A) × (get_elem? l n ≡ some a)
turn_inside [] n h = absurd (omega arith)
turn_inside (x ∷ xs) zero h = (x, refl)
turn_inside (x ∷ xs) (suc n) h = turn_inside xs n (omega arith)

-- a place in some turns of a run
pub place_between : {A : Type 0} (l : List A) (p n k : ℕ) (a : A) → get_elem? (take n (drop p l)) k ≡ some a → (k < n) × (get_elem? l (p + k) ≡ some a)
place_between l p n k a e = (below n (drop p l) k a e, later l p k a (in_first n (drop p l) k a e))
  where
    below : {A : Type 0} (n : ℕ) (l : List A) (k : ℕ) (a : A) → get_elem? (take n l) k ≡ some a → k < n
    below zero l k a e = absurd (some-ne-none a (sym e))
    below (suc n) [] k a e = absurd (some-ne-none a (sym e))
    below (suc n) (x ∷ xs) zero a e = omega arith
    below (suc n) (x ∷ xs) (suc k) a e = (let h = below n xs k a e in omega arith)

    in_first : {A : Type 0} (n : ℕ) (l : List A) (k : ℕ) (a : A) → get_elem? (take n l) k ≡ some a → get_elem? l k ≡ some a
    in_first zero l k a e = absurd (some-ne-none a (sym e))
    in_first (suc n) [] k a e = absurd (some-ne-none a (sym e))
    in_first (suc n) (x ∷ xs) zero a e = e
    in_first (suc n) (x ∷ xs) (suc k) a e = in_first n xs k a e

    later : {A : Type 0} (l : List A) (p k : ℕ) (a : A) → get_elem? (drop p l) k ≡ some a → get_elem? l (p + k) ≡ some a
    later l zero k a e = (let same : k ≡ 0 + k = omega arith in subst (λ m. get_elem? l m ≡ some a) same e)
    later [] (suc p) k a e = absurd (some-ne-none a (sym e))
    later (x ∷ xs) (suc p) k a e =
        let same : suc (p + k) ≡ suc p + k = omega arith in subst (λ m. get_elem? (x ∷ xs) m ≡ some a) same (later xs p k a e)

-- what each turn keeps, turns in a row keep
more_keeps : (seat : ℕ) (t : Turn) (ts : List Turn) → KeepOn seat (t ∷ []) → KeepOn seat ts → KeepOn seat (t ∷ ts)
more_keeps seat (Makes other c) ts h rest = (h.0, rest)
more_keeps seat (Splits other left) ts h rest = (h.0, rest)
more_keeps seat (Joins one other) ts h rest = (h.0, h.1, rest)

pub keep_all : (seat : ℕ) (turns : List Turn) → ((k : ℕ) (t : Turn) → get_elem? turns k ≡ some t → KeepOn seat (t ∷ [])) → KeepOn seat turns
keep_all seat [] each = tt
keep_all seat (t ∷ ts) each = more_keeps seat t ts (each 0 t refl) (keep_all seat ts (λ k. each (suc k)))

-- a tree is one map
pub one_map : (w : Words) (a b : Contents) → HasMap w a → HasMap w b → a ≡ b
one_map w a b one two = λ i key. by key (a key) refl (b key) refl i
  where
    by : (key : ℕ) (o : Option ℕ) → a key ≡ o → (p : Option ℕ) → b key ≡ p → a key ≡ b key
    by key (Some value) e p f = e ∙ sym ((two key value).0 ((one key value).1 e))
    by key None e (Some value) f = absurd (some_not_none ((one key value).0 ((two key value).1 f)) e)
    by key None e None f = e ∙ sym f
