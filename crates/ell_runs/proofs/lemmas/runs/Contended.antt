use Rattle.std.proofs.Common.{◌≡◌, ℕ, zero, suc, ◌+◌, ◌<◌, ◌≤◌, ◌==◌, ◌&&◌, ◌||◌, not, nat_le, if◌then◌else◌, Bool, true, false, List, [], ◌∷◌, get_or, inl, inr, refl, sym, ap, ◌∙◌, eq-eqb, eqb-true, true≢false, arith}
use Rattle.std.proofs.lemmas.Bool.{cases_lt, false≢true, ne_eqb, le-leb}
use Rattle.ell_core.specs.declared.exchange.Exchange.{Exchange}
use Rattle.ell_core.specs.declared.exchange.Exchange.TheVariants as exchange
use Rattle.ell_runs.specs.declared.view.View.{View}
use Rattle.ell_runs.specs.Contention.{how_many, is_claim, has_claimed}
use Rattle.ell_runs.specs.States.{TableState}
use Rattle.ell_runs.proofs.lemmas.runs.Won.{number, one as bit, times}
use Rattle.ell_runs.proofs.lemmas.runs.Abandoned.{ends}
use Rattle.ell_runs.proofs.lemmas.runs.HowMany.{many_more, many_most}

-- whether a pass has claimed a card, counted
head_none : (k : Exchange) (b : Bool) → (if b then bit (number k == 0) else 0) ≡ 0 → (is_claim k && b) ≡ false
head_none exchange.Claim true h = absurd (omega arith)
head_none exchange.Claim false h = refl
head_none _ b h = refl

head_some : (k : Exchange) (b : Bool) → (is_claim k && b) ≡ false → (if b then bit (number k == 0) else 0) ≡ 0
head_some exchange.Claim true h = absurd (false≢true (sym h))
head_some exchange.Claim false h = refl
head_some _ true h = refl
head_some _ false h = refl

or_none : (a b : Bool) → a ≡ false → b ≡ false → (a || b) ≡ false
or_none true b e f = absurd (false≢true (sym e))
or_none false b e f = f

none_or : (a b : Bool) → (a || b) ≡ false → (a ≡ false) × (b ≡ false)
none_or true b e = absurd (false≢true (sym e))
none_or false b e = (refl, e)

unclaimed : (won : List (Exchange × ℕ)) (c : ℕ) → times exchange.Claim c won ≡ 0 → has_claimed won c ≡ false
unclaimed [] c h = refl
unclaimed (e ∷ es) c h =
    or_none (is_claim e.0 && (c == e.1)) (has_claimed es c) (head_none e.0 (c == e.1) (omega arith)) (unclaimed es c (omega arith))

claimed_not : (won : List (Exchange × ℕ)) (c : ℕ) → has_claimed won c ≡ false → times exchange.Claim c won ≡ 0
claimed_not [] c h = refl
claimed_not (e ∷ es) c h =
    let parts = none_or (is_claim e.0 && (c == e.1)) (has_claimed es c) h in
    let first = head_some e.0 (c == e.1) parts.0 in
    let rest = claimed_not es c parts.1 in
    omega arith

-- a card that was given out to another, by these wins of the pass
abbrev pub given : ℕ → List (Exchange × ℕ) → ℕ → Bool
given low won c = nat_le low c && not (has_claimed won c)

-- and one that has ended since, and is not its own
abbrev pub ended : TableState → TableState → List (Exchange × ℕ) → ℕ → Bool
ended s0 s won c = (ends c s0 == 0) && (not (ends c s == 0) && not (has_claimed won c))

and_true : (a b : Bool) → a ≡ true → b ≡ true → (a && b) ≡ true
and_true true b e f = f
and_true false b e f = absurd (false≢true e)

true_and : (a b : Bool) → (a && b) ≡ true → (a ≡ true) × (b ≡ true)
true_and true b h = (refl, h)
true_and false b h = absurd (false≢true h)

not_true : (b : Bool) → not b ≡ true → b ≡ false
not_true true h = absurd (false≢true h)
not_true false h = refl

pub is_given : (low c : ℕ) (won : List (Exchange × ℕ)) → low ≤ c → times exchange.Claim c won ≡ 0 → given low won c ≡ true
is_given low c won more none = and_true (nat_le low c) (not (has_claimed won c)) (le-leb low c more) (ap not (unclaimed won c none))

le_is : (a b : ℕ) → nat_le a b ≡ true → a ≤ b
le_is a b h = elim (cases_lt b a) [
  | inl less ↦ absurd (true≢false (sym h ∙ not_le a b less))
  | inr more ↦ more
]
  where
    not_le : (a b : ℕ) → b < a → nat_le a b ≡ false
    not_le a b less = grind arith

was_given : (low c : ℕ) (won : List (Exchange × ℕ)) → given low won c ≡ true → (low ≤ c) × (times exchange.Claim c won ≡ 0)
was_given low c won h =
    let parts = true_and (nat_le low c) (not (has_claimed won c)) h in
    (le_is low c parts.0, claimed_not won c (not_true (has_claimed won c) parts.1))

is_ended : (s0 s : TableState) (won : List (Exchange × ℕ)) (c : ℕ) → ends c s0 ≡ 0 → 0 < ends c s → times exchange.Claim c won ≡ 0 → ended s0 s won c ≡ true
is_ended s0 s won c before since none =
    and_true (ends c s0 == 0) (not (ends c s == 0) && not (has_claimed won c)) (eq-eqb (ends c s0) 0 before)
    (and_true (not (ends c s == 0)) (not (has_claimed won c)) (ap not (ne_eqb (ends c s) 0 (λ e. omega arith))) (ap not (unclaimed won c none)))

pub record WasEnded (s0 s : TableState) (won : List (Exchange × ℕ)) (c : ℕ) : Type 0 where
  pub before : ends c s0 ≡ 0
  pub since : 0 < ends c s
  pub other : times exchange.Claim c won ≡ 0

pub was_ended : (s0 s : TableState) (won : List (Exchange × ℕ)) (c : ℕ) → ended s0 s won c ≡ true → WasEnded s0 s won c
was_ended s0 s won c h =
    let parts = true_and (ends c s0 == 0) (not (ends c s == 0) && not (has_claimed won c)) h in
    let more = true_and (not (ends c s == 0)) (not (has_claimed won c)) parts.1 in record {
      before = eqb-true (ends c s0) 0 parts.0;
      since = some (ends c s) (not_true (ends c s == 0) more.0);
      other = claimed_not won c (not_true (has_claimed won c) more.1);
    }
  where
    some : (n : ℕ) → (n == 0) ≡ false → 0 < n
    some zero e = absurd (true≢false e)
    some (suc n) e = omega arith

not_ended : (s0 s : TableState) (won : List (Exchange × ℕ)) (c : ℕ) → ends c s ≡ 0 → ended s0 s won c ≡ false
not_ended s0 s won c none = by (ended s0 s won c) refl
  where
    by : (b : Bool) → ended s0 s won c ≡ b → b ≡ false
    by false e = refl
    by true e = let since = (was_ended s0 s won c e).since in absurd (omega arith)

-- what others did since a state: cards that were given out to them, and such as ended
abbrev pub done_since : TableState → TableState → List (Exchange × ℕ) → ℕ
done_since s0 s won = how_many (get_or s.words 0 0) (given (get_or s0.words 0 0) won) + how_many (get_or s.words 0 0) (ended s0 s won)

-- where a run leads from a state: cards are given out, and end, and of those that were given out before the pass claims none
pub record Grows (s : TableState) (v : View) (s' : TableState) (w : View) : Type 0 where
  pub next : get_or s.words 0 0 ≤ get_or s'.words 0 0
  pub ended : (c : ℕ) → ends c s ≤ ends c s'
  pub own : (c : ℕ) → c < get_or s.words 0 0 → times exchange.Claim c w.won ≡ times exchange.Claim c v.won

pub grows_same : (s : TableState) (v : View) → Grows s v s v
grows_same s v = record { next = omega arith; ended = λ c. omega arith; own = λ c low. refl }

pub grows_on : (s : TableState) (v : View) (s' : TableState) (w : View) (s'' : TableState) (x : View) → Grows s v s' w → Grows s' w s'' x → Grows s v s'' x
grows_on s v s' w s'' x h g = record {
  next = let a = h.next in let b = g.next in omega arith;
  ended = λ c. let a = h.ended c in let b = g.ended c in omega arith;
  own = λ c low. let a = h.next in g.own c (omega arith) ∙ h.own c low;
}

module _ (s0 : TableState) (s : TableState) (v : View) (s' : TableState) (w : View) (h : Grows s v s' w) where
  given_still : (c : ℕ) → c < get_or s.words 0 0 → given (get_or s0.words 0 0) v.won c ≡ true → given (get_or s0.words 0 0) w.won c ≡ true
  given_still c low e = let was = was_given (get_or s0.words 0 0) c v.won e in is_given (get_or s0.words 0 0) c w.won was.0 (h.own c low ∙ was.1)

  ended_still : (c : ℕ) → c < get_or s.words 0 0 → ended s0 s v.won c ≡ true → ended s0 s' w.won c ≡ true
  ended_still c low e =
      let was = was_ended s0 s v.won c e in
      let more = h.ended c in
      let since = was.since in
      is_ended s0 s' w.won c was.before (omega arith) (h.own c low ∙ was.other)

  -- what others did is done
  pub done_more : done_since s0 s v.won ≤ done_since s0 s' w.won
  done_more =
      let a = many_more (get_or s.words 0 0) (get_or s'.words 0 0) (given (get_or s0.words 0 0) v.won) (given (get_or s0.words 0 0) w.won) h.next given_still in
      let b = many_more (get_or s.words 0 0) (get_or s'.words 0 0) (ended s0 s v.won) (ended s0 s' w.won) h.next ended_still in
      omega arith

  -- a card that was given out to another meanwhile is one more
  pub one_given : (c : ℕ) → get_or s0.words 0 0 ≤ get_or s.words 0 0 → get_or s.words 0 0 ≤ c → c < get_or s'.words 0 0 → times exchange.Claim c w.won ≡ 0
      → done_since s0 s v.won + 1 ≤ done_since s0 s' w.won
  one_given c before low high other =
      let a = many_most (get_or s.words 0 0) (get_or s'.words 0 0) (given (get_or s0.words 0 0) v.won) (given (get_or s0.words 0 0) w.won) h.next given_still
      c high (is_given (get_or s0.words 0 0) c w.won (omega arith) other) (λ less. absurd (omega arith)) in
      let b = many_more (get_or s.words 0 0) (get_or s'.words 0 0) (ended s0 s v.won) (ended s0 s' w.won) h.next ended_still in
      omega arith

  -- and one that has ended meanwhile
  pub one_ended : (c : ℕ) → ends c s0 ≤ ends c s → ends c s ≡ 0 → 0 < ends c s' → c < get_or s'.words 0 0 → times exchange.Claim c w.won ≡ 0
      → done_since s0 s v.won + 1 ≤ done_since s0 s' w.won
  one_ended c before none since high other =
      let a = many_more (get_or s.words 0 0) (get_or s'.words 0 0) (given (get_or s0.words 0 0) v.won) (given (get_or s0.words 0 0) w.won) h.next given_still in
      let b = many_most (get_or s.words 0 0) (get_or s'.words 0 0) (ended s0 s v.won) (ended s0 s' w.won) h.next ended_still
      c high (is_ended s0 s' w.won c (omega arith) since other) (λ less. not_ended s0 s v.won c none) in
      omega arith
