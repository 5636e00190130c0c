use Rattle.std.proofs.Common.{◌≡◌, ◌≢◌, ℕ, zero, suc, ◌+◌, ◌<◌, ◌≤◌, ◌%◌, ◌^◌, ◌/◌, nat_le, if◌then◌else◌, Bool, true, false, None, Some, Option, List, [], ◌∷◌, ◌++◌, set, inl, inr, ◌⊎◌, refl, sym, ap, ◌∙◌, subst, ⊎_elim, arith}
use Rattle.std.proofs.lemmas.Bool.{leb-true, cases_eq}
use Rattle.std.proofs.Math.Nat.{mod-eq_of_lt}
use mathlib.Core.Option.{some, some-injective, some-ne-none}
use lib.ListN.{get_elem?}
use Rattle.ell_runs.proofs.lemmas.words.Lists.{at_set, set_else}
use Rattle.ell_core.proofs.lemmas.outcomes.Decide.{some_not_none}
use Rattle.ell_runs.specs.declared.view.View.{View}
use Rattle.ell_runs.specs.Plans.{TablePlan}
use Rattle.ell_runs.specs.Views.{whole_share, given_share}
use Rattle.ell_runs.specs.Changes.{first_of, left_view, right_view, joined_view, spent_view}
use Rattle.std.specs.Option.{option_or}
use Rattle.ell_runs.specs.Calls.{after}
use Rattle.ell_runs.specs.States.{TableState}
use Rattle.ell_runs.specs.Sharing.{all_shares, HaveTheWhole, SharesAddUp}
use Rattle.ell_runs.specs.Turns.{Turn, Makes, Splits, Joins, TableTurns, TableRun, found_by}
use Rattle.ell_runs.specs.Starts.{IsReached}
use Rattle.ell_runs.proofs.lemmas.seats.Staying.{owned_stays, share_stays}
use Rattle.ell_runs.proofs.lemmas.lifetimes.Splits.{each_split}
use Rattle.ell_runs.proofs.lemmas.lifetimes.Joins.{each_joined}
use Rattle.ell_runs.proofs.lemmas.lifetimes.Openings.{each_first}

-- the shares where one view takes another's place
shares_set : (vs : List View) (i : ℕ) (v w : View) → get_elem? vs i ≡ some v → all_shares (set vs i w) + v.share ≡ all_shares vs + w.share
shares_set [] i v w e = absurd (some-ne-none v (sym e))
shares_set (x ∷ vs) zero v w e = let same = ap (λ (u : View). u.share) (some-injective x v e) in omega arith
shares_set (x ∷ vs) (suc i) v w e = let h = shares_set vs i v w e in omega arith

-- and where one comes at the end
shares_more : (vs : List View) (w : View) → all_shares (vs ++ w ∷ []) ≡ all_shares vs + w.share
shares_more [] w = omega arith
shares_more (x ∷ vs) w = let h = shares_more vs w in omega arith

-- a share that may be parted gives some of itself away, and leaves some
given_some : (n : ℕ) → 2 ≤ n → (1 ≤ given_share n) × (given_share n < n)
given_some n more = by (nat_le 4294967296 n) refl
  where
    by : (b : Bool) → nat_le 4294967296 n ≡ b → (1 ≤ (if b then n / 65536 else n / 2)) × ((if b then n / 65536 else n / 2) < n)
    by true is = let much = leb-true 4294967296 n is in (omega arith, omega arith)
    by false is = (omega arith, omega arith)

given_within : (n : ℕ) → given_share n ≤ n
given_within n = by (nat_le 4294967296 n)
  where
    by : (b : Bool) → (if b then n / 65536 else n / 2) ≤ n
    by true = omega arith
    by false = omega arith

-- a share is within that of all
share_within : (vs : List View) (i : ℕ) (v : View) → get_elem? vs i ≡ some v → v.share ≤ all_shares vs
share_within [] i v e = absurd (some-ne-none v (sym e))
share_within (x ∷ vs) zero v e = let same = ap (λ (u : View). u.share) (some-injective x v e) in omega arith
share_within (x ∷ vs) (suc i) v e = let h = share_within vs i v e in omega arith

-- so is that of two
two_within : (vs : List View) (i j : ℕ) (v w : View) → get_elem? vs i ≡ some v → get_elem? vs j ≡ some w → j ≢ i → v.share + w.share ≤ all_shares vs
two_within vs i j v w here there apart =
    let less = shares_set vs i v spent_view here in
    let within = share_within (set vs i spent_view) j w (set_else vs i j spent_view apart ∙ there) in
    omega arith

-- two shares as one do not go round
no_round : (n : ℕ) → n ≤ whole_share → n % 2 ^ 64 ≡ n
no_round n low = mod-eq_of_lt (omega arith)

-- a turn leaves the whole with the passes
turn_shares : (plan : TablePlan) (s : TableState) (t : Turn) (s' : TableState) → TableTurns plan s t s' → HaveTheWhole s → HaveTheWhole s'
turn_shares plan s (Makes id c) s' turn h =
    let v = turn.view in
    let w = after c (found_by s c) v in
    let same = share_stays c (found_by s c) v in
    let there = shares_set s.views id v w turn.there in
    let whole = h.whole in
    subst HaveTheWhole (sym turn.gives) (record {
      whole = omega arith;
      each = λ j u at sharing. ⊎_elim
          (λ (t : (j ≡ id) × (w ≡ u)).
          let had = h.each id v turn.there (λ none. sharing (ap (λ (x : View). x.worker.shared) (sym t.1) ∙ (owned_stays c (found_by s c) v ∙ none))) in
          subst (λ (x : View). 1 ≤ x.share) t.1 (omega arith))
          (λ (t : (j ≢ id) × (get_elem? s.views j ≡ some u)). h.each j u t.1 sharing)
          (at_set s.views id j w u at);
    })
turn_shares plan s (Splits id chosen) s' turn h =
    let v = turn.view in
    let left = left_view chosen v in
    let right = right_view chosen v in
    let there = shares_set s.views id v left turn.there in
    let more = shares_more (set s.views id left) right in
    let within = given_within v.share in
    let whole = h.whole in
    subst HaveTheWhole (sym turn.gives) (record {
      whole = omega arith;
      each = each_split s.views id v turn.there left right (λ u. u.worker.shared ≢ None → 1 ≤ u.share)
          (λ sharing. let some = given_some v.share (turn.may sharing) in let less = some.1 in omega arith)
          (λ sharing. (given_some v.share (turn.may sharing)).0)
          h.each;
    })
turn_shares plan s (Joins id other) s' turn h =
    let v = turn.view in
    let w = turn.view' in
    let both = joined_view v w in
    let turned : other ≢ id = λ e. turn.apart (sym e) in
    let first = shares_set s.views id v both turn.there in
    let second = shares_set (set s.views id both) other w spent_view (set_else s.views id other both turned ∙ turn.there') in
    let whole = h.whole in
    let within = two_within s.views id other v w turn.there turn.there' turned in
    let same = no_round (v.share + w.share) (omega arith) in
    subst HaveTheWhole (sym turn.gives) (record {
      whole = omega arith;
      each = each_joined s.views id other v w turn.there turn.there' turned both (λ u. u.worker.shared ≢ None → 1 ≤ u.share)
          (λ sharing. by v.worker.shared w.worker.shared refl refl sharing same)
          (λ sharing. absurd (sharing refl))
          h.each;
    })
  where
    by : (l m : Option (List ℕ)) → turn.view.worker.shared ≡ l → turn.view'.worker.shared ≡ m → option_or l m ≢ None
        → (turn.view.share + turn.view'.share) % 2 ^ 64 ≡ turn.view.share + turn.view'.share → 1 ≤ (turn.view.share + turn.view'.share) % 2 ^ 64
    by None m ours theirs sharing same =
        let some = h.each other turn.view' turn.there' (λ none. sharing (sym theirs ∙ none)) in omega arith
    by (Some l) m ours theirs sharing same =
        let some = h.each id turn.view turn.there (λ none. some_not_none ours none) in omega arith

run_shares : (plan : TablePlan) (s : TableState) (turns : List Turn) (s' : TableState) → TableRun plan s turns s' → HaveTheWhole s → HaveTheWhole s'
run_shares plan s [] s' run h = subst HaveTheWhole (sym run) h
run_shares plan s (t ∷ ts) s' run h = run_shares plan run.0 ts s' run.2 (turn_shares plan s t run.0 run.1 h)

-- so it is wherever turns have led a table
pub shares_add_up : SharesAddUp
shares_add_up plan s h = run_shares plan h.first h.turns s h.run (subst HaveTheWhole (sym h.starts.is) (record {
  whole = omega arith;
  each = each_first (first_of plan) (λ u. u.worker.shared ≢ None → 1 ≤ u.share) (λ sharing. omega arith);
}))

-- a pass that has the whole is alone
pub alone_with_the_whole : (plan : TablePlan) (s : TableState) → IsReached plan s → (id : ℕ) (v : View) → get_elem? s.views id ≡ some v → v.share ≡ whole_share
    → (j : ℕ) (u : View) → get_elem? s.views j ≡ some u → (j ≡ id) ⊎ (u.worker.shared ≡ None)
alone_with_the_whole plan s h id v here all j u there = elim (cases_eq j id) [
  | inl same ↦ inl same
  | inr apart ↦ inr (by u.worker.shared refl apart)
]
  where
    have : HaveTheWhole s
    have = shares_add_up plan s h

    by : (o : Option (List ℕ)) → u.worker.shared ≡ o → j ≢ id → o ≡ None
    by None is apart = refl
    by (Some l) is apart =
        let some = have.each j u there (λ none. some_not_none is none) in
        let within = two_within s.views id j v u here there apart in
        let whole = have.whole in
        absurd (omega arith)
