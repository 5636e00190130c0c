use Rattle.std.proofs.Common.{◌≡◌, ℕ, zero, suc, ◌+◌, ◌<◌, ◌≤◌, ◌==◌, ◌&&◌, ◌||◌, if◌then◌else◌, cond, Bool, true, false, List, [], ◌∷◌, map, length, get_or, slice_get, option_map, Option, Some, None, refl, sym, ap, ◌∙◌, subst, arith, nat_lt, ◌⊎◌, inl, inr}
use Rattle.std.proofs.lemmas.Bool.{false≢true, eqb-true, eq-eqb, ne_eqb, ltb-true}
use Rattle.std.proofs.lemmas.Option.{same_Some, slice_get_within, slice_get-get_or, slice_get-map}
use Rattle.std.proofs.lemmas.List.Elements.{All-map}
use Rattle.std.proofs.lemmas.List.Kept.{AllPairs-from_increasing}
use Rattle.std.specs.List.{All, list_any}
use Rattle.std.specs.List.Sorted.{IsStrictlyIncreasing}
use Rattle.ell_ops.specs.KeySet.{set_of}
use Rattle.ell_ops.specs.Meaning.{greatest_key}
use Rattle.std.specs.Map.{keys_of}
use Rattle.ell_core.specs.state.Machine.{idle, ledger_of}
use Rattle.ell_core.specs.state.Opening.{Setup, opening, last_card, is_given, opening_ledger, shares, gives, IsStranger, IsRepeat, start_entry}
use Rattle.ell_layout.specs.Start.{words_at_start}
use Rattle.ell_core.specs.history.Invariant.{Invariant}
use Rattle.ell_core.specs.statements.RunLaws.{CanOpen}
use Rattle.ell_core.specs.statements.Premises.{OneWorkerOpens}
use Rattle.ell_core.specs.state.Opening.{first_alone, keys_at_start, opening_of_one}
use Rattle.ell_ops.proofs.lemmas.Sets.{eqb-swap}
use Rattle.ell_core.proofs.lemmas.outcomes.Decide.{some_not_none}
use Rattle.ell_core.proofs.lemmas.opening.Invariant.{start_stages}
use Rattle.ell_core.proofs.lemmas.opening.CanOpen.{opening_has}
use Rattle.std.proofs.Math.Bool.{and-true}

-- the entry that gives a key to worker 0
abbrev pub entry_of : ℕ → ℕ × ℕ
entry_of k = (0, k)

-- the entries that give keys to worker 0
abbrev pub entries : List ℕ → List (ℕ × ℕ)
entries keys = map entry_of keys

-- the ledger of worker 0 has all keys
first_ledger : (start : List (ℕ × ℕ)) (keys : List ℕ) (k : ℕ) → opening_ledger (entries keys) start 0 k ≡ ledger_of (keys_at_start keys start) k
first_ledger start [] k = refl
first_ledger start (x ∷ keys) k = by (x == k) refl (first_ledger start keys k)
  where
    by : (b : Bool) → (x == k) ≡ b → opening_ledger (entries keys) start 0 k ≡ ledger_of (keys_at_start keys start) k
        → opening_ledger (entries (x ∷ keys)) start 0 k ≡ ledger_of (keys_at_start (x ∷ keys) start) k
    by true e rest = ap (λ t. if t || list_any (gives 0 k) (entries keys) then Some (start_entry start k) else None) e
        ∙ (ap (λ n. Some (start_entry start n)) (sym (eqb-true x k e))
        ∙ sym (ap (λ t. cond t (Some (start_entry start x)) (ledger_of (keys_at_start keys start) k)) (eq-eqb k x (sym (eqb-true x k e)))))
    by false e rest = ap (λ t. if t || list_any (gives 0 k) (entries keys) then Some (start_entry start k) else None) e
        ∙ (rest ∙ sym (ap (λ t. cond t (Some (start_entry start x)) (ledger_of (keys_at_start keys start) k)) (ne_eqb k x (λ q. false≢true (sym e ∙ eq-eqb x k (sym q))))))

-- no other worker is given a key
none_given : (keys : List ℕ) (i k : ℕ) → list_any (gives (suc i) k) (entries keys) ≡ false
none_given [] i k = refl
none_given (x ∷ keys) i k = ap (λ t. (t && (x == k)) || list_any (gives (suc i) k) (entries keys)) (ne_eqb 0 (suc i) (λ e. omega arith)) ∙ none_given keys i k

other_ledger : (start : List (ℕ × ℕ)) (keys : List ℕ) (i k : ℕ) → opening_ledger (entries keys) start (suc i) k ≡ None
other_ledger start keys i k = ap (λ t. if t then Some (start_entry start k) else None) (none_given keys i k)

-- nobody but the first shares anything
one_shares : (shared : ℕ → Bool) (i key : ℕ) → shares 1 shared (suc i) key ≡ false
one_shares shared i key = by (shared key) (nat_lt (suc i) 1) refl
  where
    by : (b c : Bool) → nat_lt (suc i) 1 ≡ c → (b && c) ≡ false
    by false c is = refl
    by true false is = refl
    by true true is = absurd (let low = ltb-true (suc i) 1 is in omega arith)

-- each of the keys is given
pub given_entry : (keys : List ℕ) (k : ℕ) → is_given (entries keys) k ≡ set_of keys k
given_entry [] k = refl
given_entry (x ∷ keys) k = ap (λ t. t || is_given (entries keys) k) (eqb-swap x k) ∙ ap (λ t. (k == x) || t) (given_entry keys k)

-- an entry and its key, at one place
record IsPlaced (keys : List ℕ) (at : ℕ) (entry : ℕ × ℕ) : Type 0 where
  key : ℕ
  there : slice_get keys at ≡ Some key
  is : entry ≡ (0, key)

-- an entry is that of the key at its place
entry_at : (keys : List ℕ) (at : ℕ) (found : Option ℕ) (entry : ℕ × ℕ) → slice_get keys at ≡ found → option_map entry_of found ≡ Some entry
    → IsPlaced keys at entry
entry_at keys at None entry there e = absurd (some_not_none e refl)
entry_at keys at (Some k) entry there e = record { key = k; there = there; is = sym (same_Some (entry_of k) entry e) }

placed : (keys : List ℕ) (at : ℕ) (entry : ℕ × ℕ) → slice_get (entries keys) at ≡ Some entry → IsPlaced keys at entry
placed keys at entry e = entry_at keys at (slice_get keys at) entry refl (sym (slice_get-map entry_of keys at) ∙ e)

-- the key at a place
key_at : (keys : List ℕ) (at key : ℕ) → slice_get keys at ≡ Some key → get_or keys at 0 ≡ key
key_at keys at key there = same_Some (get_or keys at 0) key (sym (slice_get-get_or keys at 0 (slice_get_within keys at key there)) ∙ there)

-- no entry names a worker that is not there
no_stranger : (keys : List ℕ) (at : ℕ) → ¬ IsStranger 1 (entries keys) at
no_stranger keys at s =
    let p = placed keys at s.entry s.stands in
    let first : s.entry.0 ≡ 0 = ap (λ (x : ℕ × ℕ). x.0) p.is in
    let strange = s.strange in
    omega arith

-- nor a key that an earlier entry names
no_repeat : (keys : List ℕ) → IsStrictlyIncreasing keys → (at : ℕ) → ¬ IsRepeat (entries keys) at
no_repeat keys rising at s =
    let p = placed keys at s.entry s.stands in
    let q = placed keys s.earlier s.other s.stood in
    let later = key_at keys at p.key p.there in
    let sooner = key_at keys s.earlier q.key q.there in
    let less : get_or keys s.earlier 0 < get_or keys at 0 =
    AllPairs-from_increasing keys rising s.earlier at 0 s.before (slice_get_within keys at p.key p.there) in
    let same : q.key ≡ p.key = sym (ap (λ (x : ℕ × ℕ). x.1) q.is) ∙ (s.same ∙ ap (λ (x : ℕ × ℕ). x.1) p.is) in
    omega arith

module _ (keys : List ℕ) (start : List (ℕ × ℕ)) (cards : ℕ) (shared : ℕ → Bool) (flat : Bool) (rising : IsStrictlyIncreasing keys)
    (real : All (λ k. k ≤ greatest_key) keys) (ascending : IsStrictlyIncreasing (keys_of start))
    (among : All (λ k. (set_of keys k ≡ true) ⊎ (shared k ≡ true)) (keys_of start))
    (apart : (k : ℕ) → shared k ≡ true → (k ≤ greatest_key) × (set_of keys k ≡ false)) where
  -- the entries can open
  abbrev setup : Setup
  setup = record { count = 1; owned = entries keys; start = start; cards = cards; shared = shared; flat = flat }

  can_open : CanOpen setup
  can_open = record {
    faultless = λ at. (no_stranger keys at, no_repeat keys rising at);
    real = All-map (λ entry. entry.1 ≤ greatest_key) entry_of keys real;
    ascending = ascending;
    given = λ i d below. elim (among i d below) [
      | inl own ↦ inl (given_entry keys (get_or (keys_of start) i d) ∙ own)
      | inr shared ↦ inr (omega arith, shared)
    ];
    apart = λ k e. ((apart k e).0, given_entry keys k ∙ (apart k e).1);
  }

  -- the workers are the first one alone
  workers_are : (i : ℕ) → first_alone (idle (ledger_of (keys_at_start keys start)) shared (λ _. false)) i ≡ idle (opening_ledger (entries keys) start i) (shares 1 shared i) (λ _. false)
  workers_are zero = λ t. idle (λ k. sym (first_ledger start keys k) t) (λ k. sym (and-true (shared k)) t) (λ _. false)
  workers_are (suc i) = λ t. idle (λ k. sym (other_ledger start keys i k) t) (λ k. sym (one_shares shared i k) t) (λ _. false)

  -- so the state is the opening
  state_is : opening_of_one keys start cards shared flat ≡ opening setup
  unfolding opening
  state_is = λ t. record { words = words_at_start flat start; worker = λ i. workers_are i t; count = 1; last_card = last_card start cards }

-- it has the invariant with the stages at the start
pub one_worker_has : (keys : List ℕ) (start : List (ℕ × ℕ)) (cards : ℕ) (shared : ℕ → Bool) (flat : Bool) → IsStrictlyIncreasing keys → All (λ k. k ≤ greatest_key) keys
    → IsStrictlyIncreasing (keys_of start) → All (λ k. (set_of keys k ≡ true) ⊎ (shared k ≡ true)) (keys_of start)
    → ((k : ℕ) → shared k ≡ true → (k ≤ greatest_key) × (set_of keys k ≡ false))
    → Invariant (opening_of_one keys start cards shared flat) (start_stages (length start + 1))
one_worker_has keys start cards shared flat rising real ascending among apart =
    subst (λ m. Invariant m (start_stages (length start + 1))) (sym (state_is keys start cards shared flat rising real ascending among apart))
    (opening_has (setup keys start cards shared flat rising real ascending among apart) (can_open keys start cards shared flat rising real ascending among apart))

-- one worker that owns all keys can open
pub one_worker_opens : OneWorkerOpens
one_worker_opens keys start cards shared flat rising real ascending among apart = record {
  opens = record {
    setup = setup keys start cards shared flat rising real ascending among apart;
    can = can_open keys start cards shared flat rising real ascending among apart;
    opens = state_is keys start cards shared flat rising real ascending among apart;
  };
  lawful = record { stages = start_stages (length start + 1); invariant = one_worker_has keys start cards shared flat rising real ascending among apart };
}
