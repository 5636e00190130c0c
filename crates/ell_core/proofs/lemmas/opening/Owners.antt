use Rattle.std.proofs.Common.{◌≡◌, ◌≢◌, ℕ, ◌<◌, ◌≤◌, ◌==◌, inl, inr, if◌then◌else◌, Bool, true, false, Option, Some, None, List, length, slice_get, get_or, refl, sym, ap, ◌∙◌, subst, arith, ◌&&◌, nat_lt}
use Rattle.std.proofs.lemmas.Bool.{cases_lt, cases_eq, eqb-true, and_parts, false≢true, eq-eqb, ltb-true}
use Rattle.std.proofs.lemmas.List.Folds.{Any-from_list_any, list_any_at}
use Rattle.std.proofs.lemmas.Option.{same_Some, slice_get-get_or}
use Rattle.std.specs.List.{All, list_any}
use Rattle.ell_ops.specs.Meaning.{greatest_key}
use Rattle.ell_core.specs.state.Opening.{gives, opening_ledger, Faultless, start_entry, shares, is_given}
use Rattle.ell_core.specs.state.Machine.{idle, nobody}
use Rattle.ell_core.specs.declared.view.Entry.{Entry}

-- an entry that gives a worker a key
record Given (owned : List (ℕ × ℕ)) (i key : ℕ) : Type 0 where
  place : ℕ
  entry : ℕ × ℕ
  within : place < length owned
  stands : slice_get owned place ≡ Some entry
  read : get_or owned place entry ≡ entry
  worker : entry.0 ≡ i
  names : entry.1 ≡ key

-- what the opening ledger has at a key, by the tests of the entries and of the start keys
abbrev held : Bool → Entry → Option Entry
held true entry = Some entry
held false entry = None

-- where something is held, the first test is passed
held_some : (test : Bool) (entry : Entry) → held test entry ≢ None → test ≡ true
held_some true entry h = refl
held_some false entry h = absurd (h refl)

-- it is what the ledger has
ledger_held : (owned start : List (ℕ × ℕ)) (i key : ℕ)
    → opening_ledger owned start i key ≡ held (list_any (gives i key) owned) (start_entry start key)
ledger_held owned start i key = by (list_any (gives i key) owned)
  where
    by : (test : Bool) → (if test then Some (start_entry start key) else None) ≡ held test (start_entry start key)
    by true = refl
    by false = refl

-- an owned key passes the test of the entries
given_test : (owned start : List (ℕ × ℕ)) (i key : ℕ) → opening_ledger owned start i key ≢ None → list_any (gives i key) owned ≡ true
given_test owned start i key owns =
    held_some (list_any (gives i key) owned) (start_entry start key) (λ e. owns (ledger_held owned start i key ∙ e))

-- an owned key is present exactly where it is a start key
pub ledger_there : (owned start : List (ℕ × ℕ)) (i key : ℕ) → opening_ledger owned start i key ≢ None
    → opening_ledger owned start i key ≡ Some (start_entry start key)
ledger_there owned start i key owns =
    ap (λ t. if t then Some (start_entry start key) else None) (given_test owned start i key owns)

-- an owned key was given by an entry
given : (owned start : List (ℕ × ℕ)) (i key : ℕ) → opening_ledger owned start i key ≢ None → Given owned i key
given owned start i key owns =
    let passed = given_test owned start i key owns in
    let any = Any-from_list_any (gives i key) owned passed in
    let tests = and_parts (any.1.0 == i) (any.1.1 == key) any.4 in
    record {
      place = any.0;
      entry = any.1;
      within = any.2;
      stands = slice_get-get_or owned any.0 any.1 any.2 ∙ ap Some any.3;
      read = any.3;
      worker = eqb-true any.1.0 i tests.0;
      names = eqb-true any.1.1 key tests.1;
    }

module _ (count : ℕ) (owned start : List (ℕ × ℕ)) (faultless : Faultless count owned) where
  -- two entries for one key do not stand at different places
  one_place : (a b : ℕ) (x y : ℕ × ℕ) → slice_get owned a ≡ Some x → slice_get owned b ≡ Some y → x.1 ≡ y.1 → a < b → ⊥
  one_place a b x y at_a at_b same less =
      (faultless b).1 (record { entry = y; stands = at_b; earlier = a; other = x; before = less; stood = at_a; same = same })

  -- a key is given to one worker only
  pub opening_one_owner : (i j key : ℕ) → opening_ledger owned start i key ≢ None → opening_ledger owned start j key ≢ None → i ≡ j
  opening_one_owner i j key left right =
      let a = given owned start i key left in
      let b = given owned start j key right in
      let same : a.entry.1 ≡ b.entry.1 = a.names ∙ sym b.names in
      elim (cases_eq a.place b.place) [
        | inl e ↦ (let one = same_Some a.entry b.entry (sym a.stands ∙ (ap (slice_get owned) e ∙ b.stands)) in
            sym a.worker ∙ (ap (λ (x : ℕ × ℕ). x.0) one ∙ b.worker))
        | inr n ↦ elim (cases_lt a.place b.place) [
          | inl less ↦ absurd (one_place a.place b.place a.entry b.entry a.stands b.stands same less)
          | inr more ↦ absurd (one_place b.place a.place b.entry a.entry b.stands a.stands (sym same) (omega arith))
        ]
      ]

  -- a worker that is not there is given no key
  given_nothing : (i key : ℕ) → count ≤ i → opening_ledger owned start i key ≡ None
  given_nothing i key past = elim (opening_ledger owned start i key) as (λ found. opening_ledger owned start i key ≡ found → found ≡ None) [
    | None ↦ λ e. refl
    | Some entry ↦ λ e. absurd (strange (given owned start i key (λ n. cc)))
  ] refl
    where
      strange : Given owned i key → ⊥
      strange a = (faultless a.place).0 (record { entry = a.entry; stands = a.stands; strange = (let w = a.worker in omega arith) })

  -- and shares nothing
  no_stranger_shares : (shared : ℕ → Bool) (i key : ℕ) → count ≤ i → shares count shared i key ≡ false
  no_stranger_shares shared i key past = by (shared key) (nat_lt i count) refl
    where
      by : (b c : Bool) → nat_lt i count ≡ c → (b && c) ≡ false
      by false c is = refl
      by true false is = refl
      by true true is = absurd (let low = ltb-true i count is in omega arith)

  -- so it is nobody
  pub opening_stranger : (shared : ℕ → Bool) (i : ℕ) → count ≤ i → idle (opening_ledger owned start i) (shares count shared i) (λ _. false) ≡ nobody
  opening_stranger shared i past = λ t. idle (λ key. given_nothing i key past t) (λ key. no_stranger_shares shared i key past t) (λ _. false)

-- an owned key is given
pub opening_given : (owned start : List (ℕ × ℕ)) (i key : ℕ) → is_given owned key ≡ false → ¬ (opening_ledger owned start i key ≢ None)
opening_given owned start i key not_given owns =
    let a = given owned start i key owns in
    false≢true (sym not_given ∙ list_any_at (λ (entry : ℕ × ℕ). entry.1 == key) owned a.place a.entry a.within
    (ap (λ (entry : ℕ × ℕ). entry.1 == key) a.read ∙ eq-eqb a.entry.1 key a.names))

-- an owned key is a real key if the entries name real keys
pub opening_real : (owned start : List (ℕ × ℕ)) (i key : ℕ) → All (λ entry. entry.1 ≤ greatest_key) owned → opening_ledger owned start i key ≢ None
    → key ≤ greatest_key
opening_real owned start i key real owns =
    let a = given owned start i key owns in
    let bound : a.entry.1 ≤ greatest_key = subst (λ (x : ℕ × ℕ). x.1 ≤ greatest_key) a.read (real a.place a.entry a.within) in
    let e = a.names in
    omega arith
