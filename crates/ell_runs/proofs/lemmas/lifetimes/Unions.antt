use Rattle.std.proofs.Common.{◌≡◌, ◌≢◌, ◌⊎◌, ℕ, ◌==◌, cond, if◌then◌else◌, ltb, eqb-true, Bool, true, false, List, [], ◌∷◌, Some, None, refl, sym, ap, ◌∙◌, inl, inr, arith, true≢false}
use Rattle.ell_core.specs.state.Machine.{ledger_of}
use Rattle.ell_core.proofs.lemmas.outcomes.Decide.{some_not_none}
use Rattle.ell_ops.proofs.lemmas.Merges.{put_key, keys_united, beside, below, same, above, if_below, if_same, if_above}
use Rattle.ell_runs.specs.Changes.{ledger_keys, put_entry, united_ledgers}
use Rattle.ell_core.specs.declared.view.Entry.{Entry}

-- the keys of a ledger with one entry more
keys_put : (e : ℕ × Entry) (ds : List (ℕ × Entry)) → ledger_keys (put_entry e ds) ≡ put_key e.0 (ledger_keys ds)
keys_put e [] = refl
keys_put e (d ∷ ds) = by (ltb e.0 d.0) (e.0 == d.0) (keys_put e ds)
  where
    by : (t u : Bool) → ledger_keys (put_entry e ds) ≡ put_key e.0 (ledger_keys ds)
        → ledger_keys (if t then e ∷ d ∷ ds else if u then e ∷ ds else d ∷ put_entry e ds)
        ≡ (if t then e.0 ∷ d.0 ∷ ledger_keys ds else if u then e.0 ∷ ledger_keys ds else d.0 ∷ put_key e.0 (ledger_keys ds))
    by true u rest = refl
    by false true rest = refl
    by false false rest = ap (λ ks. d.0 ∷ ks) rest

-- of two ledgers in one
pub keys_of_united : (l m : List (ℕ × Entry)) → ledger_keys (united_ledgers l m) ≡ keys_united (ledger_keys l) (ledger_keys m)
keys_of_united [] m = refl
keys_of_united (e ∷ es) m = keys_put e (united_ledgers es m) ∙ ap (put_key e.0) (keys_of_united es m)

-- what a ledger with one entry more has on a key
ledger_put : (e : ℕ × Entry) (ds : List (ℕ × Entry)) (k : ℕ) → ledger_of (put_entry e ds) k ≡ cond (k == e.0) (Some e.1) (ledger_of ds k)
ledger_put e [] k = refl
ledger_put e (d ∷ ds) k =
    elim (beside e.0 d.0) [
      | below less ↦ ap (λ (l : List (ℕ × Entry)). ledger_of l k) (if_below e.0 d.0 (e ∷ d ∷ ds) (e ∷ ds) (d ∷ put_entry e ds) less)
      | same is ↦ ap (λ (l : List (ℕ × Entry)). ledger_of l k) (if_same e.0 d.0 (e ∷ d ∷ ds) (e ∷ ds) (d ∷ put_entry e ds) is)
          ∙ covers (k == e.0) (k == d.0) (ap (λ x. k == x) is)
      | above more ↦ ap (λ (l : List (ℕ × Entry)). ledger_of l k) (if_above e.0 d.0 (e ∷ d ∷ ds) (e ∷ ds) (d ∷ put_entry e ds) more)
          ∙ (ap (λ o. cond (k == d.0) (Some d.1) o) (ledger_put e ds k) ∙ turns (k == e.0) (k == d.0) (λ a b. let x = eqb-true k e.0 a in let y = eqb-true k d.0 b in omega arith))
    ]
  where
    covers : (t u : Bool) → t ≡ u → cond t (Some e.1) (ledger_of ds k) ≡ cond t (Some e.1) (cond u (Some d.1) (ledger_of ds k))
    covers true u is = refl
    covers false false is = refl
    covers false true is = absurd (true≢false (sym is))

    turns : (t u : Bool) → (t ≡ true → u ≡ true → ⊥)
        → cond u (Some d.1) (cond t (Some e.1) (ledger_of ds k)) ≡ cond t (Some e.1) (cond u (Some d.1) (ledger_of ds k))
    turns true true n = absurd (n refl refl)
    turns true false n = refl
    turns false u n = refl

-- two ledgers in one have what the first has, or, where that has nothing, what the second has
pub ledger_united : (l m : List (ℕ × Entry)) (k : ℕ)
    → ((ledger_of (united_ledgers l m) k ≡ ledger_of l k) × (ledger_of l k ≢ None)) ⊎ ((ledger_of l k ≡ None) × (ledger_of (united_ledgers l m) k ≡ ledger_of m k))
ledger_united [] m k = inr (refl, refl)
ledger_united (e ∷ es) m k = by (k == e.0) (ledger_put e (united_ledgers es m) k) (ledger_united es m k)
  where
    by : (t : Bool) → ledger_of (put_entry e (united_ledgers es m)) k ≡ cond t (Some e.1) (ledger_of (united_ledgers es m) k)
        → ((ledger_of (united_ledgers es m) k ≡ ledger_of es k) × (ledger_of es k ≢ None)) ⊎ ((ledger_of es k ≡ None) × (ledger_of (united_ledgers es m) k ≡ ledger_of m k))
        → ((ledger_of (put_entry e (united_ledgers es m)) k ≡ cond t (Some e.1) (ledger_of es k)) × (cond t (Some e.1) (ledger_of es k) ≢ None))
        ⊎ ((cond t (Some e.1) (ledger_of es k) ≡ None) × (ledger_of (put_entry e (united_ledgers es m)) k ≡ ledger_of m k))
    by true is rest = inl (is, λ none. some_not_none refl none)
    by false is rest = elim rest [
      | inl a ↦ inl (is ∙ a.0, a.1)
      | inr b ↦ inr (b.0, is ∙ b.1)
    ]
