use Rattle.std.proofs.Common.{◌≡◌, ◌≢◌, ◌↔◌, ℕ, ◌==◌, ◌||◌, cond, if◌then◌else◌, eqb-true, Bool, true, false, List, [], ◌∷◌, Some, None, refl, sym, ap, ◌∙◌, subst, true≢false}
use Rattle.std.specs.Prelude.{Contains, is_some}
use Rattle.std.specs.List.{All}
use Rattle.std.specs.Map.{keys_of as pair_keys}
use Rattle.std.proofs.lemmas.List.Elements.{All-contains}
use Rattle.std.proofs.lemmas.Map.Made.{is_some-lookup}
use Rattle.std.proofs.lemmas.Option.{same_Some}
use Rattle.ell_ops.specs.Contents.{contents_of}
use Rattle.ell_ops.specs.KeySet.{set_of}
use Rattle.ell_core.specs.state.Machine.{ledger_of, entry_of}
use Rattle.ell_core.specs.state.Opening.{keys_at_start}
use Rattle.ell_core.proofs.lemmas.opening.KeyLists.{place_of, holds_present}
pub use Rattle.ell_core.proofs.lemmas.opening.KeyLists.{at_place}
use Rattle.ell_core.proofs.lemmas.outcomes.Decide.{some_not_none}
use Rattle.ell_runs.specs.Changes.{ledger_keys}
use Rattle.ell_core.specs.declared.view.Entry.{Entry}
use Rattle.ell_core.specs.declared.view.Entry.TheVariants.{Present}
use Rattle.ell_core.specs.state.Opening.{start_entry}

-- a key that is among the keys, in std's word
pub among_contains : (keys : List ℕ) (k : ℕ) → set_of keys k ≡ true → Contains keys k
among_contains keys k among = place_of keys k k among

pub contains_among : (keys : List ℕ) (k : ℕ) → Contains keys k → set_of keys k ≡ true
contains_among keys k at = subst (λ x. set_of keys x ≡ true) at.2 (at_place keys at.0 k at.1)

-- a key of a ledger is owned
pub among_owned : (l : List (ℕ × Entry)) (k : ℕ) → set_of (ledger_keys l) k ≡ true → ledger_of l k ≢ None
among_owned [] k among = absurd (true≢false (sym among))
among_owned (e ∷ es) k among = by (k == e.0) among (among_owned es k)
  where
    by : (t : Bool) → (t || set_of (ledger_keys es) k) ≡ true → (set_of (ledger_keys es) k ≡ true → ledger_of es k ≢ None)
        → cond t (Some e.1) (ledger_of es k) ≢ None
    by true h rest none = some_not_none refl none
    by false h rest none = rest h none

-- an owned key is one of the ledger's
pub owned_among : (l : List (ℕ × Entry)) (k : ℕ) → ledger_of l k ≢ None → set_of (ledger_keys l) k ≡ true
owned_among [] k owns = absurd (owns refl)
owned_among (e ∷ es) k owns = by (k == e.0) owns (owned_among es k)
  where
    by : (t : Bool) → cond t (Some e.1) (ledger_of es k) ≢ None → (ledger_of es k ≢ None → set_of (ledger_keys es) k ≡ true)
        → (t || set_of (ledger_keys es) k) ≡ true
    by true h rest = refl
    by false h rest = rest h

-- keys as they are at the start are owned, and present if they are start keys
pub ledger_at_start : (keys : List ℕ) (start : List (ℕ × ℕ)) (k : ℕ)
    → ledger_of (keys_at_start keys start) k ≡ (if set_of keys k then Some (start_entry start k) else None)
ledger_at_start [] start k = refl
ledger_at_start (x ∷ xs) start k = by (k == x) refl (ledger_at_start xs start k)
  where
    by : (b : Bool) → (k == x) ≡ b → ledger_of (keys_at_start xs start) k ≡ (if set_of xs k then Some (start_entry start k) else None)
        → cond b (Some (start_entry start x)) (ledger_of (keys_at_start xs start) k) ≡ (if b || set_of xs k then Some (start_entry start k) else None)
    by true same e = ap (λ n. Some (start_entry start n)) (sym (eqb-true k x same))
    by false same e = e

-- start keys that are all among the keys are present with their values, and no others
pub present_at_start : (keys : List ℕ) (start : List (ℕ × ℕ)) → All (λ k. set_of keys k ≡ true) (pair_keys start) → (k value : ℕ)
    → (ledger_of (keys_at_start keys start) k ≡ Some (Present value)) ↔ (contents_of start k ≡ Some value)
present_at_start keys start given k value =
    let at = ledger_at_start keys start k in (
      λ is. by (set_of keys k) (sym at ∙ is),
      λ is.
          let among = sym (is_some-lookup (λ x. k == x) start) ∙ ap is_some is in
          let owned = All-contains (λ x. set_of keys x ≡ true) (pair_keys start) k given (among_contains (pair_keys start) k among) in
          at ∙ (ap (λ t. if t then Some (start_entry start k) else None) owned ∙ ap (λ o. Some (entry_of o)) is),
    )
  where
    by : (t : Bool) → (if t then Some (start_entry start k) else None) ≡ Some (Present value) → contents_of start k ≡ Some value
    by true is = holds_present (contents_of start k) value (same_Some (start_entry start k) (Present value) is)
    by false is = absurd (some_not_none is refl)
