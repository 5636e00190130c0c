use Rattle.std.proofs.Common.{◌≡◌, ◌≢◌, ℕ, ◌==◌, if◌then◌else◌, cond, eqb-true, ne_eqb, Bool, true, false, List, [], ◌∷◌, Some, None, refl, sym, ap, ◌∙◌, inl, inr}
use Rattle.std.proofs.lemmas.Bool.{cases_eq}
use Rattle.ell_layout.specs.Words.{put}
use Rattle.ell_core.specs.state.Machine.{ledger_of}
use Rattle.ell_layout.proofs.lemmas.Writes.{put_same, put_other}
use Rattle.ell_runs.specs.Changes.{with_entry}
use Rattle.ell_core.specs.declared.view.Entry.{Entry}

settled_here : (k : ℕ) (b : Entry) (l : List (ℕ × Entry)) → ledger_of l k ≢ None → ledger_of (with_entry k b l) k ≡ Some b
settled_here k b [] owns = absurd (owns refl)
settled_here k b (e ∷ l) owns = by (k == e.0) refl (settled_here k b l)
  where
    by : (t : Bool) → (k == e.0) ≡ t → (ledger_of l k ≢ None → ledger_of (with_entry k b l) k ≡ Some b) → ledger_of (with_entry k b (e ∷ l)) k ≡ Some b
    by true is rest = ap (λ t. cond t (Some (if t then b else e.1)) (ledger_of (with_entry k b l) k)) is
    by false is rest = ap (λ t. cond t (Some (if k == e.0 then b else e.1)) (ledger_of (with_entry k b l) k)) is ∙ rest (λ none. owns (ap (λ t. cond t (Some e.1) (ledger_of l k)) is ∙ none))

settled_else : (k : ℕ) (b : Entry) (l : List (ℕ × Entry)) (key : ℕ) → key ≢ k → ledger_of (with_entry k b l) key ≡ ledger_of l key
settled_else k b [] key n = refl
settled_else k b (e ∷ l) key n = by (key == e.0) refl (settled_else k b l key n)
  where
    by : (t : Bool) → (key == e.0) ≡ t → ledger_of (with_entry k b l) key ≡ ledger_of l key → ledger_of (with_entry k b (e ∷ l)) key ≡ ledger_of (e ∷ l) key
    by true is rest = let at : key ≡ e.0 = eqb-true key e.0 is in
        ap (λ t. cond t (Some (if k == e.0 then b else e.1)) (ledger_of (with_entry k b l) key)) is
        ∙ (ap (λ t. Some (if t then b else e.1)) (ne_eqb k e.0 (λ q. n (at ∙ sym q))) ∙ ap (λ t. cond t (Some e.1) (ledger_of l key)) (sym is))
    by false is rest = ap (λ t. cond t (Some (if k == e.0 then b else e.1)) (ledger_of (with_entry k b l) key)) is ∙ (rest ∙ ap (λ t. cond t (Some e.1) (ledger_of l key)) (sym is))

-- an owned key is settled in the ledger
pub settled_put : (k : ℕ) (b : Entry) (l : List (ℕ × Entry)) → ledger_of l k ≢ None → (key : ℕ) → ledger_of (with_entry k b l) key ≡ put (ledger_of l) k (Some b) key
settled_put k b l owns key = elim (cases_eq key k) [
  | inl e ↦ ap (ledger_of (with_entry k b l)) e ∙ (settled_here k b l owns ∙ sym (ap (put (ledger_of l) k (Some b)) e ∙ put_same (ledger_of l) k (Some b)))
  | inr n ↦ settled_else k b l key n ∙ sym (put_other (ledger_of l) k (Some b) key n)
]

-- a ledger that has no entry of the key stays
pub settled_none : (k : ℕ) (b : Entry) (l : List (ℕ × Entry)) → ledger_of l k ≡ None → (key : ℕ) → ledger_of (with_entry k b l) key ≡ ledger_of l key
settled_none k b l none key = elim (cases_eq key k) [
  | inl e ↦ ap (ledger_of (with_entry k b l)) e ∙ (none_here k b l none ∙ sym (ap (ledger_of l) e ∙ none))
  | inr n ↦ settled_else k b l key n
]
  where
    none_here : (k : ℕ) (b : Entry) (l : List (ℕ × Entry)) → ledger_of l k ≡ None → ledger_of (with_entry k b l) k ≡ None
    none_here k b [] none = none
    none_here k b (e ∷ l) none = by (k == e.0) refl (none_here k b l)
      where
        by : (t : Bool) → (k == e.0) ≡ t → (ledger_of l k ≡ None → ledger_of (with_entry k b l) k ≡ None) → ledger_of (with_entry k b (e ∷ l)) k ≡ None
        by true is rest = (let some : Some e.1 ≡ None = sym (ap (λ t. cond t (Some e.1) (ledger_of l k)) is) ∙ none in absurd cc)
        by false is rest = ap (λ t. cond t (Some (if k == e.0 then b else e.1)) (ledger_of (with_entry k b l) k)) is ∙ rest (sym (ap (λ t. cond t (Some e.1) (ledger_of l k)) is) ∙ none)
