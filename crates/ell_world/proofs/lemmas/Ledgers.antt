use Rattle.std.proofs.Common.{◌≡◌, ◌≢◌, ◌↔◌, IsTrue, ℕ, cond, Option, Some, None, List, [], ◌∷◌, eqb, arith, refl, ap, sym, ◌∙◌}
use Rattle.std.proofs.lemmas.Bool.{false≢true}
use Rattle.std.proofs.lemmas.Bool.Decides.{nat_tests}
use Rattle.std.specs.BTreeMap.{is_at}
use Rattle.std.specs.Map.{lookup}
use Rattle.std.specs.Option.{is_some}
use Rattle.std.specs.Ordering.{nat_cmp}
use Rattle.ell_ops.proofs.lemmas.Sets.{is_at-nat}
use Rattle.ell_layout.specs.Words.{put}
use Rattle.ell_core.specs.state.Machine.{ledger_of}
use Rattle.ell_core.specs.declared.view.Entry.{Entry}

-- it is equality the other way round, too
pub is_at-eqb_back : (key q : ℕ) → is_at (nat_cmp key) q ≡ eqb q key
is_at-eqb_back key q = grind (arith, nat_tests)

-- std finds at a key what the ledger of the entries has there
pub lookup-ledger_of : (entries : List (ℕ × Entry)) (q : ℕ) → lookup (is_at (nat_cmp q)) entries ≡ ledger_of entries q
lookup-ledger_of [] q = refl
lookup-ledger_of (e ∷ es) q =
    ap (λ t. cond t (Some e.1) (lookup (is_at (nat_cmp q)) es)) (is_at-nat q e.0) ∙ ap (cond (eqb q e.0) (Some e.1)) (lookup-ledger_of es q)

-- what a change of one key of std's map leaves at each key of the ledger
ledger_of-updates-at : (old new : List (ℕ × Entry)) (key : ℕ) (value : Option Entry) →
    ((q : ℕ) → lookup (is_at (nat_cmp q)) new ≡ cond (is_at (nat_cmp key) q) value (lookup (is_at (nat_cmp q)) old)) →
    (q : ℕ) → ledger_of new q ≡ cond (eqb q key) value (ledger_of old q)
ledger_of-updates-at old new key value h q =
    sym (lookup-ledger_of new q) ∙ h q ∙ ap (λ t. cond t value (lookup (is_at (nat_cmp q)) old)) (is_at-eqb_back key q)
    ∙ ap (cond (eqb q key) value) (lookup-ledger_of old q)

-- what a change of one key does to std's map, key by key, it does to the ledger
pub ledger_of-updates : (old new : List (ℕ × Entry)) (key : ℕ) (value : Option Entry) →
    ((q : ℕ) → lookup (is_at (nat_cmp q)) new ≡ cond (is_at (nat_cmp key) q) value (lookup (is_at (nat_cmp q)) old)) →
    ledger_of new ≡ put (ledger_of old) key value
ledger_of-updates old new key value h = λ i q. ledger_of-updates-at old new key value h q i

-- a look-up finds something exactly where it does not find nothing
pub is_some-not_none : (found : Option Entry) → IsTrue (is_some found) ↔ (found ≢ None)
is_some-not_none None = (λ h e. false≢true h, λ h. absurd (h refl))
is_some-not_none (Some value) = (λ h e. cc, λ h. refl)
