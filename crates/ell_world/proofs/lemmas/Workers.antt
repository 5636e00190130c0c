use Rattle.std.proofs.Common.{◌≡◌, ◌<◌, ◌==◌, Bool, true, false, Option, Some, None, List, length, get_or, refl, sym, ap, ◌∙◌, arith, zero, suc, ℕ, ◌&&◌, ◌||◌, cond, [], ◌∷◌, ◌++◌, set, take, ⊎_elim, subst, ◌+◌}
use Rattle.std.proofs.lemmas.Bool.{cases_eq, eqb-true, false≢true, eq-eqb, ne_eqb}
use Rattle.std.proofs.lemmas.List.Folds.{list_any-append}
use Rattle.std.proofs.lemmas.List.{take_more}
use Rattle.std.specs.List.{list_any}
use Rattle.ell_ops.proofs.lemmas.Sets.{eqb-swap}
use Rattle.ell_layout.specs.Words.{put}
use Rattle.ell_core.specs.declared.view.Entry.{Entry}
use Rattle.ell_core.specs.state.Machine as machine
use Rattle.ell_core.specs.state.Machine.{Ledger, idle, nobody}
use Rattle.ell_core.specs.state.Opening.{gives, opening_ledger, start_entry}
use Rattle.ell_world.specs.declared.worker.Worker.{Worker}
use Rattle.ell_world.specs.Inside.{worker_in, worker_at}

-- one more worker who is nobody leaves all of them nobody
pub worker_at-push : {A : Type 0} (workers : List (Worker A)) (new : Worker A) (i : ℕ) → worker_in new ≡ nobody → ((j : ℕ) → worker_at workers j ≡ nobody) →
    worker_at (workers ++ new ∷ []) i ≡ nobody
worker_at-push [] new zero fresh rest = fresh
worker_at-push [] new (suc i) fresh rest = refl
worker_at-push (v ∷ vs) new zero fresh rest = rest zero
worker_at-push (v ∷ vs) new (suc i) fresh rest = worker_at-push vs new i fresh (λ j. rest (suc j))

-- the worker at a number of the list is the one that stands there
pub worker_at-get_or : {A : Type 0} (workers : List (Worker A)) (i : ℕ) (d : Worker A) → i < length workers → worker_at workers i ≡ worker_in (get_or workers i d)
worker_at-get_or [] i d below = absurd (omega arith)
worker_at-get_or (v ∷ vs) zero d below = refl
worker_at-get_or (v ∷ vs) (suc i) d below = worker_at-get_or vs i d (omega arith)

-- a worker that is put at a number of the list stands there
pub worker_at-set_same : {A : Type 0} (workers : List (Worker A)) (i : ℕ) (new : Worker A) → i < length workers → worker_at (set workers i new) i ≡ worker_in new
worker_at-set_same [] i new below = absurd (omega arith)
worker_at-set_same (v ∷ vs) zero new below = refl
worker_at-set_same (v ∷ vs) (suc i) new below = worker_at-set_same vs i new (omega arith)

-- and the workers at other numbers stay
pub worker_at-set_other : {A : Type 0} (workers : List (Worker A)) (i : ℕ) (new : Worker A) (j : ℕ) → (i ≡ j → ⊥) → worker_at (set workers i new) j ≡ worker_at workers j
worker_at-set_other [] i new j apart = refl
worker_at-set_other (v ∷ vs) zero new zero apart = absurd (apart refl)
worker_at-set_other (v ∷ vs) zero new (suc j) apart = refl
worker_at-set_other (v ∷ vs) (suc i) new zero apart = refl
worker_at-set_other (v ∷ vs) (suc i) new (suc j) apart = worker_at-set_other vs i new j (λ e. apart (ap suc e))

-- what a ledger has at a key after an entry for its worker, by the tests of the entry
given_at : (any there this that : Bool) (here entry : Option Entry) → there ≡ true → this ≡ that → (that ≡ true → here ≡ entry) →
    cond (any || ((there && this) || false)) here None ≡ cond that entry (cond any here None)
given_at any false this that here entry h e s = absurd (false≢true h)
given_at true true this true here entry h e s = s refl
given_at true true this false here entry h e s = refl
given_at false true true true here entry h e s = s refl
given_at false true false false here entry h e s = refl
given_at false true true false here entry h e s = absurd (false≢true (sym e))
given_at false true false true here entry h e s = absurd (false≢true e)

-- an entry for another worker changes no test
elsewhere_at : (any there this : Bool) → there ≡ false → (any || ((there && this) || false)) ≡ any
elsewhere_at any true this h = absurd (false≢true (sym h))
elsewhere_at true false this h = refl
elsewhere_at false false this h = refl

-- one more entry gives its worker its key, present if it is a start key
pub opening_ledger-push_same : (start entries : List (ℕ × ℕ)) (entry : ℕ × ℕ) →
    opening_ledger (entries ++ entry ∷ []) start entry.0 ≡ put (opening_ledger entries start entry.0) entry.1 (Some (start_entry start entry.1))
opening_ledger-push_same start entries entry = λ t key. at key t where
  at : (key : ℕ) → opening_ledger (entries ++ entry ∷ []) start entry.0 key ≡ put (opening_ledger entries start entry.0) entry.1 (Some (start_entry start entry.1)) key
  at key =
      ap (λ b. cond b (Some (start_entry start key)) None) (list_any-append (gives entry.0 key) entries (entry ∷ []))
      ∙ given_at (list_any (gives entry.0 key) entries) (entry.0 == entry.0) (entry.1 == key) (key == entry.1) (Some (start_entry start key))
      (Some (start_entry start entry.1)) (eq-eqb entry.0 entry.0 refl) (eqb-swap entry.1 key)
      (λ e. ap (λ n. Some (start_entry start n)) (eqb-true key entry.1 e))

-- and no other worker any
pub opening_ledger-push_other : (start entries : List (ℕ × ℕ)) (entry : ℕ × ℕ) (i : ℕ) → (entry.0 ≡ i → ⊥) →
    opening_ledger (entries ++ entry ∷ []) start i ≡ opening_ledger entries start i
opening_ledger-push_other start entries entry i apart = λ t key. at key t where
  at : (key : ℕ) → opening_ledger (entries ++ entry ∷ []) start i key ≡ opening_ledger entries start i key
  at key =
      ap (λ b. cond b (Some (start_entry start key)) None)
      (list_any-append (gives i key) entries (entry ∷ []) ∙ elsewhere_at (list_any (gives i key) entries) (entry.0 == i) (entry.1 == key) (ne_eqb entry.0 i apart))

-- the workers have the ledgers that these entries give them, and nothing else
abbrev pub HaveLedgers : {A : Type 0} → List (Worker A) → List (ℕ × ℕ) → List (ℕ × ℕ) → Type 0
HaveLedgers workers start entries = (i : ℕ) → worker_at workers i ≡ idle (opening_ledger entries start i) (λ _. false) (λ _. false)

-- a worker with one key more
abbrev pub owning : machine.Worker → ℕ → Entry → machine.Worker
owning v key entry = record v { ledger = put v.ledger key (Some entry) }

-- the worker of one more entry gets its key
pub HaveLedgers-push : {A : Type 0} (workers : List (Worker A)) (start entries : List (ℕ × ℕ)) (entry : ℕ × ℕ) (old new : Worker A) → HaveLedgers workers start entries →
    entry.0 < length workers → old ≡ get_or workers entry.0 old → worker_in new ≡ owning (worker_in old) entry.1 (start_entry start entry.1) →
    HaveLedgers (set workers entry.0 new) start (entries ++ entry ∷ [])
HaveLedgers-push workers start entries entry old new have below stood owns i =
    ⊎_elim
    (λ same. subst (λ j. worker_at (set workers entry.0 new) j ≡ idle (opening_ledger (entries ++ entry ∷ []) start j) (λ _. false) (λ _. false)) same here)
    (λ apart. worker_at-set_other workers entry.0 new i apart ∙ have i
    ∙ ap (λ (ledger : Ledger). idle ledger (λ _. false) (λ _. false)) (sym (opening_ledger-push_other start entries entry i apart)))
    (cases_eq entry.0 i) where
      was : worker_in old ≡ idle (opening_ledger entries start entry.0) (λ _. false) (λ _. false)
      was = ap worker_in stood ∙ sym (worker_at-get_or workers entry.0 old below) ∙ have entry.0

      here : worker_at (set workers entry.0 new) entry.0 ≡ idle (opening_ledger (entries ++ entry ∷ []) start entry.0) (λ _. false) (λ _. false)
      here =
          worker_at-set_same workers entry.0 new below ∙ owns ∙ ap (λ (v : machine.Worker). owning v entry.1 (start_entry start entry.1)) was
          ∙ ap (λ (ledger : Ledger). idle ledger (λ _. false) (λ _. false)) (sym (opening_ledger-push_same start entries entry))

-- the same for the next entry of a list
pub HaveLedgers-more : {A : Type 0} (workers : List (Worker A)) (start owned : List (ℕ × ℕ)) (n : ℕ) (old new : Worker A) → n < length owned → HaveLedgers workers start (take n owned) →
    (get_or owned n (0, 0)).0 < length workers → old ≡ get_or workers (get_or owned n (0, 0)).0 old →
    worker_in new ≡ owning (worker_in old) (get_or owned n (0, 0)).1 (start_entry start (get_or owned n (0, 0)).1) →
    HaveLedgers (set workers (get_or owned n (0, 0)).0 new) start (take (n + 1) owned)
HaveLedgers-more workers start owned n old new within have below stood owns =
    subst (λ entries. HaveLedgers (set workers (get_or owned n (0, 0)).0 new) start entries) (sym (take_more owned n (0, 0) within))
    (HaveLedgers-push workers start (take n owned) (get_or owned n (0, 0)) old new have below stood owns)
