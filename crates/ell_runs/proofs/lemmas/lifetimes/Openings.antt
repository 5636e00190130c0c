use Rattle.std.proofs.Common.{◌≡◌, ℕ, zero, suc, Bool, true, false, ◌≤◌, ◌&&◌, not, nat_le, Some, List, [], ◌∷◌, length, ◌+◌, refl, sym, ap, ◌∙◌, subst, arith, All, ◌-◌, le-leb, ◌⊎◌, inl, inr, get_or, if◌then◌else◌}
use Rattle.std.specs.Prelude.{Contains}
use mathlib.Core.Option.{some, some-injective, some-ne-none}
use lib.ListN.{get_elem?}
use Rattle.ell_layout.specs.Words.{Words, table_word}
use Rattle.ell_core.specs.state.Opening.{last_card, first_alone, keys_at_start, opening_of_one}
use Rattle.ell_layout.specs.Start.{words_at_start}
use Rattle.ell_core.specs.state.Machine.{idle, worker_of, ledger_of, shared_of}
use Rattle.ell_core.specs.soundness.Sound.{WorkerOwns}
use Rattle.ell_core.specs.history.Invariant.{Invariant}
use Rattle.ell_core.specs.statements.RunLaws.{IsOpening}
use Rattle.ell_layout.proofs.lemmas.Listed.{words_are_listed, listed_next, listed_flat}
use Rattle.ell_core.proofs.lemmas.outcomes.Decide.{some_not_none, same_value}
use Rattle.ell_core.specs.history.Stages.{is_claimed, is_start}
use Rattle.ell_core.proofs.lemmas.opening.Invariant.{each_stage, start_stages}
use Rattle.ell_core.proofs.lemmas.opening.OneOwner.{one_worker_opens, one_worker_has}
use Rattle.ell_core.proofs.lemmas.runs.Wins.{opening_wins}
use Rattle.ell_runs.specs.declared.view.View.{View}
use Rattle.std.specs.Map.{keys_of as pair_keys}
use Rattle.ell_runs.specs.Changes.{ledger_keys, first_of, ownable_if}
use Rattle.ell_runs.specs.States.{seat_worker, seated}
use Rattle.ell_runs.specs.Machines.{ViewHolds}
use Rattle.ell_runs.specs.Starts.{MayStart, StartWords, IsSharedIn}
use Rattle.ell_runs.specs.RunLaws.{StartIsKept}
use Rattle.ell_runs.proofs.lemmas.words.Keys.{owned_among, among_contains}
use Rattle.ell_runs.proofs.lemmas.lifetimes.Idle.{rest_holds}
use Rattle.std.proofs.lemmas.Bool.{false≢true, leb-true}
use Rattle.ell_ops.specs.KeySet.{set_of}
use Rattle.ell_ops.specs.Meaning.{greatest_key}
use Rattle.ell_runs.specs.Plans.{TablePlan}
use Rattle.std.proofs.lemmas.List.Elements.{All-contains}

-- from where on the tree is flat in the words at the start, and their claim word
start_shape : (flat : Bool) (start : List (ℕ × ℕ)) → (words_at_start flat start).flat_from ≡ (if flat then length start + 1 else 0)
start_shape true start = refl
start_shape false start = refl

pub start_next : (flat : Bool) (start : List (ℕ × ℕ)) → (words_at_start flat start).next ≡ length start + 1
start_next true start = refl
start_next false start = refl

-- the first pass as a worker, and nobody else
alone : (plan : TablePlan) (i : ℕ)
    → seat_worker (get_elem? (first_of plan ∷ []) i)
    ≡ first_alone (idle (ledger_of (keys_at_start plan.keys plan.start)) (shared_of (ownable_if plan.shared plan.keys)) (λ _. false)) i
alone plan zero = refl
alone plan (suc i) = refl

-- the machine of the first pass is the opening of one worker
one_opens : (plan : TablePlan) (cards : ℕ) → last_card plan.start cards ≡ plan.last_card
    → opening_of_one plan.keys plan.start cards (shared_of (ownable_if plan.shared plan.keys)) plan.flat
    ≡ seated (words_at_start plan.flat plan.start) (first_of plan ∷ []) plan.last_card
one_opens plan cards all = λ t. record { words = words_at_start plan.flat plan.start; worker = λ i. sym (alone plan i) t; count = 1; last_card = all t }

-- the keys of the first pass
pub keys_start : (keys : List ℕ) (start : List (ℕ × ℕ)) → ledger_keys (keys_at_start keys start) ≡ keys
keys_start [] start = refl
keys_start (k ∷ ks) start = ap (λ l. k ∷ l) (keys_start ks start)

-- what is so of one view is so of the view in each seat
pub each_first : (first : View) (P : View → Type 0) → P first → (j : ℕ) (v : View) → get_elem? (first ∷ []) j ≡ some v → P v
each_first first P h zero v e = subst P (some-injective _ _ e) h
each_first first P h (suc j) v e = absurd (some-ne-none v (sym e))

-- the list of a first pass, if any, is of the keys
list_is : (shared : Bool) (keys l : List ℕ) → ownable_if shared keys ≡ Some l → l ≡ keys
list_is true keys l e = sym (same_value refl e)
list_is false keys l e = absurd (some_not_none e refl)

-- a shared key is a real one, and not among the keys
pub shared_apart : (shared : Bool) (keys : List ℕ) (k : ℕ) → shared_of (ownable_if shared keys) k ≡ true → (k ≤ greatest_key) × (set_of keys k ≡ false)
shared_apart false keys k e = absurd (false≢true e)
shared_apart true keys k e = by (nat_le k greatest_key) (set_of keys k) refl refl e
  where
    by : (b c : Bool) → nat_le k greatest_key ≡ b → set_of keys k ≡ c → (b && not c) ≡ true → (k ≤ greatest_key) × (set_of keys k ≡ false)
    by true false low out h = (leb-true k greatest_key low, out)
    by true true low out h = absurd (false≢true h)
    by false c low out h = absurd (false≢true h)

-- the first pass takes a shared key for one
pub shared_there : (plan : TablePlan) (k : ℕ) → IsSharedIn plan k → shared_of (ownable_if plan.shared plan.keys) k ≡ true
shared_there plan k is =
    ap (λ b. shared_of (ownable_if b plan.keys) k) is.mode ∙ ap (λ b. b && not (set_of plan.keys k)) (le-leb k greatest_key is.real) ∙ ap not is.other

-- each start key is the first pass's or shared
start_given : (plan : TablePlan) → MayStart plan → All (λ k. (set_of plan.keys k ≡ true) ⊎ (shared_of (ownable_if plan.shared plan.keys) k ≡ true)) (pair_keys plan.start)
start_given plan may i d below = elim (may.given i d below) [
  | inl own ↦ inl own
  | inr shared ↦ inr (shared_there plan (get_or (pair_keys plan.start) i d) shared)
]

-- the start keys are real ones
pub start_real : (plan : TablePlan) → MayStart plan → All (λ k. k ≤ greatest_key) (pair_keys plan.start)
start_real plan may i d below = elim (may.given i d below) [
  | inl own ↦ All-contains (λ k. k ≤ greatest_key) plan.keys (get_or (pair_keys plan.start) i d) may.real
      (among_contains plan.keys (get_or (pair_keys plan.start) i d) own)
  | inr shared ↦ shared.real
]

-- an opening table with its first pass has a machine, whose cards have won nothing
pub opening_is_kept : (plan : TablePlan) (words : List ℕ) → MayStart plan → StartWords plan words → StartIsKept plan ((record { words = words; views = first_of plan ∷ [] }))
opening_is_kept plan words may at =
    let cards = plan.last_card - length plan.start in
    let room = may.room in
    let all : last_card plan.start cards ≡ plan.last_card = omega arith in
    let w = words_at_start plan.flat plan.start in
    let first = first_of plan in
    let stages = start_stages (length plan.start + 1) in
    let shared = shared_of (ownable_if plan.shared plan.keys) in
    let one = one_worker_opens plan.keys plan.start cards shared plan.flat may.ascending may.real may.start_ascending (start_given plan may) (shared_apart plan.shared plan.keys) in
    let has = one_worker_has plan.keys plan.start cards shared plan.flat may.ascending may.real may.start_ascending (start_given plan may) (shared_apart plan.shared plan.keys) in
    let invariant = subst (λ m. Invariant m stages) (one_opens plan cards all) has in
    record {
      kept = record {
        words = w;
        stages = stages;
        invariant = invariant;
        limit = may.limit;
        size = at.size;
        next = sym (listed_next words) ∙ ap (λ (v : Words). v.next) at.are;
        flat = sym (listed_flat words) ∙ ap (λ (v : Words). v.flat_from) at.are;
        shape = start_shape plan.flat plan.start;
        settled = λ c f calm. sym (words_are_listed words c f) ∙ ap (λ (v : Words). table_word v c f) at.are;
        views = each_first first (ViewHolds words w stages)
            (rest_holds words w stages invariant.words first refl refl refl refl (λ n at. absurd (some_not_none at refl)) (omega arith) (λ f k. k));
        owned = λ j k. each_first first (λ v. WorkerOwns (worker_of v.worker) k → Contains plan.keys k)
            (λ owns. subst (λ (ks : List ℕ). Contains ks k) (keys_start plan.keys plan.start)
            (among_contains (ledger_keys (keys_at_start plan.keys plan.start)) k (owned_among (keys_at_start plan.keys plan.start) k owns))) j;
        listed = λ j v l. each_first first (λ v. v.worker.shared ≡ Some l → l ≡ plan.keys) (list_is plan.shared plan.keys l) j v;
      };
      opening = subst IsOpening (one_opens plan cards all) one.opens;
      unwon = opening_wins (length plan.start + 1);
      started = λ c. each_stage (λ stage. is_claimed stage ≡ true → is_start stage ≡ true) (length plan.start + 1) c (λ is. refl) (λ is. absurd (false≢true is));
    }
