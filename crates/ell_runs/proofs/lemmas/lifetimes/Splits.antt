use Rattle.std.proofs.Common.{◌⊎◌, inl, inr, ◌≡◌, ◌≢◌, ℕ, zero, suc, ◌+◌, List, [], ◌∷◌, ◌++◌, length, set, refl, sym, ap, ◌∙◌, subst, ⊎_elim, arith, length-set, Some}
use Rattle.ell_core.proofs.lemmas.stages.Advances.{stages_same}
use Rattle.std.specs.Prelude.{Contains}
use Rattle.std.proofs.lemmas.List.{length-append}
use Rattle.std.proofs.lemmas.Bool.{cases_eq}
use mathlib.Core.Option.{some}
use lib.ListN.{get_elem?}
use Rattle.ell_runs.proofs.lemmas.words.Lists.{at_set, at_snoc, at_last}
use Rattle.ell_layout.specs.Words.{put}
use Rattle.ell_core.specs.state.Machine.{Worker, worker_of, ledger_of}
use Rattle.ell_core.specs.state.Handovers.{WorkerIsIdle, AreParted, Split}
use Rattle.ell_core.specs.soundness.Sound.{WorkerOwns}
use Rattle.ell_core.proofs.lemmas.following.Lawful.{splits_lawful}
use Rattle.ell_core.proofs.lemmas.outcomes.Decide.{some_not_none}
use Rattle.ell_layout.proofs.lemmas.Writes.{put_same, put_other}
use Rattle.ell_runs.specs.declared.view.View.{View}
use Rattle.ell_runs.specs.Changes.{left_view, right_view}
use Rattle.ell_runs.specs.States.{seat_worker, seated}
use Rattle.ell_runs.specs.Machines.{ViewHolds}
use Rattle.ell_runs.specs.Laws.{SplitsAreHandovers}
use Rattle.ell_runs.proofs.lemmas.seats.Seats.{inside, seated_put, mine_is, mine_sound}
use Rattle.ell_runs.proofs.lemmas.lifetimes.Idle.{rest_holds}
use Rattle.ell_runs.proofs.lemmas.lifetimes.Parts.{ledger_parts, part_owns}

-- a place before the last one
pub before_last : {A : Type 0} (l : List A) (a : A) (n : ℕ) → n ≢ length l → get_elem? (l ++ a ∷ []) n ≡ get_elem? l n
before_last [] a zero h = absurd (h refl)
before_last [] a (suc n) h = refl
before_last (x ∷ xs) a zero h = refl
before_last (x ∷ xs) a (suc n) h = before_last xs a n (λ e. h (omega arith))

module _ (views : List View) (id : ℕ) (v : View) (here : get_elem? views id ≡ some v) (left right : View) where
  -- how many they are after a split
  seats_split : length (set views id left ++ right ∷ []) ≡ length views + 1
  seats_split = length-append (set views id left) (right ∷ []) ∙ ap (λ n. n + 1) (length-set views id left)

  -- the workers after a split
  workers_split : (j : ℕ) → seat_worker (get_elem? (set views id left ++ right ∷ []) j)
      ≡ put (put (λ i. seat_worker (get_elem? views i)) id (worker_of left.worker)) (length views) (worker_of right.worker) j
  workers_split j = let workers = put (λ i. seat_worker (get_elem? views i)) id (worker_of left.worker) in elim (cases_eq j (length views)) [
    | inl e ↦ ap seat_worker (at_last (set views id left) right j (length-set views id left ∙ sym e))
        ∙ sym (ap (put workers (length views) (worker_of right.worker)) e ∙ put_same workers (length views) (worker_of right.worker))
    | inr n ↦ ap seat_worker (before_last (set views id left) right j (λ e. n (e ∙ length-set views id left)))
        ∙ sym (put_other workers (length views) (worker_of right.worker) j n ∙ seated_put views id v here left j)
  ]

  -- the view in a seat after a split is one of the parts, or was there
  pub of_split : (j : ℕ) (u : View) → get_elem? (set views id left ++ right ∷ []) j ≡ some u
      → (left ≡ u) ⊎ ((right ≡ u) ⊎ (get_elem? views j ≡ some u))
  of_split j u at = ⊎_elim
      (λ (a : get_elem? (set views id left) j ≡ some u). ⊎_elim
      (λ (t : (j ≡ id) × (left ≡ u)). inl t.1)
      (λ (t : (j ≢ id) × (get_elem? views j ≡ some u)). inr (inr t.1))
      (at_set views id j left u a))
      (λ (p : right ≡ u). inr (inl p))
      (at_snoc (set views id left) right u j at)

  -- so what is so of both parts, and of all others, is so of it
  pub each_split : (P : View → Type 0) → P left → P right → ((j : ℕ) (u : View) → get_elem? views j ≡ some u → P u)
      → (j : ℕ) (u : View) → get_elem? (set views id left ++ right ∷ []) j ≡ some u → P u
  each_split P of_left of_right others j u at = elim (of_split j u at) [
    | inl l ↦ subst P l of_left
    | inr o ↦ elim o [ inl r ↦ subst P r of_right | inr was ↦ others j u was ]
  ]

-- a split is one of the machine
pub splits_are_handovers : SplitsAreHandovers
splits_are_handovers plan s r id v chosen here free =
    let m = seated r.words s.views plan.last_card in
    let left = left_view chosen v in
    let right = right_view chosen v in
    let views = set s.views id left ++ right ∷ [] in
    let same = mine_is plan s r id v here in
    let h = r.views id v here in
    let parts = ledger_parts chosen v.worker.ledger in
    let owns = part_owns (ledger_of v.worker.ledger) (ledger_of left.worker.ledger) (ledger_of right.worker.ledger) parts in
    let split : Split m id (seated r.words views plan.last_card) = record {
      there = inside s.views id v here;
      free = subst WorkerIsIdle (sym same) ((mine_sound plan s r id v here).free free);
      left = worker_of left.worker;
      right = worker_of right.worker;
      left_free = refl;
      right_free = refl;
      left_shares = ap (λ (u : Worker). u.shared) (sym same);
      right_shares = ap (λ (u : Worker). u.shared) (sym same);
      ledgers = subst (λ (u : Worker). AreParted u.ledger (ledger_of left.worker.ledger) (ledger_of right.worker.ledger)) (sym same) parts;
      left_knows = λ f k. ap (λ (u : Worker). u.knows f) same ∙ k;
      right_knows = λ f k. ap (λ (u : Worker). u.knows f) same ∙ k;
      gives = λ t. record {
        words = r.words;
        worker = λ j. workers_split s.views id v here left right j t;
        count = seats_split s.views id v here left right t;
        last_card = plan.last_card;
      };
    } in record {
      later = stages_same r.stages;
      stages = refl;
      kept = record {
        words = r.words;
        stages = r.stages;
        invariant = splits_lawful m r.stages id (seated r.words views plan.last_card) r.invariant split;
        limit = r.limit;
        size = r.size;
        next = r.next;
        flat = r.flat;
        shape = r.shape;
        settled = r.settled;
        views = each_split s.views id v here left right (ViewHolds s.words r.words r.stages)
            (rest_holds s.words r.words r.stages r.invariant.words left refl refl refl refl (λ n at. absurd (some_not_none at refl)) h.least h.knew)
            (rest_holds s.words r.words r.stages r.invariant.words right refl refl refl refl (λ n at. absurd (some_not_none at refl)) h.least h.knew)
            r.views;
        owned = λ j k. each_split s.views id v here left right (λ u. WorkerOwns (worker_of u.worker) k → Contains plan.keys k)
            (λ has. r.owned id k v here ((owns k).0 has))
            (λ has. r.owned id k v here ((owns k).1 has))
            (λ i u at has. r.owned i k u at has) j;
        listed = λ j u l at. each_split s.views id v here left right (λ u. u.worker.shared ≡ Some l → l ≡ plan.keys)
            (λ is. r.listed id v l here is) (λ is. r.listed id v l here is) (λ i u at is. r.listed i u l at is) j u at;
      };
      split = split;
    }
