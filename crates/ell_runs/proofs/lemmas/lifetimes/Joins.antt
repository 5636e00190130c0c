use Rattle.std.proofs.Common.{◌≡◌, ◌≢◌, ◌⊎◌, ℕ, true, false, ◌||◌, List, [], ◌∷◌, ◌++◌, length, set, Option, Bool, Some, None, refl, sym, ap, ◌∙◌, subst, inl, inr, ⊎_elim, length-set, ◌≤◌, max, arith, true≢false}
use Rattle.ell_core.proofs.lemmas.stages.Advances.{stages_same}
use Rattle.std.specs.Prelude.{Contains}
use Rattle.std.proofs.lemmas.Option.{same_Some}
use mathlib.Core.Option.{some}
use lib.ListN.{get_elem?}
use Rattle.ell_runs.proofs.lemmas.words.Lists.{at_set, set_else}
use Rattle.ell_core.specs.declared.fact.Fact.{Fact}
use Rattle.ell_layout.specs.Words.{put}
use Rattle.ell_core.specs.state.Facts.{known_of, same_fact}
use Rattle.ell_core.specs.state.Machine.{Worker, nobody, worker_of, ledger_of, shared_of}
use Rattle.ell_core.specs.state.Handovers.{WorkerIsIdle, AreParted, Join}
use Rattle.ell_core.specs.soundness.Sound.{WorkerOwns}
use Rattle.ell_core.proofs.lemmas.following.Lawful.{joins_lawful}
use Rattle.ell_core.proofs.lemmas.outcomes.Decide.{some_not_none}
use Rattle.ell_runs.specs.declared.view.View.{View}
use Rattle.ell_runs.specs.Changes.{united_ledgers, later_reading, joined_view, spent_view}
use Rattle.std.specs.Option.{option_or}
use Rattle.ell_runs.specs.Naming.{IsNamed}
use Rattle.ell_runs.specs.States.{seat_worker, seated}
use Rattle.ell_runs.specs.Machines.{ViewHolds}
use Rattle.ell_runs.specs.Laws.{JoinsAreHandovers}
use Rattle.ell_runs.proofs.lemmas.seats.Seats.{inside, seated_put, mine_is, mine_sound}
use Rattle.ell_runs.proofs.lemmas.lifetimes.Idle.{rest_holds, rest_named}
use Rattle.ell_runs.proofs.lemmas.lifetimes.Unions.{ledger_united}
use Rattle.ell_core.specs.declared.view.Entry.{Entry}

-- what one of two lists of facts has, both together have
pub known_either : (a b : List Fact) (f : Fact) → known_of (a ++ b) f ≡ true → (known_of a f ≡ true) ⊎ (known_of b f ≡ true)
known_either [] b f h = inr h
known_either (x ∷ a) b f h = by (same_fact f x) (known_either a b f) h
  where
    by : (t : Bool) → (known_of (a ++ b) f ≡ true → (known_of a f ≡ true) ⊎ (known_of b f ≡ true)) → (t || known_of (a ++ b) f) ≡ true
        → ((t || known_of a f) ≡ true) ⊎ (known_of b f ≡ true)
    by true rest g = inl refl
    by false rest g = rest g

module _ (views : List View) (id other : ℕ) (v w : View) (here : get_elem? views id ≡ some v) (there : get_elem? views other ≡ some w)
    (apart : other ≢ id) (both : View) where
  -- how many they are after a join
  seats_joined : length (set (set views id both) other spent_view) ≡ length views
  seats_joined = length-set (set views id both) other spent_view ∙ length-set views id both

  -- the other seat, once the first has its new view
  still_there : get_elem? (set views id both) other ≡ some w
  still_there = set_else views id other both apart ∙ there

  -- the workers after a join
  workers_joined : (j : ℕ) → seat_worker (get_elem? (set (set views id both) other spent_view) j)
      ≡ put (put (λ i. seat_worker (get_elem? views i)) id (worker_of both.worker)) other nobody j
  workers_joined j =
      sym ((λ t. put (λ i. seated_put views id v here both i t) other nobody j)
      ∙ seated_put (set views id both) other w still_there spent_view j)

  -- the view in a seat after a join is that of both, or what is left of one, or was there
  pub of_join : (j : ℕ) (u : View) → get_elem? (set (set views id both) other spent_view) j ≡ some u
      → (both ≡ u) ⊎ ((spent_view ≡ u) ⊎ (get_elem? views j ≡ some u))
  of_join j u at = ⊎_elim
      (λ (t : (j ≡ other) × (spent_view ≡ u)). inr (inl t.1))
      (λ (t : (j ≢ other) × (get_elem? (set views id both) j ≡ some u)). ⊎_elim
      (λ (q : (j ≡ id) × (both ≡ u)). inl q.1)
      (λ (q : (j ≢ id) × (get_elem? views j ≡ some u)). inr (inr q.1))
      (at_set views id j both u t.1))
      (at_set (set views id both) other j spent_view u at)

  -- so what is so of both, of what is left, and of all others, is so of it
  pub each_joined : (P : View → Type 0) → P both → P spent_view → ((j : ℕ) (u : View) → get_elem? views j ≡ some u → P u)
      → (j : ℕ) (u : View) → get_elem? (set (set views id both) other spent_view) j ≡ some u → P u
  each_joined P of_both of_spent others j u at = elim (of_join j u at) [
    | inl b ↦ subst P b of_both
    | inr o ↦ elim o [ inl e ↦ subst P e of_spent | inr was ↦ others j u was ]
  ]

none_of : (o : Option Entry) → (o ≢ None → ⊥) → o ≡ None
none_of None h = refl
none_of (Some t) h = absurd (h (some_not_none refl))

-- two ledgers of which no key is in both are the parts of the one that they make
united_parts : (l m : List (ℕ × Entry)) → ((k : ℕ) → ledger_of l k ≢ None → ledger_of m k ≢ None → ⊥)
    → AreParted (ledger_of (united_ledgers l m)) (ledger_of l) (ledger_of m)
united_parts l m apart k = elim (ledger_united l m k) [
  | inl a ↦ inl (sym a.0, none_of (ledger_of m k) (apart k a.1))
  | inr b ↦ inr (b.0, sym b.1)
]

-- the later of two readings is no more than both
later_most : (most : ℕ) (a b : Option ℕ) → ((n : ℕ) → a ≡ Some n → n ≤ most) → ((n : ℕ) → b ≡ Some n → n ≤ most) → (n : ℕ) → later_reading a b ≡ Some n → n ≤ most
later_most most None b h g n e = g n e
later_most most (Some x) None h g n e = h n e
later_most most (Some x) (Some y) h g n e =
    let is = same_Some (max x y) n e in let low = h x refl in let low' = g y refl in omega arith

-- a test or none, and a test twice
or-false : (b : Bool) → (b || false) ≡ b
or-false true = refl
or-false false = refl

or-self : (b : Bool) → (b || b) ≡ b
or-self true = refl
or-self false = refl

-- what is shared for either of two passes is so for both together
shared_both : (keys : List ℕ) (a b : Option (List ℕ)) → ((l : List ℕ) → a ≡ Some l → l ≡ keys) → ((l : List ℕ) → b ≡ Some l → l ≡ keys) → (k : ℕ)
    → shared_of (option_or a b) k ≡ (shared_of a k || shared_of b k)
shared_both keys None b h g k = refl
shared_both keys (Some l) None h g k = sym (or-false (shared_of (Some l) k))
shared_both keys (Some l) (Some m) h g k =
    sym (ap (λ o. shared_of (Some l) k || shared_of (Some o) k) (g m refl ∙ sym (h l refl)) ∙ or-self (shared_of (Some l) k))

-- the first of two lists is that of one of them
first_list : (keys l : List ℕ) (a b : Option (List ℕ)) → (a ≡ Some l → l ≡ keys) → (b ≡ Some l → l ≡ keys) → option_or a b ≡ Some l → l ≡ keys
first_list keys l None b h g is = g is
first_list keys l (Some m) b h g is = h is

-- a join is one of the machine
pub joins_are_handovers : JoinsAreHandovers
joins_are_handovers plan s r id other v w here there apart free other_free =
    let m = seated r.words s.views plan.last_card in
    let both = joined_view v w in
    let views = set (set s.views id both) other spent_view in
    let same = mine_is plan s r id v here in
    let same' = mine_is plan s r other w there in
    let h = r.views id v here in
    let g = r.views other w there in
    let one : (k : ℕ) → ledger_of v.worker.ledger k ≢ None → ledger_of w.worker.ledger k ≢ None → ⊥ = λ k ours theirs.
    apart (r.invariant.workers.one_owner id other k (subst (λ (u : Worker). WorkerOwns u k) (sym same) ours) (subst (λ (u : Worker). WorkerOwns u k) (sym same') theirs)) in
    let parts = united_parts v.worker.ledger w.worker.ledger one in
    let turned : other ≢ id = λ e. apart (sym e) in
    let join : Join m id other (seated r.words views plan.last_card) = record {
      left_there = inside s.views id v here;
      right_there = inside s.views other w there;
      apart = apart;
      left_free = subst WorkerIsIdle (sym same) ((mine_sound plan s r id v here).free free);
      right_free = subst WorkerIsIdle (sym same') ((mine_sound plan s r other w there).free other_free);
      both = worker_of both.worker;
      both_free = refl;
      shares = λ k. shared_both plan.keys v.worker.shared w.worker.shared (λ l is. r.listed id v l here is) (λ l is. r.listed other w l there is) k
          ∙ (λ t. (ap (λ (u : Worker). u.shared k) (sym same) t) || (ap (λ (u : Worker). u.shared k) (sym same') t));
      ledgers = subst (λ (u : Worker). AreParted (ledger_of both.worker.ledger) u.ledger (m.worker other).ledger) (sym same)
          (subst (λ (u : Worker). AreParted (ledger_of both.worker.ledger) (ledger_of v.worker.ledger) u.ledger) (sym same') parts);
      knows = λ f k. elim (known_either v.worker.knows w.worker.knows f k) [
        | inl a ↦ inl (ap (λ (u : Worker). u.knows f) same ∙ a)
        | inr b ↦ inr (ap (λ (u : Worker). u.knows f) same' ∙ b)
      ];
      gives = λ t. record {
        words = r.words;
        worker = λ j. workers_joined s.views id other v w here there turned both j t;
        count = seats_joined s.views id other v w here there turned both t;
        last_card = plan.last_card;
      };
    } in record {
      later = stages_same r.stages;
      stages = refl;
      kept = record {
        words = r.words;
        stages = r.stages;
        invariant = joins_lawful m r.stages id other (seated r.words views plan.last_card) r.invariant join;
        limit = r.limit;
        size = r.size;
        next = r.next;
        flat = r.flat;
        shape = r.shape;
        settled = r.settled;
        views = each_joined s.views id other v w here there turned both (ViewHolds s.words r.words r.stages)
            (rest_holds s.words r.words r.stages r.invariant.words both refl refl refl refl
            (later_most r.words.next v.next w.next h.read g.read) (let a = h.least in let b = g.least in omega arith) (λ f k. absurd (true≢false (sym k))))
            (rest_holds s.words r.words r.stages r.invariant.words spent_view refl refl refl refl (λ n at. absurd (some_not_none at refl)) (omega arith) (λ f k. absurd (true≢false (sym k))))
            r.views;
        owned = λ j k. each_joined s.views id other v w here there turned both (λ u. WorkerOwns (worker_of u.worker) k → Contains plan.keys k)
            (λ has. elim (ledger_united v.worker.ledger w.worker.ledger k) [
              | inl a ↦ r.owned id k v here a.1
              | inr b ↦ r.owned other k w there (λ none. has (b.1 ∙ none))
            ])
            (λ has. absurd (has refl))
            (λ i u at has. r.owned i k u at has) j;
        listed = λ j u l at. each_joined s.views id other v w here there turned both (λ u. u.worker.shared ≡ Some l → l ≡ plan.keys)
            (first_list plan.keys l v.worker.shared w.worker.shared (λ is. r.listed id v l here is) (λ is. r.listed other w l there is))
            (λ is. absurd (some_not_none is refl)) (λ i u at is. r.listed i u l at is) j u at;
      };
      join = join;
    }

-- the pass of both names what they named
pub joined_named : (cards : ℕ) (v w : View) → IsNamed cards v → IsNamed cards w → IsNamed cards (joined_view v w)
joined_named cards v w h g = rest_named cards (joined_view v w) refl
    (λ f k. elim (known_either v.worker.knows w.worker.knows f k) [ inl a ↦ h.facts f a | inr b ↦ g.facts f b ])
    refl refl (let a = h.next in let b = g.next in omega arith)
