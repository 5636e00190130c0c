use Rattle.std.proofs.Common.{◌≡◌, ◌≢◌, ℕ, ◌+◌, ◌≤◌, ◌==◌, if◌then◌else◌, ◌||◌, Bool, true, false, ◌⊎◌, inl, inr, Option, Some, None, refl, sym, ap, ◌∙◌, subst, arith}
use Rattle.std.proofs.lemmas.Bool.{false≢true, cases_eq, or_cases}
use Rattle.std.proofs.lemmas.Bool.Decides.{nat_tests}
use Rattle.ell_layout.specs.Words.{put}
use Rattle.ell_core.specs.state.Machine.{Worker, Machine, nobody}
use Rattle.ell_core.specs.state.Handovers.{WorkerIsIdle, KnowsNoMore, Split, Join}
use Rattle.ell_core.specs.soundness.Sound.{WorkerOwns}
use Rattle.ell_core.specs.history.Stages.{Stages}
use Rattle.ell_core.specs.history.Invariant.{Invariant}
use Rattle.ell_layout.proofs.lemmas.Writes.{put_same, put_other}
use Rattle.ell_core.proofs.lemmas.keeping.Reseats.{KnowsOnlyAllowed, Comes, Reseats, idle_staged, reseated_keeps}
use Rattle.ell_core.specs.declared.view.Entry.{Entry}

-- what holds of two new values at their places, and of the old ones elsewhere, holds everywhere
put_twice : {A : Type 0} (P : ℕ → A → Type 0) (f : ℕ → A) (a b : ℕ) (x y : A) → P b y → P a x
    → ((n : ℕ) → n ≢ a → n ≢ b → P n (f n)) → (n : ℕ) → P n (put (put f a x) b y n)
put_twice P f a b x y at_b at_a elsewhere n = elim (cases_eq n b) [
  | inl e ↦ subst (λ k. P k (put (put f a x) b y k)) (sym e) (subst (P b) (sym (put_same (put f a x) b y)) at_b)
  | inr other ↦ subst (P n) (sym (put_other (put f a x) b y n other)) (elim (cases_eq n a) [
    | inl e ↦ subst (λ k. P k (put f a x k)) (sym e) (subst (P a) (sym (put_same f a x)) at_a)
    | inr apart ↦ subst (P n) (sym (put_other f a x n apart)) (elsewhere n apart other)
  ])
]

-- the first of two new values, where their places differ
pub put_first : {A : Type 0} (f : ℕ → A) (a b : ℕ) (x y : A) → a ≢ b → put (put f a x) b y a ≡ x
put_first f a b x y apart = put_other (put f a x) b y a apart ∙ put_same f a x

-- an old value at neither place
put_neither : {A : Type 0} (f : ℕ → A) (a b : ℕ) (x y : A) (n : ℕ) → n ≢ a → n ≢ b → put (put f a x) b y n ≡ f n
put_neither f a b x y n first second = put_other (put f a x) b y n second ∙ put_other f a x n first

-- nobody has nothing in hand
nobody_idle : (v : Worker) → v ≡ nobody → WorkerIsIdle v
nobody_idle v h = subst WorkerIsIdle (sym h) refl

-- neither of two is true where both in one are not
or_false : (a b : Bool) → (a || b) ≡ false → (a ≡ false) × (b ≡ false)
or_false true b e = absurd (false≢true (sym e))
or_false false b e = (refl, e)

-- the seat that an old one lands at: one seat goes to another
abbrev moved : ℕ → ℕ → ℕ → ℕ
moved from to old = if old == from then to else old

moved_same : (from to : ℕ) → moved from to from ≡ to
moved_same from to = grind (arith, nat_tests)

moved_other : (from to old : ℕ) → old ≢ from → moved from to old ≡ old
moved_other from to old h = grind (arith, nat_tests)

-- the seat of a key of the split worker: that of the left part if it has the key
abbrev seat_of : ℕ → ℕ → Option Entry → ℕ
seat_of i end None = end
seat_of i end (Some entry) = i

seat_some : (i end : ℕ) (found : Option Entry) → found ≢ None → seat_of i end found ≡ i
seat_some i end None h = absurd (h refl)
seat_some i end (Some entry) h = refl

module _ (m after : Machine) (stage : Stages) (i : ℕ) (s : Split m i after) (before : Invariant m stage) where
  -- where an old seat's key is after the split
  split_lands : ℕ → ℕ → ℕ
  split_lands old k = moved i (seat_of i m.count (s.left.ledger k)) old

  -- the workers after the split
  abbrev split_workers : ℕ → Worker
  split_workers = put (put m.worker i s.left) m.count s.right

  -- a part's key comes from the split worker
  part_comes : (part : Worker) (n k : ℕ) → WorkerIsIdle part → WorkerOwns part k → part.ledger k ≡ (m.worker i).ledger k
      → seat_of i m.count (s.left.ledger k) ≡ n → Comes m stage split_lands part n k
  unfolding split_lands
  part_comes part n k free owns same seat = record {
    old = i;
    owned = λ e. owns (same ∙ e);
    same = idle_staged stage part k free ∙ (same ∙ sym (idle_staged stage (m.worker i) k s.free));
    here = moved_same i (seat_of i m.count (s.left.ledger k)) ∙ seat;
  }

  left_comes : (k : ℕ) → WorkerOwns s.left k → Comes m stage split_lands s.left i k
  left_comes k owns = elim (s.ledgers k) [
    | inl p ↦ part_comes s.left i k s.left_free owns p.0 (seat_some i m.count (s.left.ledger k) owns)
    | inr p ↦ absurd (owns p.0)
  ]

  right_comes : (k : ℕ) → WorkerOwns s.right k → Comes m stage split_lands s.right m.count k
  right_comes k owns = elim (s.ledgers k) [
    | inl p ↦ absurd (owns p.1)
    | inr p ↦ part_comes s.right m.count k s.right_free owns p.1 (ap (seat_of i m.count) p.0)
  ]

  other_comes : (n k : ℕ) → n ≢ i → WorkerOwns (m.worker n) k → Comes m stage split_lands (m.worker n) n k
  unfolding split_lands
  other_comes n k apart owns = record {
    old = n;
    owned = owns;
    same = refl;
    here = moved_other i (seat_of i m.count (s.left.ledger k)) n apart;
  }

  -- a key of the split worker goes to one of the parts
  split_goes : (k : ℕ) → WorkerOwns (m.worker i) k → WorkerOwns (split_workers (split_lands i k)) k
  unfolding split_lands
  split_goes k owns = elim (s.ledgers k) [
    | inl p ↦ (let to = moved_same i _ ∙ seat_some i m.count (s.left.ledger k) (λ e. owns (sym p.0 ∙ e)) in
        subst (λ v. WorkerOwns v k) (sym (ap split_workers to ∙ put_first m.worker i m.count s.left s.right (λ e. (let t = s.there in omega arith))))
        (λ e. owns (sym p.0 ∙ e)))
    | inr p ↦ (let to = moved_same i _ ∙ ap (seat_of i m.count) p.0 in
        subst (λ v. WorkerOwns v k) (sym (ap split_workers to ∙ put_same (put m.worker i s.left) m.count s.right)) (λ e. owns (sym p.1 ∙ e)))
  ]

  -- every other key stays; the seat at the end was empty
  split_stays : (old k : ℕ) → old ≢ i → WorkerOwns (m.worker old) k → WorkerOwns (split_workers (split_lands old k)) k
  unfolding split_lands
  split_stays old k apart owns = elim (cases_eq old m.count) [
    | inl e ↦ absurd (owns (ap (λ v. v.ledger k) (before.workers.strangers old (omega arith))))
    | inr other ↦ subst (λ v. WorkerOwns v k)
        (sym (ap split_workers (moved_other i _ old apart) ∙ put_neither m.worker i m.count s.left s.right old apart other)) owns
  ]

  -- what a part knows is allowed
  part_knows : (part : Worker) → KnowsNoMore part (m.worker i) → KnowsOnlyAllowed stage part
  part_knows part less fact h = (before.workers.each i).facts fact (less fact h)

  -- the split is new workers in the seats
  split_reseats : Reseats m stage split_workers (m.count + 1)
  split_reseats = record {
    lands = split_lands;
    comes = put_twice (λ n v. (k : ℕ) → WorkerOwns v k → Comes m stage split_lands v n k) m.worker i m.count s.left s.right
        right_comes left_comes (λ n apart other k. other_comes n k apart);
    goes = λ old k owns. elim (cases_eq old i) [
      | inl e ↦ subst (λ n. WorkerOwns (split_workers (split_lands n k)) k) (sym e) (split_goes k (subst (λ n. WorkerOwns (m.worker n) k) e owns))
      | inr apart ↦ split_stays old k apart owns
    ];
    kept = put_twice (λ n v. (v ≡ m.worker n) ⊎ WorkerIsIdle (m.worker n)) m.worker i m.count s.left s.right
        (inr (nobody_idle (m.worker m.count) (before.workers.strangers m.count (omega arith)))) (inr s.free) (λ n apart other. inl refl);
    each = put_twice (λ n v. (v ≡ m.worker n) ⊎ (WorkerIsIdle v × KnowsOnlyAllowed stage v)) m.worker i m.count s.left s.right
        (inr (s.right_free, part_knows s.right s.right_knows)) (inr (s.left_free, part_knows s.left s.left_knows)) (λ n apart other. inl refl);
    strangers = put_twice (λ n v. m.count + 1 ≤ n → v ≡ nobody) m.worker i m.count s.left s.right
        (λ past. absurd (omega arith)) (λ past. absurd (let t = s.there in omega arith))
        (λ n apart other past. before.workers.strangers n (omega arith));
    shares = put_twice (λ n v. (k : ℕ) → v.shared k ≡ true → (old : ℕ) × ((m.worker old).shared k ≡ true)) m.worker i m.count s.left s.right
        (λ k e. (i, ap (λ f. f k) (sym s.right_shares) ∙ e)) (λ k e. (i, ap (λ f. f k) (sym s.left_shares) ∙ e)) (λ n apart other k e. (n, e));
    shared = λ k old none. elim (cases_eq old i) [
      | inl e ↦ ap (λ n. (m.worker n).shared k) e ∙ (ap (λ f. f k) (sym s.left_shares)
          ∙ (ap (λ v. v.shared k) (sym (put_first m.worker i m.count s.left s.right (λ e. (let t = s.there in omega arith)))) ∙ none i))
      | inr apart ↦ elim (cases_eq old m.count) [
        | inl e ↦ ap (λ v. v.shared k) (before.workers.strangers old (omega arith))
        | inr other ↦ ap (λ v. v.shared k) (sym (put_neither m.worker i m.count s.left s.right old apart other)) ∙ none old
      ]
    ];
  }

-- a split keeps the invariant
pub split_keeps : (m after : Machine) (stage : Stages) (i : ℕ) → Split m i after → Invariant m stage → Invariant after stage
split_keeps m after stage i s before =
    subst (λ z. Invariant z stage) (sym s.gives) (reseated_keeps m stage (split_workers m after stage i s before) (m.count + 1)
    (split_reseats m after stage i s before) before)

module _ (m after : Machine) (stage : Stages) (i j : ℕ) (s : Join m i j after) (before : Invariant m stage) where
  -- the workers after the join
  abbrev join_workers : ℕ → Worker
  join_workers = put (put m.worker i s.both) j nobody

  -- a key of the joined worker comes from a part
  part_came : (old k : ℕ) → WorkerIsIdle (m.worker old) → WorkerOwns s.both k → (m.worker old).ledger k ≡ s.both.ledger k → moved j i old ≡ i
      → Comes m stage (λ n k. moved j i n) s.both i k
  part_came old k free owns same here = record {
    old = old;
    owned = λ e. owns (sym same ∙ e);
    same = idle_staged stage s.both k s.both_free ∙ (sym same ∙ sym (idle_staged stage (m.worker old) k free));
    here = here;
  }

  both_came : (k : ℕ) → WorkerOwns s.both k → Comes m stage (λ n k. moved j i n) s.both i k
  both_came k owns = elim (s.ledgers k) [
    | inl p ↦ part_came i k s.left_free owns p.0 (moved_other j i i s.apart)
    | inr p ↦ part_came j k s.right_free owns p.1 (moved_same j i)
  ]

  -- a key of a part goes to the joined worker
  join_goes : (old k : ℕ) → moved j i old ≡ i → WorkerOwns s.both k → WorkerOwns (join_workers (moved j i old)) k
  join_goes old k to owns = subst (λ v. WorkerOwns v k) (sym (ap join_workers to ∙ put_first m.worker i j s.both nobody s.apart)) owns

  -- what the joined worker knows is allowed
  both_knows : KnowsOnlyAllowed stage s.both
  both_knows fact h = elim (s.knows fact h) [
    | inl known ↦ (before.workers.each i).facts fact known
    | inr known ↦ (before.workers.each j).facts fact known
  ]

  -- each key of an old worker goes to its seat
  all_go : (old k : ℕ) → WorkerOwns (m.worker old) k → WorkerOwns (join_workers (moved j i old)) k
  all_go old k owns = elim (cases_eq old j) [
    | inl e ↦ join_goes old k (ap (moved j i) e ∙ moved_same j i) (right_part (subst (λ n. WorkerOwns (m.worker n) k) e owns))
    | inr other ↦ elim (cases_eq old i) [
      | inl e ↦ join_goes old k (moved_other j i old other ∙ e) (left_part (subst (λ n. WorkerOwns (m.worker n) k) e owns))
      | inr apart ↦ subst (λ v. WorkerOwns v k)
          (sym (ap join_workers (moved_other j i old other) ∙ put_neither m.worker i j s.both nobody old apart other)) owns
    ]
  ]
    where
      left_part : WorkerOwns (m.worker i) k → WorkerOwns s.both k
      left_part has = elim (s.ledgers k) [ inl p ↦ (λ e. has (p.0 ∙ e)) | inr p ↦ absurd (has p.0) ]

      right_part : WorkerOwns (m.worker j) k → WorkerOwns s.both k
      right_part has = elim (s.ledgers k) [ inl p ↦ absurd (has p.1) | inr p ↦ (λ e. has (p.1 ∙ e)) ]

  -- what both may change is either's
  both_shared : (k : ℕ) → ((m.worker i).shared k || (m.worker j).shared k) ≡ true → (old : ℕ) × ((m.worker old).shared k ≡ true)
  both_shared k e = elim (or_cases ((m.worker i).shared k) ((m.worker j).shared k) e) [ inl left ↦ (i, left) | inr right ↦ (j, right) ]

  or_none : (k : ℕ) → ((n : ℕ) → (join_workers n).shared k ≡ false) → ((m.worker i).shared k ≡ false) × ((m.worker j).shared k ≡ false)
  or_none k none = or_false ((m.worker i).shared k) ((m.worker j).shared k)
      (sym (s.shares k) ∙ (ap (λ v. v.shared k) (sym (put_first m.worker i j s.both nobody s.apart)) ∙ none i))

  -- the join is new workers in the seats
  join_reseats : Reseats m stage join_workers m.count
  join_reseats = record {
    lands = λ old k. moved j i old;
    comes = put_twice (λ n v. (k : ℕ) → WorkerOwns v k → Comes m stage (λ old k. moved j i old) v n k) m.worker i j s.both nobody
        (λ k owns. absurd (owns refl)) both_came
        (λ n apart other k owns. record { old = n; owned = owns; same = refl; here = moved_other j i n other });
    goes = all_go;
    kept = put_twice (λ n v. (v ≡ m.worker n) ⊎ WorkerIsIdle (m.worker n)) m.worker i j s.both nobody
        (inr s.right_free) (inr s.left_free) (λ n apart other. inl refl);
    each = put_twice (λ n v. (v ≡ m.worker n) ⊎ (WorkerIsIdle v × KnowsOnlyAllowed stage v)) m.worker i j s.both nobody
        (inr (refl, λ fact h. absurd (false≢true h))) (inr (s.both_free, both_knows)) (λ n apart other. inl refl);
    strangers = put_twice (λ n v. m.count ≤ n → v ≡ nobody) m.worker i j s.both nobody
        (λ past. refl) (λ past. absurd (let t = s.left_there in omega arith))
        (λ n apart other past. before.workers.strangers n past);
    shares = put_twice (λ n v. (k : ℕ) → v.shared k ≡ true → (old : ℕ) × ((m.worker old).shared k ≡ true)) m.worker i j s.both nobody
        (λ k e. absurd (false≢true e)) (λ k e. both_shared k (sym (s.shares k) ∙ e)) (λ n apart other k e. (n, e));
    shared = λ k old none. elim (cases_eq old j) [
      | inl e ↦ ap (λ n. (m.worker n).shared k) e ∙ (or_none k none).1
      | inr other ↦ elim (cases_eq old i) [
        | inl e ↦ ap (λ n. (m.worker n).shared k) e ∙ (or_none k none).0
        | inr apart ↦ ap (λ v. v.shared k) (sym (put_neither m.worker i j s.both nobody old apart other)) ∙ none old
      ]
    ];
  }

-- a join keeps the invariant
pub join_keeps : (m after : Machine) (stage : Stages) (i j : ℕ) → Join m i j after → Invariant m stage → Invariant after stage
join_keeps m after stage i j s before =
    subst (λ z. Invariant z stage) (sym s.gives) (reseated_keeps m stage (join_workers m after stage i j s before) m.count
    (join_reseats m after stage i j s before) before)
