use Rattle.std.proofs.Common.{◌≡◌, ◌≢◌, ◌⊎◌, ℕ, zero, suc, ◌+◌, ◌<◌, ◌≤◌, ◌==◌, Bool, true, false, inl, inr, refl, sym, ap, ◌∙◌, subst, eq-eqb, arith}
use Rattle.std.proofs.lemmas.Bool.{cases_eq}
use Rattle.ell_core.specs.declared.event.Event.{Event}
use Rattle.ell_core.specs.declared.event.Stepped.{Stepped}
use Rattle.ell_layout.specs.Words.{Words, put}
use Rattle.ell_core.specs.state.Machine.{Worker, Machine, no_search}
use Rattle.ell_core.specs.acts.Events.{Steps}
use Rattle.ell_core.specs.history.Stages.{Stages}
use Rattle.ell_core.specs.history.Invariant.{Invariant}
use Rattle.ell_core.specs.history.Later.{Follows}
use Rattle.ell_layout.proofs.lemmas.Writes.{put_same, put_other}
use Rattle.ell_core.proofs.lemmas.following.Early.{card_early, search_early, GoesEarly, none_more, one_more, goes_early}
use Rattle.ell_runs.specs.Contention.{how_many}
use Rattle.ell_runs.proofs.lemmas.runs.HowMany.{one, one_less, many_where, many_shared, one_such, sum_of}

-- how many deletes' cards below n were flagged since with an early word of their parent, and how many workers have an early word with them
abbrev pub early_sum : ℕ → Words → Stages → Words → Stages → ℕ → (ℕ → Worker) → ℕ
early_sum n w0 first w stage count worker = how_many n (card_early w0 first w stage) + sum_of count (λ j. one (search_early w0 (worker j).search))

-- a sum where one of the workers is another
sum_less : (n : ℕ) (f g : ℕ → ℕ) → ((j : ℕ) → j < n → f j ≤ g j) → sum_of n f ≤ sum_of n g
sum_less zero f g h = omega arith
sum_less (suc n) f g h = let a = h n (omega arith) in let b = sum_less n f g (λ j less. h j (omega arith)) in omega arith

sum_one : (n : ℕ) (f g : ℕ → ℕ) (i : ℕ) → i < n → ((j : ℕ) → j ≢ i → f j ≤ g j) → sum_of n f + g i ≤ sum_of n g + f i
sum_one zero f g i less h = absurd (omega arith)
sum_one (suc n) f g i less h = elim (cases_eq i n) [
  | inl e ↦
      let rest = sum_less n f g (λ j less. h j (λ same. omega arith)) in
      let a = ap f e in
      let b = ap g e in
      omega arith
  | inr apart ↦
      let rest = sum_one n f g i (omega arith) h in
      let first = h n (λ e. apart (sym e)) in
      omega arith
]

module _ (n : ℕ) (w0 : Words) (first : Stages) where
  act_falls : (m : Machine) (stage : Stages) (now : Words) (after : Stages) (i : ℕ) (v : Worker) → i < m.count
      → GoesEarly w0 first m.words stage now after (m.worker i).search v.search
      → early_sum n w0 first now after m.count (put m.worker i v) ≤ early_sum n w0 first m.words stage m.count m.worker
  act_falls m stage now after i v there (none_more cards search) =
      let more = many_where n (card_early w0 first now after) (card_early w0 first m.words stage) (λ c low. cards c) in
      let mine = one_less (search_early w0 v.search) (search_early w0 (m.worker i).search) search in
      let at = ap (λ (u : Worker). one (search_early w0 u.search)) (put_same m.worker i v) in
      let sum = sum_one m.count (λ j. one (search_early w0 (put m.worker i v j).search)) (λ j. one (search_early w0 (m.worker j).search)) i there
      (λ j other. let same = ap (λ (u : Worker). one (search_early w0 u.search)) (put_other m.worker i v j other) in omega arith) in
      omega arith
  act_falls m stage now after i v there (one_more d cards had none) =
      let more = many_shared n (card_early w0 first now after) (card_early w0 first m.words stage) (λ c. one (d == c)) (λ c low. by c (card_early w0 first now after c) refl) in
      let single = one_such n d in
      let was = ap one had in
      let is = ap one none in
      let at = ap (λ (u : Worker). one (search_early w0 u.search)) (put_same m.worker i v) in
      let sum = sum_one m.count (λ j. one (search_early w0 (put m.worker i v j).search)) (λ j. one (search_early w0 (m.worker j).search)) i there
      (λ j other. let same = ap (λ (u : Worker). one (search_early w0 u.search)) (put_other m.worker i v j other) in omega arith) in
      omega arith
    where
      by : (c : ℕ) (b : Bool) → card_early w0 first now after c ≡ b → one (card_early w0 first now after c) ≤ one (card_early w0 first m.words stage c) + one (d == c)
      by c false e = let no = ap one e in omega arith
      by c true e = elim (cards c e) [
        | inl was ↦ (let yes = ap one (was ∙ sym e) in omega arith)
        | inr same ↦ (let yes = ap one (eq-eqb d c same) in let up = one_most (card_early w0 first now after c) in omega arith)
      ]
        where
          one_most : (b : Bool) → one b ≤ 1
          one_most true = omega arith
          one_most false = omega arith

  -- an event adds no more of the one than it takes from the other
  pub event_falls : (m : Machine) (stage : Stages) (e : Event) (said : Stepped) (m' : Machine) → Invariant m stage → ((x : ℕ) → w0.update x ≤ m.words.update x)
      → Steps m e said m' → (f : Follows m stage e.act e.worker said m')
      → early_sum n w0 first m'.words f.stages m'.count m'.worker ≤ early_sum n w0 first m.words stage m.count m.worker
  event_falls m stage e said m' invariant up h =
      subst (λ (k : Machine). (f : Follows m stage e.act e.worker said k)
      → early_sum n w0 first k.words f.stages k.count k.worker ≤ early_sum n w0 first m.words stage m.count m.worker) (sym h.gives)
      (λ f. act_falls m stage h.becomes.words f.stages e.worker h.becomes.worker h.there
      (goes_early w0 first m stage invariant up e.act e.worker said h.becomes h.happens.row f))

  rest_falls : (old new : Worker) → (new.search ≡ no_search) ⊎ (new ≡ old) → one (search_early w0 new.search) ≤ one (search_early w0 old.search)
  rest_falls old new (inl none) = let is = ap (λ s. one (search_early w0 s)) none in omega arith
  rest_falls old new (inr same) = let is = ap (λ (u : Worker). one (search_early w0 u.search)) same in omega arith

  -- nor does what leaves the words, and each worker as it is or with nothing in hand
  pub rests_fall : (w : Words) (stage : Stages) (count : ℕ) (worker after : ℕ → Worker) → ((j : ℕ) → ((after j).search ≡ no_search) ⊎ (after j ≡ worker j))
      → early_sum n w0 first w stage count after ≤ early_sum n w0 first w stage count worker
  rests_fall w stage count worker after rests =
      let sum = sum_less count (λ j. one (search_early w0 (after j).search)) (λ j. one (search_early w0 (worker j).search)) (λ j less. rest_falls (worker j) (after j) (rests j)) in
      omega arith

  pub one_more_falls : (w : Words) (stage : Stages) (count : ℕ) (worker after : ℕ → Worker) → ((j : ℕ) → ((after j).search ≡ no_search) ⊎ (after j ≡ worker j))
      → (after count).search ≡ no_search → early_sum n w0 first w stage (count + 1) after ≤ early_sum n w0 first w stage count worker
  one_more_falls w stage count worker after rests none =
      let sum = rests_fall w stage count worker after rests in
      let is = ap (λ s. one (search_early w0 s)) none in
      let next : count + 1 ≡ suc count = omega arith in
      let more = ap (λ k. sum_of k (λ j. one (search_early w0 (after j).search))) next in
      omega arith
