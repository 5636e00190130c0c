use Rattle.std.proofs.Common.{◌≡◌, ◌⊎◌, ℕ, zero, suc, ◌+◌, ◌*◌, ◌<◌, ◌≤◌, ◌==◌, ◌&&◌, ◌||◌, not, Bool, true, false, Option, Some, None, is_some, List, [], ◌∷◌, ◌++◌, length, length-append, inl, inr, refl, sym, ap, ◌∙◌, subst, eq-eqb, eqb-true, arith}
use Rattle.std.proofs.lemmas.Bool.{cases_order, false≢true, or_cases, or_left, or_right, and_parts, and_from, not-true, ltb-false}
use lib.ListN.{get_elem?}
use Rattle.ell_word.specs.Node.{IsInternal}
use Rattle.ell_word.specs.Word.{unpacked}
use Rattle.ell_core.specs.declared.exchange.Exchange.{Exchange}
use Rattle.ell_layout.specs.Words.{Words}
use Rattle.ell_core.specs.declared.view.Search.{Search}
use Rattle.ell_ops.specs.declared.op.Op.{Op}
use Rattle.ell_core.specs.state.Machine.{Worker, worker_of}
use Rattle.ell_core.specs.tree.Tree.{Leads, IsLawful}
use Rattle.ell_core.specs.history.Stages.{Stages, is_claimed, is_changed, is_cut, insert_won, delete_won, is_backed, is_marked}
use Rattle.ell_core.specs.history.Invariant.{Invariant, DeleteCard}
use Rattle.ell_core.proofs.lemmas.words.CleanWords.{clean_remainder}
use Rattle.ell_core.proofs.lemmas.tree.Paths.{Leads-append, Leads-same}
use Rattle.ell_core.proofs.lemmas.tree.Reached.{Spans-reached}
use Rattle.ell_core.proofs.lemmas.stages.Sums.{child_changes, sum_by, sum_same, sum-changed, cut-sum}
use Rattle.ell_core.proofs.lemmas.stages.Flags.{was_flagged, flagged_cases, unflagged_insert, unflagged_delete, is_open, open_cases, open-claimed, insert_stands, delete_stands, marked_stands, backed-won}
use Rattle.ell_core.proofs.lemmas.stages.Order.{delete-claimed, insert_won-insert, delete_won-delete, changed-won, changed-insert, cut-marked, cut-delete, marked-won, backed-delete, one_kind}
use Rattle.ell_core.proofs.lemmas.following.Backtracks.{IsTakenBack}
use Rattle.ell_core.proofs.lemmas.following.SetSince.{IsSetSince, insert_flag, delete_flag, mark}
use Rattle.ell_core.proofs.lemmas.following.Early.{is_early, stands_early, search_early, card_early}
use Rattle.ell_runs.specs.Plans.{TablePlan}
use Rattle.ell_runs.specs.declared.view.View.{View}
use Rattle.ell_runs.specs.Contention.{how_many, cards_in_hand}
use Rattle.ell_runs.specs.States.{TableState, seat_worker}
use Rattle.ell_runs.specs.Machines.{HasMachine}
use Rattle.ell_runs.specs.Laws.{machine_of_table}
use Rattle.ell_runs.specs.TurnEffects.{own_words, run_wins}
use Rattle.ell_runs.specs.Stretches.{is_flag, won_in, HasHeight, passes_at_work, FewFlagsWithoutAChange}
use Rattle.ell_runs.proofs.lemmas.own_words.OwnTree.{leads_on, root_born}
use Rattle.ell_runs.proofs.lemmas.own_words.OwnWords.{same_card, machine_is_sound}
use Rattle.ell_runs.proofs.lemmas.runs.Reaching.{led_kept}
use Rattle.ell_runs.proofs.lemmas.runs.Abandoned.{hand_there}
use Rattle.ell_runs.proofs.lemmas.runs.HowMany.{one, many_shared, held_by, held_there, hands_hold, sum_of, sum_both}
use Rattle.ell_runs.proofs.lemmas.runs.Stretching.{Amid, amid_first, run_amid, quiet_run, unchanged_since, flag_since, Places}
use Rattle.ell_runs.proofs.lemmas.runs.Counting.{one_to_one, on_levels, sum_most, sum_is, none_so, before_last_same}

one_most : (b : Bool) → one b ≤ 1
one_most true = omega arith
one_most false = omega arith

-- one node has one parent in a lawful tree
one_parent : (w : Words) → IsLawful w → (x z y : ℕ) → IsInternal x → IsInternal z → Places w x y → Places w z y → x ≡ z
one_parent w lawful x z y inner inner' here there =
    let first = Spans-reached w here.there.spans in
    let second = Spans-reached w there.there.spans in
    let a = Leads-append w 0 x y first.path (here.right ∷ []) first.leads (inner, sym here.child) in
    let b = Leads-append w 0 z y second.path (there.right ∷ []) second.leads (inner', sym there.child) in
    let same = before_last_same first.path second.path here.right there.right (lawful.one_path y (first.path ++ here.right ∷ []) (second.path ++ there.right ∷ []) a b) in
    Leads-same w 0 x z first.path first.leads (subst (λ p. Leads w 0 p z) (sym same) second.leads)

at_nowhere : (w0 : Words) (search : Search) → search.node ≡ None → search_early w0 search ≡ false
at_nowhere w0 search none = ap (λ node. stands_early w0 node search.read search.parent) none

-- a sum from its first number on
sum_first : (n : ℕ) (f : ℕ → ℕ) → sum_of (suc n) f ≡ f 0 + sum_of n (λ j. f (suc j))
sum_first zero f = refl
sum_first (suc n) f = let rest = sum_first n f in omega arith

-- only a pass with an operation in hand has read something
work_early : (w0 : Words) (v : Worker) → (v.operation ≡ None → v.search.node ≡ None) → one (search_early w0 v.search) ≤ one (is_some v.operation)
work_early w0 v free = by v.operation refl
  where
    by : (o : Option Op) → v.operation ≡ o → one (search_early w0 v.search) ≤ one (is_some v.operation)
    by None e = let none = ap one (at_nowhere w0 v.search (free e)) in omega arith
    by (Some op) e = let yes = ap (λ o. one (is_some o)) e in let most = one_most (search_early w0 v.search) in omega arith

seats_early : (w0 : Words) (vs : List View) → ((j : ℕ) → (seat_worker (get_elem? vs j)).operation ≡ None → (seat_worker (get_elem? vs j)).search.node ≡ None)
    → sum_of (length vs) (λ j. one (search_early w0 (seat_worker (get_elem? vs j)).search)) ≤ passes_at_work vs
seats_early w0 [] free = omega arith
seats_early w0 (v ∷ vs) free =
    let shift = sum_first (length vs) (λ j. one (search_early w0 (seat_worker (get_elem? (v ∷ vs) j)).search)) in
    let first = work_early w0 (worker_of v.worker) (free 0) in
    let rest = seats_early w0 vs (λ j. free (suc j)) in
    omega arith

module _ (plan : TablePlan) (s0 : TableState) (r0 : HasMachine plan s0) (first : Stages)
    (before : Invariant (machine_of_table plan s0 r0) first) (s : TableState) (won : ℕ → List Exchange) (flags : ℕ)
    (at : Amid plan s0 r0 first before s won flags) (quiet : (d : ℕ) → sum_by child_changes (won d) ≡ 0)
    (lawful : IsLawful r0.words) (h : ℕ) (height : HasHeight r0.words h) where
  abbrev w : Words
  w = at.kept.words

  abbrev stage : Stages
  stage = at.went.stages

  abbrev n : ℕ
  n = plan.last_card + 1

  -- whether a delete's flag was set in the stretch and taken back
  abbrev back : ℕ → Bool
  back c = not (delete_won (first c)) && is_backed (stage c)

  taken : (c : ℕ) → back c ≡ true → IsTakenBack first stage c
  taken c is = let parts = and_parts (not (delete_won (first c))) (is_backed (stage c)) is in (not-true (delete_won (first c)) parts.0, parts.1)

  -- the card that had set a flag or a mark at its parent
  abbrev hinders : ℕ → ℕ
  hinders c = (unpacked (at.back.least c)).card

  low : (c : ℕ) → is_claimed (stage c) ≡ true → c < n
  low c claimed =
      let less = (at.went.invariant.words.cards c).claimed.0 claimed in
      let limit = at.went.invariant.limit in
      omega arith

  -- what is open is in a hand
  open_held : (c : ℕ) → is_open (stage c) ≡ true → 1 ≤ held_by c s.views
  open_held c stands = elim (open_cases (stage c) stands) [
    | inl o ↦ (let hand = at.went.invariant.workers.insert_in_hand c o in let is = hand_there s.views hand.worker c hand.holds in
        held_there s.views is.seat c is.view is.there is.holds)
    | inr o ↦ (let hand = at.went.invariant.workers.delete_in_hand c o in let is = hand_there s.views hand.worker c hand.holds in
        held_there s.views is.seat c is.view is.there is.holds)
  ]

  open_few : how_many n (λ c. is_open (stage c)) ≤ cards_in_hand s.views
  open_few =
      let shared = many_shared n (λ c. is_open (stage c)) (λ c. false) (λ c. held_by c s.views) (λ c less. by c (is_open (stage c)) refl) in
      let none = none_so n (λ c. false) (λ c. refl) in
      let hands = hands_hold n s.views in
      omega arith
    where
      by : (c : ℕ) (b : Bool) → is_open (stage c) ≡ b → one (is_open (stage c)) ≤ 0 + held_by c s.views
      by c false e = let no = ap one e in omega arith
      by c true e = let held = open_held c e in let yes = ap one e in omega arith

  -- no card has changed or cut since
  changed_before : (e : ℕ) → is_changed (stage e) ≡ true → is_changed (first e) ≡ true
  changed_before e = unchanged_since first stage at.went.later (won e) e (at.went.wins e) (quiet e)

  cut_before : (e : ℕ) → is_cut (stage e) ≡ true → is_cut (first e) ≡ true
  cut_before e cut =
      let same = sum_same child_changes (first e) (stage e) (won e) (at.went.wins e) (quiet e) in
      let some = cut-sum (stage e) cut in
      elim (sum-changed (first e) (omega arith)) [
        | inl changed ↦ absurd (one_kind (stage e) (at.went.later.insert e (changed-insert (first e) changed)) (cut-delete (stage e) cut))
        | inr is ↦ is
      ]

  insert_opens : (e : ℕ) → insert_won (first e) ≡ false → insert_won (stage e) ≡ true → is_open (stage e) ≡ true
  insert_opens e old new = elim (insert_stands (stage e) new) [
    | inl stands ↦ stands
    | inr changed ↦ absurd (false≢true (sym old ∙ changed-won (first e) (changed_before e changed)))
  ]

  delete_opens : (e : ℕ) → delete_won (first e) ≡ false → delete_won (stage e) ≡ true → (is_open (stage e) ≡ true) ⊎ (back e ≡ true)
  delete_opens e old new = elim (delete_stands (stage e) new) [
    | inl stands ↦ inl stands
    | inr (inl backed) ↦ inr (and_from (not (delete_won (first e))) (is_backed (stage e)) (ap not old) backed)
    | inr (inr cut) ↦ absurd (false≢true (sym old ∙ marked-won (first e) (cut-marked (first e) (cut_before e cut))))
  ]

  mark_opens : (e : ℕ) → is_marked (first e) ≡ false → is_marked (stage e) ≡ true → is_open (stage e) ≡ true
  mark_opens e old new = elim (marked_stands (stage e) new) [
    | inl stands ↦ stands
    | inr cut ↦ absurd (false≢true (sym old ∙ cut-marked (first e) (cut_before e cut)))
  ]

  -- each card flagged in the stretch was taken back, or is in a hand
  flags_few : flags ≤ how_many n back + cards_in_hand s.views
  flags_few =
      let shared = many_shared n (flag_since first stage) back (λ c. held_by c s.views) (λ c less. by c (flag_since first stage c) refl) in
      let hands = hands_hold n s.views in
      let all = at.flagged in
      omega arith
    where
      is_there : (c : ℕ) → was_flagged (first c) ≡ false → was_flagged (stage c) ≡ true → (is_open (stage c) ≡ true) ⊎ (back c ≡ true)
      is_there c old new = elim (flagged_cases (stage c) new) [
        | inl i ↦ inl (insert_opens c (unflagged_insert (first c) old) i)
        | inr d ↦ delete_opens c (unflagged_delete (first c) old) d
      ]

      by : (c : ℕ) (b : Bool) → flag_since first stage c ≡ b → one (flag_since first stage c) ≤ one (back c) + held_by c s.views
      by c false e = let no = ap one e in omega arith
      by c true e =
          let parts = and_parts (not (was_flagged (first c))) (was_flagged (stage c)) e in
          let yes = ap one e in
          elim (is_there c (not-true (was_flagged (first c)) parts.0) parts.1) [
            | inl stands ↦ (let held = open_held c stands in omega arith)
            | inr is ↦ (let more = ap one is in omega arith)
          ]

  says : (c : ℕ) → back c ≡ true → DeleteCard w stage c
  says c is = (at.went.invariant.words.cards c).delete (backed-delete (stage c) (taken c is).1)

  -- two that were taken back at one parent were hindered by two cards, the later by the greater
  same_place : (c d : ℕ) → back c ≡ true → back d ≡ true → w.p c ≡ w.p d → w.gp c ≡ w.gp d
  same_place c d one two below =
      one_parent r0.words lawful (w.gp c) (w.gp d) (w.p d) (says c one).grandparent.inner (says d two).grandparent.inner
      (subst (Places r0.words (w.gp c)) below (at.placed c (taken c one))) (at.placed d (taken d two))

  hinders_rise : (c d : ℕ) → back c ≡ true → back d ≡ true → w.p c ≡ w.p d → c < d → hinders c < hinders d
  hinders_rise c d one two below less =
      let later = at.back.later c d (taken c one) (backed-won (stage d) (taken d two).1) less (sym (same_place c d one two below)) (sym below) in
      let rose = (at.back.rose d (taken d two)).0 in
      let rest = clean_remainder (w.was d) (says d two).calm in
      omega arith

  apart : (c d : ℕ) → back c ≡ true → back d ≡ true → w.p c ≡ w.p d → hinders c ≡ hinders d → c ≡ d
  apart c d one two below same = elim (cases_order c d) [
    | inl e ↦ e
    | inr (inl less) ↦ (let up = hinders_rise c d one two below less in absurd (omega arith))
    | inr (inr less) ↦ (let up = hinders_rise d c two one (sym below) less in absurd (omega arith))
  ]

  -- whether the card that hindered is such a delete too, one level below
  abbrev goes_on : ℕ → Bool
  goes_on c = back (hinders c) && (w.gp (hinders c) == w.p c)

  -- whether it marked the parent, and whether it flagged it
  abbrev marks_there : ℕ → Bool
  marks_there c = is_open (stage (hinders c)) && (w.p (hinders c) == w.p c)

  abbrev flags_there : ℕ → Bool
  flags_there c = is_open (stage (hinders c))
      && ((insert_won (stage (hinders c)) && (w.p (hinders c) == w.p c)) || (delete_won (stage (hinders c)) && (w.gp (hinders c) == w.p c)))

  abbrev marked_back : ℕ → Bool
  marked_back c = back c && marks_there c

  abbrev flagged_back : ℕ → Bool
  flagged_back c = back c && flags_there c

  marked_few : how_many n marked_back ≤ how_many n (λ c. is_open (stage c))
  marked_few = one_to_one n n marked_back (λ c. is_open (stage c)) hinders goes only
    where
      parts : (c : ℕ) → marked_back c ≡ true → (back c ≡ true) × (is_open (stage (hinders c)) ≡ true) × (w.p (hinders c) ≡ w.p c)
      parts c is =
          let a = and_parts (back c) (marks_there c) is in
          let b = and_parts (is_open (stage (hinders c))) (w.p (hinders c) == w.p c) a.1 in
          (a.0, b.0, eqb-true (w.p (hinders c)) (w.p c) b.1)

      goes : (c : ℕ) → c < n → marked_back c ≡ true → (hinders c < n) × (is_open (stage (hinders c)) ≡ true)
      goes c less is = let a = parts c is in (low (hinders c) (open-claimed (stage (hinders c)) a.1), a.1)

      only : (c d : ℕ) → marked_back c ≡ true → marked_back d ≡ true → hinders c ≡ hinders d → c ≡ d
      only c d one two same =
          let a = parts c one in
          let b = parts d two in
          apart c d a.0 b.0 (sym a.2 ∙ (ap w.p same ∙ b.2)) same

  -- where a card has its flag
  abbrev FlagsAt : ℕ → ℕ → Type 0
  FlagsAt e y = ((insert_won (stage e) ≡ true) × (w.p e ≡ y)) ⊎ ((delete_won (stage e) ≡ true) × (w.gp e ≡ y))

  one_flag : (e x y : ℕ) → FlagsAt e x → FlagsAt e y → x ≡ y
  one_flag e x y (inl a) (inl b) = sym a.1 ∙ b.1
  one_flag e x y (inl a) (inr b) = absurd (one_kind (stage e) (insert_won-insert (stage e) a.0) (delete_won-delete (stage e) b.0))
  one_flag e x y (inr a) (inl b) = absurd (one_kind (stage e) (insert_won-insert (stage e) b.0) (delete_won-delete (stage e) a.0))
  one_flag e x y (inr a) (inr b) = sym a.1 ∙ b.1

  flagged_few : how_many n flagged_back ≤ how_many n (λ c. is_open (stage c))
  flagged_few = one_to_one n n flagged_back (λ c. is_open (stage c)) hinders goes only
    where
      flags_at : (e y : ℕ) → ((insert_won (stage e) && (w.p e == y)) || (delete_won (stage e) && (w.gp e == y))) ≡ true → FlagsAt e y
      flags_at e y is = elim (or_cases (insert_won (stage e) && (w.p e == y)) (delete_won (stage e) && (w.gp e == y)) is) [
        | inl i ↦ (let a = and_parts (insert_won (stage e)) (w.p e == y) i in inl (a.0, eqb-true (w.p e) y a.1))
        | inr d ↦ (let a = and_parts (delete_won (stage e)) (w.gp e == y) d in inr (a.0, eqb-true (w.gp e) y a.1))
      ]

      parts : (c : ℕ) → flagged_back c ≡ true → (back c ≡ true) × (is_open (stage (hinders c)) ≡ true) × FlagsAt (hinders c) (w.p c)
      parts c is =
          let a = and_parts (back c) (flags_there c) is in
          let b = and_parts (is_open (stage (hinders c)))
          ((insert_won (stage (hinders c)) && (w.p (hinders c) == w.p c)) || (delete_won (stage (hinders c)) && (w.gp (hinders c) == w.p c))) a.1 in
          (a.0, b.0, flags_at (hinders c) (w.p c) b.1)

      goes : (c : ℕ) → c < n → flagged_back c ≡ true → (hinders c < n) × (is_open (stage (hinders c)) ≡ true)
      goes c less is = let a = parts c is in (low (hinders c) (open-claimed (stage (hinders c)) a.1), a.1)

      only : (c d : ℕ) → flagged_back c ≡ true → flagged_back d ≡ true → hinders c ≡ hinders d → c ≡ d
      only c d one two same =
          let a = parts c one in
          let b = parts d two in
          apart c d a.0 b.0 (one_flag (hinders d) (w.p c) (w.p d) (subst (λ e. FlagsAt e (w.p c)) same a.2) b.2) same

  -- how many such cards hinder one another, from the first on
  abbrev chain : ℕ → ℕ → Bool
  chain zero c = back c && not (goes_on c)
  chain (suc k) c = back c && (goes_on c && chain k (hinders c))

  goes_parts : (c : ℕ) → goes_on c ≡ true → (back (hinders c) ≡ true) × (w.gp (hinders c) ≡ w.p c)
  goes_parts c is =
      let a = and_parts (back (hinders c)) (w.gp (hinders c) == w.p c) is in
      (a.0, eqb-true (w.gp (hinders c)) (w.p c) a.1)

  chain_few : (k : ℕ) → how_many n (chain (suc k)) ≤ how_many n (chain k)
  chain_few k = one_to_one n n (chain (suc k)) (chain k) hinders goes only
    where
      parts : (c : ℕ) → chain (suc k) c ≡ true → (back c ≡ true) × (goes_on c ≡ true) × (chain k (hinders c) ≡ true)
      parts c is =
          let a = and_parts (back c) (goes_on c && chain k (hinders c)) is in
          let b = and_parts (goes_on c) (chain k (hinders c)) a.1 in
          (a.0, b.0, b.1)

      goes : (c : ℕ) → c < n → chain (suc k) c ≡ true → (hinders c < n) × (chain k (hinders c) ≡ true)
      goes c less is =
          let a = parts c is in
          let e = (goes_parts c a.1).0 in
          (low (hinders c) (delete-claimed (stage (hinders c)) (backed-delete (stage (hinders c)) (taken (hinders c) e).1)), a.2)

      only : (c d : ℕ) → chain (suc k) c ≡ true → chain (suc k) d ≡ true → hinders c ≡ hinders d → c ≡ d
      only c d one two same =
          let a = parts c one in
          let b = parts d two in
          apart c d a.0 b.0 (sym (goes_parts c a.1).1 ∙ (ap w.gp same ∙ (goes_parts d b.1).1)) same

  -- the last of them was hindered by a card that is in a hand, or had read the parent before the stretch
  abbrev early_card : ℕ → Bool
  early_card = card_early r0.words first w stage

  last_of : (c : ℕ) (a b : Bool) → early_card c ≡ a → chain zero c ≡ b → one (chain zero c) ≤ one (early_card c) + (one (marked_back c) + one (flagged_back c))
  last_of c true b e f = let yes = ap one e in let most = one_most (chain zero c) in omega arith
  last_of c false false e f = let no = ap one f in omega arith
  last_of c false true e f = by (at.set c (taken c parts.0) late)
    where
      parts : (back c ≡ true) × (goes_on c ≡ false)
      parts = let a = and_parts (back c) (not (goes_on c)) f in (a.0, not-true (goes_on c) a.1)

      late : r0.words.update (w.p c) ≤ w.was c
      late = ltb-false (w.was c) (r0.words.update (w.p c)) (is (is_early r0.words (w.p c) (w.was c)) refl)
        where
          is : (b : Bool) → is_early r0.words (w.p c) (w.was c) ≡ b → is_early r0.words (w.p c) (w.was c) ≡ false
          is false q = q
          is true q =
              let old = taken c parts.0 in
              let all = and_from (not (delete_won (first c))) (delete_won (stage c) && is_early r0.words (w.p c) (w.was c)) (ap not old.0)
              (and_from (delete_won (stage c)) (is_early r0.words (w.p c) (w.was c)) (backed-won (stage c) old.1) q) in
              absurd (false≢true (sym e ∙ all))

      counts_mark : is_open (stage (hinders c)) ≡ true → w.p (hinders c) ≡ w.p c → one (chain zero c) ≤ one (early_card c) + (one (marked_back c) + one (flagged_back c))
      counts_mark stands place =
          let is = and_from (back c) (marks_there c) parts.0 (and_from (is_open (stage (hinders c))) (w.p (hinders c) == w.p c) stands (eq-eqb (w.p (hinders c)) (w.p c) place)) in
          let yes = ap one is in
          let most = one_most (chain zero c) in
          omega arith

      counts_flag : is_open (stage (hinders c)) ≡ true
          → ((insert_won (stage (hinders c)) && (w.p (hinders c) == w.p c)) || (delete_won (stage (hinders c)) && (w.gp (hinders c) == w.p c))) ≡ true
          → one (chain zero c) ≤ one (early_card c) + (one (marked_back c) + one (flagged_back c))
      counts_flag stands place =
          let is = and_from (back c) (flags_there c) parts.0 (and_from (is_open (stage (hinders c)))
          ((insert_won (stage (hinders c)) && (w.p (hinders c) == w.p c)) || (delete_won (stage (hinders c)) && (w.gp (hinders c) == w.p c))) stands place) in
          let yes = ap one is in
          let most = one_most (chain zero c) in
          omega arith

      by : IsSetSince first w stage (hinders c) (w.p c) → one (chain zero c) ≤ one (early_card c) + (one (marked_back c) + one (flagged_back c))
      by (insert_flag old new place) = counts_flag (insert_opens (hinders c) old new)
          (or_left (insert_won (stage (hinders c)) && (w.p (hinders c) == w.p c)) (delete_won (stage (hinders c)) && (w.gp (hinders c) == w.p c))
          (and_from (insert_won (stage (hinders c))) (w.p (hinders c) == w.p c) new (eq-eqb (w.p (hinders c)) (w.p c) place)))
      by (delete_flag old new place) = elim (delete_opens (hinders c) old new) [
        | inl stands ↦ counts_flag stands
            (or_right (insert_won (stage (hinders c)) && (w.p (hinders c) == w.p c)) (delete_won (stage (hinders c)) && (w.gp (hinders c) == w.p c))
            (and_from (delete_won (stage (hinders c))) (w.gp (hinders c) == w.p c) new (eq-eqb (w.gp (hinders c)) (w.p c) place)))
        | inr is ↦ absurd (false≢true (sym parts.1 ∙ and_from (back (hinders c)) (w.gp (hinders c) == w.p c) is (eq-eqb (w.gp (hinders c)) (w.p c) place)))
      ]
      by (mark old new place) = counts_mark (mark_opens (hinders c) old new) place

  last_few : how_many n (chain zero) ≤ how_many n early_card + 2 * cards_in_hand s.views
  last_few =
      let shared = many_shared n (chain zero) early_card (λ c. one (marked_back c) + one (flagged_back c)) (λ c less. last_of c (early_card c) (chain zero c) refl refl) in
      let both = sum_both n (λ c. one (marked_back c)) (λ c. one (flagged_back c)) in
      let a = sum_is n marked_back in
      let b = sum_is n flagged_back in
      let x = marked_few in
      let y = flagged_few in
      let hands = open_few in
      omega arith

  level_few : (k : ℕ) → how_many n (chain k) ≤ how_many n early_card + 2 * cards_in_hand s.views
  level_few zero = last_few
  level_few (suc k) = let one_less = chain_few k in let rest = level_few k in omega arith

  -- each is on a level, and those are not more than the tree has
  on_level : (fuel c : ℕ) (path : List Bool) → Leads r0.words 0 path (w.gp c) → h < length path + fuel → back c ≡ true
      → (k : ℕ) × (length path + k ≤ h) × (chain k c ≡ true)
  on_level zero c path leads long is = let most = height path (w.gp c) leads (says c is).grandparent.inner in absurd (omega arith)
  on_level (suc fuel) c path leads long is = by (goes_on c) refl (on_level fuel (hinders c))
    where
      place : Places r0.words (w.gp c) (w.p c)
      place = at.placed c (taken c is)

      by : (b : Bool) → goes_on c ≡ b → ((more : List Bool) → Leads r0.words 0 more (w.gp (hinders c)) → h < length more + fuel → back (hinders c) ≡ true
          → (k : ℕ) × (length more + k ≤ h) × (chain k (hinders c) ≡ true)) → (k : ℕ) × (length path + k ≤ h) × (chain k c ≡ true)
      by false e rest =
          let most = height path (w.gp c) leads (says c is).grandparent.inner in
          (0, omega arith, and_from (back c) (not (goes_on c)) is (ap not e))
      by true e rest =
          let a = goes_parts c e in
          let longer = length-append path (place.right ∷ []) in
          let down = Leads-append r0.words 0 (w.gp c) (w.p c) path (place.right ∷ []) leads ((says c is).grandparent.inner, sym place.child) in
          let found = rest (path ++ place.right ∷ []) (subst (Leads r0.words 0 (path ++ place.right ∷ [])) (sym a.1) down) (omega arith) a.0 in
          let up = found.1 in
          (suc found.0, omega arith, and_from (back c) (goes_on c && chain found.0 (hinders c)) is (and_from (goes_on c) (chain found.0 (hinders c)) e found.2))

  -- what was read before the stretch is of a pass that was at work when it began
  early_few : how_many n early_card ≤ passes_at_work s0.views
  early_few =
      let all = at.early n in
      let none = none_so n (card_early r0.words first r0.words first) none_yet in
      let work = seats_early r0.words s0.views (λ j free. ap (λ (v : Worker). v.search.node) ((before.workers.each j).free free)) in
      omega arith
    where
      none_yet : (c : ℕ) → card_early r0.words first r0.words first c ≡ false
      none_yet c = by (delete_won (first c))
        where
          by : (b : Bool) → (not b && (b && is_early r0.words (r0.words.p c) (r0.words.was c))) ≡ false
          by true = refl
          by false = refl

  back_few : how_many n back ≤ (h + 1) * (passes_at_work s0.views + 2 * cards_in_hand s.views)
  back_few =
      let levels = on_levels n (h + 1) back chain found in
      let most = sum_most (h + 1) (passes_at_work s0.views + 2 * cards_in_hand s.views) (λ k. how_many n (chain k))
      (λ k. (let a = level_few k in let b = early_few in omega arith)) in
      omega arith
    where
      found : (c : ℕ) → back c ≡ true → (k : ℕ) × (k < h + 1) × (chain k c ≡ true)
      found c is =
          let there = Spans-reached r0.words (at.placed c (taken c is)).there.spans in
          let level = on_level (h + 1) c there.path there.leads (omega arith) is in
          let up = level.1 in
          (level.0, omega arith, level.2)

  pub few_flags : flags ≤ (h + 1) * (passes_at_work s0.views + 2 * cards_in_hand s.views) + cards_in_hand s.views
  few_flags = let a = flags_few in let b = back_few in omega arith

pub few_flags_without_a_change : FewFlagsWithoutAChange
few_flags_without_a_change plan r h height =
    few_flags plan r.begun r0 r0.stages r0.invariant r.now (λ d. run_wins plan r.begun r.turns r.now r.run d) (won_in is_flag plan r.begun r.turns r.now r.run)
    at (quiet_run plan r.begun r.turns r.now r.run r.unchanged) (machine_is_sound plan r.begun r0).tree h
    (λ path x leads inner. height path x
    (leads_on r0.words (own_words r.begun) r0.stages r0.invariant.words (same_card plan r.begun r0) 0
    (root_born r0.words (own_words r.begun) r0.stages r0.invariant.words (same_card plan r.begun r0)) path x leads) inner)
  where
    last : ℕ
    last = plan.last_card

    r0 : HasMachine plan r.begun
    r0 = led_kept plan r.opened r.starts r.before r.begun r.led

    at : Amid plan r.begun r0 r0.stages r0.invariant r.now (λ d. run_wins plan r.begun r.turns r.now r.run d) (won_in is_flag plan r.begun r.turns r.now r.run)
    at =
        let same : 0 + won_in is_flag plan r.begun r.turns r.now r.run ≡ won_in is_flag plan r.begun r.turns r.now r.run = omega arith in
        subst (Amid plan r.begun r0 r0.stages r0.invariant r.now (λ d. run_wins plan r.begun r.turns r.now r.run d)) same
        (run_amid plan r.begun r0 r0.stages r0.invariant r.begun (λ d. []) 0 (amid_first plan r.begun r0 r0.stages r0.invariant) (λ d. refl)
        r.turns r.now r.run r.unchanged)
