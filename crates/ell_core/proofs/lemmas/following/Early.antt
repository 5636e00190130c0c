use Rattle.std.proofs.Common.{◌≡◌, ◌⊎◌, ℕ, zero, suc, ◌<◌, ◌≤◌, ◌==◌, ◌&&◌, ◌||◌, not, nat_lt, Bool, true, false, Option, Some, None, inl, inr, refl, sym, ap, ◌∙◌, arith}
use Rattle.std.proofs.lemmas.Bool.{false≢true, ltb-true, or_cases, or_left, or_right, and_parts, and_from}
use Rattle.ell_ops.specs.declared.op.Op.TheVariants.{Delete}
use Rattle.ell_core.specs.declared.event.Act.{Act}
use Rattle.ell_core.specs.declared.event.Act.TheVariants as act
use Rattle.ell_core.specs.declared.event.Stepped.{Stepped}
use Rattle.ell_core.specs.declared.view.Search.{Search}
use Rattle.ell_core.specs.declared.view.Seen.{Seen}
use Rattle.ell_core.specs.declared.fact.Fact.TheVariants.{DFlagged}
use Rattle.ell_layout.specs.Words.{Words}
use Rattle.ell_core.specs.state.Machine.{Machine, Scene, scene, with_scene}
use Rattle.ell_core.specs.acts.Events.{Row}
use Rattle.ell_core.specs.acts.Wins.{wins_by}
use Rattle.ell_core.specs.history.Stages.{Stages, is_delete, delete_won}
use Rattle.ell_core.specs.history.Invariant.{Invariant, DeleteInHand}
use Rattle.ell_core.specs.history.Later.{Follows}
use Rattle.ell_core.proofs.lemmas.stages.Order.{delete-claimed, delete_won-delete}
use Rattle.ell_core.proofs.lemmas.stages.Sums.{delete_flags, kind_sum, sum_by, none_won, won-sum, sum-won, sum_same}
use Rattle.ell_core.proofs.lemmas.following.Backtracks.{Moves, stays, afresh, nowhere, reads, goes, moves, WinsFlag, act_flag, it_is, flag_nowhere}

-- an update word that is less than the one at a node was at first was read there before
abbrev pub is_early : Words → ℕ → ℕ → Bool
is_early w0 x word = nat_lt word (w0.update x)

abbrev pub seen_early : Words → Option Seen → Bool
seen_early w0 None = false
seen_early w0 (Some seen) = is_early w0 seen.node seen.word

abbrev pub read_early : Words → ℕ → Option ℕ → Bool
read_early w0 x None = false
read_early w0 x (Some word) = is_early w0 x word

-- whether a search that stands somewhere has with it such a word, of its place or of the parent
abbrev pub stands_early : Words → Option ℕ → Option ℕ → Option Seen → Bool
stands_early w0 None read parent = false
stands_early w0 (Some x) read parent = seen_early w0 parent || read_early w0 x read

abbrev pub search_early : Words → Search → Bool
search_early w0 search = stands_early w0 search.node search.read search.parent

-- whether a delete's card that was flagged since has such a word of its parent
abbrev pub card_early : Words → Stages → Words → Stages → ℕ → Bool
card_early w0 first w stage c = not (delete_won (first c)) && (delete_won (stage c) && is_early w0 (w.p c) (w.was c))

-- a search has such words only if it had
module _ (w0 w : Words) (up : (x : ℕ) → w0.update x ≤ w.update x) where
  search_is : (search : Search) (place read : Option ℕ) (parent : Option Seen) → search.node ≡ place → search.read ≡ read → search.parent ≡ parent
      → search_early w0 search ≡ stands_early w0 place read parent
  search_is search place read parent e f g = λ t. stands_early w0 (e t) (f t) (g t)

  pub nowhere_late : (search : Search) → search.node ≡ None → search_early w0 search ≡ false
  nowhere_late search none = search_is search None search.read search.parent none refl refl

  afresh_late : (search : Search) → search.parent ≡ None → search.read ≡ None → search_early w0 search ≡ true → ⊥
  afresh_late search none unread early = by search.node (sym (search_is search search.node None None refl unread none) ∙ early)
    where
      by : (o : Option ℕ) → stands_early w0 o None None ≡ true → ⊥
      by None h = false≢true h
      by (Some x) h = false≢true h

  pub early_before : (old new : Search) → Moves w old new → search_early w0 new ≡ true → search_early w0 old ≡ true
  early_before old new (stays e) early = ap (search_early w0) (sym e) ∙ early
  early_before old new (afresh none unread) early = absurd (afresh_late new none unread early)
  early_before old new (nowhere none) early = absurd (false≢true (sym (nowhere_late new none) ∙ early))
  early_before old new (reads x at e) early =
      search_is old (Some x) old.read old.parent at refl refl
      ∙ (elim (or_cases (seen_early w0 old.parent) (is_early w0 x (w.update x)) now) [
        | inl parent ↦ or_left (seen_early w0 old.parent) (read_early w0 x old.read) parent
        | inr here ↦ (let less = ltb-true (w.update x) (w0.update x) here in let more = up x in absurd (omega arith))
      ])
    where
      now : (seen_early w0 old.parent || is_early w0 x (w.update x)) ≡ true
      now = sym (search_is new (Some x) (Some (w.update x)) old.parent (ap (λ (s : Search). s.node) e ∙ at) (ap (λ (s : Search). s.read) e) (ap (λ (s : Search). s.parent) e)) ∙ early
  early_before old new (goes seen child at read e) early =
      search_is old (Some seen.node) (Some seen.word) old.parent at read refl
      ∙ or_right (seen_early w0 old.parent) (is_early w0 seen.node seen.word) (elim (or_cases (is_early w0 seen.node seen.word) false now) [
        | inl early ↦ early
        | inr none ↦ absurd (false≢true none)
      ])
    where
      now : (is_early w0 seen.node seen.word || false) ≡ true
      now = sym (search_is new (Some child) None (Some seen) (ap (λ (s : Search). s.node) e) (ap (λ (s : Search). s.read) e) (ap (λ (s : Search). s.parent) e)) ∙ early

  -- a search that stands at a node with such a word of the parent
  pub parent_early : (search : Search) (x : ℕ) (seen : Seen) → search.node ≡ Some x → search.parent ≡ Some seen → is_early w0 seen.node seen.word ≡ true
      → search_early w0 search ≡ true
  parent_early search x seen node parent early =
      search_is search (Some x) search.read (Some seen) node refl parent ∙ or_left (is_early w0 seen.node seen.word) (read_early w0 x search.read) early

-- what an act does to such cards and to the search of its worker: it adds none, and the search has such words only if it had; or it flags one
-- such card, and the search had such words and has none any more
pub data GoesEarly (w0 : Words) (first : Stages) (w : Words) (stage : Stages) (now : Words) (after : Stages) (old new : Search) : Type 0 where
  none_more : ((c : ℕ) → card_early w0 first now after c ≡ true → card_early w0 first w stage c ≡ true) → (search_early w0 new ≡ true → search_early w0 old ≡ true)
      → GoesEarly w0 first w stage now after old new
  one_more : (d : ℕ) → ((c : ℕ) → card_early w0 first now after c ≡ true → (card_early w0 first w stage c ≡ true) ⊎ (d ≡ c)) → search_early w0 old ≡ true
      → search_early w0 new ≡ false → GoesEarly w0 first w stage now after old new

-- an act that may set a delete's flag is of a card in hand, and leaves the search nowhere
flags_by : (a : Act) (s : Scene) (said : Stepped) (after : Scene) → Row a s said after → 0 < kind_sum delete_flags a
    → (d : ℕ) × (s.worker.card ≡ Some d) × (after.worker.search.node ≡ None)
flags_by act.DFlag s said after row some = (
  row.card,
  row.holds,
  ap (λ (z : Scene). z.worker.search.node) row.gives
      ∙ flag_nowhere s.worker (s.words.update row.grandparent.node == row.grandparent.word) (DFlagged row.card) (s.words.update row.grandparent.node),
)
flags_by _ s said after row some = absurd (omega arith)

module _ (w0 : Words) (first : Stages) (m : Machine) (stage : Stages) (invariant : Invariant m stage) (up : (x : ℕ) → w0.update x ≤ m.words.update x)
    (a : Act) (i : ℕ) (said : Stepped) (becomes : Scene) (row : Row a (scene m i) said becomes) (f : Follows m stage a i said (with_scene m i becomes)) where
  abbrev hand : Option ℕ
  hand = (m.worker i).card

  low : (c : ℕ) → is_delete (stage c) ≡ true → c < m.words.next
  low c deletes = (invariant.words.cards c).claimed.0 (delete-claimed (stage c) deletes)

  -- a claimed card has the word that it had
  same_early : (c : ℕ) → c < m.words.next → is_early w0 (becomes.words.p c) (becomes.words.was c) ≡ is_early w0 (m.words.p c) (m.words.was c)
  same_early c claimed = let info = f.words.info c claimed in λ t. is_early w0 (info.p t) (info.was t)

  -- such a card was one, or its flag is set now
  new_flag : (c : ℕ) → card_early w0 first becomes.words f.stages c ≡ true → (card_early w0 first m.words stage c ≡ true) ⊎ (0 < sum_by delete_flags (wins_by a hand said c))
  new_flag c early =
      let parts = and_parts (not (delete_won (first c))) (delete_won (f.stages c) && is_early w0 (becomes.words.p c) (becomes.words.was c)) early in
      let more = and_parts (delete_won (f.stages c)) (is_early w0 (becomes.words.p c) (becomes.words.was c)) parts.1 in
      by parts.0 more.0 more.1 (delete_won (stage c)) refl
    where
      added : (n : ℕ) → sum_by delete_flags (wins_by a hand said c) ≡ n → delete_won (f.stages c) ≡ true → delete_won (stage c) ≡ false → 0 < n
      added zero none won unwon =
          let same = sum_same delete_flags (stage c) (f.stages c) (wins_by a hand said c) (f.wins c) none in
          let some = won-sum (f.stages c) won in
          absurd (false≢true (sym unwon ∙ sum-won (stage c) (omega arith)))
      added (suc n) e won unwon = omega arith

      by : not (delete_won (first c)) ≡ true → delete_won (f.stages c) ≡ true → is_early w0 (becomes.words.p c) (becomes.words.was c) ≡ true
          → (b : Bool) → delete_won (stage c) ≡ b → (card_early w0 first m.words stage c ≡ true) ⊎ (0 < sum_by delete_flags (wins_by a hand said c))
      by unwon won word true e = inl (and_from (not (delete_won (first c))) (delete_won (stage c) && is_early w0 (m.words.p c) (m.words.was c)) unwon
          (and_from (delete_won (stage c)) (is_early w0 (m.words.p c) (m.words.was c)) e (sym (same_early c (low c (delete_won-delete (stage c) e))) ∙ word)))
      by unwon won word false e = inr (added (sum_by delete_flags (wins_by a hand said c)) refl won e)

  -- the card in hand
  hand_card : (d : ℕ) → WinsFlag (scene m i) d → is_early w0 (becomes.words.p d) (becomes.words.was d) ≡ true → search_early w0 (m.worker i).search ≡ true
  hand_card d wins early =
      let h : DeleteInHand m.words stage (m.worker i) wins.key d = (invariant.workers.each i).unflagged (Delete wins.key) d wins.deletes wins.holds wins.unflagged in
      let word = sym (same_early d (low d h.claimed.0)) ∙ early in
      parent_early w0 m.words up (m.worker i).search (m.words.l d) h.parent h.stands h.behind ((λ t. is_early w0 (h.node t) (h.was t)) ∙ word)

  abbrev Result : Type 0
  Result = GoesEarly w0 first m.words stage becomes.words f.stages (m.worker i).search becomes.worker.search

  still : search_early w0 becomes.worker.search ≡ true → search_early w0 (m.worker i).search ≡ true
  still = early_before w0 m.words up (m.worker i).search becomes.worker.search (moves a (scene m i) said becomes row)

  -- a card of which the act wins the flag is the one in hand
  is_hand : (d c : ℕ) → hand ≡ Some d → 0 < sum_by delete_flags (wins_by a hand said c) → d ≡ c
  is_hand d c holds some = it_is (sym holds ∙ (act_flag a (scene m i) said becomes row c some).holds)

  no_flag : kind_sum delete_flags a ≡ 0 → Result
  no_flag none = none_more (λ c early. elim (new_flag c early) [
    | inl was ↦ was
    | inr some ↦ (let zero_it = none_won delete_flags a hand said c none in absurd (omega arith))
  ]) still

  some_flag : (d : ℕ) → hand ≡ Some d → becomes.worker.search.node ≡ None → (b : Bool) → card_early w0 first becomes.words f.stages d ≡ b → Result
  some_flag d holds none false e = none_more (λ c early. elim (new_flag c early) [
    | inl was ↦ was
    | inr some ↦ absurd (false≢true (sym e ∙ (ap (card_early w0 first becomes.words f.stages) (is_hand d c holds some) ∙ early)))
  ]) still
  some_flag d holds none true e = elim (new_flag d e) [
    | inl old ↦ none_more (λ c early. elim (new_flag c early) [
      | inl was ↦ was
      | inr some ↦ ap (card_early w0 first m.words stage) (sym (is_hand d c holds some)) ∙ old
    ]) still
    | inr some ↦
        let parts = and_parts (not (delete_won (first d))) (delete_won (f.stages d) && is_early w0 (becomes.words.p d) (becomes.words.was d)) e in
        let word = (and_parts (delete_won (f.stages d)) (is_early w0 (becomes.words.p d) (becomes.words.was d)) parts.1).1 in
        one_more d (λ c early. elim (new_flag c early) [
          | inl was ↦ inl was
          | inr more ↦ inr (is_hand d c holds more)
        ]) (hand_card d (act_flag a (scene m i) said becomes row d some) word) (nowhere_late w0 m.words up becomes.worker.search none)
  ]

  pub goes_early : Result
  goes_early = by (kind_sum delete_flags a) refl
    where
      by : (n : ℕ) → kind_sum delete_flags a ≡ n → Result
      by zero none = no_flag none
      by (suc n) some =
          let flag = flags_by a (scene m i) said becomes row (omega arith) in
          some_flag flag.0 flag.1 flag.2 (card_early w0 first becomes.words f.stages flag.0) refl
