use Rattle.std.proofs.Common.{◌≡◌, ◌≢◌, ℕ, ◌≤◌, ◌+◌, ◌==◌, ◌⊎◌, inl, inr, Bool, true, false, List, [], ◌∷◌, sym, ap, ◌∙◌, arith}
use Rattle.std.proofs.lemmas.Bool.{ne_eqb, false≢true, false_from_ne_true}
use Rattle.std.proofs.lemmas.List.Elements.{All-nil, All-cons, All-head, All-tail}
use Rattle.std.proofs.lemmas.Map.Keys.{IsDistinct-cons}
use Rattle.std.specs.List.{All, AllByRecursion, IsDistinct}
use Rattle.ell_core.specs.declared.event.Event.{Event}
use Rattle.ell_core.specs.declared.event.Stepped.{Stepped}
use Rattle.ell_core.specs.declared.fact.Fact.TheVariants as fact
use Rattle.ell_layout.specs.Words.{Words}
use Rattle.ell_core.specs.state.Machine.{Machine}
use Rattle.ell_core.specs.acts.Events.{Steps}
use Rattle.ell_core.specs.acts.Wins.{wins_by}
use Rattle.ell_core.specs.history.Stages.{Stage, Stages, IFlagged, DMarked, insert_won, is_changed, delete_won, delete_waits, is_cut}
use Rattle.ell_core.specs.history.Invariant.{insert_side, delete_side, Invariant}
use Rattle.ell_core.specs.history.Later.{WordsLater, StagesLater, Follows}
use Rattle.ell_core.specs.statements.Since.{has_ended}
use Rattle.ell_grace.specs.Tags.{TagsAreSound, HasChanged, ChangedSince, TagHasRisen, TagsSince}
use Rattle.ell_core.proofs.lemmas.stages.Order.{insert_won-insert, delete_won-delete, changed-insert, cut-delete, waits_or_changed}
use Rattle.ell_core.proofs.lemmas.stages.Flags.{insert-unended, delete-unended, unbacked_cases}
use Rattle.ell_core.proofs.lemmas.stages.Ended.{backed-ended, unended_before}
use Rattle.ell_core.proofs.lemmas.stages.LaterKeys.{insert_info, insert_side_later, delete_info, delete_side_later}
use Rattle.ell_core.proofs.lemmas.stages.Sums.{sum_by}
use Rattle.ell_core.proofs.lemmas.keeping.insert_child.Card.{its_tag}
use Rattle.ell_core.proofs.lemmas.runs.Chains.{words_later}
use Rattle.ell_grace.proofs.lemmas.since.Much.{one, much, few_won, changed_much, insert_was, delete_was}
use Rattle.ell_grace.proofs.lemmas.tags.Changes.{JustChanged, tags_step}

-- no card is twice in an empty list
none_twice : IsDistinct (λ (c d : ℕ). c == d) []
unfolding IsDistinct
none_twice = tt

-- where no card has changed a word since
pub nothing_changed : (stage : Stages) (now : Words) (after : Stages) (x : ℕ) (right : Bool) → ChangedSince stage now after x right []
nothing_changed stage now after x right = record {
  apart = none_twice;
  unended = All-nil (λ c. has_ended (stage c) ≡ false);
  unmade = All-nil (λ c. (is_changed (stage c) ≡ false) × (is_cut (stage c) ≡ false));
  made = All-nil (HasChanged now after x right);
}

-- since a state itself nothing has risen, and where the flag of a card stands the tag is the one that it expects, or the next
pub tags_since_now : (m : Machine) (stage : Stages) → Invariant m stage → TagsAreSound m.words stage → TagsSince m.words stage m.words stage
tags_since_now m stage invariant sound = record {
  risen = λ x right. record { cards = []; changed = nothing_changed stage m.words stage x right; risen = omega arith };
  insert = λ c won un. elim (waits_or_changed (stage c) won) [
    | inl flagged ↦ (let tag = its_tag m.words stage invariant.words c flagged in omega arith)
    | inr changed ↦ (let tag = sound.insert c changed (insert-unended (stage c) won un) in omega arith)
  ];
  delete = λ c won un. elim (unbacked_cases (stage c) won (false_from_ne_true _ (λ backed. false≢true (sym un ∙ backed-ended (stage c) backed)))) [
    | inl waits ↦ (let tag = (invariant.words.deletes c).tagged waits in omega arith)
    | inr cut ↦ (let tag = sound.delete c cut (delete-unended (stage c) won un) in omega arith)
  ];
}

-- a card that is none of a list is not equal to any of them
apart_by_recursion : (c : ℕ) (cards : List ℕ) → All (λ d. c ≢ d) cards → AllByRecursion (λ d. (c == d) ≡ false) cards
apart_by_recursion c [] apart = tt
apart_by_recursion c (d ∷ ds) apart =
    (ne_eqb c d (All-head (λ e. c ≢ e) d ds apart), apart_by_recursion c ds (All-tail (λ e. c ≢ e) d ds apart))

-- what has made its child exchange does not wait for it
waiting_unchanged : (s : Stage) → (s ≡ IFlagged) ⊎ (s ≡ DMarked) → (is_changed s ≡ false) × (is_cut s ≡ false) × (has_ended s ≡ false)
waiting_unchanged s (inl e) = (ap is_changed e, ap is_cut e, ap has_ended e)
waiting_unchanged s (inr e) = (ap is_changed e, ap is_cut e, ap has_ended e)

-- a delete that has its flag waits for its child exchange, or has won two things
waits_or_two : (s : Stage) → delete_won s ≡ true → (delete_waits s ≡ true) ⊎ (2 ≤ much s)
waits_or_two s h = grind arith

-- each event adds the card that it lets change a child word, if any
module _ (m : Machine) (stage : Stages) (old : Machine) (before : Stages) (e : Event) (said : Stepped) (new : Machine)
    (invariant : Invariant old before) (words : WordsLater m.words old.words) (later : StagesLater stage before) (h : Steps old e said new)
    (follows : Follows old before e.act e.worker said new) (since : TagsSince m.words stage old.words before) where
  abbrev after : Stages
  after = follows.stages

  few : (c : ℕ) → sum_by one (wins_by e.act (old.worker e.worker).card said c) ≤ 1
  few c = few_won e.act (old.worker e.worker).card said c

  -- a card that has changed a child word has done so later too
  still_changed : (x : ℕ) (right : Bool) (c : ℕ) → HasChanged old.words before x right c → HasChanged new.words after x right c
  still_changed x right c (inl i) =
      let kind = changed-insert (before c) i.0 in
      inl (
        follows.later.told (fact.IChanged c) c i.0,
        (insert_info old.words new.words before invariant.words follows.words c kind).p ∙ i.1,
        insert_side_later old.words new.words before invariant.words follows.words c kind ∙ i.2,
      )
  still_changed x right c (inr d) =
      let kind = cut-delete (before c) d.0 in
      inr (
        follows.later.told (fact.Cut c) c d.0,
        (delete_info old.words new.words before invariant.words follows.words c kind).gp ∙ d.1,
        delete_side_later old.words new.words before invariant.words follows.words c kind ∙ d.2,
      )

  changed_on : (x : ℕ) (right : Bool) (cards : List ℕ) → ChangedSince stage old.words before x right cards → ChangedSince stage new.words after x right cards
  changed_on x right cards changed = record {
    apart = changed.apart;
    unended = changed.unended;
    unmade = changed.unmade;
    made = λ k d below. still_changed x right _ (changed.made k d below);
  }

  -- a card that waited for its child exchange is none of those that had made theirs
  not_among : (x : ℕ) (right : Bool) (c d : ℕ) → (is_changed (before c) ≡ false) × (is_cut (before c) ≡ false) × (has_ended (before c) ≡ false)
      → HasChanged old.words before x right d → c ≢ d
  not_among x right c d waits (inl i) same = false≢true (sym waits.0 ∙ (ap (λ n. is_changed (before n)) same ∙ i.0))
  not_among x right c d waits (inr i) same = false≢true (sym waits.1 ∙ (ap (λ n. is_cut (before n)) same ∙ i.0))

  changed_more : (x : ℕ) (right : Bool) (cards : List ℕ) → ChangedSince stage old.words before x right cards
      → (just : JustChanged old.words before new.words after x right) → ChangedSince stage new.words after x right (just.card ∷ cards)
  changed_more x right cards changed just =
      let c = just.card in
      let waits = waiting_unchanged (before c) (elim just.waited [ inl i ↦ inl i.0 | inr d ↦ inr d.0 ]) in
      let on = changed_on x right cards changed in
      record {
        apart = IsDistinct-cons (λ a b. a == b) c cards
            (apart_by_recursion c cards (λ k d below. not_among x right c _ waits (changed.made k d below))) changed.apart;
        unended = All-cons (λ d. has_ended (stage d) ≡ false) c cards (unended_before stage before later c waits.2) changed.unended;
        unmade = All-cons (λ d. (is_changed (stage d) ≡ false) × (is_cut (stage d) ≡ false)) c cards (
          false_from_ne_true (is_changed (stage c)) (λ had. false≢true (sym waits.0 ∙ later.told (fact.IChanged c) c had)),
          false_from_ne_true (is_cut (stage c)) (λ had. false≢true (sym waits.1 ∙ later.told (fact.Cut c) c had)),
        ) changed.unmade;
        made = All-cons (HasChanged new.words after x right) c cards just.changed on.made;
      }

  risen_on : (x : ℕ) (right : Bool) → TagHasRisen m.words stage new.words after x right
  risen_on x right =
      let had = since.risen x right in
      let was = had.risen in
      elim (tags_step old before e said new invariant h follows x right) [
        | inl same ↦ record { cards = had.cards; changed = changed_on x right had.cards had.changed; risen = omega arith }
        | inr just ↦
            let next = just.next in
            record { cards = just.card ∷ had.cards; changed = changed_more x right had.cards had.changed just; risen = omega arith }
      ]

  -- what a card expects that has just won its flag is the tag that stands there, and that has not fallen
  insert_on : (c : ℕ) → insert_won (after c) ≡ true → has_ended (stage c) ≡ false → m.words.tag (new.words.p c) (insert_side new.words c) ≤ new.words.expects c + 1
  insert_on c won un = elim (waits_or_changed (after c) won) [
    | inl flagged ↦
        let tag = its_tag new.words after follows.invariant.words c flagged in
        let rises = (words_later m.words old.words new.words words follows.words).tag (new.words.p c) (insert_side new.words c) in
        omega arith
    | inr changed ↦
        let was = insert_was before after c _ (follows.wins c) (few c) follows.later (changed_much (after c) changed) won in
        let kind = insert_won-insert (before c) was in
        let info = insert_info old.words new.words before invariant.words follows.words c kind in
        let side = insert_side_later old.words new.words before invariant.words follows.words c kind in
        let there : m.words.tag (new.words.p c) (insert_side new.words c) ≡ m.words.tag (old.words.p c) (insert_side old.words c) =
        λ t. m.words.tag (info.p t) (side t) in
        let expects = info.expects in
        let least = since.insert c was un in
        omega arith
  ]

  delete_on : (c : ℕ) → delete_won (after c) ≡ true → has_ended (stage c) ≡ false → m.words.tag (new.words.gp c) (delete_side new.words c) ≤ new.words.expects c + 1
  delete_on c won un = elim (waits_or_two (after c) won) [
    | inl waits ↦
        let tag = (follows.invariant.words.deletes c).tagged waits in
        let rises = (words_later m.words old.words new.words words follows.words).tag (new.words.gp c) (delete_side new.words c) in
        omega arith
    | inr two ↦
        let was = delete_was before after c _ (follows.wins c) (few c) follows.later two won in
        let kind = delete_won-delete (before c) was in
        let info = delete_info old.words new.words before invariant.words follows.words c kind in
        let side = delete_side_later old.words new.words before invariant.words follows.words c kind in
        let there : m.words.tag (new.words.gp c) (delete_side new.words c) ≡ m.words.tag (old.words.gp c) (delete_side old.words c) =
        λ t. m.words.tag (info.gp t) (side t) in
        let expects = info.expects in
        let least = since.delete c was un in
        omega arith
  ]

  pub tags_since_on : TagsSince m.words stage new.words after
  tags_since_on = record { risen = risen_on; insert = insert_on; delete = delete_on }
