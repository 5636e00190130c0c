use Rattle.std.specs.Prelude.{◌≡◌, ℕ, ◌+◌, ◌≤◌, ◌⊎◌, ◌==◌, Bool, true, false, List, All, length}
use Rattle.std.specs.List.{IsDistinct}
use Rattle.ell_layout.specs.Words.{Words}
use Rattle.ell_core.specs.declared.event.Event.{Event}
use Rattle.ell_core.specs.declared.event.Shown.{Shown}
use Rattle.ell_core.specs.declared.event.Stepped.{Stepped}
use Rattle.ell_core.specs.state.Machine.{Machine}
use Rattle.ell_core.specs.acts.Events.{Steps}
use Rattle.ell_core.specs.acts.Runs.{Run}
use Rattle.ell_core.specs.history.Stages.{Stages, insert_open, insert_won, is_changed, delete_open, delete_won, is_marked, is_cut}
use Rattle.ell_core.specs.history.Invariant.{insert_side, delete_side, Invariant}
use Rattle.ell_core.specs.history.Later.{StagesLater}
use Rattle.ell_core.specs.statements.RunLaws.{IsPassed}
use Rattle.ell_core.specs.statements.Since.{has_ended}
use Rattle.ell_grace.specs.Gone.{HasOuts}
use Rattle.ell_grace.specs.Since.{ComesFrom}

-- While the flag of a card stands that has made its child exchange, the tag of the child word is the next one after the
-- one that the card expected.
pub record TagsAreSound (w : Words) (stage : Stages) : Type 0 where
  pub insert : (c : ℕ) → is_changed (stage c) ≡ true → insert_open (stage c) ≡ true
      → w.tag (w.p c) (insert_side w c) ≡ w.expects c + 1
  pub delete : (c : ℕ) → is_cut (stage c) ≡ true → delete_open (stage c) ≡ true
      → w.tag (w.gp c) (delete_side w c) ≡ w.expects c + 1

-- a state of a run, with how far each card has come, with what was taken out, and with such tags
pub record HasTags (m : Machine) : Type 0 where
  pub outs : HasOuts m
  pub tags : TagsAreSound m.words outs.stages

-- every state of every run is such a state
abbrev pub EveryStateHasTags : Type 0
EveryStateHasTags = (m : Machine) → IsPassed m → HasTags m

-- a card has changed the child word of a node on a side: an insert that of its parent, a delete that of its grandparent
abbrev pub HasChanged : Words → Stages → ℕ → Bool → ℕ → Type 0
HasChanged w stage x right c =
    ((is_changed (stage c) ≡ true) × (w.p c ≡ x) × (insert_side w c ≡ right))
    ⊎ ((is_cut (stage c) ≡ true) × (w.gp c ≡ x) × (delete_side w c ≡ right))

-- These cards have changed a child word since the cards had come so far: no card is in the list twice, none had ended
-- then or had made its child exchange, and each has made it by now, at this word.
pub record ChangedSince (stage : Stages) (now : Words) (after : Stages) (x : ℕ) (right : Bool) (cards : List ℕ)
    : Type 0 where
  pub apart : IsDistinct (λ c d. c == d) cards
  pub unended : All (λ c. has_ended (stage c) ≡ false) cards
  pub unmade : All (λ c. (is_changed (stage c) ≡ false) × (is_cut (stage c) ≡ false)) cards
  pub made : All (HasChanged now after x right) cards

-- the tag of a child word has risen by the number of the cards that have changed it since
pub record TagHasRisen (w : Words) (stage : Stages) (now : Words) (after : Stages) (x : ℕ) (right : Bool)
    : Type 0 where
  pub cards : List ℕ
  pub changed : ChangedSince stage now after x right cards
  pub risen : now.tag x right ≡ w.tag x right + length cards

-- Since these words and stages each tag has risen so. And where a card makes its child exchange that had not ended then
-- and has won its flag by now, the tag was then at most the next one after the one that the card expects.
pub record TagsSince (w : Words) (stage : Stages) (now : Words) (after : Stages) : Type 0 where
  pub risen : (x : ℕ) (right : Bool) → TagHasRisen w stage now after x right
  pub insert : (c : ℕ) → insert_won (after c) ≡ true → has_ended (stage c) ≡ false
      → w.tag (now.p c) (insert_side now c) ≤ now.expects c + 1
  pub delete : (c : ℕ) → delete_won (after c) ≡ true → has_ended (stage c) ≡ false
      → w.tag (now.gp c) (delete_side now c) ≤ now.expects c + 1

-- the tags of a state that comes from another, as they are, and as they have come since
pub record TagsFrom (m : Machine) (stage : Stages) (now : Machine) (from : ComesFrom m stage now) : Type 0 where
  pub sound : TagsAreSound now.words from.stages
  pub since : TagsSince m.words stage now.words from.stages

-- a state comes from itself so
abbrev pub TagsBegin : Type 0
TagsBegin = (m : Machine) (has : HasTags m) → (from : ComesFrom m has.outs.stages m) × TagsFrom m has.outs.stages m from

-- each event leads on so
abbrev pub TagsLeadOn : Type 0
TagsLeadOn = (m : Machine) (stage : Stages) → Invariant m stage → (old : Machine) (from : ComesFrom m stage old)
    → TagsFrom m stage old from → (e : Event) (said : Stepped) (new : Machine) → Steps old e said new
    → (to : ComesFrom m stage new) × StagesLater from.stages to.stages × TagsFrom m stage new to

-- and so does each run
abbrev pub TagsRiseByCards : Type 0
TagsRiseByCards = (m : Machine) (has : HasTags m) (events : List Event) (answers : List Shown) (now : Machine)
    → Run m events answers now → (from : ComesFrom m has.outs.stages now) × TagsFrom m has.outs.stages now from

-- The tag of a child word is no less than the one that a card expects, and greater by one and the number of these cards
-- at most, which have changed the word since.
pub record IsLittleMore (stage : Stages) (now : Words) (after : Stages) (x : ℕ) (right : Bool) (expects : ℕ)
    : Type 0 where
  pub cards : List ℕ
  pub changed : ChangedSince stage now after x right cards
  pub low : expects ≤ now.tag x right
  pub high : now.tag x right ≤ expects + 1 + length cards

-- so it is where a card makes its child exchange that had not ended then: once an insert has won its flag, and once a
-- delete was marked
pub record TagsLag (stage : Stages) (now : Words) (after : Stages) : Type 0 where
  pub insert : (c : ℕ) → insert_won (after c) ≡ true → has_ended (stage c) ≡ false
      → IsLittleMore stage now after (now.p c) (insert_side now c) (now.expects c)
  pub delete : (c : ℕ) → is_marked (after c) ≡ true → has_ended (stage c) ≡ false
      → IsLittleMore stage now after (now.gp c) (delete_side now c) (now.expects c)

-- wherever a state comes from another with such tags
abbrev pub TagsLagLittle : Type 0
TagsLagLittle = (m : Machine) (stage : Stages) (now : Machine) (from : ComesFrom m stage now)
    → TagsFrom m stage now from → TagsLag stage now.words from.stages
