use Rattle.std.specs.Prelude.{ℕ, zero, suc, ◌+◌, ◌-◌, ◌<◌, ◌≤◌, ◌⊎◌, if◌then◌else◌, List}
use Rattle.ell_core.specs.declared.fact.Fact.{Fact}
use Rattle.ell_runs.specs.declared.view.View.{View}
use Rattle.ell_runs.specs.Views.{EndedBy, knows_end}

-- a pass saw a card given out, to itself or to another: it did not know so at the first view, and does at the second
pub record GivesOut (last_card : ℕ) (v w : View) : Type 0 where
  pub card : ℕ
  pub first : 0 < card
  pub last : card ≤ last_card
  pub before : v.next_at_least ≤ card
  pub after : card < w.next_at_least

-- a pass saw a card come to its end: it did not know so when its search began, as the first view has it, and does at
-- the second
pub record SeesEnd (last_card : ℕ) (v w : View) : Type 0 where
  pub card : ℕ
  pub first : 0 < card
  pub last : card ≤ last_card
  pub before : ¬ EndedBy v.knew_before card
  pub after : EndedBy w.worker.knows card
  pub least : v.next_at_least ≤ w.next_at_least

-- it saw one or the other
abbrev pub SeesMilestone : ℕ → View → View → Type 0
SeesMilestone last_card v w = GivesOut last_card v w ⊎ SeesEnd last_card v w

-- of how many of the first cards facts tell that what they were for has come to its end
abbrev pub ends_known : ℕ → List Fact → ℕ
ends_known zero facts = 0
ends_known (suc n) facts = (if knows_end facts (suc n) then 1 else 0) + ends_known n facts

-- a card has two milestones: it is given out, and it comes to its end. How many of them a pass knows of: the cards
-- whose end it knows, and those that its claims have shown it to be given out. After a claim of card 3, won or lost,
-- that is 3 cards
abbrev pub milestones_known : ℕ → View → ℕ
milestones_known last_card v = ends_known last_card v.worker.knows + (v.next_at_least - 1)
