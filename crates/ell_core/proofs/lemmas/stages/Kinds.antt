use Rattle.std.proofs.Common.{◌≡◌, ℕ, ◌+◌, ◌<◌, ◌⊎◌, ◌↔◌, inl, inr, true, sym, ◌∙◌, subst, arith}
use Rattle.std.proofs.lemmas.Bool.{cases_lt}
use Rattle.ell_layout.specs.Words.{Words}
use Rattle.ell_core.specs.history.Stages.{Stages, is_start, is_insert, is_delete}
use Rattle.ell_core.specs.history.Invariant.{GoesNowhere, KindsAreSound}
use Rattle.ell_core.specs.history.Later.{WordsLater, StagesLater}

-- a card is an insert's or a delete's
abbrev pub HasKind : Stages → ℕ → Type 0
HasKind stage c = (is_insert (stage c) ≡ true) ⊎ (is_delete (stage c) ≡ true)

-- a card keeps its kind
pub kind_later : (old new : Stages) (c : ℕ) → StagesLater old new → HasKind old c → HasKind new c
kind_later old new c later (inl h) = inl (later.insert c h)
kind_later old new c later (inr h) = inr (later.delete c h)

-- a card that goes nowhere still does
nowhere_later : (old new : Words) (c : ℕ) → WordsLater old new → GoesNowhere old c → GoesNowhere new c
nowhere_later old new c words h = let info = words.info c h.below in record {
  below = (let a = h.below in let b = words.next in omega arith);
  gp = info.gp ∙ h.gp;
  parent = info.p ∙ h.parent;
  leaf = info.l ∙ h.leaf;
  was = info.was ∙ h.was;
  expects = info.expects ∙ h.expects;
}

-- which cards are of the opening tree is as it was, where the tree is flat from the first other one on
pub starts_later : (from : ℕ) (old new : Stages) → ((c : ℕ) → is_start (new c) ≡ is_start (old c))
    → ((c : ℕ) → (c < from) ↔ (is_start (old c) ≡ true)) → (c : ℕ) → (c < from) ↔ (is_start (new c) ≡ true)
starts_later from old new same was c = (λ less. same c ∙ (was c).0 less, λ is. (was c).1 (sym (same c) ∙ is))

-- the cards' kinds are kept by words and stages that are later, where the claim word stayed or claimed a card of a kind
pub kinds_later : (old new : Words) (stage stages : Stages) → WordsLater old new → StagesLater stage stages
    → (new.next ≡ old.next) ⊎ ((new.next ≡ old.next + 1) × HasKind stages old.next) → KindsAreSound old stage → KindsAreSound new stages
kinds_later old new stage stages words later grows h = record {
  start = λ c is. nowhere_later old new c words (h.start c (sym (later.start c) ∙ is));
  some = (let a = h.some in let b = words.next in omega arith);
  kinds = λ c below apart. elim (cases_lt c old.next) [
    | inl was ↦ kind_later stage stages c later (h.kinds c was (sym (later.start c) ∙ apart))
    | inr past ↦ elim grows [
      | inl same ↦ absurd (omega arith)
      | inr more ↦ subst (HasKind stages) (let a = more.0 in let e : old.next ≡ c = omega arith in e) more.1
    ]
  ];
}
