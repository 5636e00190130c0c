use Rattle.std.proofs.Common.{◌≡◌, ℕ, ◌%◌, ◌<◌, ◌==◌, ◌&&◌, ◌||◌, nat_lt, not, Bool, true, false, inl, inr, refl, sym, ap, ◌∙◌, arith}
use Rattle.std.proofs.lemmas.Bool.{cases_Bool, false≢true, eq-eqb, eqb-true}
use Rattle.ell_word.specs.Node.{IsInternal, left_leaf, right_leaf}
use Rattle.ell_layout.specs.Words.{Words, IsLeaf, is_flat}
use Rattle.ell_layout.specs.Cards.{is_replace_card, keeps_below, stays_below}
use Rattle.ell_core.specs.history.Stages.{Stages}
use Rattle.ell_core.specs.history.Invariant.{InsertCard, WordsAreSound}
use Rattle.ell_core.specs.history.Later.{WordsLater}
use Rattle.ell_core.proofs.lemmas.stages.Edges.{replaces_leaf}

-- an internal node stays
pub inner_stays : (flat : Bool) (below : ℕ) → IsInternal below → stays_below flat below ≡ true
inner_stays true below inner = refl
inner_stays false below inner = eq-eqb (below % 4) 0 inner

module _ (w : Words) (c : ℕ) where
  -- a node that stays is that of a card that replaces no leaf
  pub keeps-two : keeps_below w c ≡ true → is_replace_card w c ≡ false
  keeps-two keeps = elim (cases_Bool (is_replace_card w c)) [
    | inr two ↦ two
    | inl one ↦ absurd (false≢true (sym (ap (λ b. not b && stays_below (is_flat w) (w.l c)) one) ∙ keeps))
  ]

  -- of such a card it stays or not by the tree and by its kind
  pub keeps-stays : is_replace_card w c ≡ false → keeps_below w c ≡ stays_below (is_flat w) (w.l c)
  keeps-stays two = ap (λ b. not b && stays_below (is_flat w) (w.l c)) two

  pub keeps-none : is_replace_card w c ≡ true → keeps_below w c ≡ false
  keeps-none one = ap (λ b. not b && stays_below (is_flat w) (w.l c)) one

-- a node that does not stay is a leaf
pub goes-leaf : (w : Words) (stage : Stages) → WordsAreSound w stage → (c : ℕ) → InsertCard w stage c → keeps_below w c ≡ false → IsLeaf (w.l c)
goes-leaf w stage sound c card none inner = elim (cases_Bool (is_replace_card w c)) [
  | inl one ↦ replaces_leaf w stage sound c card (eqb-true (w.key (left_leaf c)) (w.key (right_leaf c)) one) inner
  | inr two ↦ absurd (false≢true (sym none ∙ (keeps-stays w c two ∙ inner_stays (is_flat w) (w.l c) inner)))
]

-- it stays in later words if it stayed
pub keeps_later : (old new : Words) → WordsLater old new → (c : ℕ) → c < old.next → keeps_below new c ≡ keeps_below old c
keeps_later old new words c low =
    let left : new.key (left_leaf c) ≡ old.key (left_leaf c) = words.key (left_leaf c) (omega arith) in
    let right : new.key (right_leaf c) ≡ old.key (right_leaf c) = words.key (right_leaf c) (omega arith) in
    let below = (words.info c low).l in
    λ t. not (left t == right t) && (nat_lt 0 (words.flat t) || below t % 4 == 0)
