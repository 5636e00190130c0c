use Rattle.std.proofs.Common.{◌≡◌, ◌≢◌, ℕ, ◌%◌, ◌<◌, ◌⊎◌, inl, inr, true, subst, arith}
use Rattle.std.proofs.lemmas.Bool.{cases_eq}
use Rattle.ell_word.specs.Node.{IsInternal, card}
use Rattle.ell_layout.specs.Words.{Words}
use Rattle.ell_layout.specs.Cards.{marked}
use Rattle.ell_core.specs.tree.Tree.{Reached}
use Rattle.ell_core.specs.history.Stages.{Stage, Stages, Born, is_cut, delete_open, delete_over}
use Rattle.ell_core.specs.history.Invariant.{WordsAreSound}
use Rattle.ell_core.specs.history.Later.{wins_of}
use Rattle.ell_grace.specs.Gone.{TakesOut}
use Rattle.ell_core.proofs.lemmas.tree.Reached.{Spans-reached}
use Rattle.ell_core.proofs.lemmas.stages.Order.{born-claimed, changed-insert, cut-delete, insert-claimed, delete-claimed}
use Rattle.ell_core.proofs.lemmas.stages.Sums.{child_changes, sum_by, changed-sum, cut-sum, sum-changed}

-- a delete that has cut has its flag or is over
pub over_or_open : (s : Stage) → is_cut s ≡ true → (delete_open s ≡ true) ⊎ (delete_over s ≡ true)
over_or_open s h = grind arith

pub over_shut : (s : Stage) → delete_over s ≡ true → delete_open s ≡ true → ⊥
over_shut s h g = grind arith

-- none, or some
pub zero_or_more : (n : ℕ) → (n ≡ 0) ⊎ (0 < n)
zero_or_more n = elim (cases_eq n 0) [ inl e ↦ inl e | inr e ↦ inr (omega arith) ]

-- how many child exchanges a card has won by its stage
abbrev pub acted : Stage → ℕ
acted s = sum_by child_changes (wins_of s)

-- a card that has taken something out has acted
pub takes-acted : (w : Words) (stage : Stages) (c x : ℕ) → TakesOut w stage c x → 0 < acted (stage c)
takes-acted w stage c x (inl h) = changed-sum (stage c) h.0
takes-acted w stage c x (inr h) = cut-sum (stage c) h.0

module _ (w : Words) (stage : Stages) (sound : WordsAreSound w stage) where
  -- a card that has acted is claimed
  pub acted_claimed : (c : ℕ) → 0 < acted (stage c) → c < w.next
  acted_claimed c some = (sound.cards c).claimed.0 (elim (sum-changed (stage c) some) [
    | inl changed ↦ insert-claimed (stage c) (changed-insert (stage c) changed)
    | inr cut ↦ delete-claimed (stage c) (cut-delete (stage c) cut)
  ])

  -- what was taken out had come in
  pub taken_born : (c x : ℕ) → TakesOut w stage c x → Born stage x
  taken_born c x (inl h) = subst (Born stage) h.2 ((sound.cards c).insert (changed-insert (stage c) h.0)).lower
  taken_born c x (inr h) = elim h.1 [
    | inl p ↦ subst (Born stage) p ((sound.cards c).delete (cut-delete (stage c) h.0)).parent.born
    | inr l ↦ subst (Born stage) l ((sound.cards c).delete (cut-delete (stage c) h.0)).leaf.born
  ]

  -- an internal node that came in and has no mark is in the tree
  pub calm_reached : (x : ℕ) → IsInternal x → Born stage x → ((c : ℕ) → w.update x ≢ marked c) → Reached w x
  calm_reached x inner born calm = Spans-reached w (sound.tree.there x inner born calm).spans

  -- a card that came into the tree is claimed
  pub born_low : (x : ℕ) → Born stage x → card x < w.next
  born_low x born = (sound.cards (card x)).claimed.0 (born-claimed (stage (card x)) (x % 4) born)
