-- What came into the tree is in it, or was taken out, or nobody uses it.
use Rattle.std.proofs.Common.{◌≡◌, ◌≢◌, ℕ, ◌%◌, ◌/◌, ◌⊎◌, inl, inr, false, sym, ◌∙◌, subst, arith}
use Rattle.std.proofs.lemmas.Bool.{cases_Bool, cases_eq, false≢true}
use Rattle.ell_word.specs.Node.{IsInternal, card}
use Rattle.ell_layout.specs.Words.{Words, IsLeaf}
use Rattle.ell_layout.specs.Cards.{keeps_below, marked}
use Rattle.ell_core.specs.state.Machine.{Machine}
use Rattle.ell_core.specs.tree.Tree.{Reached}
use Rattle.ell_core.specs.history.Stages.{Stages, Born, is_start, is_changed}
use Rattle.ell_grace.specs.Gone.{TakesOut}
use Rattle.ell_grace.specs.Dead.{IsUnused, HasUses, IsInOrOut, WhatCameIsInOrOut}
use Rattle.ell_core.proofs.lemmas.tree.Paths.{Reached-child}
use Rattle.ell_core.proofs.lemmas.stages.Order.{marked_cases}
use Rattle.ell_core.proofs.lemmas.keeping.delete_child.Tree.{cuts_at}
use Rattle.ell_grace.proofs.lemmas.outs.Taken.{calm_reached}
use Rattle.ell_grace.proofs.lemmas.outs.Deletes.{parent_had}

-- an update word is a card's mark, or none
some_mark : (n : ℕ) → ((c : ℕ) × (n ≡ marked c)) ⊎ ((c : ℕ) → n ≢ marked c)
some_mark n = elim (cases_eq (n % 4) (marked 0)) [
  | inl e ↦ inl (n / 4, omega (arith, e))
  | inr other ↦ inr (λ c is. other (omega (arith, is)))
]

module _ (m : Machine) (has : HasUses m) where
  abbrev w : Words
  w = m.words

  abbrev stage : Stages
  stage = has.outs.stages

  -- an internal node that came is in the tree, or was taken out
  inner_in_or_taken : (x : ℕ) → IsInternal x → Born stage x → Reached w x ⊎ ((c : ℕ) × TakesOut w stage c x)
  inner_in_or_taken x inner born = elim (some_mark (w.update x)) [
    | inr calm ↦ inl (calm_reached w stage has.outs.invariant.words x inner born calm)
    | inl mark ↦
        let set_by = (has.outs.invariant.words.updates x inner born).marked mark.0 mark.1 in
        elim (marked_cases (stage mark.0) set_by.0) [
          | inl now ↦ inl (subst (Reached w) set_by.1 (parent_had w stage has.outs.invariant.words mark.0 (cuts_at w stage has.outs.invariant.words mark.0 now)))
          | inr cuts ↦ inr (mark.0, inr (cuts, inl set_by.1))
        ]
  ]

  -- whether nobody uses a leaf
  unused_or_not : (x : ℕ) → IsLeaf x → IsUnused w stage x ⊎ (¬ IsUnused w stage x)
  unused_or_not x outer = elim (cases_Bool (is_changed (stage (card x)))) [
    | inr still ↦ inr (λ unused. false≢true (sym still ∙ unused.0))
    | inl changed ↦ elim (cases_Bool (keeps_below w (card x))) [
      | inr goes ↦ inr (λ unused. false≢true (sym goes ∙ unused.1))
      | inl keeps ↦ elim (cases_eq (w.key x) (w.key (w.l (card x)))) [
        | inr other ↦ inr (λ unused. other unused.3)
        | inl same ↦ inl (changed, keeps, outer, same)
      ]
    ]
  ]

  -- a leaf that is used is in the tree with its parent
  leaf_in_or_out : (x : ℕ) → is_start (stage (card x)) ≡ false → IsLeaf x → Born stage x → IsInOrOut w stage x
  leaf_in_or_out x unstarted outer born = elim (unused_or_not x outer) [
    | inl unused ↦ inr (inr unused)
    | inr used ↦ elim (has.uses.kept x unstarted outer born used) [
      | inr taken ↦ inr (inl taken)
      | inl h ↦ elim (inner_in_or_taken h.parent h.inner h.born) [
        | inl there ↦ inl (subst (Reached w) h.child (Reached-child w h.parent h.right there h.inner))
        | inr taken ↦ absurd (h.still taken.0 taken.1)
      ]
    ]
  ]

pub what_came_is_in_or_out : WhatCameIsInOrOut
what_came_is_in_or_out m has x unstarted born = elim (cases_eq (x % 4) 0) [
  | inr outer ↦ leaf_in_or_out m has x unstarted outer born
  | inl inner ↦ elim (inner_in_or_taken m has x inner born) [
    | inl there ↦ inl there
    | inr taken ↦ inr (inl taken)
  ]
]
