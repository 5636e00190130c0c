use Rattle.std.proofs.Common.{◌≡◌, ℕ, ◌<◌, true, sym, ap, ◌∙◌, subst, inl, inr, arith, Bool, false, nat_le, refl}
use Rattle.std.proofs.lemmas.Bool.{cases_eq}
use Rattle.ell_layout.specs.Words.{Words, put, with_update}
use Rattle.ell_layout.specs.Cards.{dflag, marked, exchange_side, sibling}
use Rattle.ell_core.specs.history.Stages.{Stages, delete_open, is_marked, delete_waits}
use Rattle.ell_core.specs.history.Invariant.{UpdateIsSound, IsIn, top, delete_side, WordsAreSound}
use Rattle.ell_layout.proofs.lemmas.Writes.{put_same, put_other}
use Rattle.ell_word.specs.Node.{IsInternal}
use Rattle.ell_trie.specs.Ranges.{low_of, high_of, Spans, goes, IsOrdered}
use Rattle.ell_trie.proofs.lemmas.order.Bounds.{child_within, side_of}
use Rattle.ell_core.proofs.lemmas.stages.Order.{delete_open-delete}
use Rattle.ell_core.proofs.lemmas.words.Sides.{sibling_cases}

-- a delete's flag is sound at its node
pub dflag_is_sound : (w : Words) (stage : Stages) (x c : ℕ) → c < w.next → delete_open (stage c) ≡ true → w.gp c ≡ x
    → UpdateIsSound (with_update w x (dflag c)) stage x
dflag_is_sound w stage x c claimed stands at = let now = put_same w.update x (dflag c) in record {
  named = omega arith;
  iflagged = λ d h. absurd (omega arith);
  dflagged = λ d h. (let same : c ≡ d = omega arith in
      subst (λ n. (delete_open (stage n) ≡ true) × (w.gp n ≡ x)) same (stands, at));
  marked = λ d h. absurd (omega arith);
}

-- a mark is sound at its node
pub mark_is_sound : (w : Words) (stage : Stages) (x c : ℕ) → c < w.next → is_marked (stage c) ≡ true → w.p c ≡ x
    → UpdateIsSound (with_update w x (marked c)) stage x
mark_is_sound w stage x c claimed stands at = let now = put_same w.update x (marked c) in record {
  named = omega arith;
  iflagged = λ d h. absurd (omega arith);
  dflagged = λ d h. absurd (omega arith);
  marked = λ d h. (let same : c ≡ d = omega arith in
      subst (λ n. (is_marked (stage n) ≡ true) × (w.p n ≡ x)) same (stands, at));
}

-- an update word that is put where it is changes none
put_there : (w : Words) (x value : ℕ) → w.update x ≡ value → (y : ℕ) → w.update y ≡ put w.update x value y
put_there w x value h y = elim (cases_eq y x) [
  | inl same ↦ ap w.update same ∙ (h ∙ sym (ap (put w.update x value) same ∙ put_same w.update x value))
  | inr n ↦ sym (put_other w.update x value y n)
]

-- so the words are the same
pub with_update_there : (w : Words) (x value : ℕ) → w.update x ≡ value → w ≡ with_update w x value
with_update_there w x value h = λ t. record w { update = λ y. put_there w x value h y t }

-- what is below a child has its key on the child's side of the node
grandchild_side : (key : ℕ → ℕ) (child : ℕ → Bool → ℕ) (limit : ℕ) {rank : ℕ → ℕ} → IsOrdered key child limit rank
    → (x y z low high : ℕ) (first second : Bool)
    → Spans key child limit x low high → IsInternal x → y ≡ child x first → IsInternal y → z ≡ child y second
    → nat_le (key x) (key z) ≡ first
grandchild_side key child limit ordered x y z low high first second at inner e within f =
    let middle = goes first at inner e refl refl in
    let below = goes second middle within f refl refl in
    let bounds =
    child_within key child limit ordered y (low_of first low (key x)) (high_of first high (key x)) second middle in
    let place =
    ordered.within z (low_of second (low_of first low (key x)) (key y)) (high_of second (high_of first high (key x)) (key y)) below in
    side_of key child limit ordered (key x) (key z) low high first (omega arith) (omega arith)

module _ (w : Words) (stage : Stages) (sound : WordsAreSound w stage) (c : ℕ) (stands : delete_open (stage c) ≡ true)
    (waits : delete_waits (stage c) ≡ true) where
  -- the grandparent, where the flag stands, is in the tree
  grandparent_in : IsIn w (w.gp c)
  grandparent_in =
      let card = (sound.cards c).delete (delete_open-delete (stage c) stands) in
      let flag = (sound.deletes c).flag stands in
      sound.tree.there (w.gp c) card.grandparent.inner card.grandparent.born (λ d h. omega arith)

  -- the sibling is on the delete's side of the grandparent
  pub sibling_side : exchange_side w (w.gp c) (sibling w c) ≡ delete_side w c
  sibling_side =
      let card = (sound.cards c).delete (delete_open-delete (stage c) stands) in
      let place = grandparent_in in
      let on =
      λ (second : Bool) (e : sibling w c ≡ w.child (w.p c) second). grandchild_side w.key w.child top sound.tree.ordered
      (w.gp c) (w.p c) (sibling w c) place.low place.high (delete_side w c) second place.spans card.grandparent.inner
      (sym ((sound.deletes c).waits waits)) card.parent.inner e in
      elim (sibling_cases w c) [ inl e ↦ on false e | inr e ↦ on true e ]
