use Rattle.std.specs.Prelude.{◌≡◌, ℕ, ◌<◌, Bool, true, false}
use Rattle.ell_layout.specs.declared.field.Field.{Field}
use Rattle.ell_layout.specs.declared.field.Field.TheVariants.{Left, Right, Update}
use Rattle.ell_layout.specs.Words.{Words, word}
use Rattle.ell_layout.specs.Cards.{marked}
use Rattle.ell_core.specs.history.Later.{WordsLater}

-- a field that never changes once its card is claimed: all but the children and the update word of its node
abbrev pub is_fixed : Field → Bool
is_fixed Left = false
is_fixed Right = false
is_fixed Update = false
is_fixed _ = true

-- a fixed word of a claimed card is the same in later words
abbrev pub FixedWordsStay : Type 0
FixedWordsStay = (old new : Words) → WordsLater old new → (c : ℕ) (field : Field) → c < old.next → is_fixed field ≡ true
    → word new c field ≡ word old c field

-- a claimed card's mark stands at its parent, which has these children
pub record IsFrozen (w : Words) (c : ℕ) (child : Bool → ℕ) : Type 0 where
  pub claimed : c < w.next
  pub mark : w.update (w.p c) ≡ marked c
  pub children : (right : Bool) → w.child (w.p c) right ≡ child right

-- the same mark and the same children stand there in later words
abbrev pub FrozenParentsStay : Type 0
FrozenParentsStay =
    (old new : Words) → WordsLater old new → (c : ℕ) (child : Bool → ℕ) → IsFrozen old c child → IsFrozen new c child
