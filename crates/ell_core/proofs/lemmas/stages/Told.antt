use Rattle.std.proofs.Common.{◌≡◌, ℕ, ◌<◌, ap, ◌∙◌, arith}
use Rattle.std.proofs.lemmas.Bool.{false≢true}
use Rattle.ell_word.specs.Node.{card, internal, left_leaf, right_leaf}
use Rattle.ell_layout.specs.declared.field.Field.TheVariants.{Gp, P, L, Was, Key, LeftLeafKey, RightLeafKey, LeftValue, RightValue}
use Rattle.ell_layout.specs.Words.{Words}
use Rattle.ell_core.specs.history.Later.{WordsLater}
use Rattle.ell_core.specs.statements.Told.{FixedWordsStay, FrozenParentsStay}

-- a key of a node of a claimed card stays
key_stays : (old new : Words) → WordsLater old new → (c x : ℕ) → c < old.next → card x ≡ c → new.key x ≡ old.key x
key_stays old new words c x below on = words.key x (omega arith)

-- so does its value
value_stays : (old new : Words) → WordsLater old new → (c x : ℕ) → c < old.next → card x ≡ c → new.value x ≡ old.value x
value_stays old new words c x below on = words.value x (omega arith)

-- a fixed word of a claimed card stays
pub fixed_words_stay : FixedWordsStay
fixed_words_stay old new words c Gp below fixed = (words.info c below).gp
fixed_words_stay old new words c P below fixed = (words.info c below).p
fixed_words_stay old new words c L below fixed = (words.info c below).l
fixed_words_stay old new words c Was below fixed = (words.info c below).was
fixed_words_stay old new words c Key below fixed = key_stays old new words c (internal c) below (omega arith)
fixed_words_stay old new words c LeftLeafKey below fixed = key_stays old new words c (left_leaf c) below (omega arith)
fixed_words_stay old new words c RightLeafKey below fixed = key_stays old new words c (right_leaf c) below (omega arith)
fixed_words_stay old new words c LeftValue below fixed = value_stays old new words c (left_leaf c) below (omega arith)
fixed_words_stay old new words c RightValue below fixed = value_stays old new words c (right_leaf c) below (omega arith)
fixed_words_stay old new words c _ below fixed = absurd (false≢true fixed)

-- a parent with its card's mark stays as it is
pub frozen_parents_stay : FrozenParentsStay
frozen_parents_stay old new words c child h =
    let p = (words.info c h.claimed).p in
    let same = words.frozen (old.p c) c h.mark in
    record {
      claimed = let below = h.claimed in let more = words.next in omega arith;
      mark = ap new.update p ∙ (same.update ∙ h.mark);
      children = λ right. ap (λ x. new.child x right) p ∙ (same.child right ∙ h.children right);
    }
