use Rattle.std.specs.Prelude.{ℕ, false}
use Rattle.ell_word.specs.Node.{internal, left_leaf, right_leaf, infinity1}
use Rattle.ell_layout.specs.Words.{Words, with_update, relinked}
use Rattle.ell_layout.specs.Cards.{clean, insert_filling, delete_filling, claimed}
use Rattle.ell_layout.specs.Start.{opening_words}

-- the tree as it was opened, with card 1 filled to insert key 5 with value 50: its node is not linked yet
abbrev pub five_filled : Words
five_filled = claimed opening_words 0 (insert_filling 1 5 50 0 (left_leaf 0) infinity1 0)

-- the same, with the node linked and no flag set
abbrev pub five_linked : Words
five_linked = relinked five_filled 0 false (internal 1)

-- the tree with key 5: the root's left child is node 4, with leaf 5 of key 5 and leaf 6 of the lesser infinity
abbrev pub five : Words
five = with_update five_linked 0 (clean 1)

-- the tree with keys 5 and 7: node 4's left child is node 8, with leaf 9 of key 5 and leaf 10 of key 7
abbrev pub five_seven : Words
five_seven = with_update
    (relinked (claimed five 0 (insert_filling 2 7 70 (internal 1) (left_leaf 1) 5 50)) (internal 1) false (internal 2))
    (internal 1) (clean 2)

-- the tree with key 5, with card 2 filled to delete it: grandparent 0, parent 4, leaf 5
abbrev pub five_leaving : Words
five_leaving = claimed five 1 (delete_filling 0 (internal 1) (left_leaf 1) (clean 0))

-- these words with an update word at the grandparent and one at the parent
abbrev pub five_updated : ℕ → ℕ → Words
five_updated above behind = with_update (with_update five_leaving 0 above) (internal 1) behind

-- the same with the parent cut out
abbrev pub five_cut : ℕ → ℕ → Words
five_cut above behind = relinked (five_updated above behind) 0 false (right_leaf 1)
