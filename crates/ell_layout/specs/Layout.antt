use Rattle.std.specs.Prelude.{ℕ, ◌+◌, ◌*◌, ◌/◌, ◌%◌, List, slice_index}
use Rattle.ell_layout.specs.declared.field.Field.{Field}
use Rattle.ell_layout.specs.declared.field.Field.TheVariants.{Gp, P, L, Was, Key, Left, Right, Update, LeftLeafKey, RightLeafKey, LeftValue, RightValue}

-- the place of a field among the words of its card: first its internal node, then its leaves, then its record
abbrev pub place : Field → ℕ
place Key = 0
place Left = 1
place Right = 2
place Update = 3
place LeftLeafKey = 4
place RightLeafKey = 5
place LeftValue = 6
place RightValue = 7
place Gp = 8
place P = 9
place L = 10
place Was = 11

-- the address of a field of a card: behind the claim word, the word that says from where on the tree is flat, and four
-- unused words come groups of 64 cards, of 768 words: the internal nodes of the cards, 4 words a card, then their leaves,
-- then their records
abbrev pub address : ℕ → Field → ℕ
address c field = 6 + 4 * c + 512 * (c / 64) + 256 * (place field / 4) + place field % 4

-- how many words a table has whose cards are 0 and so many more: it ends after the record of the last
abbrev pub table_size : ℕ → ℕ
table_size cards = 522 + 4 * cards + 512 * (cards / 64)

-- the word that a list has at a field of a card
abbrev pub listed : List ℕ → ℕ → Field → ℕ
listed words c field = slice_index words (address c field)
