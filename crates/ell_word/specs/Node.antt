use Rattle.std.specs.Prelude.{◌≡◌, ◌≢◌, ℕ, ◌+◌, ◌-◌, ◌*◌, ◌/◌, ◌%◌, ◌^◌}

-- The greatest number that a card may have, below 2^62, so that the numbers of nodes are below 2^64.
abbrev pub greatest_number : ℕ
greatest_number = 4611686018427387903

-- How many numbers of cards are a generation, 2^26: each slot of a table has one of them, and so there are at most as
-- many slots. A child word tells as many tags apart.
abbrev pub generation_size : ℕ
generation_size = 67108864

-- The number of the last card of a table whose cards do not come back, and of the last card that may have words, are at
-- most this. It is three less than a generation has numbers: while a pass keeps what it read of a child word, its tag
-- rises by at most the cards that have words, and one, so that no tag comes back meanwhile.
abbrev pub greatest_card : ℕ
greatest_card = 67108861

-- the most cards that a table gives out
abbrev pub most_cards : ℕ
most_cards = 1000000

-- the most start keys
abbrev pub most_start : ℕ
most_start = 1000000

-- the lesser of the two keys above all real keys
abbrev pub infinity1 : ℕ
infinity1 = 2 ^ 64 - 2

-- the greater of the two
abbrev pub infinity2 : ℕ
infinity2 = 2 ^ 64 - 1

-- Each card has the numbers of three nodes, and leaves one out: so a shift gives the card, and no division is needed.
abbrev pub internal : ℕ → ℕ
internal card = 4 * card

abbrev pub left_leaf : ℕ → ℕ
left_leaf card = 4 * card + 1

abbrev pub right_leaf : ℕ → ℕ
right_leaf card = 4 * card + 2

-- the number of some node
abbrev pub IsNode : ℕ → Type 0
IsNode node = node % 4 ≢ 3

abbrev pub IsInternal : ℕ → Type 0
IsInternal node = node % 4 ≡ 0

-- the card that a node stands on
abbrev pub card : ℕ → ℕ
card node = node / 4
