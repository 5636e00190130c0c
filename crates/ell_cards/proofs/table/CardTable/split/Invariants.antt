use Rattle.ell_cards.proofs.table.CardTable.split.Given as goal

abbrev pub ghosts-split_as : goal.ghosts-split_as
ghosts-split_as g a = record { keys = a.left.items }
