-- the tree that the own words of a table make, by that of the machine
pub mod OwnTree
-- cards by the own words of a table: what they have made, and what facts say of them
pub mod OwnCards
-- a table's own words with what its passes know are a sound state
pub mod OwnSound
-- where the machine of a table has the table's own words
pub mod OwnWords
-- how step calls change the keys of the tree that the table's own words make, and their values
pub mod OwnKeys
-- what step calls do to ledgers, and what these tell of the tree that the table's own words make
pub mod OwnLedgers
-- whose operations the won child exchanges are of
pub mod ChangesOf
