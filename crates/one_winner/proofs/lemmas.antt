-- in an order of inserts and finds, the first insert of a key adds it, and finds behind it find its value
pub mod FirstInsert
-- so it is of what several threads were answered
pub mod Conclusions
