-- What keeps the rule of pairs, and what each step owes it.
pub mod Pairs
