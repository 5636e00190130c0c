-- the rule of the words, and what each step tells
pub mod Pairs
