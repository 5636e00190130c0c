-- lemmas on the rule of pairs
pub mod lemmas
