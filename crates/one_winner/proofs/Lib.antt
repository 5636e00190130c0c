-- lemmas about what threads were answered
pub mod lemmas
