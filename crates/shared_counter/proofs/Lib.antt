-- lemmas about what threads have added
pub mod lemmas
