-- lemmas, by what they are about; the other folders have the answers to what is asked of each function
pub mod lemmas
