-- what calls add to the counter
pub mod Adding
