-- what the number of a link says, and what its low 64 bits say
pub mod Numbers
