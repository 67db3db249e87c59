pub mod Answers
pub mod Meaning
pub mod Calls
pub mod Laws
pub mod Promise
