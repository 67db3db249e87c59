pub mod Words
pub mod Spelled
pub mod Trees
pub mod Fronts
pub mod Laws
