pub mod Nodes
pub mod Shapes
pub mod Puts
pub mod Readings
pub mod Marks
pub mod Turns
pub mod Endings
pub mod Fillings
pub mod Longer
pub mod Verdicts
pub mod Children
mod Colons
