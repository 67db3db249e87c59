pub mod Asked
pub mod Chained
pub mod Cores
pub mod Same
pub mod Shown
pub mod Plain
pub mod Running
