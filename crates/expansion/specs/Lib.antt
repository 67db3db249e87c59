pub mod Rules
pub mod Matches
pub mod Expansion
pub mod Unexpansion
pub mod Offences
pub mod Loads
pub mod Laws
