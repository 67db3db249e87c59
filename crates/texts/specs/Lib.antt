pub mod Numbers
pub mod Texts
pub mod Pieces
pub mod Spelling
pub mod Laws
