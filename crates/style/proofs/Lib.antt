pub mod Orders
pub mod Winning
pub mod Elements
pub mod Spelling
