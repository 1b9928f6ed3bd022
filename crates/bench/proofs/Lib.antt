pub mod Digits
pub mod Joining
pub mod Records
pub mod PlainLines
