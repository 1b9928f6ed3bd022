pub mod Counted
pub mod Digits
pub mod Lasts
pub mod Made
pub mod Numbered
