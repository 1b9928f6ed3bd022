pub mod Octets
pub mod Raised
pub mod Reading
pub mod Rfc
pub mod Runs
pub mod Splitting
