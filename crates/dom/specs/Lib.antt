pub mod Format
pub mod Reading
pub mod Shown
pub mod Laws
pub mod Dom
pub mod Asking
pub mod Fronts
