pub mod Cascade
pub mod Styles
pub mod Source
pub mod Matching
pub mod Marking
pub mod Names
pub mod Housing
pub mod Printing
