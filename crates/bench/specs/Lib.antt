pub mod Lines
pub mod Words
pub mod Cells
pub mod Values
pub mod Styled
