pub mod CodePoints
pub mod Cuts
pub mod HtmlIntegers
pub mod Infra
pub mod PropList
pub mod Rfc3629
pub mod Superscripts
