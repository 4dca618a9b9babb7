pub mod Laws
pub mod Layouts
pub mod OctetLaws
pub mod Runs
