pub mod Laid
pub mod Layout
pub mod Numbers
pub mod Octets
pub mod Pick
