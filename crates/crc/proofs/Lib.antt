pub mod Xor
pub mod Digits
pub mod Linear
pub mod Entries
pub mod Polynomial
pub mod Division
pub mod Laws
