pub mod Register
pub mod Book
pub mod Entries
pub mod Theorems
