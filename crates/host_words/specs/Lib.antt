pub mod Busy
pub mod Theorems
pub mod Words
