pub mod Answer
pub mod Theorems
