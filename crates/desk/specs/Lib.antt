pub mod Counting
pub mod Numbers
pub mod Saving
pub mod Theorems
