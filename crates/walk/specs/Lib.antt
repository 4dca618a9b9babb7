pub mod Inside
pub mod Steps
pub mod Theorems
pub mod Walk
