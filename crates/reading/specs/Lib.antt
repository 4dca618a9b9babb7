pub mod Answers
pub mod Inside
pub mod Reading
pub mod Theorems
