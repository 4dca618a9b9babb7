pub mod Answers
pub mod Inside
pub mod Laying
pub mod Theorems
pub mod Writing
