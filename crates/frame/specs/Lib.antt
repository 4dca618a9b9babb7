pub mod Answers
pub mod Closing
pub mod Counts
pub mod Header
pub mod Inside
pub mod Opening
pub mod SetUp
pub mod Theorems
