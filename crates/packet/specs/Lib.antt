pub mod Chain
pub mod Family
pub mod Header
pub mod Size
pub mod Theorems
