pub mod Busy
pub mod Rules
pub mod State
pub mod Store
pub mod Theorems
