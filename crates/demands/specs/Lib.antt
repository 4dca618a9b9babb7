pub mod Demand1
pub mod Demand3
pub mod FewEnough
pub mod History
pub mod Sender
