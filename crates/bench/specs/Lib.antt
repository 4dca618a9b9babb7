pub mod Bench
pub mod Witness
