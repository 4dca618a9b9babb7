pub mod Ended
pub mod NothingGlued
