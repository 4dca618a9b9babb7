pub mod NothingGlued
