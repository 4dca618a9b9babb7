pub mod OnceLaws
pub mod SavedLaws
pub mod Spans
pub mod Spelling
