pub mod FieldLaws
pub mod FrameLaws
pub mod Laws
pub mod LayingLaws
pub mod NumberLaws
pub mod WritingSteps
