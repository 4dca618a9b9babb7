pub mod Laws
pub mod ListLaws
pub mod MaskLaws
pub mod PartLaws
pub mod RuleLaws
pub mod WordLaws
