pub mod CallLaws
pub mod FitLaws
pub mod Laws
