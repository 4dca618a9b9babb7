pub mod AcceptLaws
pub mod AfterLaws
pub mod Laws
pub mod ReadLaws
