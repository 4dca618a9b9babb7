pub mod BusyLaws
pub mod Laws
pub mod NumberLaws
pub mod OwnLaws
pub mod WordLaws
