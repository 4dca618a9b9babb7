pub mod ChainLaws
pub mod ChainTurns
pub mod HeaderLaws
pub mod Laws
