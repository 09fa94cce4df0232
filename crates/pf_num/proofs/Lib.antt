pub mod ExactLemmas
pub mod HalvesLemmas
pub mod QuotientLemmas
pub mod ScaleLemmas
pub mod SquareRootLemmas
pub mod WideLemmas
