pub mod Exact
pub mod FaultText
pub mod InnerProduct
pub mod Quotient
pub mod Scale
pub mod SquareRoot
