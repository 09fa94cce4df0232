mod DifferentLemmas
pub mod ElementLemmas
pub mod LeastLemmas
mod MapLemmas
pub mod OrderLemmas
pub mod PermutationLemmas
pub mod RisingLemmas
mod SpanLemmas
