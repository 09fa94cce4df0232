pub mod LeastNumbers
pub mod StateLemmas
pub mod ParticleLemmas
pub mod LimitLemmas
pub mod OnceEach
pub mod PlaceLemmas
pub mod GridLemmas
pub mod LoneLemmas
