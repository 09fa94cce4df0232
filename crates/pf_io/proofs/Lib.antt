pub mod FailingCalls
pub mod FilesByName
pub mod ReadParts
pub mod WrittenParts
