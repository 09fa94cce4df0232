pub mod FaultText
pub mod Front
pub mod Pieces
pub mod Reading
pub mod Spelling
pub mod Stopping
