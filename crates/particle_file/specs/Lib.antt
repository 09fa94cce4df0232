pub mod Columns
pub mod FaultText
pub mod FirstFault
pub mod Laws
pub mod Printing
pub mod Reading
pub mod Spelling
