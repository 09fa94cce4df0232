pub mod Deck
pub mod FaultText
pub mod Keywords
pub mod Laws
pub mod Printed
pub mod Reading
pub mod Settings
pub mod Values
