pub mod Canonical
pub mod Expressions
pub mod Places
pub mod ReadingBack
