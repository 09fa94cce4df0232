pub mod Rule
pub mod Sources
pub mod Tokens
pub mod Laws
