pub mod Form
pub mod Number
pub mod Options
pub mod Words
