pub mod Once
pub mod Rule
pub mod Seats
