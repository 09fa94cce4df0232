pub mod Boxes
pub mod Lists
pub mod Forces
pub mod Runs
pub mod Reaching
