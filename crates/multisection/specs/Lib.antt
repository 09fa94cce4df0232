pub mod Sites
pub mod Regions
pub use Rattle.pf_model.specs.Domains
pub use Rattle.pf_model.specs.Division
