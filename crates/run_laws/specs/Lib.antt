pub mod ThinLaws
pub mod PullKernel
pub mod ThinBuild
pub mod ThinForces
pub mod ThinText
