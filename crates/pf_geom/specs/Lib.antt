pub mod Position
pub mod Bounds
pub mod Key
pub mod Octant
pub mod Gap
pub mod CellLaws
pub mod BoxLaws
