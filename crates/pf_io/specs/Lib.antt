pub mod FileStore
pub mod MemoryStore
pub mod MemoryStoreLaws
pub mod Store
pub mod Transfer
