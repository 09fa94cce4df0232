pub mod FirstFault
pub mod Grammar
pub mod Limits
pub mod Nodes
pub mod OneAnswer
pub mod Parsed
pub mod Rules
pub mod Unrolled
