pub mod Elements
pub mod Approvals
pub mod Documents
pub mod RisingPcrs
