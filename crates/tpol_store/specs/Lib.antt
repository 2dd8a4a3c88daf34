pub mod Approvals
pub mod FileNames
pub mod Loading
pub mod Stores
