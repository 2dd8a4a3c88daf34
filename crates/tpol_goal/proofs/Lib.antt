pub mod Directories
pub mod SameHashes
pub mod Shapes
