pub mod ApprovedErased
pub mod Endings
pub mod ListedNames
pub mod SortedNames
