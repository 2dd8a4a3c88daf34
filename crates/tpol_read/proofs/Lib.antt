pub mod PcrOrder
pub mod Leaves
pub mod Sound
pub mod ItemLists
pub mod FirstFault
mod Worked
