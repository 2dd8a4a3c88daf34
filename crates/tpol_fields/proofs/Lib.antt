pub mod DigestLists
pub mod Joined
pub mod KindLaws
pub mod Takes
