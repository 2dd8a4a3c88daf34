pub mod Passwords
pub mod SessionMacs
pub mod Signatures
pub mod Tickets
