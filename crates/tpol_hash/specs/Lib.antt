pub mod Hmac
pub mod Messages
pub mod Sha256
