mod Banks
pub mod OneOf
pub mod Limits
