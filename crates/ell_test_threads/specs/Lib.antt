-- passes that share keys
pub mod Sharing
