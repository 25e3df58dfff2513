pub mod Apart
pub mod Stores
