pub mod Operands
pub mod Lines
pub mod Listing
pub mod inner
