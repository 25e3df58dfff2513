pub mod Gas
pub mod Text
pub mod inner
