pub mod inner
pub mod Sources
