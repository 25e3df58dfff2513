pub mod Evaluated
pub mod StateFile
pub mod Report
pub mod inner
