pub mod inner
pub mod Numbers
pub mod Depths
pub mod Free
pub mod Changes
