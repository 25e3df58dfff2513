pub mod Free
pub mod Sizes
pub mod Substituted
pub mod Unfolded
pub mod inner
