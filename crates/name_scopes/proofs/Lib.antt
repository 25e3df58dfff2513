pub mod Borrowed
pub mod Bound
pub mod NewExports
pub mod Tables
