pub mod Lowered
pub mod Guarded
pub mod Keeps
