pub mod Counting
pub mod Binding
