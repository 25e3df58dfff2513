pub mod Words
pub mod Words128
