pub mod Lexing
pub mod Fronts
pub mod Loops
