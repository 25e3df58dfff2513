pub mod Polynomials
pub mod Rounds
