pub mod Rotations
pub mod Shifts
