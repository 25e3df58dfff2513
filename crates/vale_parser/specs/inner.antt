-- Definitions of private contracts and of proofs: no claim of the program rests on them.
pub mod Looks
pub mod Parts
pub mod Productions
pub mod Reads
pub mod Things
