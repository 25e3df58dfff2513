-- Definitions of private contracts and of proofs: no claim of the program rests on them.
pub mod Walks
