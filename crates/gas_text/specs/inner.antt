-- Definitions of private contracts and of proofs: no claim of the program rests on them.
pub mod Apart
pub mod Reading
pub mod Readers
