-- Definitions of private contracts and of proofs: no claim of the program rests on them.
pub mod Uses
pub mod Checked
pub mod Pieces
