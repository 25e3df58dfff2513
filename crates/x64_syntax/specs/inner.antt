-- Definitions of private contracts and of proofs: no claim of the program rests on them.
pub mod Digits
pub mod Mnemonics
pub mod LabelCount
pub mod Nodes
pub mod Fields
