-- Definitions of private contracts and of proofs: no claim of the program rests on them.
pub mod CodeTrees
pub mod Marks
pub mod Matches
pub mod Parse
pub mod Print
