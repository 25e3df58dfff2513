-- Definitions of private contracts and of proofs: no claim of the program rests on them.
pub mod Fronts
pub mod CertificateFront
pub mod ConditionTerms
pub mod RingCode
pub mod Phases
pub mod Stops
pub mod Says
