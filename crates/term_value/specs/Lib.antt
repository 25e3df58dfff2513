pub mod Evaluation
pub mod Agreement
pub mod Answers
pub mod inner
