pub mod Operations
pub mod TermIn
pub mod Answers
pub mod inner
