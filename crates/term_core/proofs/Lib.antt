pub mod Values
pub mod Comparing
pub mod Sorting
pub mod Scoping
pub mod Obeying
pub mod VariableSorts
mod Arguments
mod Forms
mod Words
mod Operations
mod Back
mod Told
