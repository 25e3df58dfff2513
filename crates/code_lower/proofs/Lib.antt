pub mod Flags
pub mod Comparisons
pub mod Bounds
pub mod First
pub mod Leads
pub mod Keeps
pub mod Program
pub mod Pushed
