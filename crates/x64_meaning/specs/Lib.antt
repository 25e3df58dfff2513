pub mod State
pub mod Exp
pub mod Table
pub mod Run
pub mod Spots
pub mod Contract
pub mod Condition
pub mod inner
