pub mod Form
pub mod inner
