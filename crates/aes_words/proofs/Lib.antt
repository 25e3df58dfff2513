pub mod Cells
pub mod Doubles
pub mod Field
pub mod HighestLast
pub mod InverseTable
pub mod SBoxTable
pub mod SameBelow
pub mod UniqueInverses
