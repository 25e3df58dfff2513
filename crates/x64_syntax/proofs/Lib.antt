pub mod PlaceLemmas
pub mod Bits
pub mod Pieces
pub mod Lists
pub mod ReadBack
pub mod Digits
