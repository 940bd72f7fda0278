pub mod View
pub mod Comes
