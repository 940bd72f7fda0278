pub mod Connected
pub mod Route
