pub mod Text
pub mod Word
pub mod Line
pub mod TablesText
pub mod Outcome
pub mod Reading
pub mod inner
