pub mod LineText
pub mod Status
pub mod Words
pub mod Outcome
pub mod Fetched
pub mod Sound
pub mod Due
