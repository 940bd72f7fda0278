pub mod Mentions
pub mod Words
pub mod Outcome
pub mod Owners
